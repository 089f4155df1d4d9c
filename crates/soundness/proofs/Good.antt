-- What the check's walk says of a procedure that passes, as relations with room for R rows and F frames.
use Rattle.std.proofs.Common.{◌≡◌, ℕ, zero, suc, ◌+◌, ◌*◌, ◌<◌, ◌≤◌, Bool, true, false, cond, ◌||◌, eqb, leb, [], ◌∷◌, length, ℤ, pos, negsuc, Some, None, Ok, Option, sym, refl, ap, ◌∙◌, subst, arith}
use Rattle.std.proofs.lemmas.Bool.{true≢false}
use Rattle.procedure.specs.declared.kind.DeclarationKind.{DeclarationKind}
use Rattle.procedure.specs.declared.kind.DeclarationKind.TheVariants.{Parameter, Variable, Constant}
use Rattle.procedure.specs.declared.kind.StatementKind.{StatementKind}
use Rattle.procedure.specs.declared.kind.StatementKind.TheVariants.{Null, Assignment, If, For, Block, Get, Put}
use Rattle.procedure.specs.declared.node.Node.{Node}
use Rattle.procedure.specs.declared.table.Standing.{Standing}
use Rattle.procedure.specs.declared.table.Standing.TheVariants.{End, Unlisted, Procedure, Declaration, Statement, Expression}
use Rattle.procedure.specs.declared.types.«Type».{«Type» as TypeT}
use Rattle.procedure.specs.declared.types.«Type».TheVariants.{Integer, Boolean}
use Rattle.procedure.specs.Table.{Table, node, standing}
use Rattle.procedure.specs.Types.{type_of}
use Rattle.machine.specs.Decide.{mark_of}
use Rattle.checker.specs.declared.answer.Sheet.{Sheet}
use Rattle.checker.specs.declared.names.Declaration.{Declaration as DeclarationT}
use Rattle.checker.specs.declared.names.Meaning.{Meaning}
use Rattle.checker.specs.declared.names.Meaning.TheVariants.{Mark, Object}
use Rattle.checker.specs.Cost.{turns_of, exact}
use Rattle.checker.specs.Names.{means}
use Rattle.checker.specs.Region.{Environment, put}
use Rattle.checker.specs.Typing.{typed, mark_type, target_type}
use Rattle.checker.specs.Walk.{mark_meaning, initial, is_constant, declaration_cost, declaration, Opened, Declares, declares, declarations, Walks, assignment, get_statement, put_statement, if_statement, for_statement, block_statement, statement, states, statements, procedure}
use Rattle.checker.proofs.Chains.{variable_chain, declaration_chain, put_chain, declares_chain, assignment_chain, get_chain, put_statement_chain, if_chain, for_chain, block_chain, states_chain, procedure_chain}
use Rattle.checker.proofs.Expressions.{same_true}
use Rattle.soundness.proofs.Meets.{Meets, met, unmet, meets_then, meets_map, meets_itself, wanted}
use Rattle.soundness.proofs.Parts.{is_local}

-- what a declaration, and what a FOR, opens
abbrev pub declared_as : Node → DeclarationKind → TypeT → DeclarationT
declared_as x k u = record { name = x.name; of_type = u; constant = is_constant k }

abbrev pub counter : Node → DeclarationT
counter x = record { name = x.name; of_type = Integer; constant = true }

-- The declarations from d on, where Γ is open, open Δ and cost at most m.
pub data Opens (t : Table) (R : ℕ) (Δ : Environment) : Environment → ℕ → ℕ → Type 0 where
  opens_end : {Γ : Environment} {d m : ℕ} → standing t d ≡ End → Δ ≡ Γ → Opens t R Δ Γ d m
  opens_one : {Γ : Environment} {d m : ℕ} (k : DeclarationKind) (u : TypeT) (c : ℕ) → standing t d ≡ Declaration k → mark_of (node t d).lo ≡ Some u
      → (is_local k ≡ true → typed 32 t (Some (node t d).name) Γ (node t d).a ≡ Ok u) → length Γ < R
      → Opens t R Δ (declared_as (node t d) k u ∷ Γ) (node t d).next c → c + declaration_cost k ≤ m → Opens t R Δ Γ d m

-- The statements from at on, inside δ others, where Γ is open, cost at most m.
pub data Good (t : Table) (R F : ℕ) : ℕ → Environment → ℕ → ℕ → Type 0 where
  good_end : {δ : ℕ} {Γ : Environment} {at m : ℕ} → standing t at ≡ End → Good t R F δ Γ at m
  good_null : {δ : ℕ} {Γ : Environment} {at m : ℕ} (c : ℕ) → standing t at ≡ Statement Null → Good t R F δ Γ (node t at).next c → suc c ≤ m → Good t R F δ Γ at m
  good_assign : {δ : ℕ} {Γ : Environment} {at m : ℕ} (u : TypeT) (c : ℕ) → standing t at ≡ Statement Assignment → means Γ (node t at).name ≡ Some (Object u false)
      → typed 32 t None Γ (node t at).a ≡ Ok u → Good t R F δ Γ (node t at).next c → suc c ≤ m → Good t R F δ Γ at m
  good_get : {δ : ℕ} {Γ : Environment} {at m : ℕ} (u : TypeT) (c : ℕ) → standing t at ≡ Statement Get → means Γ (node t at).name ≡ Some (Object u false)
      → Good t R F δ Γ (node t at).next c → suc c ≤ m → Good t R F δ Γ at m
  good_put : {δ : ℕ} {Γ : Environment} {at m : ℕ} (u : TypeT) (c : ℕ) → standing t at ≡ Statement Put → typed 32 t None Γ (node t at).a ≡ Ok u
      → Good t R F δ Γ (node t at).next c → suc c ≤ m → Good t R F δ Γ at m
  good_branch : {δ : ℕ} {Γ : Environment} {at m : ℕ} (c₁ c₂ c : ℕ) → standing t at ≡ Statement If → δ < F → typed 32 t None Γ (node t at).a ≡ Ok Boolean
      → Good t R F (suc δ) Γ (node t at).b c₁ → Good t R F (suc δ) Γ (node t at).c c₂ → Good t R F δ Γ (node t at).next c → 2 + c₁ + c₂ + c ≤ m → Good t R F δ Γ at m
  good_loop : {δ : ℕ} {Γ : Environment} {at m : ℕ} (c₁ c : ℕ) → standing t at ≡ Statement For → δ < F → length Γ < R
      → Good t R F (suc δ) (counter (node t at) ∷ Γ) (node t at).a c₁
      → Good t R F δ Γ (node t at).next c → suc (turns_of (node t at) * (c₁ + 1)) + c ≤ m → Good t R F δ Γ at m
  good_block : {δ : ℕ} {Γ : Environment} {at m : ℕ} (Δ : Environment) (c₁ c₂ c : ℕ) → standing t at ≡ Statement Block → δ < F → Opens t R Δ Γ (node t at).a c₁
      → Good t R F (suc δ) Δ (node t at).b c₂ → Good t R F δ Γ (node t at).next c → 2 + c₁ + c₂ + c ≤ m → Good t R F δ Γ at m

-- types and meanings
target_is : (m : Option Meaning) (n : ℕ) → Meets (λ u. m ≡ Some (Object u false)) (target_type m n)
target_is None n = unmet
target_is (Some (Mark u)) n = unmet
target_is (Some (Object u false)) n = met refl
target_is (Some (Object u true)) n = unmet

mark_is : (m : Option Meaning) (n : ℕ) → Meets (λ u. m ≡ Some (Mark u)) (mark_type m n)
mark_is None n = unmet
mark_is (Some (Mark u)) n = met refl
mark_is (Some (Object u k)) n = unmet

predefined_mark : (a b c : Bool) (u : TypeT) → cond a (Some (Mark Integer)) (cond b (Some (Mark Boolean)) (cond c (Some (Object Boolean true)) None)) ≡ Some (Mark u)
    → cond a (Some Integer) (cond b (Some Boolean) None) ≡ Some u
predefined_mark a b c u e = grind (arith, e)

-- a mark that means a type is predefined
means_mark : (Γ : Environment) (x : ℕ) (u : TypeT) → means Γ x ≡ Some (Mark u) → type_of x ≡ Some u
means_mark [] x u e = predefined_mark (eqb x 1) (eqb x 2) (eqb x 15 || eqb x 16) u e
means_mark (d ∷ Γ) x u e = go (eqb d.name x) e (means_mark Γ x u)
  where
    go : (b : Bool) → cond b (Some (Object d.of_type d.constant)) (means Γ x) ≡ Some (Mark u) → (means Γ x ≡ Some (Mark u) → type_of x ≡ Some u) → type_of x ≡ Some u
    go true q ih = let z : ◌≡◌ {A = ℕ} 0 1 = cc in absurd (omega arith)
    go false q ih = ih q

marked : (lo : ℤ) (own : ℕ) (Γ : Environment) (u : TypeT) → mark_meaning lo own Γ ≡ Some (Mark u) → mark_of lo ≡ Some u
marked (pos m) own Γ u e = go (leb m 65535) (eqb own m) e
  where
    go : (a b : Bool) → cond a (cond b None (means Γ m)) None ≡ Some (Mark u) → type_of m ≡ Some u
    go true true q = let z : ◌≡◌ {A = ℕ} 0 1 = cc in absurd (omega arith)
    go true false q = means_mark Γ m u q
    go false b q = let z : ◌≡◌ {A = ℕ} 0 1 = cc in absurd (omega arith)
marked (negsuc m) own Γ u e = let z : ◌≡◌ {A = ℕ} 0 1 = cc in absurd (omega arith)

-- declarations
starts_good : (t : Table) (Γ : Environment) (u : TypeT) (n : ℕ) → Meets (λ _. typed 32 t (Some (node t n).name) Γ (node t n).a ≡ Ok u) (initial Variable t Γ u n)
starts_good t Γ u n =
    subst (Meets (λ _. typed 32 t (Some (node t n).name) Γ (node t n).a ≡ Ok u)) (sym (variable_chain t Γ u n))
    (meets_then (meets_itself _) λ x e. meets_map (wanted _ _ _) λ _ same. e ∙ ap Ok (same_true x u same))

initial_good : (k : DeclarationKind) (t : Table) (Γ : Environment) (u : TypeT) (n : ℕ)
    → Meets (λ _. is_local k ≡ true → typed 32 t (Some (node t n).name) Γ (node t n).a ≡ Ok u) (initial k t Γ u n)
initial_good Parameter t Γ u n = met (λ e. absurd (true≢false (sym e)))
initial_good Variable t Γ u n = meets_map (starts_good t Γ u n) λ _ h e. h
initial_good Constant t Γ u n = meets_map (starts_good t Γ u n) λ _ h e. h

record DeclaresWell (k : DeclarationKind) (t : Table) (Γ : Environment) (n : ℕ) (d : DeclarationT) : Type 0 where
  of_type : TypeT
  is : d ≡ declared_as (node t n) k of_type
  mark : mark_of (node t n).lo ≡ Some of_type
  starts : is_local k ≡ true → typed 32 t (Some (node t n).name) Γ (node t n).a ≡ Ok of_type

declaration_good : (k : DeclarationKind) (t : Table) (base : ℕ) (Γ : Environment) (n : ℕ) → Meets (DeclaresWell k t Γ n) (declaration k t base Γ n)
declaration_good k t base Γ n =
    subst (Meets (DeclaresWell k t Γ n)) (sym (declaration_chain k t base Γ n))
    (meets_then (wanted _ _ _) λ _ _. meets_then (mark_is (mark_meaning (node t n).lo (node t n).name Γ) n) λ u e. meets_then (initial_good k t Γ u n) λ _ s.
    met (record { of_type = u; is = refl; mark = marked (node t n).lo (node t n).name Γ u e; starts = s }))

put_good : (d : DeclarationT) (Γ : Environment) (n : ℕ) → Meets (λ Δ. Δ ≡ d ∷ Γ) (put d Γ n)
put_good d Γ n = subst (Meets (λ Δ. Δ ≡ d ∷ Γ)) (sym (put_chain d Γ n)) (meets_then (wanted _ _ _) λ _ _. met refl)

pub record OpensWell (t : Table) (Γ : Environment) (d : ℕ) (o : Opened) : Type 0 where
  pub longer : length Γ ≤ length o.declared
  pub opens : (R : ℕ) → length o.declared ≤ R → Opens t R o.declared Γ d o.cost

declares_good : (rest : Declares) (k : Standing) (t : Table) (base : ℕ) (Γ : Environment) (n : ℕ) → ((Γ : Environment) (n : ℕ) → Meets (OpensWell t Γ n) (rest Γ n)) → standing t n ≡ k
    → Meets (OpensWell t Γ n) (declares rest k t base Γ n)
declares_good rest End t base Γ n ih q = met (record { longer = omega arith; opens = λ R h. opens_end q refl })
declares_good rest (Declaration k) t base Γ n ih q =
    subst (Meets (OpensWell t Γ n)) (sym (declares_chain rest k t base Γ n))
    (meets_then (declaration_good k t base Γ n) λ d w. meets_then (put_good d Γ n) λ Δ e. meets_then (ih Δ (node t n).next) λ o v.
    let x : OpensWell t (declared_as (node t n) k w.of_type ∷ Γ) (node t n).next o = subst (λ (i : Environment). OpensWell t i (node t n).next o) (e ∙ ap (λ i. i ∷ Γ) w.is) v in
    let l : suc (length Γ) ≤ length o.declared = x.longer in
    met (record { longer = omega arith; opens = λ R h. opens_one k w.of_type o.cost q w.mark w.starts (omega arith) (x.opens R h) (omega arith) }))
declares_good rest Unlisted t base Γ n ih q = unmet
declares_good rest Procedure t base Γ n ih q = unmet
declares_good rest (Statement k) t base Γ n ih q = unmet
declares_good rest (Expression k) t base Γ n ih q = unmet

pub declarations_good : (f : ℕ) (t : Table) (base : ℕ) (Γ : Environment) (n : ℕ) → Meets (OpensWell t Γ n) (declarations f t base Γ n)
declarations_good zero t base Γ n = unmet
declarations_good (suc f) t base Γ n = declares_good (declarations f t base) (standing t n) t base Γ n (declarations_good f t base) refl

-- statements: one, whatever follows it, and a list
record RunsWell (t : Table) (Γ : Environment) (at : ℕ) (s : Sheet) : Type 0 where
  held : length Γ ≤ s.rows
  on : (R F δ c m : ℕ) → s.rows ≤ R → δ + s.frames ≤ F → Good t R F δ Γ (node t at).next c → s.ceiling + c ≤ m → Good t R F δ Γ at m

pub record GoesWell (t : Table) (Γ : Environment) (at : ℕ) (s : Sheet) : Type 0 where
  pub held : length Γ ≤ s.rows
  pub good : (R F δ : ℕ) → s.rows ≤ R → δ + s.frames ≤ F → Good t R F δ Γ at s.ceiling

abbrev ListsGood : Table → Walks → Type 0
ListsGood t lists = (Γ : Environment) (n : ℕ) → Meets (GoesWell t Γ n) (lists Γ n)

assignment_good : (t : Table) (Γ : Environment) (n : ℕ) → standing t n ≡ Statement Assignment → Meets (RunsWell t Γ n) (assignment t Γ n)
assignment_good t Γ n q =
    subst (Meets (RunsWell t Γ n)) (sym (assignment_chain t Γ n))
    (meets_then (target_is (means Γ (node t n).name) n) λ u e. meets_then (meets_itself _) λ x ty. meets_then (wanted _ _ _) λ _ same.
    met (record { held = omega arith; on = λ R F δ c m h g y l. good_assign u c q e (ty ∙ ap Ok (same_true x u same)) y (omega arith) }))

get_good : (t : Table) (Γ : Environment) (n : ℕ) → standing t n ≡ Statement Get → Meets (RunsWell t Γ n) (get_statement t Γ n)
get_good t Γ n q =
    subst (Meets (RunsWell t Γ n)) (sym (get_chain t Γ n))
    (meets_then (target_is (means Γ (node t n).name) n) λ u e.
    met (record { held = omega arith; on = λ R F δ c m h g y l. good_get u c q e y (omega arith) }))

put_statement_good : (t : Table) (Γ : Environment) (n : ℕ) → standing t n ≡ Statement Put → Meets (RunsWell t Γ n) (put_statement t Γ n)
put_statement_good t Γ n q =
    subst (Meets (RunsWell t Γ n)) (sym (put_statement_chain t Γ n))
    (meets_then (meets_itself _) λ u e.
    met (record { held = omega arith; on = λ R F δ c m h g y l. good_put u c q e y (omega arith) }))

if_good : (lists : Walks) (t : Table) (Γ : Environment) (n : ℕ) → ListsGood t lists → standing t n ≡ Statement If → Meets (RunsWell t Γ n) (if_statement exact lists t Γ n)
if_good lists t Γ n ih q =
    subst (Meets (RunsWell t Γ n)) (sym (if_chain lists t Γ n))
    (meets_then (meets_itself _) λ x ty. meets_then (wanted _ _ _) λ _ same. meets_then (ih Γ (node t n).b) λ yes v. meets_then (ih Γ (node t n).c) λ no w.
    let a = v.held in let b = w.held in
    met (record {
      held = omega arith;
      on = λ R F δ c m h g y l. good_branch yes.ceiling no.ceiling c q (omega arith) (ty ∙ ap Ok (same_true x Boolean same))
          (v.good R F (suc δ) (omega arith) (omega arith)) (w.good R F (suc δ) (omega arith) (omega arith)) y (omega arith);
    }))

for_good : (lists : Walks) (t : Table) (Γ : Environment) (n : ℕ) → ListsGood t lists → standing t n ≡ Statement For → Meets (RunsWell t Γ n) (for_statement exact lists t Γ n)
for_good lists t Γ n ih q =
    subst (Meets (RunsWell t Γ n)) (sym (for_chain lists t Γ n))
    (meets_then (put_good (counter (node t n)) Γ n) λ Δ e. meets_then (ih Δ (node t n).a) λ body v.
    let x : GoesWell t (counter (node t n) ∷ Γ) (node t n).a body = subst (λ (i : Environment). GoesWell t i (node t n).a body) e v in
    let a : suc (length Γ) ≤ body.rows = x.held in
    met (record {
      held = omega arith;
      on = λ R F δ c m h g y l. good_loop body.ceiling c q (omega arith) (omega arith) (x.good R F (suc δ) (omega arith) (omega arith)) y (omega arith);
    }))

abbrev OpensGood : Table → (ℕ → Declares) → Type 0
OpensGood t opens = (base : ℕ) (Γ : Environment) (n : ℕ) → Meets (OpensWell t Γ n) (opens base Γ n)

block_good : (lists : Walks) (opens : ℕ → Declares) (t : Table) (Γ : Environment) (n : ℕ) → ListsGood t lists → OpensGood t opens → standing t n ≡ Statement Block
    → Meets (RunsWell t Γ n) (block_statement exact lists opens t Γ n)
block_good lists opens t Γ n ih od q =
    subst (Meets (RunsWell t Γ n)) (sym (block_chain lists opens t Γ n))
    (meets_then (od (length Γ) Γ (node t n).a) λ o x. meets_then (ih o.declared (node t n).b) λ inside v.
    let a = x.longer in let b = v.held in
    met (record {
      held = omega arith;
      on = λ R F δ c m h g y l. good_block o.declared o.cost inside.ceiling c q (omega arith) (x.opens R (omega arith))
          (v.good R F (suc δ) (omega arith) (omega arith)) y (omega arith);
    }))

statement_good : (lists : Walks) (opens : ℕ → Declares) (k : StatementKind) (t : Table) (Γ : Environment) (n : ℕ) → ListsGood t lists → OpensGood t opens → standing t n ≡ Statement k
    → Meets (RunsWell t Γ n) (statement exact lists opens k t Γ n)
statement_good lists opens Null t Γ n ih od q = met (record { held = omega arith; on = λ R F δ c m h g y l. good_null c q y (omega arith) })
statement_good lists opens Assignment t Γ n ih od q = assignment_good t Γ n q
statement_good lists opens If t Γ n ih od q = if_good lists t Γ n ih q
statement_good lists opens For t Γ n ih od q = for_good lists t Γ n ih q
statement_good lists opens Block t Γ n ih od q = block_good lists opens t Γ n ih od q
statement_good lists opens Get t Γ n ih od q = get_good t Γ n q
statement_good lists opens Put t Γ n ih od q = put_statement_good t Γ n q

states_good : (lists : Walks) (opens : ℕ → Declares) (k : Standing) (t : Table) (Γ : Environment) (n : ℕ) → ListsGood t lists → OpensGood t opens → standing t n ≡ k
    → Meets (GoesWell t Γ n) (states exact lists opens k t Γ n)
states_good lists opens End t Γ n ih od q = met (record { held = omega arith; good = λ R F δ h g. good_end q })
states_good lists opens (Statement k) t Γ n ih od q =
    subst (Meets (GoesWell t Γ n)) (sym (states_chain lists opens k t Γ n))
    (meets_then (statement_good lists opens k t Γ n ih od q) λ first v. meets_then (ih Γ (node t n).next) λ rest w.
    let a = v.held in let b = w.held in
    met (record {
      held = omega arith;
      good = λ R F δ h g. v.on R F δ rest.ceiling (first.ceiling + rest.ceiling) (omega arith) (omega arith) (w.good R F δ (omega arith) (omega arith)) (omega arith);
    }))
states_good lists opens Unlisted t Γ n ih od q = unmet
states_good lists opens Procedure t Γ n ih od q = unmet
states_good lists opens (Declaration k) t Γ n ih od q = unmet
states_good lists opens (Expression k) t Γ n ih od q = unmet

pub statements_good : (f : ℕ) (t : Table) → ListsGood t (statements exact f t)
statements_good zero t Γ n = unmet
statements_good (suc f) t Γ n = states_good (statements exact f t) (declarations f t) (standing t n) t Γ n (statements_good f t) (declarations_good f t) refl

-- the whole procedure
pub record Passes (t : Table) (s : Sheet) : Type 0 where
  pub declared : Environment
  pub opening : ℕ
  pub running : ℕ
  pub enough : suc (opening + running) ≤ s.ceiling
  pub opens : Opens t s.rows declared [] (node t 0).a opening
  pub good : Good t s.rows s.frames 0 declared (node t 0).b running

pub procedure_good : (f : ℕ) (t : Table) → Meets (Passes t) (procedure exact f t)
procedure_good f t =
    subst (Meets (Passes t)) (sym (procedure_chain f t))
    (meets_then (declarations_good f t 0 [] (node t 0).a) λ o x. meets_then (statements_good f t o.declared (node t 0).b) λ inside v.
    met (record {
      declared = o.declared;
      opening = o.cost;
      running = inside.ceiling;
      enough = omega arith;
      opens = x.opens inside.rows v.held;
      good = v.good inside.rows inside.frames 0 (omega arith) (omega arith);
    }))
