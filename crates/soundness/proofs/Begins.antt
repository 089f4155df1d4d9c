-- What was begun after a passed check is safe: the parameters are open, each with a value of its type.
use Rattle.std.proofs.Common.{◌≡◌, ℕ, zero, suc, ◌+◌, ◌<◌, ◌≤◌, Bool, true, false, cond, not, eqb, leb, ◌⊎◌, List, [], ◌∷◌, ◌++◌, reverse, length, drop, ℤ, is_some, Ok, Option, unwrap_or, sym, refl, ap, ◌∙◌, subst, inl, inr, arith}
use mathlib.Core.List.{reverse_aux}
use Rattle.std.proofs.lemmas.List.{append-nil, length-append, length-drop, take_at}
use Rattle.std.proofs.lemmas.Bool.{eqb-true, leb-true, true≢false}
use Rattle.stack.proofs.Newest.{newest-reverse, newest-none}
use Rattle.port.specs.Meaning.{Meaning}
use Rattle.procedure.specs.declared.kind.DeclarationKind.{DeclarationKind}
use Rattle.procedure.specs.declared.kind.DeclarationKind.TheVariants.{Parameter}
use Rattle.procedure.specs.declared.refusal.Reason.TheVariants.{Bulky, Unfit, Miscounted, Short}
use Rattle.procedure.specs.declared.table.Standing.TheVariants.{Declaration}
use Rattle.procedure.specs.declared.types.«Type».{«Type» as TypeT}
use Rattle.procedure.specs.declared.types.«Type».TheVariants.{Integer}
use Rattle.procedure.specs.Form.{is_bulky, tested}
use Rattle.procedure.specs.Formed.{Formed}
use Rattle.procedure.specs.Table.{Table, node, standing}
use Rattle.evaluator.specs.declared.rows.Row.{Row}
use Rattle.evaluator.specs.Values.{value_of_type}
use Rattle.machine.specs.declared.frame.Frame.{Frame}
use Rattle.machine.specs.Begin.{is_parameter, parameters_from, behind_parameters, parameters, first_due, marked, parameter_type, fitting, parameter_row, parameter_rows, fresh, Begun, begun}
use Rattle.checker.specs.declared.answer.Sheet.{Sheet}
use Rattle.checker.specs.declared.names.Declaration.{Declaration as DeclarationT}
use Rattle.checker.specs.Region.{Environment}
use Rattle.checker.proofs.Chains.{then, need}
use Rattle.soundness.specs.Evaluation.{declaration_of, declarations_of, Truths, none, more}
use Rattle.soundness.specs.Open.{object, Declared, none as nothing, more as one_more}
use Rattle.soundness.specs.Sound.{objects, starting}
use Rattle.soundness.proofs.Good.{Opens, opens_end, opens_one, declared_as, Passes}
use Rattle.soundness.proofs.Keep.{arrive, opening_all}
use Rattle.soundness.proofs.Meets.{Meets, met, meets_then, meets_map, wanted, meets_itself}
use Rattle.soundness.proofs.Parts.{is_local, parameter-next, no_declaration}
use Rattle.soundness.proofs.Rows.{Fits, number_fits}
use Rattle.soundness.proofs.Safe.{Safe, on_way}
use Rattle.soundness.proofs.Stack.{stack_none}

-- each value is of its parameter's type
data Fitted (t : Table) : List ℕ → List ℤ → Type 0 where
  fitted_none : {vs : List ℤ} → Fitted t [] vs
  fitted_short : {n : ℕ} {ns : List ℕ} → Fitted t (n ∷ ns) []
  fitted_one : {n : ℕ} {ns : List ℕ} {v : ℤ} {vs : List ℤ} → Fits (parameter_type t n) v → Fitted t ns vs → Fitted t (n ∷ ns) (v ∷ vs)

fitting_shut : (t : Table) (n : ℕ) (ns : List ℕ) (v : ℤ) (vs : List ℤ) → fitting t (n ∷ ns) (v ∷ vs) ≡ (
    then (need (is_some (value_of_type (parameter_type t n) v)) Unfit n) λ _. fitting t ns vs)
unfolding then need
fitting_shut t n ns v vs = refl

fitting_good : (t : Table) (ns : List ℕ) (vs : List ℤ) → Meets (λ _. Fitted t ns vs) (fitting t ns vs)
fitting_good t [] vs = met fitted_none
fitting_good t (n ∷ ns) [] = met fitted_short
fitting_good t (n ∷ ns) (v ∷ vs) =
    subst (Meets (λ _. Fitted t (n ∷ ns) (v ∷ vs))) (sym (fitting_shut t n ns v vs))
    (meets_then (wanted _ _ _) λ _ h. meets_map (fitting_good t ns vs) λ _ f. fitted_one (number_fits (parameter_type t n) v h) f)

-- behind the parameters, with their rows the newest first
record Entered (t : Table) (R : ℕ) (Δ : Environment) (c : ℕ) (rs : List Row) (e : ℕ) : Type 0 where
  opens : Opens t R Δ (declarations_of rs) e c
  declared : Declared t (node t 0).a [] e (objects rs)
  truths : Truths rs
  local : (k : DeclarationKind) → standing t e ≡ Declaration k → is_local k ≡ true

opens_more : {t : Table} {R : ℕ} {Δ Γ : Environment} {d c m : ℕ} → Opens t R Δ Γ d c → c ≤ m → Opens t R Δ Γ d m
opens_more (opens_end q e) l = opens_end q e
opens_more (opens_one k u c q mk ty r op h) l = opens_one k u c q mk ty r op (omega arith)

parameter_is : (k : DeclarationKind) → is_parameter (Declaration k) ≡ true → k ≡ Parameter
parameter_is k e = grind (arith, e)

local_is : (k : DeclarationKind) → is_parameter (Declaration k) ≡ false → is_local k ≡ true
local_is k e = grind (arith, e)

local_at : (t : Table) (n : ℕ) → is_parameter (standing t n) ≡ false → (k : DeclarationKind) → standing t n ≡ Declaration k → is_local k ≡ true
local_at t n h k e = local_is k (sym (ap is_parameter e) ∙ h)

-- from n, before the parameters ns, to e behind them
abbrev Enters : Table → ℕ → Environment → ℕ → List ℕ → ℕ → ℕ → Type 0
Enters t R Δ c ns e n =
    (acc : List Row) (vs : List ℤ) → Opens t R Δ (declarations_of acc) n c → Declared t (node t 0).a [] n (objects acc) → Truths acc → Fitted t ns vs → length vs ≡ length ns
    → Entered t R Δ c (reverse_aux (parameter_rows t ns vs) acc) e

enter_one : {t : Table} {R : ℕ} {Δ : Environment} {c e : ℕ} (ns : List ℕ) (n : ℕ) → is_parameter (standing t n) ≡ true → (standing t n ≡ Declaration Parameter → Enters t R Δ c ns e (node t n).next)
    → Enters t R Δ c (n ∷ ns) e n
enter_one ns n b ih acc [] op d tv fit long = absurd (omega arith)
enter_one ns n b ih acc (v ∷ vs) (opens_end q e) d tv fit long = absurd (true≢false (sym b ∙ ap is_parameter q))
enter_one {t} {R} {Δ} {c} ns n b ih acc (v ∷ vs) (opens_one k u c' q mk ty r op l) d tv (fitted_one h fit) long =
    let pk : k ≡ Parameter = parameter_is k (sym (ap is_parameter q) ∙ b) in
    let a : parameter_type t n ≡ u = ap (λ (o : Option TypeT). unwrap_or o Integer) mk in
    let i : declaration_of (parameter_row t n v) ≡ declared_as (node t n) k u =
    ap (λ (x : TypeT). declared_as (node t n) Parameter x) a ∙ ap (λ (x : DeclarationKind). declared_as (node t n) x u) (sym pk) in
    ih (q ∙ ap Declaration pk) (parameter_row t n v ∷ acc) vs
    (subst (λ (x : DeclarationT). Opens t R Δ (x ∷ declarations_of acc) (node t n).next c) (sym i) (opens_more op (omega arith)))
    (subst (λ (x : TypeT). Declared t (node t 0).a [] (node t n).next (object (node t n) x ∷ objects acc)) (sym a) (one_more k u d q mk))
    (more h tv) fit (omega arith)

enter : {t : Table} {R : ℕ} {Δ : Environment} {c : ℕ} (f n : ℕ) → Formed t → (n ≡ 0) ⊎ (length t ≤ f + n) → Enters t R Δ c (parameters_from f t n) (behind_parameters f t n) n
enter {t} zero n w (inl e) = λ acc vs op d tv fit long.
    record {
      opens = op;
      declared = d;
      truths = tv;
      local = λ k q. let a : standing t 0 ≡ Declaration k = ap (standing t) (sym e) ∙ q in let z : ◌≡◌ {A = ℕ} 0 1 = cc in absurd (omega arith);
    }
enter {t} zero n w (inr l) = λ acc vs op d tv fit long. record { opens = op; declared = d; truths = tv; local = λ k q. no_declaration t n k (omega arith) q }
enter {t} {R} {Δ} {c} (suc f) n w en = go (is_parameter (standing t n)) refl (enter f (node t n).next w)
  where
    onward : ((node t n).next ≡ 0) ⊎ (n < (node t n).next) → (n ≡ 0) ⊎ (length t ≤ suc f + n) → standing t n ≡ Declaration Parameter → ((node t n).next ≡ 0) ⊎ (length t ≤ f + (node t n).next)
    onward (inl h) _ q = inl h
    onward (inr h) (inl e) q = let a : standing t 0 ≡ Declaration Parameter = ap (standing t) (sym e) ∙ q in let z : ◌≡◌ {A = ℕ} 0 1 = cc in absurd (omega arith)
    onward (inr h) (inr l) q = inr (omega arith)

    go : (b : Bool) → is_parameter (standing t n) ≡ b
        → (((node t n).next ≡ 0) ⊎ (length t ≤ f + (node t n).next) → Enters t R Δ c (parameters_from f t (node t n).next) (behind_parameters f t (node t n).next) (node t n).next)
        → Enters t R Δ c (cond b (n ∷ parameters_from f t (node t n).next) []) (cond b (behind_parameters f t (node t n).next) n) n
    go false b ih = λ acc vs op d tv fit long. record { opens = op; declared = d; truths = tv; local = local_at t n b }
    go true b ih = enter_one (parameters_from f t (node t n).next) n b (λ q. ih (onward (parameter-next t n w q) en q))

-- what begin promises where it is taken
pub record Begins (t : Table) (values : List ℤ) (places : List Row) (b : Begun) : Type 0 where
  long : length values ≡ length (parameters t)
  short : length (parameters t) ≤ length places
  fits : Fitted t (parameters t) values
  is : b ≡ record {
    progress = fresh (first_due t);
    rows = record { places = parameter_rows t (parameters t) values ++ drop (length values) places; held = length values };
    frames_held = 0;
  }

begun_shut : (t : Table) (values : List ℤ) (places : List Row) → begun t values places ≡ (
    then (need (not (is_bulky t)) Bulky 0) λ _.
    then (tested t) λ _.
    then (marked t (parameters t)) λ _.
    then (need (eqb (length values) (length (parameters t))) Miscounted 0) λ _.
    then (need (leb (length (parameters t)) (length places)) Short 0) λ _.
    then (fitting t (parameters t) values) λ _.
    Ok (record {
      progress = fresh (first_due t);
      rows = record { places = parameter_rows t (parameters t) values ++ drop (length values) places; held = length values };
      frames_held = 0;
    }))
unfolding then need
begun_shut t values places = refl

pub begun_good : (t : Table) (values : List ℤ) (places : List Row) → Meets (Begins t values places) (begun t values places)
begun_good t values places =
    subst (Meets (Begins t values places)) (sym (begun_shut t values places))
    (meets_then (wanted _ _ _) λ _ _. meets_then (meets_itself _) λ _ _. meets_then (meets_itself _) λ _ _. meets_then (wanted _ _ _) λ _ e. meets_then (wanted _ _ _) λ _ l.
    meets_then (fitting_good t (parameters t) values) λ _ f. met (record { long = eqb-true _ _ e; short = leb-true _ _ l; fits = f; is = refl }))

length-rows : (t : Table) (ns : List ℕ) (vs : List ℤ) → length vs ≡ length ns → length (parameter_rows t ns vs) ≡ length vs
length-rows t [] [] e = refl
length-rows t [] (v ∷ vs) e = absurd (omega arith)
length-rows t (n ∷ ns) [] e = refl
length-rows t (n ∷ ns) (v ∷ vs) e = ap suc (length-rows t ns vs (omega arith))

pub begins_safe : (t : Table) (sheet : Sheet) (values : List ℤ) (places : List Row) (frames : List Frame) (port : Meaning) (b : Begun) → Formed t → Passes t sheet
    → sheet.rows ≤ length places → sheet.frames ≤ length frames → Begins t values places b → Safe t sheet port (starting b frames port)
begins_safe t sheet values places frames port b w c lr lf g =
    let ps : List Row = parameter_rows t (parameters t) values in
    let n : length ps ≡ length values = length-rows t (parameters t) values g.long in
    let long = g.long in let short = g.short in
    let e = enter (length t) (node t 0).a w (inr (omega arith)) [] values c.opens nothing none g.fits g.long in
    let m = c.enough in
    let size : length (ps ++ drop (length values) places) ≡ length places = length-append ps (drop (length values) places) ∙ (let k = length-drop (length values) places in omega arith) in
    subst (λ (x : Begun). Safe t sheet port (starting x frames port)) (sym g.is)
    (record {
      rs = reverse ps;
      fs = [];
      left = sheet.ceiling;
      rows_hold = record { is = newest-reverse (length values) (ps ++ drop (length values) places) ∙ ap reverse (take_at ps (drop (length values) places) (length values) n); within = omega arith; roomy = omega arith };
      frames_hold = record { is = newest-none 0 frames refl; within = omega arith; roomy = lf };
      live = arrive (behind_parameters (length t) t (node t 0).a) c.opening c.running 1 e.local e.opens c.good (opening_all e.declared) (stack_none (omega arith)) e.truths (omega arith);
      course = on_way refl (omega arith);
      counted = record { got = []; got_read = refl; lost = refl; put = []; put_written = refl; gained = sym (append-nil port.taken) };
    })
