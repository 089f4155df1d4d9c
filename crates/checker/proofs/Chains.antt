-- The chains of the walk with their steps shut, and what an answer is known to be: passed or refused, each with what that means.
use Rattle.std.proofs.Common.{◌≡◌, ℕ, ◌+◌, ◌-◌, ◌*◌, max, Bool, true, false, not, ltb, leb, List, [], length, Some, Ok, Err, Option, Result, sym, refl, ap, ◌∙◌, subst}
use Rattle.procedure.specs.declared.kind.Kind.TheVariants.{Expression}
use Rattle.procedure.specs.declared.kind.ExpressionKind.TheVariants.{Unary, Binary}
use Rattle.procedure.specs.declared.kind.DeclarationKind.{DeclarationKind}
use Rattle.procedure.specs.declared.kind.DeclarationKind.TheVariants.{Variable, Constant}
use Rattle.procedure.specs.declared.kind.StatementKind.{StatementKind}
use Rattle.procedure.specs.declared.refusal.Reason.{Reason}
use Rattle.procedure.specs.declared.refusal.Reason.TheVariants.{Bulky, Taken, Mismatched, Overlong, Cramped, Short}
use Rattle.procedure.specs.declared.refusal.Refusal.{Refusal}
use Rattle.procedure.specs.declared.table.Standing.TheVariants.{Declaration, Statement}
use Rattle.procedure.specs.declared.types.«Type».{«Type» as TypeT}
use Rattle.procedure.specs.declared.types.«Type».TheVariants.{Integer, Boolean}
use Rattle.procedure.specs.Form.{is_bulky, tested}
use Rattle.procedure.specs.Operator.{unary_operator_of, binary_operator_of}
use Rattle.procedure.specs.Refusal.{refusal_at}
use Rattle.procedure.specs.Sequence.{Answer, and_then, want}
use Rattle.procedure.specs.Table.{Table, node}
use Rattle.checker.specs.declared.answer.Sheet.{Sheet}
use Rattle.checker.specs.declared.names.Declaration.{Declaration as DeclarationT}
use Rattle.checker.specs.Answer.{sheet}
use Rattle.checker.specs.Cost.{turns_of, exact}
use Rattle.checker.specs.Names.{means}
use Rattle.checker.specs.Region.{Environment, is_taken, put}
use Rattle.checker.specs.Typing.{typed, typed_as, unary_type, binary_type, same_type, mark_type, target_type}
use Rattle.checker.specs.Walk.{Declares, Walks, mark_meaning, type_at, initial, is_constant, declaration_cost, declaration, declares, declarations, simple, assignment, get_statement, put_statement, if_statement, for_statement, block_statement, statement, states, statements, procedure, judged, checked}

unfoldable pub then : {A B E : Type 0} → Result A E → (A → Result B E) → Result B E
then r k = and_then r k

unfoldable pub need : Bool → Reason → ℕ → Answer (Unit {0})
need b reason n = want b reason n

pub unary_chain : (below : ℕ → Answer TypeT) (t : Table) (own : Option ℕ) (declared : Environment) (n : ℕ)
    → typed_as below (Some (Expression Unary)) t own declared n
    ≡ (then (below (node t n).a) λ x. unary_type (unary_operator_of (node t n).lo) x n)
unfolding then
unary_chain below t own declared n = refl

pub binary_chain : (below : ℕ → Answer TypeT) (t : Table) (own : Option ℕ) (declared : Environment) (n : ℕ)
    → typed_as below (Some (Expression Binary)) t own declared n
    ≡ (then (below (node t n).a) λ x. then (below (node t n).b) λ y. binary_type (binary_operator_of (node t n).lo) x y n)
unfolding then
binary_chain below t own declared n = refl

-- the value of a variable or a constant
abbrev pub valued : Table → Environment → TypeT → ℕ → Answer (Unit {0})
valued t declared ty n = then (typed 32 t (Some (node t n).name) declared (node t n).a) λ x. need (same_type x ty) Mismatched n

pub variable_chain : (t : Table) (declared : Environment) (ty : TypeT) (n : ℕ) → initial Variable t declared ty n ≡ valued t declared ty n
unfolding then need
variable_chain t declared ty n = refl

pub constant_chain : (t : Table) (declared : Environment) (ty : TypeT) (n : ℕ) → initial Constant t declared ty n ≡ valued t declared ty n
unfolding then need
constant_chain t declared ty n = refl

pub declaration_chain : (k : DeclarationKind) (t : Table) (base : ℕ) (declared : Environment) (n : ℕ)
    → declaration k t base declared n
    ≡ (then (need (not (is_taken (node t n).name (length declared - base) declared)) Taken n) λ _.
    then (mark_type (mark_meaning (node t n).lo (node t n).name declared) n) λ ty.
    then (initial k t declared ty n) λ _.
    Ok (record { name = (node t n).name; of_type = ty; constant = is_constant k }))
unfolding then need
declaration_chain k t base declared n = refl

pub put_chain : (d : DeclarationT) (declared : Environment) (n : ℕ)
    → put d declared n ≡ (then (need (ltb (length declared) 256) Cramped n) λ _. Ok (List.◌∷◌ d declared))
unfolding then need
put_chain d declared n = refl

pub declares_chain : (rest : Declares) (k : DeclarationKind) (t : Table) (base : ℕ) (declared : Environment) (n : ℕ)
    → declares rest (Declaration k) t base declared n
    ≡ (then (declaration k t base declared n) λ d. then (put d declared n) λ more. then (rest more (node t n).next) λ o.
    Ok (record { declared = o.declared; cost = o.cost + declaration_cost k }))
unfolding then
declares_chain rest k t base declared n = refl

pub assignment_chain : (t : Table) (declared : Environment) (n : ℕ)
    → assignment t declared n
    ≡ (then (target_type (means declared (node t n).name) n) λ target. then (type_at t declared (node t n).a) λ x.
    then (need (same_type x target) Mismatched n) λ _. Ok (simple declared))
unfolding then need
assignment_chain t declared n = refl

pub get_chain : (t : Table) (declared : Environment) (n : ℕ)
    → get_statement t declared n ≡ (then (target_type (means declared (node t n).name) n) λ _. Ok (simple declared))
unfolding then
get_chain t declared n = refl

pub put_statement_chain : (t : Table) (declared : Environment) (n : ℕ)
    → put_statement t declared n ≡ (then (type_at t declared (node t n).a) λ _. Ok (simple declared))
unfolding then
put_statement_chain t declared n = refl

pub if_chain : (lists : Walks) (t : Table) (declared : Environment) (n : ℕ)
    → if_statement exact lists t declared n
    ≡ (then (type_at t declared (node t n).a) λ x. then (need (same_type x Boolean) Mismatched n) λ _.
    then (lists declared (node t n).b) λ l. then (lists declared (node t n).c) λ r.
    Ok (sheet (2 + l.ceiling + r.ceiling) (max l.rows r.rows) (max l.frames r.frames + 1)))
unfolding then need
if_chain lists t declared n = refl

pub for_chain : (lists : Walks) (t : Table) (declared : Environment) (n : ℕ)
    → for_statement exact lists t declared n
    ≡ (then (put (record { name = (node t n).name; of_type = Integer; constant = true }) declared n) λ inner.
    then (lists inner (node t n).a) λ body.
    Ok (sheet (1 + turns_of (node t n) * (body.ceiling + 1)) body.rows (body.frames + 1)))
unfolding then
for_chain lists t declared n = refl

pub block_chain : (lists : Walks) (opens : ℕ → Declares) (t : Table) (declared : Environment) (n : ℕ)
    → block_statement exact lists opens t declared n
    ≡ (then (opens (length declared) declared (node t n).a) λ o. then (lists o.declared (node t n).b) λ inside.
    Ok (sheet (2 + o.cost + inside.ceiling) inside.rows (inside.frames + 1)))
unfolding then
block_chain lists opens t declared n = refl

pub states_chain : (lists : Walks) (opens : ℕ → Declares) (k : StatementKind) (t : Table) (declared : Environment) (n : ℕ)
    → states exact lists opens (Statement k) t declared n
    ≡ (then (statement exact lists opens k t declared n) λ first. then (lists declared (node t n).next) λ rest.
    Ok (sheet (first.ceiling + rest.ceiling) (max first.rows rest.rows) (max first.frames rest.frames)))
unfolding then
states_chain lists opens k t declared n = refl

pub procedure_chain : (f : ℕ) (t : Table)
    → procedure exact f t
    ≡ (then (declarations f t 0 [] (node t 0).a) λ o. then (statements exact f t o.declared (node t 0).b) λ inside.
    Ok (sheet (1 + o.cost + inside.ceiling) inside.rows inside.frames))
unfolding then
procedure_chain f t = refl

pub judged_chain : (a : Answer Sheet)
    → judged a ≡ (then a λ s. then (need (leb s.ceiling 1000000000) Overlong 0) λ _. Ok s)
unfolding then need
judged_chain a = refl

pub checked_chain : (t : Table) (w : ℕ)
    → checked t w
    ≡ (then (need (not (is_bulky t)) Bulky 0) λ _. then (need (leb 256 w) Short 0) λ _. then (tested t) λ _.
    then (need (leb 17 (node t 0).name) Taken 0) λ _. judged (procedure exact (length t) t))
unfolding then need
checked_chain t w = refl

-- Passed, and P holds of what is answered; or refused, and F holds of the refusal.
pub data Judges {A : Type 0} (P : A → Type 0) (F : Refusal → Type 0) : Answer A → Type 0 where
  passes : {x : A} → P x → Judges P F (Ok x)
  fails : {e : Refusal} → F e → Judges P F (Err e)

pub judges_then : {A B : Type 0} {P : A → Type 0} {Q : B → Type 0} {G F : Refusal → Type 0} {r : Answer A} {k : A → Answer B}
    → Judges P G r → ((e : Refusal) → G e → F e) → ((x : A) → P x → Judges Q F (k x)) → Judges Q F (then r k)
unfolding then
judges_then (passes p) g h = h _ p
judges_then (fails d) g h = fails (g _ d)

pub judges_need : {B : Type 0} {Q : B → Type 0} {F : Refusal → Type 0} (b : Bool) (reason : Reason) (n : ℕ) (k : Unit {0} → Answer B)
    → (b ≡ false → F (refusal_at reason n)) → (b ≡ true → Judges Q F (k tt)) → Judges Q F (then (need b reason n) k)
unfolding then need
judges_need true reason n k g h = h refl
judges_need false reason n k g h = fails (g refl)

pub judges_end : {P : Unit {0} → Type 0} {F : Refusal → Type 0} (b : Bool) (reason : Reason) (n : ℕ)
    → (b ≡ false → F (refusal_at reason n)) → (b ≡ true → P tt) → Judges P F (need b reason n)
unfolding need
judges_end true reason n g h = passes (h refl)
judges_end false reason n g h = fails (g refl)

pub judges_map : {A : Type 0} {P Q : A → Type 0} {G F : Refusal → Type 0} {r : Answer A}
    → ((e : Refusal) → G e → F e) → ((x : A) → P x → Q x) → Judges P G r → Judges Q F r
judges_map g h (passes p) = passes (h _ p)
judges_map g h (fails d) = fails (g _ d)

pub passed : {A : Type 0} {P : A → Type 0} {F : Refusal → Type 0} {x : A} → Judges P F (Ok x) → P x
passed (passes p) = p

pub failed : {A : Type 0} {P : A → Type 0} {F : Refusal → Type 0} {e : Refusal} → Judges P F (Err e) → F e
failed (fails d) = d

-- Passed, and P holds of what is answered.
pub data Gives {A : Type 0} (P : A → Type 0) : Answer A → Type 0 where
  gives : {x : A} → P x → Gives P (Ok x)

pub gives_then : {A B : Type 0} {P : A → Type 0} {Q : B → Type 0} {r : Answer A} {k : A → Answer B} → Gives P r → ((x : A) → P x → Gives Q (k x)) → Gives Q (then r k)
unfolding then
gives_then (gives h) f = f _ h

-- Each of the tests passed. (The goal shows the first arguments.)
pub ok_then : {A B : Type 0} {Q : B → Type 0} {r : Answer A} {x : A} (k : A → Answer B) → r ≡ Ok x → Gives Q (k x) → Gives Q (then r k)
unfolding then
ok_then {Q = Q} k e g = subst (λ a. Gives Q (then a k)) (sym e) g

pub need_then : {B : Type 0} {Q : B → Type 0} {b : Bool} (reason : Reason) (n : ℕ) (k : Unit {0} → Answer B) → b ≡ true → Gives Q (k tt) → Gives Q (then (need b reason n) k)
unfolding then need
need_then {Q = Q} reason n k e g = subst (λ a. Gives Q (then (need a reason n) k)) (sym e) g

pub then_is : {A B : Type 0} {r : Answer A} {x : A} {y : Answer B} (k : A → Answer B) → r ≡ Ok x → k x ≡ y → then r k ≡ y
unfolding then
then_is k e f = ap (λ a. then a k) e ∙ f

pub need_is : {b : Bool} (reason : Reason) (n : ℕ) → b ≡ true → need b reason n ≡ Ok tt
unfolding need
need_is reason n e = ap (λ b. need b reason n) e

pub err_then : {A B : Type 0} {r : Answer A} {e : Refusal} (k : A → Answer B) → r ≡ Err e → then r k ≡ Err e
unfolding then
err_then k q = ap (λ a. then a k) q

pub gives_is : {A B : Type 0} {P : A → Type 0} {r : Answer A} {y : Answer B} (k : A → Answer B) → Gives P r → ((x : A) → P x → k x ≡ y) → then r k ≡ y
unfolding then
gives_is k (gives {x = x} h) f = f x h

pub need_not : {b : Bool} (reason : Reason) (n : ℕ) → b ≡ false → need b reason n ≡ Err (refusal_at reason n)
unfolding need
need_not reason n e = ap (λ b. need b reason n) e

-- What cannot pass is refused, and if the refusal is known, with it.
pub cannot_pass : {A : Type 0} {P : A → Type 0} {F : Refusal → Type 0} {a : Answer A} {e : Refusal} → Judges P F a → ((x : A) → P x → ⊥) → ((r : Refusal) → F r → r ≡ e) → a ≡ Err e
cannot_pass (passes {x = x} p) h g = absurd (h x p)
cannot_pass (fails {e = r} d) h g = ap Err (g r d)

pub given_ok : {A : Type 0} {P : A → Type 0} {r : Answer A} → Gives P r → (x : A) × P x × (r ≡ Ok x)
given_ok (gives {x = x} h) = (x, h, refl)
