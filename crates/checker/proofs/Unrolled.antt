-- One level of typing and of each walk.
use Rattle.std.proofs.Common.{◌≡◌, ℕ, zero, suc, ◌-◌, List, Option, refl, arith}
use native.Mathlib.Numerals.{unary_clauses}
use Rattle.procedure.specs.Sequence.{refused_at}
use Rattle.procedure.specs.Table.{Table, part, standing}
use Rattle.checker.specs.declared.names.Declaration.{Declaration}
use Rattle.procedure.specs.declared.refusal.Reason.TheVariants.{Misshapen}
use Rattle.checker.specs.Region.{Environment}
use Rattle.checker.specs.Typing.{typed, typed_as}
use Rattle.checker.specs.Walk.{declares, declarations, states, statements}

pub typed_unrolled : (levels : ℕ) (t : Table) (own : Option ℕ) (declared : List Declaration) (n : ℕ) → (levels ≡ 0 → ⊥)
    → typed levels t own declared n ≡ typed_as (typed (levels - 1) t own declared) (part t n) t own declared n
unfolding typed
typed_unrolled zero t own declared n h = absurd (h refl)
typed_unrolled (suc levels) t own declared n h = simp unary_clauses

pub typed_none : (levels : ℕ) (t : Table) (own : Option ℕ) (declared : List Declaration) (n : ℕ) → levels ≡ 0
    → typed levels t own declared n ≡ refused_at Misshapen n
unfolding typed
typed_none zero t own declared n h = refl
typed_none (suc levels) t own declared n h = absurd (omega arith)

pub declares_unrolled : (f : ℕ) (t : Table) (base : ℕ) (declared : Environment) (n : ℕ) → (f ≡ 0 → ⊥)
    → declarations f t base declared n ≡ declares (declarations (f - 1) t base) (standing t n) t base declared n
declares_unrolled zero t base declared n h = absurd (h refl)
declares_unrolled (suc f) t base declared n h = simp unary_clauses

pub states_unrolled : (cost : ℕ → ℕ) (f : ℕ) (t : Table) (declared : Environment) (n : ℕ) → (f ≡ 0 → ⊥)
    → statements cost f t declared n ≡ states cost (statements cost (f - 1) t) (declarations (f - 1) t) (standing t n) t declared n
states_unrolled cost zero t declared n h = absurd (h refl)
states_unrolled cost (suc f) t declared n h = simp unary_clauses
