-- One level of evaluation.
use Rattle.std.proofs.Common.{◌≡◌, ℕ, zero, suc, ◌-◌, List, Err, refl, arith}
use native.Mathlib.Numerals.{unary_clauses}
use Rattle.procedure.specs.declared.kind.ExpressionKind.{ExpressionKind}
use Rattle.procedure.specs.Table.{Table}
use Rattle.evaluator.specs.declared.fault.ExpressionFault.TheVariants.{TooDeep}
use Rattle.evaluator.specs.declared.rows.Row.{Row}
use Rattle.evaluator.specs.Evaluate.{valued, evaluated}

pub evaluated_unrolled : (levels : ℕ) (t : Table) (rows : List Row) (k : ExpressionKind) (n : ℕ) → (levels ≡ 0 → ⊥)
    → evaluated levels t rows k n ≡ valued (evaluated (levels - 1) t rows) t rows k n
unfolding evaluated
evaluated_unrolled zero t rows k n h = absurd (h refl)
evaluated_unrolled (suc levels) t rows k n h = simp unary_clauses

pub evaluated_none : (levels : ℕ) (t : Table) (rows : List Row) (k : ExpressionKind) (n : ℕ) → levels ≡ 0
    → evaluated levels t rows k n ≡ Err (TooDeep n)
unfolding evaluated
evaluated_none zero t rows k n h = refl
evaluated_none (suc levels) t rows k n h = absurd (omega arith)
