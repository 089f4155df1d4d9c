-- The number of each fault of an expression. Assumes nothing.
use Rattle.std.specs.Prelude.{ℕ}
use Rattle.integer.specs.Fault.{cause_of}
use Rattle.evaluator.specs.declared.fault.ExpressionFault.{ExpressionFault}
use Rattle.evaluator.specs.declared.fault.ExpressionFault.TheVariants.{Arithmetic, NoPart, NoRow, Unsuited, TooDeep}

-- arithmetic has the first two
abbrev pub number_of_fault : ExpressionFault → ℕ
number_of_fault (Arithmetic e n) = cause_of e
number_of_fault (NoPart n) = 3
number_of_fault (NoRow n) = 4
number_of_fault (Unsuited n) = 5
number_of_fault (TooDeep n) = 6
