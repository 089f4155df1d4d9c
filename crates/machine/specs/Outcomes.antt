-- How a run stands, and what each fault of a step makes of it. Assumes nothing.
use Rattle.std.specs.Prelude.{ℕ, Bool, true, false, List, Some, None, Option, codes}
use Rattle.evaluator.specs.Faults.{number_of_fault}
use Rattle.evaluator.specs.declared.fault.ExpressionFault.{ExpressionFault}
use Rattle.evaluator.specs.declared.fault.ExpressionFault.TheVariants.{Arithmetic, NoPart, NoRow, Unsuited, TooDeep}
use Rattle.machine.specs.declared.fault.Ending.{Ending}
use Rattle.machine.specs.declared.fault.StepFault.{StepFault}
use Rattle.machine.specs.declared.fault.StepFault.TheVariants.{Expression, NotBoolean, NothingWaits, NoPlace, NoStep, NoTarget, WrongType, RowsFull, FramesFull}
use Rattle.machine.specs.declared.outcome.Outcome.{Outcome}
use Rattle.machine.specs.declared.outcome.Outcome.TheVariants.{Paused, Done, NumericError, ConstraintError, EndError, UseError, Stuck, StorageError}

abbrev pub outcome_word : Outcome → List ℕ
outcome_word Paused = codes "PAUSED"
outcome_word Done = codes "DONE"
outcome_word NumericError = codes "NUMERIC_ERROR"
outcome_word ConstraintError = codes "CONSTRAINT_ERROR"
outcome_word EndError = codes "END_ERROR"
outcome_word UseError = codes "USE_ERROR"
outcome_word Stuck = codes "STUCK"
outcome_word StorageError = codes "STORAGE_ERROR"

abbrev pub is_paused : Outcome → Bool
is_paused Paused = true
is_paused Done = false
is_paused NumericError = false
is_paused ConstraintError = false
is_paused EndError = false
is_paused UseError = false
is_paused Stuck = false
is_paused StorageError = false

-- the number by which a fault is told
abbrev pub number_of : StepFault → ℕ
number_of (Expression e) = number_of_fault e
number_of NotBoolean = 7
number_of NothingWaits = 8
number_of NoPlace = 9
number_of NoStep = 10
number_of NoTarget = 11
number_of WrongType = 12
number_of RowsFull = 13
number_of FramesFull = 14

-- the number of a run's cause, 0 where it has not failed
abbrev pub cause_number : Option StepFault → ℕ
cause_number None = 0
cause_number (Some fault) = number_of fault

abbrev pub ending : Outcome → StepFault → ℕ → Ending
ending o c n = record { outcome = o; cause = c; node = n }

-- a fault of an expression, with its own node
abbrev pub expression_ending : ExpressionFault → Ending
expression_ending (Arithmetic e n) = ending NumericError (Expression (Arithmetic e n)) n
expression_ending (NoPart n) = ending Stuck (Expression (NoPart n)) n
expression_ending (NoRow n) = ending Stuck (Expression (NoRow n)) n
expression_ending (Unsuited n) = ending Stuck (Expression (Unsuited n)) n
expression_ending (TooDeep n) = ending Stuck (Expression (TooDeep n)) n

-- The outcome, cause and node of each fault of a step; a fault of the statement itself is told at the node due.
abbrev pub ending_of : StepFault → ℕ → Ending
ending_of (Expression e) at = expression_ending e
ending_of NotBoolean at = ending ConstraintError NotBoolean at
ending_of NothingWaits at = ending EndError NothingWaits at
ending_of NoPlace at = ending UseError NoPlace at
ending_of NoStep at = ending Stuck NoStep at
ending_of NoTarget at = ending Stuck NoTarget at
ending_of WrongType at = ending Stuck WrongType at
ending_of RowsFull at = ending StorageError RowsFull at
ending_of FramesFull at = ending StorageError FramesFull at
