-- The levels left fall: an operand is entered at its operator's level.
use Rattle.std.proofs.Common.{◌+◌}
use Rattle.evaluator.proofs.evaluate.Scope.+evaluation.Given as goal

abbrev pub decreases-operand : goal.decreases-operand
decreases-operand l = l.levels + l.levels + 1

abbrev pub decreases-evaluate : goal.decreases-evaluate
decreases-evaluate l = l.levels + l.levels
