-- The marks of those left are tested exactly as those of all.
use Rattle.std.proofs.Common.{◌≡◌}
use Rattle.machine.specs.Begin.{parameters, parameters_left, marked}
use Rattle.machine.proofs.begin.test_marks.Given as goal

abbrev pub invariant-loop-n : goal.invariant-loop-n
invariant-loop-n l = marked l.nodes (parameters_left l.n-iterator) ≡ marked l.nodes (parameters l.nodes)
