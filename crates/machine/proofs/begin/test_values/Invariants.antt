-- The values left fit the parameters left exactly if all fit.
use Rattle.std.proofs.Common.{◌≡◌}
use Rattle.std.specs.Iterator.Adapters.{zip_first, zip_second}
use Rattle.std.specs.Slice.Iter.{iter_rest}
use Rattle.machine.specs.Begin.{parameters, parameters_left, fitting}
use Rattle.machine.proofs.begin.test_values.Given as goal

abbrev pub invariant-loop-n : goal.invariant-loop-n
invariant-loop-n l =
    fitting l.nodes (parameters_left (zip_first l.n-iterator)) (iter_rest (zip_second l.n-iterator))
    ≡ fitting l.nodes (parameters l.nodes) l.values
