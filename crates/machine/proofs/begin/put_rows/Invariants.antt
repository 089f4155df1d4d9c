-- The rows of the parameters left are still to be put.
use Rattle.std.proofs.Common.{◌≡◌, ◌+◌, length}
use Rattle.std.specs.Iterator.Adapters.{zip_first, zip_second}
use Rattle.std.specs.Slice.Iter.{iter_rest}
use Rattle.stack.specs.Stacks.{SameSlice}
use Rattle.machine.specs.Begin.{parameters, parameters_left}
use Rattle.machine.proofs.ParameterLists.{put_from}
use Rattle.machine.proofs.begin.put_rows.Given as goal

abbrev pub invariant-loop-n : goal.invariant-loop-n
invariant-loop-n l =
    let ns = parameters_left (zip_first l.n-iterator) in
    let vs = iter_rest (zip_second l.n-iterator) in
    (length ns ≡ length vs) × (l.stack.held + length vs ≡ length l.values)
    × (put_from l.stack.held l.nodes ns vs (length l.values) l.stack.places.now
    ≡ put_from 0 l.nodes (parameters l.nodes) l.values (length l.values) l.initial.stack.places.now)
    × SameSlice l.initial.stack.places l.stack.places
