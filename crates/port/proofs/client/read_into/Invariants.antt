-- Each get so far answered a number, and these stand in the first places.
use Rattle.std.proofs.Common.{◌≡◌, ◌++◌, take, drop}
use Rattle.port.proofs.Gets.{Read}
use Rattle.port.proofs.client.read_into.Given as goal

abbrev pub invariant-loop-i : goal.invariant-loop-i
invariant-loop-i g l =
    let meaning = g.P.Port.meaning in
    Read l.i (meaning l.initial.port) (meaning l.port)
    × (l.numbers ≡ take l.i (meaning l.initial.port).waiting ++ drop l.i l.initial.numbers)
