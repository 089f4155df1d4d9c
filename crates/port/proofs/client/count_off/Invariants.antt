-- Each get so far answered a number.
use Rattle.port.proofs.Gets.{Read}
use Rattle.port.proofs.client.count_off.Given as goal

abbrev pub invariant-loop-count : goal.invariant-loop-count
invariant-loop-count g l = let meaning = g.P.Port.meaning in Read l.count (meaning l.initial.port) (meaning l.port)
