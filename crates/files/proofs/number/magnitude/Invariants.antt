-- The bytes so far are digits, and the value is theirs.
use Rattle.files.proofs.Decimal.{Sofar}
use Rattle.files.proofs.number.magnitude.Given as goal

abbrev pub invariant-loop-byte : goal.invariant-loop-byte
invariant-loop-byte l = Sofar l.digits l.byte-index l.value
