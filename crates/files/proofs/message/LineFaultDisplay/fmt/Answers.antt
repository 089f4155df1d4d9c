-- The arm for a number out of range writes its text.
use Rattle.std.proofs.Common.{◌∙◌, w32, rules}
use Rattle.std.proofs.lemmas.Int.{to_z-of_z}
use Rattle.files.proofs.message.LineFaultDisplay.fmt.Goals as goal

pub returns-in-OutOfRange-clause-writes : goal.returns-in-OutOfRange-clause-writes
returns-in-OutOfRange-clause-writes g c =
    let low = to_z-of_z w32 c.described-low.result.low (search rules) ∙ c.described-low.ensures.least in
    let high = to_z-of_z w32 c.described-low.result.high (search rules) ∙ c.described-low.ensures.greatest in
    simp c.in-OutOfRange.is (simp (low, high) at c.write-in-OutOfRange.ensures.writes)
