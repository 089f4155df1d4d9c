-- The type holds the number that was read.
use Rattle.std.proofs.Common.{◌≡◌, Some, Ok, w32, rules}
use Rattle.std.proofs.lemmas.Int.{to_z-of_z}
use Rattle.files.specs.Line.{integer, Within}
use Rattle.files.proofs.line.read_field.Goals as goal

pub returns : goal.returns
returns g c =
    let read : integer c.args.field (Some c.args.word.now) ≡ Ok c.in_ok-value.value = search rules in
    let within : Within c.args.field c.in_ok-value.value = search rules in
    let gives = rw (to_z-of_z w32 c.in_ok-value.value (search rules)) at c.try_from.ensures in
    let exact = rw read at (g.met.N.Number.exact c.args.field (Some c.args.word.now)) in
    let held = exact c.try_from.result gives (c.requires.held _ within) in
    search (rules, held)
