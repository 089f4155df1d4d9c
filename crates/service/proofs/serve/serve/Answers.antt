-- The check passed and the tables have room, so every run of the procedure stays sound.
use Rattle.std.proofs.Common.{length, take, sym}
use Rattle.soundness.proofs.Main.{stays_sound}
use Rattle.service.proofs.serve.serve.Goals as goal

pub returns-clause-sound_throughout : goal.returns-clause-sound_throughout
returns-clause-sound_throughout g c =
    let room = c.in_ok-test_places.ensures.room in
    λ b q k.
    stays_sound c.args.nodes.now (length c.args.declarations.now) c.in_ok-sheet.sheet c.args.values.now c.args.rows.now c.args.frames.now _
    b (sym c.in_ok-sheet.ensures.checked) q room.0 room.1 (take k c.args.calls.now)
