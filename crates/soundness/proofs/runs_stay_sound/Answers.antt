-- The theorem is proved in proofs/Main.antt.
use Rattle.soundness.proofs.Main.{stays_sound}
use Rattle.soundness.proofs.runs_stay_sound.Goals as goal

pub returns : goal.returns
returns c = record { sound = stays_sound }
