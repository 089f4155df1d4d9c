-- The law is proved in proofs/Evaluation.antt.
use Rattle.soundness.proofs.Evaluation.{evaluation_is_typed}
use Rattle.soundness.proofs.evaluation_is_typed.Goals as goal

pub returns : goal.returns
returns c = record { typed = evaluation_is_typed }
