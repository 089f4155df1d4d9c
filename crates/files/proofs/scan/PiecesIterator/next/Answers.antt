-- A text that is not empty has a first piece.
use Rattle.std.proofs.Common.{rules, Some}
use Rattle.files.specs.Scan.{pieces_left}
use Rattle.files.proofs.Cuts.{pieces_step, goes_on}
use Rattle.files.proofs.scan.PiecesIterator.next.Goals as goal

pub returns-clause-steps : goal.returns-clause-steps
returns-clause-steps c = search (rules, pieces_step)

pub returns-clause-goes : goal.returns-clause-goes
returns-clause-goes c = goes_on (λ x. x.now) pieces_left (λ _. tt) _ (Some c.cut_once.result.0) _ (search (rules, pieces_step))
