-- The theorem stands on its lemma.
use Rattle.files.proofs.ReadBack.{read_back}
use Rattle.files.proofs.written.written_nodes_are_read_back.Goals as goal

pub returns : goal.returns
returns c = record { read_back = read_back }
