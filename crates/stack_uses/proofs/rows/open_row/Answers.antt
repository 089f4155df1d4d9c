use Rattle.std.proofs.Common.{rules}
use Rattle.stack.proofs.Newest.{newest_laws}
use Rattle.stack_uses.proofs.rows.open_row.Goals as goal

pub returns : goal.returns
returns c = search (rules, newest_laws)
