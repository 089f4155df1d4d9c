use Rattle.std.proofs.Common.{rules}
use Rattle.stack.proofs.Newest.{newest-take}
use Rattle.stack.proofs.slices.lowest.Goals as goal

pub returns-clause-newest : goal.returns-clause-newest
returns-clause-newest g c = search (rules, newest-take)
