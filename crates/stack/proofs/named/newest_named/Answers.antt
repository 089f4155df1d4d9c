use Rattle.std.proofs.Common.{rules}
use Rattle.stack.proofs.Lookup.{place_is}
use Rattle.stack.proofs.named.newest_named.Goals as goal

pub returns-clause-place : goal.returns-clause-place
returns-clause-place g c = place_is g.T.Named.named c.args.name _ c.args.items.now c.rposition.result (search rules) (search rules)
