-- One of the declarations of the region has the name, or none.
use Rattle.std.proofs.Common.{rules}
use Rattle.checker.proofs.Named.{taken}
use Rattle.checker.proofs.region.is_taken.Goals as goal

pub returns : goal.returns
returns c = search (rules, taken c.args.name c.args.base c.args.declared.now c.requires.within)
