-- The samples from a number on are as many as were asked for.
use Rattle.std.proofs.Common.{rules}
use Rattle.std.proofs.lemmas.List.FromFn.{length-map-range_with_len}
use Rattle.port.proofs.samples.Samples.left.Goals as goal

pub returns : goal.returns
returns c = search (rules, length-map-range_with_len)
