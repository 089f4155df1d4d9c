-- No more parameters than nodes.
use Rattle.std.proofs.Common.{inl, arith}
use Rattle.machine.proofs.ParameterLists.{parameters-few}
use Rattle.machine.proofs.begin.begin.Goals as goal

pub count-count-requires-clause-fits : goal.count-count-requires-clause-fits
count-count-requires-clause-fits c =
    let all = c.of.result in
    inl (omega (arith, parameters-few all.left all.nodes.now all.next))
