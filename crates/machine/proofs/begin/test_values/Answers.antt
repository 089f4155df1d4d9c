-- Nothing is left to be tested.
use Rattle.std.proofs.Common.{sym, ◌∙◌}
use Rattle.std.specs.Iterator.Adapters.{zip_first, zip_second}
use Rattle.machine.proofs.ParameterLists.{fitting-over}
use Rattle.machine.proofs.begin.test_values.Goals as goal

pub returns : goal.returns
returns c =
    let l = c.loop-n.n-iterator in
    record { fitting = sym (fitting-over c.args.nodes.now (zip_first l) (zip_second l) c.in-None.ensures.steps) ∙ c.loop-n.invariant }
