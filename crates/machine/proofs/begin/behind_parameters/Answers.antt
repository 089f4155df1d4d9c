-- All are left at first.
use Rattle.std.proofs.Common.{length, rules}
use Rattle.procedure.specs.Table.{node}
use Rattle.machine.proofs.ParameterLists.{behind_all}
use Rattle.machine.proofs.begin.behind_parameters.Goals as goal

pub loop-n-init : goal.loop-n-init
loop-n-init c =
    let t = c.args.nodes.now in
    search (rules, behind_all (length t) t (node t 0).a)
