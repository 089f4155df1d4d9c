-- Behind those left is behind all.
use Rattle.std.proofs.Common.{◌≡◌, length}
use Rattle.procedure.specs.Table.{node}
use Rattle.machine.specs.Begin.{behind_parameters, parameters_left}
use Rattle.machine.proofs.ParameterLists.{behind}
use Rattle.machine.proofs.begin.behind_parameters.Given as goal

abbrev pub invariant-loop-n : goal.invariant-loop-n
invariant-loop-n l =
    behind l.nodes l.behind (parameters_left l.n-iterator) ≡ behind_parameters (length l.nodes) l.nodes (node l.nodes 0).a
