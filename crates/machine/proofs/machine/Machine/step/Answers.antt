-- No step was counted yet.
use Rattle.std.proofs.Common.{arith}
use Rattle.machine.specs.Machines.{state}
use Rattle.machine.proofs.Counting.{steps-performed}
use Rattle.machine.proofs.machine.Machine.step.Goals as goal

pub overflow_add-self : goal.overflow_add-self
overflow_add-self g c =
    let meaning = g.P.Port.meaning in
    let s = state meaning c.args.self.now in
    let u = state meaning c.perform-conclusion.new.self in
    omega (arith, c.requires.few, steps-performed c.args.nodes.now s u c.perform-conclusion.result c.perform-conclusion.ensures.performed)
