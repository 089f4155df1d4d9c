-- One step more, or none where the run is no longer PAUSED.
use Rattle.std.proofs.Common.{◌≡◌, ◌+◌, ◌<◌, sym, ◌∙◌, arith, rules}
use Rattle.machine.specs.Machines.{state}
use Rattle.machine.specs.State.{State, stepped}
use Rattle.machine.proofs.Counting.{counted-after, steps-after}
use Rattle.machine.proofs.Resting.{going-none, going_past, going_step}
use Rattle.machine.proofs.machine.Machine.advance.Goals as goal

pub loop-init : goal.loop-init
loop-init g c = search (rules, going-none)

pub returns-then-not-is_paused-clause-gone : goal.returns-then-not-is_paused-clause-gone
returns-then-not-is_paused-clause-gone g c =
    let over = sym c.is_paused.ensures.told ∙ c.if-not-is_paused.true in
    going_past c.loop.counter c.args.budget _ _ _ c.loop.invariant.0 over c.loop.auto.counter-end

pub loop-preserved : goal.loop-preserved
loop-preserved g c =
    let t = c.args.nodes.now in
    let s : State = state g.P.Port.meaning c.loop.self in
    let u : State = state g.P.Port.meaning c.step.new.self in
    let paused = sym c.is_paused.ensures.told ∙ c.if-not-is_paused.false in
    let i = c.loop.invariant in
    let made : u ≡ stepped t s = c.step.ensures.stepped in
    let few : c.loop.self.progress.steps < 1000000000 = omega (arith, i.2, c.requires.few, c.loop-test.true) in
    let one : c.step.new.self.progress.steps ≡ c.loop.self.progress.steps + 1 = steps-after t s u made in (
      going_step c.loop.counter t _ s u i.0 paused made,
      counted-after t s u made i.1 few,
      omega (arith, i.2, one),
      search rules,
    )
