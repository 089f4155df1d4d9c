-- So many steps were made, and the counts keep below them.
use Rattle.std.proofs.Common.{◌≡◌, ◌+◌, ◌≤◌}
use Rattle.machine.specs.Counts.{Counted}
use Rattle.machine.specs.Go.{going}
use Rattle.machine.specs.Machines.{state, SameLoans}
use Rattle.machine.proofs.machine.Machine.advance.Given as goal

abbrev pub invariant-loop : goal.invariant-loop
invariant-loop g l =
    let meaning = g.P.Port.meaning in
    (state meaning l.self ≡ going l.counter l.nodes (state meaning l.initial.self))
    × Counted l.self.progress × (l.self.progress.steps ≤ l.initial.self.progress.steps + l.counter) × SameLoans l.initial.self l.self
