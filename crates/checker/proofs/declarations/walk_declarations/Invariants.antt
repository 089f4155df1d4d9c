-- What was opened so far, followed by what the rest opens, is what the whole list opens.
use Rattle.std.proofs.Common.{◌≡◌, ◌+◌, ◌≤◌}
use Rattle.checker.specs.Region.{opened, Grown}
use Rattle.checker.specs.Walk.{declarations}
use Rattle.checker.proofs.InTurn.{costing}
use Rattle.checker.proofs.declarations.walk_declarations.Given as goal

abbrev pub invariant-loop-rest : goal.invariant-loop-rest
invariant-loop-rest l =
    (costing l.cost (declarations l._rest l.nodes l.base (opened l.declared) l.at)
    ≡ declarations l.left l.nodes l.base (opened l.initial.declared) l.n)
    × Grown l.initial.declared l.declared
    × (l.cost + l._rest ≤ l.left)
