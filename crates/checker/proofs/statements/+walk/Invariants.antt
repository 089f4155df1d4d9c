-- The nodes left fall from list to list; inside a statement they stay.
use Rattle.std.proofs.Common.{◌≡◌, ◌+◌, ◌*◌, ◌≤◌}
use Rattle.checker.specs.Cost.{held}
use Rattle.checker.specs.Region.{opened, Left}
use Rattle.checker.specs.Walk.{statements}
use Rattle.checker.proofs.InTurn.{followed}
use Rattle.checker.proofs.statements.+walk.Given as goal

abbrev pub decreases-walk_list : goal.decreases-walk_list
decreases-walk_list l = 4 * l.left

abbrev pub decreases-walk_region : goal.decreases-walk_region
decreases-walk_region l = 4 * l.left + 1

abbrev pub decreases-walk_block : goal.decreases-walk_block
decreases-walk_block l = 4 * l.left + 2

abbrev pub decreases-walk_if : goal.decreases-walk_if
decreases-walk_if l = 4 * l.left + 1

abbrev pub decreases-walk_for : goal.decreases-walk_for
decreases-walk_for l = 4 * l.left + 1

abbrev pub decreases-walk_statement : goal.decreases-walk_statement
decreases-walk_statement l = 4 * l.left + 3

-- The sheet so far, followed by what the rest gives, is that of the whole list.
abbrev pub invariant-walk_list-loop-rest : goal.invariant-walk_list-loop-rest
invariant-walk_list-loop-rest l =
    (followed l.sheet (statements held l.rest l.nodes (opened l.initial.declared) l.at)
    ≡ statements held l.left l.nodes (opened l.initial.declared) l.n)
    × Left l.initial.declared l.declared
    × (l.sheet.ceiling ≤ 1000000001)
    × (l.sheet.frames ≤ l.left)
