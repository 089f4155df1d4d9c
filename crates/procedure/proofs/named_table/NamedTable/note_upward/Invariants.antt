-- The levels of the nodes so far that are no expressions are noted.
use Rattle.std.proofs.Common.{◌≡◌, ℕ, ◌<◌, false, length, get_or}
use Rattle.procedure.specs.Level.{level}
use Rattle.procedure.specs.Table.{expression_at}
use Rattle.procedure.proofs.named_table.NamedTable.note_upward.Given as goal

abbrev pub invariant-loop-n : goal.invariant-loop-n
invariant-loop-n l =
    (length l.levels ≡ 1024)
    × ((k : ℕ) → k < l.n → expression_at l.self.nodes.now k ≡ false → get_or l.levels k 0 ≡ level l.self.nodes.now k)
