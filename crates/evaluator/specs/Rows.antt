-- The topmost row of a name. Assumes nothing.
use Rattle.std.specs.Prelude.{ℕ, cond, List, [], ◌∷◌, length, Some, None, Option, ◌==◌}
use Rattle.evaluator.specs.declared.rows.Placed.{Placed}
use Rattle.evaluator.specs.declared.rows.Row.{Row}

-- the newest row stands first; its place is counted from the bottom
abbrev pub topmost : ℕ → List Row → Option Placed
topmost x [] = None
topmost x (r ∷ older) = cond (r.name == x) (Some (record { place = length older; row = r })) (topmost x older)
