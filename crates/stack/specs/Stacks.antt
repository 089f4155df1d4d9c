-- The table that a stack means, and the slice that it was made over. Assumes nothing.
use Rattle.std.specs.Prelude.{◌≡◌, List, length}
use Rattle.std.specs.Borrow.{MutBor}
use Rattle.stack.specs.declared.Stack.{Stack}
use Rattle.stack.specs.Tables.{Table}

module _ {T : Type 0} where
  abbrev pub table : Stack T → Table T
  table s = record { places = s.places.now; held = s.held }

  -- one slice, whatever it holds: so who lent it knows what it holds in the end
  abbrev pub SameSlice : MutBor (List T) → MutBor (List T) → Type 0
  SameSlice a b = (b.ghost_name ≡ a.ghost_name) × (length b.now ≡ length a.now)
