-- The state that a machine is in, and what it was lent. Assumes nothing.
use Rattle.std.specs.Prelude.{◌≡◌}
use Rattle.std.specs.Borrow.{MutBor}
use Rattle.stack.specs.declared.Stack.{Stack}
use Rattle.stack.specs.Stacks.{table, SameSlice}
use Rattle.port.specs.Meaning.{Meaning}
use Rattle.machine.specs.declared.machine.Machine.{Machine}
use Rattle.machine.specs.State.{State}

abbrev pub SameStack : {T : Type 0} → MutBor (Stack T) → MutBor (Stack T) → Type 0
SameStack a b = (b.ghost_name ≡ a.ghost_name) × SameSlice a.now.places b.now.places

module _ {P : Type 0} where
  abbrev pub state : (P → Meaning) → Machine P → State
  state meaning m = record { progress = m.progress; rows = table m.rows.now; frames = table m.frames.now; port = meaning m.port.now }

  -- the same stacks over the same slices, and the same port, whatever they hold: so who lent them knows what they hold in the end
  abbrev pub SameLoans : Machine P → Machine P → Type 0
  SameLoans m n =
      SameStack m.rows n.rows × SameStack m.frames n.frames × (n.port.ghost_name ≡ m.port.ghost_name)
