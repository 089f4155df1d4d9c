use Rattle.std.proofs.Common.{◌≡◌}
use Rattle.stack.specs.Stacks.{SameSlice}
use Rattle.stack_uses.proofs.numbers.empty.Given as goal

abbrev pub invariant-loop : goal.invariant-loop
invariant-loop l = (l.stack.places.now ≡ l.initial.stack.places.now) × SameSlice l.initial.stack.places l.stack.places

abbrev pub decreases-loop : goal.decreases-loop
decreases-loop l = l.stack.held
