-- A step counts one step, and at most one number got and one put.
use Rattle.std.proofs.Common.{◌≡◌, ℕ, ◌+◌, ◌<◌, ◌≤◌, Bool, true, false, cond, ℤ, is_some, Some, None, Ok, Err, Option, Result, sym, refl, subst, arith}
use Rattle.stack.specs.declared.Full.{Full}
use Rattle.port.specs.Meaning.{get_answer, put_answer}
use Rattle.procedure.specs.Table.{Table}
use Rattle.evaluator.specs.declared.rows.Placed.{Placed}
use Rattle.evaluator.specs.Values.{value_of_type}
use Rattle.machine.specs.declared.act.Act.{Act}
use Rattle.machine.specs.declared.act.Act.TheVariants.{Done, Pass, Declare, Assign, Get, Put, Enter, Loop, Turn, Leave}
use Rattle.machine.specs.declared.fault.StepFault.{StepFault}
use Rattle.machine.specs.declared.fault.StepFault.TheVariants.{NotBoolean}
use Rattle.machine.specs.declared.progress.Progress.{Progress}
use Rattle.machine.specs.Counts.{Counted}
use Rattle.machine.specs.Decide.{Decision, decided, placed}
use Rattle.machine.specs.State.{State, received, sent, acted, carried_out, concluding, concluded, stepped, rewritten, going_to, with_rows, receiving, failing}

-- from p to q one step was made
pub record OneStep (p q : Progress) : Type 0 where
  pub steps : q.steps ≡ p.steps + 1
  pub reads : q.reads ≤ p.reads + 1
  pub writes : q.writes ≤ p.writes + 1

-- no number was got or put
still : {p q : Progress} → q.steps ≡ p.steps + 1 → q.reads ≡ p.reads → q.writes ≡ p.writes → OneStep p q
still steps reads writes = record { steps = steps; reads = omega (arith, reads); writes = omega (arith, writes) }

received_counts : (o : Option ℤ) (p : Placed) (to : ℕ) (s : State) → OneStep s.progress (received o p to s).progress
received_counts None p to s = still refl refl refl
received_counts (Some z) p to s = go (is_some (value_of_type p.row.of_type z)) where
  go : (b : Bool) → OneStep s.progress
      (cond b (going_to to (with_rows (rewritten p.place (placed p z).row s.rows) (receiving s))) (failing NotBoolean (receiving s))).progress
  go true = record { steps = refl; reads = omega arith; writes = omega arith }
  go false = record { steps = refl; reads = omega arith; writes = omega arith }

sent_counts : (a : Result (Unit {0}) Full) (z : ℤ) (to : ℕ) (s : State) → OneStep s.progress (sent a z to s).progress
sent_counts (Ok u) z to s = record { steps = refl; reads = omega arith; writes = omega arith }
sent_counts (Err e) z to s = still refl refl refl

acted_counts : (a : Act) (s : State) → OneStep s.progress (acted a s).progress
acted_counts Done s = still refl refl refl
acted_counts (Pass to) s = still refl refl refl
acted_counts (Declare r to) s = still refl refl refl
acted_counts (Assign p to) s = still refl refl refl
acted_counts (Get p to) s = received_counts (get_answer s.port) p to s
acted_counts (Put z to) s = sent_counts (put_answer s.port) z to s
acted_counts (Enter f to) s = still refl refl refl
acted_counts (Loop f r to) s = still refl refl refl
acted_counts (Turn p to) s = still refl refl refl
acted_counts (Leave n to) s = still refl refl refl

carried_counts : (d : Decision) (s : State) → OneStep s.progress (carried_out d s).progress
carried_counts (Ok a) s = acted_counts a s
carried_counts (Err e) s = still refl refl refl

pub stepped_counts : (t : Table) (s : State) → OneStep s.progress (stepped t s).progress
stepped_counts t s = carried_counts (decided t s.rows s.frames s.progress.at) s

one_step : (t : Table) (s u : State) → u ≡ stepped t s → OneStep s.progress u.progress
one_step t s u e = subst (λ (v : State). OneStep s.progress v.progress) (sym e) (stepped_counts t s)

pub steps-after : (t : Table) (s u : State) → u ≡ stepped t s → u.progress.steps ≡ s.progress.steps + 1
steps-after t s u e = (one_step t s u e).steps

pub counted-after : (t : Table) (s u : State) → u ≡ stepped t s → Counted s.progress → s.progress.steps < 1000000000 → Counted u.progress
counted-after t s u e c h =
    let one : OneStep s.progress u.progress = one_step t s u e in
    (omega arith, omega arith, omega arith)

-- a conclusion counts the step, and what is performed before it does not
pub steps-performed : (t : Table) (s u : State) (r : Result (Option ℕ) StepFault) → concluded r u ≡ stepped t s → u.progress.steps ≡ s.progress.steps
steps-performed t s u r e = omega (arith, steps-after t s (concluded r u) e, concluding_counts r) where
  concluding_counts : (o : Result (Option ℕ) StepFault) → (concluding o u.progress).steps ≡ u.progress.steps + 1
  concluding_counts (Ok (Some to)) = refl
  concluding_counts (Ok None) = refl
  concluding_counts (Err f) = refl
