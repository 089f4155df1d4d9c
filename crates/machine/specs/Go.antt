-- Going for a budget of steps. Assumes nothing.
use Rattle.std.specs.Prelude.{ℕ, zero, suc, ◌+◌, cond, not, ◌&&◌, List, length, Ok, Err, nat_le}
use Rattle.port.specs.Meaning.{Meaning}
use Rattle.procedure.specs.declared.refusal.Reason.TheVariants.{Bulky, Short, Overdrawn, Over}
use Rattle.procedure.specs.Form.{is_bulky}
use Rattle.procedure.specs.Sequence.{Answer, and_then, want}
use Rattle.procedure.specs.Table.{Table}
use Rattle.evaluator.specs.declared.rows.Row.{Row}
use Rattle.machine.specs.declared.frame.Frame.{Frame}
use Rattle.machine.specs.declared.run.Run.{Run}
use Rattle.machine.specs.Outcomes.{is_paused}
use Rattle.machine.specs.State.{State, stepped}

-- a run with its tables and its port
abbrev pub state_of : Run → List Row → List Frame → Meaning → State
state_of run rows frames port = record {
  progress = run.shown.progress;
  rows = record { places = rows; held = run.shown.rows };
  frames = record { places = frames; held = run.shown.frames };
  port = port;
}

-- one step, while the run is PAUSED
abbrev pub advanced : Table → State → State
advanced t s = cond (is_paused s.progress.outcome) (stepped t s) s

-- so many steps, while the run is PAUSED
unfoldable pub going : ℕ → Table → State → State
going zero t s = s
going (suc n) t s = advanced t (going n t s)

-- whether a go is taken
abbrev pub go_answer : ℕ → Table → State → Answer (Unit {0})
go_answer budget t s =
    and_then (want (not (is_bulky t)) Bulky 0) λ _.
    and_then (want (is_paused s.progress.outcome) Over 0) λ _.
    and_then (want (nat_le (budget + s.progress.steps) 1000000000) Overdrawn 0) λ _.
    want (nat_le s.rows.held (length s.rows.places) && nat_le s.frames.held (length s.frames.places)) Short 0

abbrev pub after : Answer (Unit {0}) → State → State → State
after (Ok u) then otherwise = then
after (Err e) then otherwise = otherwise

-- the state after a go: a refused one leaves it as it was
abbrev pub gone : ℕ → Table → State → State
gone budget t s = after (go_answer budget t s) (going budget t s) s
