-- A run of a procedure that passed the check is sound, before and after every call. Assumes nothing.
use Rattle.std.specs.Prelude.{◌≡◌, ℕ, ◌-◌, ◌≤◌, true, false, ◌≢◌, List, [], ◌∷◌, ◌++◌, length, ℤ, Some, None, Ok, Option}
use Rattle.stack.specs.Acts.{top}
use Rattle.stack.specs.Tables.{newest_first}
use Rattle.port.specs.Meaning.{Meaning}
use Rattle.procedure.specs.Table.{Table}
use Rattle.evaluator.specs.declared.rows.Row.{Row}
use Rattle.machine.specs.declared.frame.Frame.{Frame}
use Rattle.machine.specs.declared.outcome.Outcome.TheVariants.{EndError, UseError, Stuck, StorageError}
use Rattle.machine.specs.Begin.{Begun, begun}
use Rattle.machine.specs.Go.{go_answer, gone}
use Rattle.machine.specs.Outcomes.{is_paused}
use Rattle.machine.specs.State.{State}
use Rattle.checker.specs.declared.answer.Sheet.{Sheet}
use Rattle.checker.specs.Walk.{checked}
use Rattle.soundness.specs.declared.call.Call.{Call}
use Rattle.soundness.specs.declared.call.Call.TheVariants.{Go, Look}
use Rattle.soundness.specs.Evaluation.{Truths}
use Rattle.soundness.specs.Open.{Object, Objects, Open}

abbrev pub object_of : Row → Object
object_of r = record { name = r.name; type = r.of_type }

abbrev pub objects : List Row → Objects
objects [] = []
objects (r ∷ rows) = object_of r ∷ objects rows

-- the statement under way that holds the list of the node due, or 0 for the procedure
abbrev pub holder : Option Frame → ℕ
holder None = 0
holder (Some f) = f.node

-- the steps of the ceiling that are not yet made
abbrev pub rest_of : Sheet → State → ℕ
rest_of sheet s = sheet.ceiling - s.progress.steps

-- s is a sound state of a run of t, which has this sheet and began when its port meant start
pub record Sound (t : Table) (sheet : Sheet) (start : Meaning) (s : State) : Type 0 where
  pub not_stuck : s.progress.outcome ≢ Stuck
  pub not_short : s.progress.outcome ≢ StorageError
  -- the rows held are the objects open at the node due, no more and no fewer, each with its name and type
  pub opened : Open t (holder (top s.frames)) s.progress.at (objects (newest_first s.rows))
  pub truths : Truths (newest_first s.rows)
  pub bounded : s.progress.steps ≤ sheet.ceiling
  -- a run that is PAUSED may go for the rest of its ceiling, and then is PAUSED no more
  pub ends : is_paused s.progress.outcome ≡ true
      → (go_answer (rest_of sheet s) t s ≡ Ok tt) × (is_paused (gone (rest_of sheet s) t s).progress.outcome ≡ false)
  -- what waited has lost as many numbers as were read, from its front
  pub taken_from_the_front : (xs : List ℤ) × ((length xs ≡ s.progress.reads) × (start.waiting ≡ xs ++ s.port.waiting))
  -- what was taken has grown by as many numbers as were written, at its end
  pub added_at_the_end : (ys : List ℤ) × ((length ys ≡ s.progress.writes) × (s.port.taken ≡ start.taken ++ ys))
  pub end_error : s.progress.outcome ≡ EndError → s.port.waiting ≡ []
  pub use_error : s.progress.outcome ≡ UseError → s.port.places_left ≡ 0

-- looking alters nothing
abbrev pub after_call : Table → Call → State → State
after_call t (Go budget) s = gone budget t s
after_call t (Look r) s = s

-- after a list of calls, made from the first on
abbrev pub after_calls : Table → List Call → State → State
after_calls t [] s = s
after_calls t (c ∷ calls) s = after_calls t calls (after_call t c s)

-- the state of a run that has begun, with its frames and its port
abbrev pub starting : Begun → List Frame → Meaning → State
starting b frames port = record {
  progress = b.progress;
  rows = b.rows;
  frames = record { places = frames; held = b.frames_held };
  port = port;
}

-- What passed the check and was begun, with the rows and frames of its sheet, is sound after any calls.
abbrev pub StaysSound : Type 0
StaysSound =
    (t : Table) (w : ℕ) (sheet : Sheet) (values : List ℤ) (rows : List Row) (frames : List Frame) (port : Meaning) (b : Begun)
    → checked t w ≡ Ok sheet → begun t values rows ≡ Ok b → sheet.rows ≤ length rows → sheet.frames ≤ length frames
    → (calls : List Call) → Sound t sheet port (after_calls t calls (starting b frames port))
