-- Checking a procedure, beginning it, and making a list of calls on it. Assumes nothing.
use Rattle.std.specs.Prelude.{◌≡◌, ℕ, ◌&&◌, List, [], ◌∷◌, ◌++◌, length, take, drop, ℤ, Ok, Err, nat_le}
use Rattle.std.specs.Option.{ok_or}
use Rattle.stack.specs.Acts.{item}
use Rattle.port.specs.Meaning.{Meaning}
use Rattle.procedure.specs.declared.refusal.Reason.TheVariants.{Absent, Short}
use Rattle.procedure.specs.Sequence.{Answer, and_then, want}
use Rattle.procedure.specs.Table.{Table}
use Rattle.evaluator.specs.declared.rows.Row.{Row}
use Rattle.machine.specs.declared.frame.Frame.{Frame}
use Rattle.machine.specs.Begin.{Begun, begun}
use Rattle.machine.specs.Decide.{Rows}
use Rattle.machine.specs.Go.{state_of, go_answer, gone}
use Rattle.machine.specs.State.{State}
use Rattle.checker.specs.declared.answer.Sheet.{Sheet}
use Rattle.checker.specs.Walk.{checked}
use Rattle.soundness.specs.declared.call.Call.{Call}
use Rattle.soundness.specs.declared.call.Call.TheVariants.{Go, Look}
use Rattle.soundness.specs.Sound.{after_call, after_calls, starting, Sound}
use Rattle.service.specs.declared.reply.Done.{Done}
use Rattle.service.specs.declared.reply.Done.TheVariants.{Went, Saw}
use Rattle.service.specs.declared.serve.Served.{Served as ServedT}

-- the row of a number, where one is held and given
abbrev pub looked : ℕ → Rows → Answer Row
looked r rows = ok_or (item r rows) (record { reason = Absent; node = 0 })

-- what a call did, or why it was not taken
abbrev pub Reply : Type 0
Reply = Answer Done

-- what a run shows after a go
abbrev pub shown_after : State → Done
shown_after s = Went (record { progress = s.progress; rows = s.rows.held; frames = s.frames.held })

-- what a call answers
abbrev pub reply_to : Table → Call → State → Reply
reply_to t (Go budget) s = and_then (go_answer budget t s) λ _. Ok (shown_after (gone budget t s))
reply_to t (Look r) s = and_then (looked r s.rows) λ row. Ok (Saw row)

-- what each of a list of calls answers, made from the first on
abbrev pub replies_to : Table → List Call → State → List Reply
replies_to t [] s = []
replies_to t (c ∷ calls) s = reply_to t c s ∷ replies_to t calls (after_call t c s)

-- the sheet, the state in the end, and every place for replies: those above the calls' are left as they are
pub record Service : Type 0 where
  pub sheet : Sheet
  pub state : State
  pub replies : List Reply

-- the tables have the rows and frames of the sheet, and a place for each call's reply
abbrev pub room_for : Sheet → ℕ → ℕ → ℕ → ℕ → Answer (Unit {0})
room_for sheet rows frames calls replies =
    want (nat_le sheet.rows rows && (nat_le sheet.frames frames && nat_le calls replies)) Short 0

-- The whole service, with a working table of w places.
abbrev pub served : Table → ℕ → List ℤ → List Row → List Frame → Meaning → List Call → List Reply → Answer Service
served t w values rows frames port calls replies =
    and_then (checked t w) λ sheet.
    and_then (room_for sheet (length rows) (length frames) (length calls) (length replies)) λ _.
    and_then (begun t values rows) λ b.
    Ok (record {
      sheet = sheet;
      state = after_calls t calls (starting b frames port);
      replies = replies_to t calls (starting b frames port) ++ drop (length calls) replies;
    })

-- what was answered, with the tables, the port and the replies after it
abbrev pub with_tables : Answer ServedT → List Row → List Frame → Meaning → List Reply → Answer Service
with_tables (Ok r) rows frames port replies = Ok (record { sheet = r.sheet; state = state_of r.run rows frames port; replies = replies })
with_tables (Err e) rows frames port replies = Err e

-- Before the first call and after each, the run is sound.
abbrev pub SoundThroughout : Table → List ℤ → List Row → List Frame → Meaning → List Call → Sheet → Type 0
SoundThroughout t values rows frames port calls sheet =
    (b : Begun) → begun t values rows ≡ Ok b → (k : ℕ) → Sound t sheet port (after_calls t (take k calls) (starting b frames port))
