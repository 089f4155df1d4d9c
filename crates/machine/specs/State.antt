-- The state of a run, and one step of it. Assumes nothing.
use Rattle.std.specs.Prelude.{ℕ, ◌+◌, cond, length, ℤ, is_some, Some, None, Ok, Err, Option, Result, nat_lt}
use Rattle.stack.specs.Acts.{stacked, taken_off, replaced, cut}
use Rattle.stack.specs.Tables.{Table as StackTable}
use Rattle.port.specs.Meaning.{Meaning, get_answer, after_get, put_answer, after_put}
use Rattle.stack.specs.declared.Full.{Full}
use Rattle.procedure.specs.Table.{Table}
use Rattle.evaluator.specs.declared.rows.Placed.{Placed}
use Rattle.evaluator.specs.Values.{value_of_type}
use Rattle.machine.specs.declared.act.Act.{Act}
use Rattle.machine.specs.declared.act.Act.TheVariants.{Done, Pass, Declare, Assign, Get, Put, Enter, Loop, Turn, Leave}
use Rattle.machine.specs.declared.fault.Ending.{Ending}
use Rattle.machine.specs.declared.fault.StepFault.{StepFault}
use Rattle.machine.specs.declared.fault.StepFault.TheVariants.{NotBoolean, NothingWaits, NoPlace}
use Rattle.machine.specs.declared.outcome.Outcome.TheVariants.{Done as DoneO}
use Rattle.machine.specs.declared.progress.Progress.{Progress}
use Rattle.machine.specs.Decide.{Rows, Frames, Decision, placed, decided}
use Rattle.machine.specs.Outcomes.{ending_of}

-- how far the run has come, every place of its two tables with how many are held, and what its port means
pub record State : Type 0 where
  pub progress : Progress
  pub rows : Rows
  pub frames : Frames
  pub port : Meaning

-- on top, where a place is left
abbrev pub pushed : {T : Type 0} → T → StackTable T → StackTable T
pushed x s = cond (nat_lt s.held (length s.places)) (stacked x s) s

-- over the item at i, where one is held
abbrev pub rewritten : {T : Type 0} → ℕ → T → StackTable T → StackTable T
rewritten i x s = cond (nat_lt i s.held) (replaced i x s) s

-- a step was made, and the run goes on at a node
abbrev pub gone_to : ℕ → Progress → Progress
gone_to to p = record {
  outcome = p.outcome;
  cause = p.cause;
  node = p.node;
  at = to;
  steps = p.steps + 1;
  reads = p.reads;
  writes = p.writes;
}

-- a step was made, and the run is done
abbrev pub done : Progress → Progress
done p = record {
  outcome = DoneO;
  cause = p.cause;
  node = p.node;
  at = p.at;
  steps = p.steps + 1;
  reads = p.reads;
  writes = p.writes;
}

-- a step was made, and the run has failed; the node due stays
abbrev pub ended : Ending → Progress → Progress
ended e p = record {
  outcome = e.outcome;
  cause = Some e.cause;
  node = e.node;
  at = p.at;
  steps = p.steps + 1;
  reads = p.reads;
  writes = p.writes;
}

abbrev pub one_read : Progress → Progress
one_read p = record {
  outcome = p.outcome;
  cause = p.cause;
  node = p.node;
  at = p.at;
  steps = p.steps;
  reads = p.reads + 1;
  writes = p.writes;
}

abbrev pub one_written : Progress → Progress
one_written p = record {
  outcome = p.outcome;
  cause = p.cause;
  node = p.node;
  at = p.at;
  steps = p.steps;
  reads = p.reads;
  writes = p.writes + 1;
}

abbrev pub with_rows : Rows → State → State
with_rows rows s = record { progress = s.progress; rows = rows; frames = s.frames; port = s.port }

abbrev pub with_frames : Frames → State → State
with_frames frames s = record { progress = s.progress; rows = s.rows; frames = frames; port = s.port }

abbrev pub going_to : ℕ → State → State
going_to to s = record { progress = gone_to to s.progress; rows = s.rows; frames = s.frames; port = s.port }

-- A failing step counts, and alters only outcome, cause and node.
abbrev pub failing : StepFault → State → State
failing e s = record { progress = ended (ending_of e s.progress.at) s.progress; rows = s.rows; frames = s.frames; port = s.port }

-- a number was got: it has left the port and is counted, also where the row cannot hold it
abbrev pub receiving : State → State
receiving s = record { progress = one_read s.progress; rows = s.rows; frames = s.frames; port = after_get s.port }

abbrev pub sending : ℤ → State → State
sending z s = record { progress = one_written s.progress; rows = s.rows; frames = s.frames; port = after_put z s.port }

abbrev pub received : Option ℤ → Placed → ℕ → State → State
received None p to s = failing NothingWaits s
received (Some z) p to s =
    cond (is_some (value_of_type p.row.of_type z))
    (going_to to (with_rows (rewritten p.place (placed p z).row s.rows) (receiving s)))
    (failing NotBoolean (receiving s))

abbrev pub sent : Result (Unit {0}) Full → ℤ → ℕ → State → State
sent (Ok u) z to s = going_to to (sending z s)
sent (Err e) z to s = failing NoPlace s

-- how a step concludes: the run goes on at a node, is done, or has failed
abbrev pub concluding : Result (Option ℕ) StepFault → Progress → Progress
concluding (Ok (Some to)) p = gone_to to p
concluding (Ok None) p = done p
concluding (Err e) p = ended (ending_of e p.at) p

abbrev pub concluded : Result (Option ℕ) StepFault → State → State
concluded r s = record { progress = concluding r s.progress; rows = s.rows; frames = s.frames; port = s.port }

-- what an act makes of the state
abbrev pub acted : Act → State → State
acted Done s = record { progress = done s.progress; rows = s.rows; frames = s.frames; port = s.port }
acted (Pass to) s = going_to to s
acted (Declare r to) s = going_to to (with_rows (pushed r s.rows) s)
acted (Assign p to) s = going_to to (with_rows (rewritten p.place p.row s.rows) s)
acted (Get p to) s = received (get_answer s.port) p to s
acted (Put z to) s = sent (put_answer s.port) z to s
acted (Enter f to) s = going_to to (with_frames (pushed f s.frames) s)
acted (Loop f r to) s = going_to to (with_frames (pushed f s.frames) (with_rows (pushed r s.rows) s))
acted (Turn p to) s = going_to to (with_rows (cut (p.place + 1) (rewritten p.place p.row s.rows)) s)
acted (Leave n to) s = going_to to (with_frames (taken_off s.frames) (with_rows (cut n s.rows) s))

abbrev pub carried_out : Decision → State → State
carried_out (Ok act) s = acted act s
carried_out (Err e) s = failing e s

-- One step.
abbrev pub stepped : Table → State → State
stepped t s = carried_out (decided t s.rows s.frames s.progress.at) s
