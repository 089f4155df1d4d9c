-- A go for the rest of the ceiling is taken and ends the run; a safe state is sound.
use Rattle.std.proofs.Common.{◌≡◌, ℕ, zero, suc, ◌+◌, ◌<◌, ◌≤◌, Bool, true, false, cond, ◌&&◌, leb, ◌≢◌, List, [], ◌∷◌, length, ℤ, is_some, Some, None, Ok, Err, Option, Result, sym, refl, ap, ◌∙◌, subst, subst₂, arith}
use Rattle.std.proofs.lemmas.Bool.{le-leb, and_from, true≢false}
use Rattle.stack.specs.Acts.{top}
use Rattle.port.specs.Meaning.{Meaning, get_answer, put_answer}
use Rattle.stack.specs.declared.Full.{Full}
use Rattle.procedure.specs.Form.{is_bulky}
use Rattle.procedure.specs.Formed.{Formed}
use Rattle.procedure.specs.Table.{Table}
use Rattle.evaluator.specs.declared.rows.Placed.{Placed}
use Rattle.evaluator.specs.Values.{value_of_type}
use Rattle.machine.specs.declared.act.Act.TheVariants.{Done as DoneA, Pass, Declare, Assign, Get, Put, Enter, Loop, Turn, Leave}
use Rattle.machine.specs.declared.frame.Frame.{Frame}
use Rattle.machine.specs.declared.outcome.Outcome.{Outcome}
use Rattle.machine.specs.declared.outcome.Outcome.TheVariants.{EndError, UseError, Stuck, StorageError}
use Rattle.machine.specs.Decide.{Frames, Decision, decided}
use Rattle.machine.specs.Go.{going, go_answer, gone}
use Rattle.machine.specs.Outcomes.{is_paused}
use Rattle.machine.specs.State.{State, carried_out, received, sent, stepped}
use Rattle.checker.specs.declared.answer.Sheet.{Sheet}
use Rattle.soundness.specs.Evaluation.{Truths}
use Rattle.soundness.specs.Open.{Open}
use Rattle.soundness.specs.Sound.{objects, holder, rest_of, Sound}
use Rattle.soundness.proofs.Keep.{live_open, live_truths, live_left}
use Rattle.soundness.proofs.Safe.{is_fair, fair_over, Course, on_way, over, Safe, going_safe}
use Rattle.soundness.proofs.Stack.{holder_of}
use Rattle.soundness.proofs.Tables.{Holds, top-some, top-none}

-- every step is counted
received-steps : (o : Option ℤ) (p : Placed) (to : ℕ) (s : State) → (received o p to s).progress.steps ≡ s.progress.steps + 1
received-steps None p to s = refl
received-steps (Some z) p to s = go (is_some (value_of_type p.row.of_type z)) refl
  where
    go : (b : Bool) → is_some (value_of_type p.row.of_type z) ≡ b → (received (Some z) p to s).progress.steps ≡ s.progress.steps + 1
    go true e = rw e
    go false e = rw e

sent-steps : (a : Result (Unit {0}) Full) (z : ℤ) (to : ℕ) (s : State) → (sent a z to s).progress.steps ≡ s.progress.steps + 1
sent-steps (Ok u) z to s = refl
sent-steps (Err e) z to s = refl

carried_steps : (d : Decision) (s : State) → (carried_out d s).progress.steps ≡ s.progress.steps + 1
carried_steps (Err e) s = refl
carried_steps (Ok DoneA) s = refl
carried_steps (Ok (Pass to)) s = refl
carried_steps (Ok (Declare r to)) s = refl
carried_steps (Ok (Assign p to)) s = refl
carried_steps (Ok (Get p to)) s = received-steps (get_answer s.port) p to s
carried_steps (Ok (Put z to)) s = sent-steps (put_answer s.port) z to s
carried_steps (Ok (Enter f to)) s = refl
carried_steps (Ok (Loop f r to)) s = refl
carried_steps (Ok (Turn p to)) s = refl
carried_steps (Ok (Leave n to)) s = refl

going_steps : (n : ℕ) (t : Table) (s : State) → is_paused (going n t s).progress.outcome ≡ true → (going n t s).progress.steps ≡ s.progress.steps + n
unfolding going
going_steps zero t s h = omega arith
going_steps (suc n) t s h = go (is_paused (going n t s).progress.outcome) refl h (going_steps n t s)
  where
    go : (b : Bool) → is_paused (going n t s).progress.outcome ≡ b → is_paused (cond b (stepped t (going n t s)) (going n t s)).progress.outcome ≡ true
        → (is_paused (going n t s).progress.outcome ≡ true → (going n t s).progress.steps ≡ s.progress.steps + n)
        → (cond b (stepped t (going n t s)) (going n t s)).progress.steps ≡ s.progress.steps + suc n
    go true e i ih =
        let a = ih e in
        let c = carried_steps (decided t (going n t s).rows (going n t s).frames (going n t s).progress.at) (going n t s) in
        omega arith
    go false e i ih = absurd (true≢false (sym i ∙ e))

holder-top : {F : ℕ} (frames : Frames) (fs : List Frame) → Holds F frames fs → holder (top frames) ≡ holder_of fs
holder-top frames [] h = ap holder (top-none h)
holder-top frames (f ∷ fs) h = ap holder (top-some h)

module _ {t : Table} {sheet : Sheet} {start : Meaning} where
  bound : {s : State} → Safe t sheet start s → s.progress.steps ≤ sheet.ceiling
  bound {s} a = go a.course
    where
      go : Course sheet.ceiling a.left s.progress.steps s.progress.outcome s.port → s.progress.steps ≤ sheet.ceiling
      go (on_way p l) = omega arith
      go (over f l h k) = l

  -- a run that is still PAUSED has a step left
  paused_below : {s : State} → Safe t sheet start s → is_paused s.progress.outcome ≡ true → s.progress.steps < sheet.ceiling
  paused_below {s} a e = go a.course
    where
      go : Course sheet.ceiling a.left s.progress.steps s.progress.outcome s.port → s.progress.steps < sheet.ceiling
      go (on_way p l) = let h = live_left a.live in omega arith
      go (over f l h k) = absurd (true≢false (sym e ∙ fair_over s.progress.outcome f))

  rest-ends : (s : State) → Formed t → Safe t sheet start s → is_paused (going (rest_of sheet s) t s).progress.outcome ≡ false
  rest-ends s w a = go (is_paused (going (rest_of sheet s) t s).progress.outcome) refl
    where
      go : (b : Bool) → is_paused (going (rest_of sheet s) t s).progress.outcome ≡ b → b ≡ false
      go true e =
          let i = going_steps (rest_of sheet s) t s e in
          let j = paused_below (going_safe (rest_of sheet s) s w a) e in
          let k = bound a in
          absurd (omega arith)
      go false e = refl

  rest-taken : (s : State) → is_bulky t ≡ false → sheet.ceiling ≤ 1000000000 → Safe t sheet start s → is_paused s.progress.outcome ≡ true → go_answer (rest_of sheet s) t s ≡ Ok tt
  rest-taken s b l a p =
      let k = bound a in
      let e : leb (rest_of sheet s + s.progress.steps) 1000000000 ≡ true = le-leb _ _ (omega arith) in
      let h : (leb s.rows.held (length s.rows.places) && leb s.frames.held (length s.frames.places)) ≡ true =
      and_from _ _ (le-leb _ _ a.rows_hold.within) (le-leb _ _ a.frames_hold.within) in
      rw (b, p, e, h)

  ends : (s : State) → Formed t → is_bulky t ≡ false → sheet.ceiling ≤ 1000000000 → Safe t sheet start s → is_paused s.progress.outcome ≡ true
      → (go_answer (rest_of sheet s) t s ≡ Ok tt) × (is_paused (gone (rest_of sheet s) t s).progress.outcome ≡ false)
  ends s w b l a p = let e = rest-taken s b l a p in (e, rw e (rest-ends s w a))

  fair : {s : State} (o : Outcome) → Safe t sheet start s → is_fair o ≡ false → is_paused o ≡ false → s.progress.outcome ≢ o
  fair {s} o a f p e = go a.course
    where
      go : Course sheet.ceiling a.left s.progress.steps s.progress.outcome s.port → ⊥
      go (on_way q l) = absurd (true≢false (sym (ap is_paused (sym e ∙ q)) ∙ p))
      go (over g l h k) = absurd (true≢false (sym g ∙ ap is_fair e ∙ f))

  end_error : {s : State} → Safe t sheet start s → s.progress.outcome ≡ EndError → s.port.waiting ≡ []
  end_error {s} a e = go a.course
    where
      go : Course sheet.ceiling a.left s.progress.steps s.progress.outcome s.port → s.port.waiting ≡ []
      go (on_way q l) = absurd (true≢false (sym (ap is_paused (sym e ∙ q))))
      go (over g l h k) = h e

  use_error : {s : State} → Safe t sheet start s → s.progress.outcome ≡ UseError → s.port.places_left ≡ 0
  use_error {s} a e = go a.course
    where
      go : Course sheet.ceiling a.left s.progress.steps s.progress.outcome s.port → s.port.places_left ≡ 0
      go (on_way q l) = absurd (true≢false (sym (ap is_paused (sym e ∙ q))))
      go (over g l h k) = k e

  pub safe_sound : (s : State) → Formed t → is_bulky t ≡ false → sheet.ceiling ≤ 1000000000 → Safe t sheet start s → Sound t sheet start s
  safe_sound s w b l a =
      let c = a.counted in
      record {
        not_stuck = fair Stuck a refl refl;
        not_short = fair StorageError a refl refl;
        opened = subst₂ (λ h rows. Open t h s.progress.at (objects rows)) (sym (holder-top s.frames a.fs a.frames_hold)) (sym a.rows_hold.is) (live_open a.live);
        truths = subst Truths (sym a.rows_hold.is) (live_truths a.live);
        bounded = bound a;
        ends = ends s w b l a;
        taken_from_the_front = (c.got, (c.got_read, c.lost));
        added_at_the_end = (c.put, (c.put_written, c.gained));
        end_error = end_error a;
        use_error = use_error a;
      }
