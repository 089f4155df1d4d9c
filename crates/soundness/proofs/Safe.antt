-- A state of a run that runs well, and that a step, a go and any calls lead to another.
use Rattle.std.proofs.Common.{◌≡◌, ℕ, zero, suc, ◌+◌, ◌≤◌, Bool, true, false, List, [], ◌∷◌, ◌++◌, length, ℤ, is_some, Some, Ok, Err, sym, refl, ap, ◌∙◌, subst, append_assoc, arith, length-append}
use Rattle.stack.specs.Acts.{cut, taken_off}
use Rattle.port.specs.Meaning.{Meaning, first, rest, accepted, added, one_less}
use Rattle.procedure.specs.Formed.{Formed}
use Rattle.procedure.specs.Sequence.{Answer}
use Rattle.procedure.specs.Table.{Table}
use Rattle.evaluator.specs.declared.rows.Placed.{Placed}
use Rattle.evaluator.specs.declared.rows.Row.{Row}
use Rattle.evaluator.specs.Rows.{topmost}
use Rattle.evaluator.specs.Values.{value_of_type}
use Rattle.machine.specs.declared.frame.Frame.{Frame}
use Rattle.machine.specs.declared.outcome.Outcome.{Outcome}
use Rattle.machine.specs.declared.outcome.Outcome.TheVariants.{Paused, Done, NumericError, ConstraintError, EndError, UseError, Stuck, StorageError}
use Rattle.machine.specs.Decide.{Rows, Frames, Decision, row_with}
use Rattle.machine.specs.Go.{advanced, going, go_answer, after}
use Rattle.machine.specs.Outcomes.{is_paused}
use Rattle.machine.specs.State.{State, pushed, rewritten, gone_to, carried_out, received, sent, stepped}
use Rattle.checker.specs.declared.answer.Sheet.{Sheet}
use Rattle.soundness.specs.declared.call.Call.{Call}
use Rattle.soundness.specs.declared.call.Call.TheVariants.{Go, Look}
use Rattle.soundness.specs.Sound.{after_call, after_calls}
use Rattle.soundness.proofs.Keep.{Live, Kept, faulting, finishing, passing, opening, assigning, getting, putting, entering, looping, turning, leaving, keep}
use Rattle.soundness.proofs.Rows.{assign, written}
use Rattle.soundness.proofs.Tables.{Holds, holds_push, holds_off, holds_cut, holds_write, holds_turn}

-- the outcomes that a sound run ends with
abbrev pub is_fair : Outcome → Bool
is_fair Paused = false
is_fair Done = true
is_fair NumericError = true
is_fair ConstraintError = true
is_fair EndError = true
is_fair UseError = true
is_fair Stuck = false
is_fair StorageError = false

pub fair_over : (o : Outcome) → is_fair o ≡ true → is_paused o ≡ false
fair_over Paused e = sym e
fair_over Done e = refl
fair_over NumericError e = refl
fair_over ConstraintError e = refl
fair_over EndError e = refl
fair_over UseError e = refl
fair_over Stuck e = refl
fair_over StorageError e = refl

-- what the port has lost and gained since the run began
pub record Counted (start : Meaning) (reads writes : ℕ) (port : Meaning) : Type 0 where
  pub got : List ℤ
  pub got_read : length got ≡ reads
  pub lost : start.waiting ≡ got ++ port.waiting
  pub put : List ℤ
  pub put_written : length put ≡ writes
  pub gained : port.taken ≡ start.taken ++ put

pub data Course (ceiling left steps : ℕ) (o : Outcome) (port : Meaning) : Type 0 where
  on_way : o ≡ Paused → steps + left ≤ ceiling → Course ceiling left steps o port
  over : is_fair o ≡ true → steps ≤ ceiling → (o ≡ EndError → port.waiting ≡ []) → (o ≡ UseError → port.places_left ≡ 0) → Course ceiling left steps o port

pub record Safe (t : Table) (sheet : Sheet) (start : Meaning) (s : State) : Type 0 where
  pub rs : List Row
  pub fs : List Frame
  pub left : ℕ
  pub rows_hold : Holds sheet.rows s.rows rs
  pub frames_hold : Holds sheet.frames s.frames fs
  pub live : Live t sheet.rows sheet.frames rs fs s.progress.at left
  pub course : Course sheet.ceiling left s.progress.steps s.progress.outcome s.port
  pub counted : Counted start s.progress.reads s.progress.writes s.port

-- the run has gone on
went : {t : Table} {sheet : Sheet} {start : Meaning} {rs : List Row} {fs : List Frame} (s : State) (rows : Rows) (frames : Frames) (to m m' : ℕ) → s.progress.outcome ≡ Paused
    → s.progress.steps + m ≤ sheet.ceiling → Counted start s.progress.reads s.progress.writes s.port → Holds sheet.rows rows rs → Holds sheet.frames frames fs
    → Live t sheet.rows sheet.frames rs fs to m' → suc m' ≤ m → Safe t sheet start (record { progress = gone_to to s.progress; rows = rows; frames = frames; port = s.port })
went {rs = rs} {fs} s rows frames to m m' p l c hr hf a h =
    record { rs = rs; fs = fs; left = m'; rows_hold = hr; frames_hold = hf; live = a; course = on_way p (omega arith); counted = c }

holds_assign : {R : ℕ} {rs : List Row} (rows : Rows) (x : ℕ) (z : ℤ) (p : Placed) → topmost x rs ≡ Some p → Holds R rows rs → Holds R (rewritten p.place (row_with p.row z) rows) (assign x z rs)
holds_assign {R} {rs} rows x z p e h =
    let w = written x z rs p e in
    subst (λ l. Holds R (rewritten p.place (row_with p.row z) rows) l) w.same (holds_write p.place (row_with p.row z) w.within h)

one_got : {start : Meaning} {reads writes : ℕ} {port : Meaning} (z : ℤ) (ws : List ℤ) → port.waiting ≡ z ∷ ws → Counted start reads writes port
    → Counted start (reads + 1) writes (record { waiting = rest port.waiting; taken = port.taken; places_left = port.places_left })
one_got {start} {port = port} z ws e c =
    let a : length (c.got ++ z ∷ []) ≡ length c.got + 1 = length-append c.got (z ∷ []) in
    let b = c.got_read in
    let f : c.got ++ port.waiting ≡ (c.got ++ z ∷ []) ++ rest port.waiting =
    ap (λ l. c.got ++ l) e ∙ sym (append_assoc c.got (z ∷ []) ws) ∙ ap (λ l. (c.got ++ z ∷ []) ++ rest l) (sym e) in
    record { got = c.got ++ z ∷ []; got_read = omega arith; lost = c.lost ∙ f; put = c.put; put_written = c.put_written; gained = c.gained }

one_put : {start : Meaning} {reads writes : ℕ} {port : Meaning} (z : ℤ) (n : ℕ) → port.places_left ≡ suc n → Counted start reads writes port
    → Counted start reads (writes + 1) (record { waiting = port.waiting; taken = added port.places_left z port.taken; places_left = one_less port.places_left })
one_put {start} {port = port} z n e c =
    let a : length (c.put ++ z ∷ []) ≡ length c.put + 1 = length-append c.put (z ∷ []) in
    let b = c.put_written in
    record {
      got = c.got;
      got_read = c.got_read;
      lost = c.lost;
      put = c.put ++ z ∷ [];
      put_written = omega arith;
      gained = ap (λ k. added k z port.taken) e ∙ ap (λ l. l ++ z ∷ []) c.gained ∙ append_assoc start.taken c.put (z ∷ []);
    }

module _ {t : Table} {sheet : Sheet} {start : Meaning} where
  -- a number for the topmost row of a name
  received_safe : {rs : List Row} {fs : List Frame} (s : State) (p : Placed) (to x m m' : ℕ) (ws : List ℤ) → s.port.waiting ≡ ws → s.progress.outcome ≡ Paused
      → s.progress.steps + m ≤ sheet.ceiling → Counted start s.progress.reads s.progress.writes s.port → Holds sheet.rows s.rows rs → Holds sheet.frames s.frames fs
      → Live t sheet.rows sheet.frames rs fs s.progress.at m → topmost x rs ≡ Some p
      → ((z : ℤ) → is_some (value_of_type p.row.of_type z) ≡ true → Live t sheet.rows sheet.frames (assign x z rs) fs to m') → suc m' ≤ m
      → Safe t sheet start (received (first ws) p to s)
  received_safe {rs} {fs} s p to x m m' [] w o l c hr hf a e k h =
      record {
        rs = rs;
        fs = fs;
        left = m;
        rows_hold = hr;
        frames_hold = hf;
        live = a;
        counted = c;
        course = over refl (omega arith) (λ _. w) (λ i. absurd (let z : ◌≡◌ {A = ℕ} 0 1 = cc in omega arith));
      }
  received_safe {rs} {fs} s p to x m m' (z ∷ ws) w o l c hr hf a e k h = go (is_some (value_of_type p.row.of_type z)) refl
    where
      go : (b : Bool) → is_some (value_of_type p.row.of_type z) ≡ b → Safe t sheet start (received (Some z) p to s)
      go true i = rw i (record {
        rs = assign x z rs;
        fs = fs;
        left = m';
        rows_hold = holds_assign s.rows x z p e hr;
        frames_hold = hf;
        live = k z i;
        course = on_way o (omega arith);
        counted = one_got z ws w c;
      })
      go false i = rw i (record {
        rs = rs;
        fs = fs;
        left = m;
        rows_hold = hr;
        frames_hold = hf;
        live = a;
        counted = one_got z ws w c;
        course = over refl (omega arith) (λ j. absurd (let z : ◌≡◌ {A = ℕ} 0 1 = cc in omega arith)) (λ j. absurd (let z : ◌≡◌ {A = ℕ} 0 1 = cc in omega arith));
      })

  sent_safe : {rs : List Row} {fs : List Frame} (s : State) (z : ℤ) (to m m' n : ℕ) → s.port.places_left ≡ n → s.progress.outcome ≡ Paused
      → s.progress.steps + m ≤ sheet.ceiling → Counted start s.progress.reads s.progress.writes s.port → Holds sheet.rows s.rows rs → Holds sheet.frames s.frames fs
      → Live t sheet.rows sheet.frames rs fs s.progress.at m → Live t sheet.rows sheet.frames rs fs to m' → suc m' ≤ m → Safe t sheet start (sent (accepted n) z to s)
  sent_safe {rs} {fs} s z to m m' zero w o l c hr hf a k h =
      record {
        rs = rs;
        fs = fs;
        left = m;
        rows_hold = hr;
        frames_hold = hf;
        live = a;
        counted = c;
        course = over refl (omega arith) (λ i. absurd (let z : ◌≡◌ {A = ℕ} 0 1 = cc in omega arith)) (λ _. w);
      }
  sent_safe {rs} {fs} s z to m m' (suc n) w o l c hr hf a k h =
      record { rs = rs; fs = fs; left = m'; rows_hold = hr; frames_hold = hf; live = k; course = on_way o (omega arith); counted = one_put z n w c }

  carried_safe : {rs : List Row} {fs : List Frame} {d : Decision} (s : State) (m : ℕ) → s.progress.outcome ≡ Paused
      → s.progress.steps + m ≤ sheet.ceiling → Counted start s.progress.reads s.progress.writes s.port → Holds sheet.rows s.rows rs → Holds sheet.frames s.frames fs
      → Live t sheet.rows sheet.frames rs fs s.progress.at m → Kept t sheet.rows sheet.frames m rs fs d → Safe t sheet start (carried_out d s)
  carried_safe {rs} {fs} s m o l c hr hf a (faulting h) =
      record {
        rs = rs;
        fs = fs;
        left = m;
        rows_hold = hr;
        frames_hold = hf;
        live = a;
        counted = c;
        course = over refl (omega arith) (λ i. absurd (let z : ◌≡◌ {A = ℕ} 0 1 = cc in omega arith)) (λ i. absurd (let z : ◌≡◌ {A = ℕ} 0 1 = cc in omega arith));
      }
  carried_safe {rs} {fs} s m o l c hr hf a (finishing h) =
      record {
        rs = rs;
        fs = fs;
        left = m;
        rows_hold = hr;
        frames_hold = hf;
        live = a;
        counted = c;
        course = over refl (omega arith) (λ i. absurd (let z : ◌≡◌ {A = ℕ} 0 1 = cc in omega arith)) (λ i. absurd (let z : ◌≡◌ {A = ℕ} 0 1 = cc in omega arith));
      }
  carried_safe s m o l c hr hf a (passing {to} m' k h) = went s s.rows s.frames to m m' o l c hr hf k h
  carried_safe s m o l c hr hf a (opening {r} {to} m' v k h) = went s (pushed r s.rows) s.frames to m m' o l c (holds_push r v hr) hf k h
  carried_safe s m o l c hr hf a (assigning {p} {to} x z m' e k h) =
      went s (rewritten p.place (row_with p.row z) s.rows) s.frames to m m' o l c (holds_assign s.rows x z p e hr) hf k h
  carried_safe s m o l c hr hf a (getting {p} {to} x m' e k h) = received_safe s p to x m m' s.port.waiting refl o l c hr hf a e k h
  carried_safe s m o l c hr hf a (putting {z} {to} m' k h) = sent_safe s z to m m' s.port.places_left refl o l c hr hf a k h
  carried_safe s m o l c hr hf a (entering {f} {to} m' v k h) = went s s.rows (pushed f s.frames) to m m' o l c hr (holds_push f v hf) k h
  carried_safe s m o l c hr hf a (looping {f} {r} {to} m' v w k h) = went s (pushed r s.rows) (pushed f s.frames) to m m' o l c (holds_push r w hr) (holds_push f v hf) k h
  carried_safe s m o l c hr hf a (turning {p} {to} r rest m' e i k h) =
      let turned : Holds sheet.rows (cut (length rest + 1) (rewritten (length rest) p.row s.rows)) (p.row ∷ rest) =
      holds_turn p.row (subst (λ x. Holds sheet.rows s.rows x) e hr) in
      went s (cut (p.place + 1) (rewritten p.place p.row s.rows)) s.frames to m m' o l c
      (subst (λ n. Holds sheet.rows (cut (n + 1) (rewritten n p.row s.rows)) (p.row ∷ rest)) (sym i) turned) hf k h
  carried_safe s m o l c hr hf a (leaving {n} {to} rest f fs' m' e b i k h) =
      went s (cut n s.rows) (taken_off s.frames) to m m' o l c (subst (λ j. Holds sheet.rows (cut j s.rows) rest) (sym i) (holds_cut b hr))
      (holds_off (subst (λ x. Holds sheet.frames s.frames x) e hf)) k h

  -- one step
  stepped_safe : (s : State) → Formed t → (a : Safe t sheet start s) → s.progress.outcome ≡ Paused → s.progress.steps + a.left ≤ sheet.ceiling → Safe t sheet start (stepped t s)
  stepped_safe s w a p l =
      carried_safe s a.left p l a.counted a.rows_hold a.frames_hold a.live (keep s.rows s.frames s.progress.at w a.rows_hold a.frames_hold a.live)

  advanced_safe : (s : State) → Formed t → Safe t sheet start s → Safe t sheet start (advanced t s)
  advanced_safe s w a = go a.course
    where
      go : Course sheet.ceiling a.left s.progress.steps s.progress.outcome s.port → Safe t sheet start (advanced t s)
      go (on_way p l) = rw (ap is_paused p) (stepped_safe s w a p l)
      go (over f l h k) = rw (fair_over s.progress.outcome f) a

  pub going_safe : (n : ℕ) (s : State) → Formed t → Safe t sheet start s → Safe t sheet start (going n t s)
  unfolding going
  going_safe zero s w a = a
  going_safe (suc n) s w a = advanced_safe (going n t s) w (going_safe n s w a)

  after_safe : (r : Answer (Unit {0})) (x y : State) → Safe t sheet start x → Safe t sheet start y → Safe t sheet start (after r x y)
  after_safe (Ok u) x y a b = a
  after_safe (Err e) x y a b = b

  call_safe : (c : Call) (s : State) → Formed t → Safe t sheet start s → Safe t sheet start (after_call t c s)
  call_safe (Go n) s w a = after_safe (go_answer n t s) (going n t s) s (going_safe n s w a) a
  call_safe (Look r) s w a = a

  pub calls_safe : (calls : List Call) (s : State) → Formed t → Safe t sheet start s → Safe t sheet start (after_calls t calls s)
  calls_safe [] s w a = a
  calls_safe (c ∷ calls) s w a = calls_safe calls (after_call t c s) w (call_safe c s w a)
