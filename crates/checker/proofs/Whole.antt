-- The check passes exactly what is allowed, and refuses rightly.
use Rattle.std.proofs.Common.{◌≡◌, ℕ, ◌+◌, ◌<◌, ◌≤◌, true, false, eqb, ltb, leb, ◌⊎◌, ◌↔◌, [], length, None, Ok, Err, Option, sym, refl, ap, ◌∙◌, subst, inl, inr, arith, MatchResult}
use Rattle.std.proofs.lemmas.Bool.{ne_eqb, leb-true, leb-false, le-leb, lt-leb, le-ltb, lt-ltb, eq-eqb, not-true, not-false, not_from_false, not_from_true, cases_lt, or_left, or_right, or_from, both_ways}
use Rattle.procedure.specs.declared.refusal.Reason.{Reason}
use Rattle.procedure.specs.declared.refusal.Reason.TheVariants.{Bulky, Misshapen, Taken, Unmarked, Unknown, Mismatched, Fixed, Overlong, Cramped, Miscounted, Unfit, Short, Overdrawn, Over, Absent, Unset}
use Rattle.procedure.specs.declared.refusal.Refusal.{Refusal}
use Rattle.procedure.specs.declared.rules.Rule.{Rule}
use Rattle.procedure.specs.Form.{is_bulky, too_deep, tested}
use Rattle.procedure.specs.Formed.{Formed, Lowest, MisshapenAt, by_rule, by_depth, Deserved, bulky, misshapen}
use Rattle.procedure.specs.Level.{level}
use Rattle.procedure.specs.Rules.{broken_rule}
use Rattle.procedure.specs.Refusal.{refusal_at}
use Rattle.procedure.specs.Sequence.{Answer}
use Rattle.procedure.specs.Table.{Table, node}
use Rattle.procedure.proofs.Verdicts.{judged as form_judged, some_of}
use Rattle.checker.specs.declared.answer.Sheet.{Sheet}
use Rattle.checker.specs.Allowed.{standard, begin_region, Allowed}
use Rattle.checker.specs.Cost.{exact}
use Rattle.checker.specs.Exactly.{Passes}
use Rattle.checker.specs.Faults.{StatementsFault, FirstFault, taken_procedure, in_declarations, in_statements}
use Rattle.checker.specs.Measure.{count, declared_steps, steps, most_open, sheet_of, Limited}
use Rattle.checker.specs.Rightly.{Sized, TooLong, RightFor, RefusedRightly}
use Rattle.checker.specs.Walk.{procedure, judged, checked}
use Rattle.checker.proofs.Chains.{then, need, procedure_chain, judged_chain, checked_chain, Judges, passes, fails, judges_then, judges_need, passed, failed, Gives, gives, gives_then, need_then, given_ok, then_is, err_then, gives_is, need_is, need_not}
use Rattle.checker.proofs.Declared.{declarations-judged, declarations_given, declarations_refused}
use Rattle.checker.proofs.Reasons.{right_fault}
use Rattle.checker.proofs.Scopes.{agrees_start}
use Rattle.checker.proofs.Shapes.{first-declarations, first-statements}
use Rattle.checker.proofs.Stated.{statements-judged, statements_given, statements_refused, most_open-least}

-- The procedure, for which the walk's sheet is x, is allowed.
record Walked (t : Table) (x : Sheet) : Type 0 where
  allowed : Allowed t
  told : x ≡ sheet_of allowed
  room : x.rows ≤ 256

procedure-judged : (t : Table) → Formed t → standard.local (node t 0).name ≡ false → Judges (Walked t) (FirstFault t) (procedure exact (length t) t)
procedure-judged t w fresh =
    subst (Judges (Walked t) (FirstFault t)) (sym (procedure_chain (length t) t))
    (judges_then (declarations-judged t w 0 (length t) [] (begin_region standard) (node t 0).a (first-declarations t w) (omega arith) agrees_start)
    (λ r g. in_declarations fresh g) λ o v.
    let long : length o.declared ≡ count v.allowed = v.longer ∙ (omega arith) in
    judges_then (statements-judged t w (length t) o.declared v.inner (node t 0).b (first-statements t w) v.room v.agrees.alike)
    (λ r g. in_statements fresh v.allowed (let i = v.room in omega arith) (subst (λ n. StatementsFault t v.inner n (node t 0).b r) long g)) λ x u.
    let ceiling : 1 + o.cost + x.ceiling ≡ 1 + declared_steps v.allowed + steps u.allowed = (let oc = v.cost in let uc = u.ceiling in omega arith) in
    let rows : x.rows ≡ most_open u.allowed (count v.allowed) = u.rows ∙ ap (most_open u.allowed) long in
    passes (record {
      allowed = record { fresh = fresh; inner = v.inner; declared = v.allowed; stated = u.allowed };
      told = λ i. record { ceiling = ceiling i; rows = rows i; frames = u.frames i };
      room = u.room;
    }))

procedure_given : (t : Table) → Formed t → (p : Allowed t) → (sheet_of p).rows ≤ 256 → Gives (λ x. x ≡ sheet_of p) (procedure exact (length t) t)
procedure_given t w p room =
    subst (Gives (λ x. x ≡ sheet_of p)) (sym (procedure_chain (length t) t))
    (gives_then (declarations_given t w 0 (length t) [] (begin_region standard) (node t 0).a p.inner (first-declarations t w) agrees_start p.declared
    (let m = most_open-least p.stated (count p.declared) in omega arith)) λ o v.
    let long : length o.declared ≡ count p.declared = v.longer ∙ (omega arith) in
    gives_then (statements_given t w (length t) o.declared p.inner (node t 0).b (first-statements t w) v.agrees.alike p.stated
    (subst (λ n. most_open p.stated n ≤ 256) (sym long) room)) λ x u.
    let ceiling : 1 + o.cost + x.ceiling ≡ 1 + declared_steps p.declared + steps p.stated = (let oc = v.cost in let uc = u.ceiling in omega arith) in
    let rows : x.rows ≡ most_open p.stated (count p.declared) = u.rows ∙ ap (most_open p.stated) long in
    gives (λ i. record { ceiling = ceiling i; rows = rows i; frames = u.frames i }))

-- the names up to 16 are taken
fresh_from : (x : ℕ) → leb 17 x ≡ true → leb x 16 ≡ false
fresh_from x e = let h = leb-true 17 x e in lt-leb x 16 (omega arith)

taken_to : (x : ℕ) → leb x 16 ≡ true → leb 17 x ≡ false
taken_to x e = let h = leb-true x 16 e in lt-leb 17 x (omega arith)

taken_from : (x : ℕ) → leb 17 x ≡ false → leb x 16 ≡ true
taken_from x e = let h = leb-false 17 x e in le-leb x 16 (omega arith)

fresh_to : (x : ℕ) → leb x 16 ≡ false → leb 17 x ≡ true
fresh_to x e = let h = leb-false x 16 e in le-leb 17 x (omega arith)

-- the number of nodes
size_of : (t : Table) → is_bulky t ≡ true → (length t ≡ 0) ⊎ (1024 < length t)
size_of t e = grind (arith, e)

not_bulky : (t : Table) → Formed t → is_bulky t ≡ false
not_bulky t w =
    let s = w.some in let f : length t ≤ 1024 = w.few in
    or_from (eqb (length t) 0) (ltb 1024 (length t)) (ne_eqb (length t) 0 (λ z. omega arith)) (le-ltb 1024 (length t) f)

judges_cases : {A : Type 0} {P : A → Type 0} {F : Refusal → Type 0} (r : Answer A) → MatchResult r P F → Judges P F r
judges_cases (Ok x) h = passes h
judges_cases (Err e) h = fails h

-- a refusal that the form test gives, of a table that is not bulky
right_form : (t : Table) (w : ℕ) (e : Refusal) → is_bulky t ≡ false → 256 ≤ w → Deserved t e → RightFor e.reason t w e
right_form t w e small wide (bulky b q) = absurd (both_ways (is_bulky t) small b)
right_form t w e small wide (misshapen m q) = subst (λ r. RightFor r t w e) (sym q) (some_of t small, wide, m)

-- What the check answers is right.
checked-judged : (t : Table) (w : ℕ) → Judges (Passes t w) (RefusedRightly t w) (checked t w)
checked-judged t w =
    subst (Judges (Passes t w) (RefusedRightly t w)) (sym (checked_chain t w))
    (judges_need _ _ _ _ (λ e. (size_of t (not-false (is_bulky t) e), refl)) λ e.
    let small = not-true (is_bulky t) e in
    judges_need _ _ _ _ (λ e. (some_of t small, leb-false 256 w e, refl)) λ e.
    let wide = leb-true 256 w e in
    judges_then (judges_cases (tested t) (form_judged t)) (λ r g. right_form t w r small wide g) λ _ formed.
    judges_need _ _ _ _ (λ e. (wide, formed, taken_procedure (taken_from (node t 0).name e))) λ e.
    subst (Judges (Passes t w) (RefusedRightly t w)) (sym (judged_chain (procedure exact (length t) t)))
    (judges_then (procedure-judged t formed (fresh_from (node t 0).name e)) (λ r g. right_fault t w r wide formed g) λ x v.
    let c = ap (λ (s : Sheet). s.ceiling) v.told in
    let r = ap (λ (s : Sheet). s.rows) v.told in
    let m = v.room in
    judges_need _ _ _ _
    (λ e. let h = leb-false x.ceiling 1000000000 e in (wide, formed, record { allowed = v.allowed; few = omega arith; long = omega arith }, refl)) λ e.
    let h = leb-true x.ceiling 1000000000 e in
    passes (wide, formed, (v.allowed, record { few = omega arith; short = omega arith }, v.told))))

-- What has the form breaks no rule of it, and passes the form test.
formed_unbroken : (t : Table) → Formed t → (n : ℕ) → MisshapenAt t n → ⊥
formed_unbroken t w n (by_rule l) = let a = w.obeys n l.within in let b = l.breaks in let z : ◌≡◌ {A = ℕ} 0 1 = cc in omega arith
formed_unbroken t w n (by_depth o l) =
    let a : level t n ≤ 32 = w.shallow n l.within in
    let b = l.breaks in
    let c : too_deep t n ≡ None = rw (le-leb (level t n) 32 a) in
    let z : ◌≡◌ {A = ℕ} 0 1 = cc in omega arith

form_given : (t : Table) → Formed t → Gives (λ _. Unit {0}) (tested t)
form_given t w = go (tested t) (form_judged t)
  where
    undeserved : (e : Refusal) → Deserved t e → ⊥
    undeserved e (bulky b q) = both_ways (is_bulky t) (not_bulky t w) b
    undeserved e (misshapen m q) = formed_unbroken t w e.node m

    go : (r : Answer (Unit {0})) → MatchResult r (λ _. Formed t) (Deserved t) → Gives (λ _. Unit {0}) r
    go (Ok x) h = gives tt
    go (Err e) h = absurd (undeserved e h)

-- All that passes by the rules passes.
checked_given : (t : Table) (w : ℕ) → 256 ≤ w → Formed t → (p : Allowed t) → Limited p → Gives (λ s. s ≡ sheet_of p) (checked t w)
checked_given t w wide formed p limits =
    subst (Gives (λ s. s ≡ sheet_of p)) (sym (checked_chain t w))
    (need_then _ _ _ (not_from_false (is_bulky t) (not_bulky t formed))
    (need_then _ _ _ (le-leb 256 w wide)
    (gives_then (form_given t formed) λ _ _.
    need_then _ _ _ (fresh_to (node t 0).name p.fresh)
    (subst (Gives (λ s. s ≡ sheet_of p)) (sym (judged_chain (procedure exact (length t) t)))
    (gives_then (procedure_given t formed p limits.few) λ x told.
    let c = ap (λ (s : Sheet). s.ceiling) told in
    let h = limits.short in
    need_then _ _ _ (le-leb x.ceiling 1000000000 (omega arith)) (gives told))))))

-- after the tests on the whole table
formed_checked : (t : Table) (w : ℕ) (a : Answer Sheet) → 256 ≤ w → Formed t
    → (then (need (leb 17 (node t 0).name) Taken 0) λ _. judged (procedure exact (length t) t)) ≡ a → checked t w ≡ a
formed_checked t w a wide formed e =
    checked_chain t w
    ∙ then_is _ (need_is _ _ (not_from_false (is_bulky t) (not_bulky t formed)))
    (then_is _ (need_is _ _ (le-leb 256 w wide))
    (gives_is _ (form_given t formed) λ _ _. e))

walk_checked : (t : Table) (w : ℕ) (a : Answer Sheet) → 256 ≤ w → Formed t → standard.local (node t 0).name ≡ false
    → judged (procedure exact (length t) t) ≡ a → checked t w ≡ a
walk_checked t w a wide formed fresh e = formed_checked t w a wide formed (then_is _ (need_is _ _ (fresh_to (node t 0).name fresh)) e)

-- The first fault is told.
fault_refused : (t : Table) (w : ℕ) (r : Refusal) → 256 ≤ w → Formed t → FirstFault t r → checked t w ≡ Err r
fault_refused t w r wide formed (taken_procedure e) =
    formed_checked t w (Err r) wide formed (err_then _ (need_not _ _ (taken_to (node t 0).name e)))
fault_refused t w r wide formed (in_declarations fresh d) =
    walk_checked t w (Err r) wide formed fresh
    (judged_chain (procedure exact (length t) t)
    ∙ err_then _ (procedure_chain (length t) t
    ∙ err_then _ (declarations_refused t formed 0 (length t) [] (begin_region standard) 0 (node t 0).a r (first-declarations t formed) agrees_start refl d)))
fault_refused t w r wide formed (in_statements {Γ = Γ} fresh ds room d) =
    walk_checked t w (Err r) wide formed fresh
    (judged_chain (procedure exact (length t) t)
    ∙ err_then _ (procedure_chain (length t) t
    ∙ gives_is _ (declarations_given t formed 0 (length t) [] (begin_region standard) (node t 0).a Γ (first-declarations t formed) agrees_start ds (omega arith)) λ o v.
    err_then _ (statements_refused t formed (length t) o.declared Γ (count ds) (node t 0).b r (first-statements t formed) v.agrees.alike (v.longer ∙ (omega arith)) d)))

long_refused : (t : Table) (w : ℕ) → 256 ≤ w → Formed t → TooLong t → checked t w ≡ Err (refusal_at Overlong 0)
long_refused t w wide formed p =
    walk_checked t w (Err (refusal_at Overlong 0)) wide formed p.allowed.fresh
    (judged_chain (procedure exact (length t) t)
    ∙ gives_is _ (procedure_given t formed p.allowed p.few) λ x told.
    let c = ap (λ (s : Sheet). s.ceiling) told in
    let h = p.long in
    err_then _ (need_not _ _ (lt-leb x.ceiling 1000000000 (omega arith))))

-- a form rule is broken at one lowest node
lowest_one : (t : Table) (broken : ℕ → Option Rule) (m n : ℕ) → Lowest t broken m → Lowest t broken n → m ≡ n
lowest_one t broken m n k l = go (cases_lt m n) (cases_lt n m)
  where
    go : (m < n) ⊎ (n ≤ m) → (n < m) ⊎ (m ≤ n) → m ≡ n
    go (inl h) o = absurd (let a = l.none_lower m h in let b = k.breaks in let z : ◌≡◌ {A = ℕ} 0 1 = cc in omega arith)
    go (inr h) (inl i) = absurd (let a = k.none_lower n i in let b = l.breaks in let z : ◌≡◌ {A = ℕ} 0 1 = cc in omega arith)
    go (inr h) (inr i) = omega arith

misshapen_one : (t : Table) (m n : ℕ) → MisshapenAt t m → MisshapenAt t n → m ≡ n
misshapen_one t m n (by_rule k) (by_rule l) = lowest_one t (broken_rule t) m n k l
misshapen_one t m n (by_rule k) (by_depth o l) = absurd (let a = o m k.within in let b = k.breaks in let z : ◌≡◌ {A = ℕ} 0 1 = cc in omega arith)
misshapen_one t m n (by_depth o k) (by_rule l) = absurd (let a = o n l.within in let b = l.breaks in let z : ◌≡◌ {A = ℕ} 0 1 = cc in omega arith)
misshapen_one t m n (by_depth o k) (by_depth p l) = lowest_one t (too_deep t) m n k l

form_refused : (t : Table) (n : ℕ) → is_bulky t ≡ false → MisshapenAt t n → tested t ≡ Err (refusal_at Misshapen n)
form_refused t n small m = go (tested t) (form_judged t)
  where
    told : (e : Refusal) → Deserved t e → e ≡ refusal_at Misshapen n
    told e (bulky b q) = absurd (both_ways (is_bulky t) small b)
    told e (misshapen k q) = let p = misshapen_one t e.node n k m in λ i. record { reason = q i; node = p i }

    go : (r : Answer (Unit {0})) → MatchResult r (λ _. Formed t) (Deserved t) → r ≡ Err (refusal_at Misshapen n)
    go (Ok x) h = absurd (formed_unbroken t h n m)
    go (Err e) h = ap Err (told e h)

-- Every refusal that is right is made.
right_refused : (t : Table) (w : ℕ) (e : Refusal) → RefusedRightly t w e → checked t w ≡ Err e
right_refused t w e h = go e.reason refl h
  where
    at_zero : (reason : Reason) → e.reason ≡ reason → e.node ≡ 0 → refusal_at reason 0 ≡ e
    at_zero reason q p = λ i. record { reason = sym q i; node = sym p i }

    small : Sized t → is_bulky t ≡ false
    small s = let a = s.0 in let b : length t ≤ 1024 = s.1 in
        or_from (eqb (length t) 0) (ltb 1024 (length t)) (ne_eqb (length t) 0 (λ z. omega arith)) (le-ltb 1024 (length t) b)

    large : (length t ≡ 0) ⊎ (1024 < length t) → is_bulky t ≡ true
    large (inl z) = or_left (eqb (length t) 0) (ltb 1024 (length t)) (eq-eqb (length t) 0 z)
    large (inr l) = or_right (eqb (length t) 0) (ltb 1024 (length t)) (lt-ltb 1024 (length t) l)

    go : (reason : Reason) → e.reason ≡ reason → RightFor reason t w e → checked t w ≡ Err e
    go Bulky q h = checked_chain t w ∙ err_then _ (need_not _ _ (not_from_true (is_bulky t) (large h.0))) ∙ ap Err (at_zero Bulky q h.1)
    go Short q h =
        checked_chain t w
        ∙ then_is _ (need_is _ _ (not_from_false (is_bulky t) (small h.0))) (err_then _ (need_not _ _ (lt-leb 256 w h.1)))
        ∙ ap Err (at_zero Short q h.2)
    go Misshapen q h =
        checked_chain t w
        ∙ then_is _ (need_is _ _ (not_from_false (is_bulky t) (small h.0)))
        (then_is _ (need_is _ _ (le-leb 256 w h.1)) (err_then _ (form_refused t e.node (small h.0) h.2)))
        ∙ ap Err (λ i. record { reason = sym q i; node = e.node })
    go Taken q h = fault_refused t w e h.0 h.1 h.2
    go Unmarked q h = fault_refused t w e h.0 h.1 h.2
    go Unknown q h = fault_refused t w e h.0 h.1 h.2
    go Mismatched q h = fault_refused t w e h.0 h.1 h.2
    go Fixed q h = fault_refused t w e h.0 h.1 h.2
    go Cramped q h = fault_refused t w e h.0 h.1 h.2
    go Overlong q h = long_refused t w h.0 h.1 h.2 ∙ ap Err (at_zero Overlong q h.3)
    go Miscounted q h = absurd h
    go Unfit q h = absurd h
    go Overdrawn q h = absurd h
    go Over q h = absurd h
    go Absent q h = absurd h
    go Unset q h = absurd h

-- The check passes exactly what is allowed, and its sheet says what that takes.
pub exactly : (t : Table) (w : ℕ) (s : Sheet) → (checked t w ≡ Ok s) ↔ Passes t w s
exactly t w s = (
  (λ e. passed (subst (Judges (Passes t w) (RefusedRightly t w)) e (checked-judged t w))),
  (λ h. let g = given_ok (checked_given t w h.0 h.1 h.2.0 h.2.1) in g.2 ∙ ap Ok (g.1 ∙ sym h.2.2)),
)

-- Every refusal is right, and every right one is made.
pub rightly : (t : Table) (w : ℕ) (e : Refusal) → (checked t w ≡ Err e) ↔ RefusedRightly t w e
rightly t w e = (
  (λ q. failed (subst (Judges (Passes t w) (RefusedRightly t w)) q (checked-judged t w))),
  (λ h. right_refused t w e h),
)
