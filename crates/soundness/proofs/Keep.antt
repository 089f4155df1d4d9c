-- A step from a place that runs well leads to another, with less to do, or ends the run.
use Rattle.std.proofs.Common.{◌≡◌, ℕ, zero, suc, ◌+◌, ◌*◌, ◌<◌, ◌≤◌, Bool, true, false, cond, not, ◌&&◌, eqb, List, [], ◌∷◌, length, ℤ, pos, ◌+ℤ◌, is_some, Some, None, Ok, Err, Option, Result, sym, refl, ap, ◌∙◌, subst, arith}
use lib.Signed.{le_z, lt_z}
use Rattle.std.proofs.lemmas.Bool.{le-leb, and_from, not_from_false, cond-false, ne_eqb}
use Rattle.std.specs.Result.{result_map_both}
use Rattle.stack.specs.Acts.{top}
use Rattle.stack.specs.Tables.{newest_first}
use Rattle.integer.specs.declared.fault.ArithmeticFault.{ArithmeticFault}
use Rattle.procedure.specs.declared.kind.DeclarationKind.{DeclarationKind}
use Rattle.procedure.specs.declared.kind.DeclarationKind.TheVariants.{Parameter, Variable, Constant}
use Rattle.procedure.specs.declared.kind.StatementKind.{StatementKind}
use Rattle.procedure.specs.declared.kind.StatementKind.TheVariants.{Null, Assignment, If, For, Block, Get, Put}
use Rattle.procedure.specs.declared.table.Standing.TheVariants.{Declaration, Statement}
use Rattle.procedure.specs.declared.types.«Type».{«Type» as TypeT}
use Rattle.procedure.specs.declared.types.«Type».TheVariants.{Integer as IntegerT, Boolean as BooleanT}
use Rattle.procedure.specs.Formed.{Formed}
use Rattle.procedure.specs.Sequence.{and_then, unless_fails}
use Rattle.procedure.specs.Table.{Table, node, standing}
use Rattle.evaluator.specs.declared.fault.ExpressionFault.TheVariants.{Arithmetic}
use Rattle.evaluator.specs.declared.rows.Placed.{Placed}
use Rattle.evaluator.specs.declared.rows.Row.{Row}
use Rattle.evaluator.specs.declared.value.Value.{Value}
use Rattle.evaluator.specs.declared.value.Value.TheVariants.{Integer, Boolean}
use Rattle.evaluator.specs.Evaluate.{root_value}
use Rattle.evaluator.specs.Operators.{Evaluation}
use Rattle.evaluator.specs.Rows.{topmost}
use Rattle.evaluator.specs.Values.{number_of, type_of_value, is_of, value_of_type}
use Rattle.machine.specs.declared.act.Act.TheVariants.{Done, Pass, Declare, Assign, Get as GetA, Put as PutA, Enter, Loop, Turn, Leave}
use Rattle.machine.specs.declared.fault.StepFault.{StepFault}
use Rattle.machine.specs.declared.fault.StepFault.TheVariants.{Expression as ExpressionF, FramesFull, RowsFull}
use Rattle.machine.specs.declared.frame.Frame.{Frame}
use Rattle.machine.specs.Decide.{Rows, Frames, Decision, enters, has_room, declares, value_at, row_with, frame_at, behind_last, behind, mark_of, declaration, placed, branch, decided, list_end}
use Rattle.checker.specs.declared.names.Declaration.{Declaration as DeclarationT}
use Rattle.checker.specs.declared.names.Meaning.TheVariants.{Object}
use Rattle.checker.specs.Cost.{above, turns_of}
use Rattle.checker.specs.Names.{means}
use Rattle.checker.specs.Region.{Environment}
use Rattle.checker.specs.Typing.{typed}
use Rattle.checker.specs.Walk.{is_constant, declaration_cost}
use Rattle.soundness.specs.Evaluation.{declarations_of, Truths, more, ComesTo, value, fault}
use Rattle.soundness.specs.Open.{Object as ObjectR, Objects, object, Declared, none, more as one_more, declaring, stating, start, Open, outermost, in_then, in_else, in_loop, in_block}
use Rattle.soundness.specs.Sound.{objects}
use Rattle.soundness.proofs.Evaluation.{evaluation_is_typed}
use Rattle.soundness.proofs.Good.{Good, good_end, good_null, good_assign, good_get, good_put, good_branch, good_loop, good_block, Opens, opens_end, opens_one, counter}
use Rattle.procedure.proofs.Obeys.{holds}
use Rattle.checker.proofs.Shapes.{part-statement}
use Rattle.soundness.proofs.Parts.{is_local, local-next, block_local}
use Rattle.soundness.proofs.Rows.{Fits, integer-fits, value-fits, number_fits, truths_below, length-declarations, assign, declarations_assign, objects_assign, Target, target_of, truths_assign, above-next}
use Rattle.soundness.proofs.Stack.{kind_at, goes_on, holder_of, Stack, stack_none, stack_branch, stack_loop, stack_block, stack_left, stack_assign, open_next}
use Rattle.soundness.proofs.Tables.{Above, here, up, above-length, Holds, held_is, room_for, top-some, top-none, item-newest}

-- the statements of the innermost block, or of the procedure
abbrev pub body : Table → List Frame → ℕ
body t [] = (node t 0).b
body t (f ∷ fs) = (node t f.node).b

-- the first of the declarations d, or of the statements b where there is none
abbrev pub first_of : ℕ → ℕ → ℕ
first_of d b = cond (eqb d 0) b d

-- at stands in the declarations of the innermost block, or of the procedure, and Δ is open
pub data Opening (t : Table) : List Frame → ℕ → Objects → Type 0 where
  opening_all : {at : ℕ} {Δ : Objects} → Declared t (node t 0).a [] at Δ → Opening t [] at Δ
  opening_block : {f : Frame} {fs : List Frame} {at : ℕ} {Δ : Objects} (Γ : Objects) → standing t f.node ≡ Statement Block → Open t (holder_of fs) f.node Γ
      → Declared t (node t f.node).a Γ at Δ → Opening t (f ∷ fs) at Δ

-- where a run stands, by its rows and frames the newest first, and that it takes at most m steps to its end
pub data Live (t : Table) (R F : ℕ) (rs : List Row) (fs : List Frame) (at m : ℕ) : Type 0 where
  at_statement : (c m' : ℕ) → Good t R F (length fs) (declarations_of rs) at c → Stack t R F rs fs m' → Open t (holder_of fs) at (objects rs) → Truths rs → c + m' ≤ m
      → Live t R F rs fs at m
  at_declaration : (Δ : Environment) (k : DeclarationKind) (c₁ c₂ m' : ℕ) → standing t at ≡ Declaration k → is_local k ≡ true → Opens t R Δ (declarations_of rs) at c₁
      → Good t R F (length fs) Δ (body t fs) c₂ → Opening t fs at (objects rs) → Stack t R F rs fs m' → Truths rs → c₁ + c₂ + m' ≤ m → Live t R F rs fs at m

-- what is decided where at most m steps are left: what the run holds then runs well, or it ends for good
pub data Kept (t : Table) (R F m : ℕ) (rs : List Row) (fs : List Frame) : Decision → Type 0 where
  faulting : {e : ArithmeticFault} {n : ℕ} → 1 ≤ m → Kept t R F m rs fs (Err (ExpressionF (Arithmetic e n)))
  finishing : 1 ≤ m → Kept t R F m rs fs (Ok Done)
  passing : {to : ℕ} (m' : ℕ) → Live t R F rs fs to m' → suc m' ≤ m → Kept t R F m rs fs (Ok (Pass to))
  opening : {r : Row} {to : ℕ} (m' : ℕ) → length rs < R → Live t R F (r ∷ rs) fs to m' → suc m' ≤ m → Kept t R F m rs fs (Ok (Declare r to))
  assigning : {p : Placed} {to : ℕ} (x : ℕ) (z : ℤ) (m' : ℕ) → topmost x rs ≡ Some p → Live t R F (assign x z rs) fs to m' → suc m' ≤ m → Kept t R F m rs fs (Ok (Assign (placed p z) to))
  getting : {p : Placed} {to : ℕ} (x m' : ℕ) → topmost x rs ≡ Some p → ((z : ℤ) → is_some (value_of_type p.row.of_type z) ≡ true → Live t R F (assign x z rs) fs to m') → suc m' ≤ m
      → Kept t R F m rs fs (Ok (GetA p to))
  putting : {z : ℤ} {to : ℕ} (m' : ℕ) → Live t R F rs fs to m' → suc m' ≤ m → Kept t R F m rs fs (Ok (PutA z to))
  entering : {f : Frame} {to : ℕ} (m' : ℕ) → length fs < F → Live t R F rs (f ∷ fs) to m' → suc m' ≤ m → Kept t R F m rs fs (Ok (Enter f to))
  looping : {f : Frame} {r : Row} {to : ℕ} (m' : ℕ) → length fs < F → length rs < R → Live t R F (r ∷ rs) (f ∷ fs) to m' → suc m' ≤ m → Kept t R F m rs fs (Ok (Loop f r to))
  turning : {p : Placed} {to : ℕ} (r : Row) (rest : List Row) (m' : ℕ) → rs ≡ r ∷ rest → p.place ≡ length rest → Live t R F (p.row ∷ rest) fs to m' → suc m' ≤ m
      → Kept t R F m rs fs (Ok (Turn p to))
  leaving : {n to : ℕ} (rest : List Row) (f : Frame) (fs' : List Frame) (m' : ℕ) → fs ≡ f ∷ fs' → Above rest rs → n ≡ length rest → Live t R F rest fs' to m' → suc m' ≤ m
      → Kept t R F m rs fs (Ok (Leave n to))

-- the value of an expression that has a type
data Valued (u : TypeT) (r : Result Value StepFault) : Type 0 where
  gives : (v : Value) → r ≡ Ok v → type_of_value v ≡ u → Valued u r
  faults : (e : ArithmeticFault) (n : ℕ) → r ≡ Err (ExpressionF (Arithmetic e n)) → Valued u r

valued : {t : Table} {R : ℕ} {rs : List Row} {u : TypeT} (own : Option ℕ) (rows : Rows) (at : ℕ) → Formed t → Holds R rows rs → Truths rs
    → typed 32 t own (declarations_of rs) (node t at).a ≡ Ok u → Valued u (value_at t rows at)
valued {t} {rs = rs} {u} own rows at w h f ty =
    go (root_value t (newest_first rows) at (node t at).a)
    (subst (λ l. ComesTo u (root_value t l at (node t at).a)) (sym h.is) (evaluation_is_typed t rs own at (node t at).a u w f ty))
  where
    go : (r : Evaluation) → ComesTo u r → Valued u (result_map_both (λ v. v) ExpressionF r)
    go (Ok x) (value v e) = gives v refl e
    go (Err x) (fault e n) = faults e n refl

suits : (u : TypeT) (v : Value) → type_of_value v ≡ u → is_of u v ≡ true
suits IntegerT (Integer z) e = refl
suits IntegerT (Boolean b) e = let z : ◌≡◌ {A = ℕ} 0 1 = cc in absurd (omega arith)
suits BooleanT (Integer z) e = let z : ◌≡◌ {A = ℕ} 0 1 = cc in absurd (omega arith)
suits BooleanT (Boolean b) e = refl

-- open at the first statement, after the last declaration
opened : {t : Table} {fs : List Frame} {Δ : Objects} → Opening t fs 0 Δ → Open t (holder_of fs) (body t fs) Δ
opened (opening_all d) = outermost (stating d start)
opened (opening_block Γ b o d) = in_block b o (stating d start)

not_zero : {A : Type 0} (n : ℕ) (x y : A) → cond (eqb (suc n) 0) x y ≡ y
not_zero n x y = cond-false (eqb (suc n) 0) x y (ne_eqb (suc n) 0 λ e. absurd (omega arith))

first_suc : (d b : ℕ) → first_of (suc d) b ≡ suc d
first_suc d b = not_zero d b (suc d)

-- at the first of the declarations d, or of the statements after them
pub arrive : {t : Table} {R F : ℕ} {rs : List Row} {fs : List Frame} {m : ℕ} {Δ : Environment} (d c₁ c₂ m' : ℕ)
    → ((k : DeclarationKind) → standing t d ≡ Declaration k → is_local k ≡ true) → Opens t R Δ (declarations_of rs) d c₁ → Good t R F (length fs) Δ (body t fs) c₂
    → Opening t fs d (objects rs) → Stack t R F rs fs m' → Truths rs → c₁ + c₂ + m' ≤ m → Live t R F rs fs (first_of d (body t fs)) m
arrive {t} {R} {F} {rs} {fs} zero c₁ c₂ m' loc (opens_end q e) g o s f l =
    at_statement c₂ m' (subst (λ Γ. Good t R F (length fs) Γ (body t fs) c₂) e g) s (opened o) f (omega arith)
arrive zero c₁ c₂ m' loc (opens_one k u c q mk ty r op l') g o s f l = let z : ◌≡◌ {A = ℕ} 0 1 = cc in absurd (omega arith)
arrive {t} (suc d) c₁ c₂ m' loc (opens_end q e) g o s f l = goes_on t d q
arrive {t} {R} {F} {rs} {fs} {m} {Δ} (suc d) c₁ c₂ m' loc (opens_one k u c q mk ty r op l') g o s f l =
    subst (λ n. Live t R F rs fs n m) (sym (first_suc d (body t fs))) (at_declaration Δ k c₁ c₂ m' q (loc k q) (opens_one k u c q mk ty r op l') g o s f l)

-- the end of a list
keep_end : {t : Table} {R F : ℕ} {rs : List Row} {fs : List Frame} (rows : Rows) (frames : Frames) (m : ℕ) → Holds R rows rs → Holds F frames fs → Stack t R F rs fs m → Truths rs
    → Kept t R F m rs fs (list_end t rows (top frames))
keep_end rows frames m hr hf (stack_none l) f = rw (top-none hf) (finishing l)
keep_end {t} rows frames m hr hf (stack_branch {rows = rs} {f = i} {fs = fs} c m' q o g s l) f =
    rw (top-some hf, kind_at t i.node If q)
    (leaving rs i fs (c + m') refl here (held_is hr) (at_statement c m' g s (open_next If q o) f (omega arith)) (omega arith))
keep_end {t} rows frames m hr hf (stack_block {rows = rs} {f = i} {fs = fs} rest c m' q k a o g s l) f =
    let n = held_is hr in
    let h = above-length a in
    rw (top-some hf, kind_at t i.node Block q, le-leb i.rows rows.held (omega arith))
    (leaving rest i fs (c + m') refl a k (at_statement c m' g s (open_next Block q o) (truths_below a f) (omega arith)) (omega arith))
keep_end {t} {R} {F} rows frames m hr hf (stack_loop {r = r} {rows = rs} {f = i} {fs = fs} c₁ c m' q k w o b g s l) (more h f) =
    rw (top-some hf, kind_at t i.node For q, item-newest i.rows k hr) (go (lt_z r.value (node t i.node).hi) refl)
  where
    next : Row
    next = row_with r (r.value +ℤ pos 1)

    left : ℕ
    left = suc (above (r.value +ℤ pos 1) (node t i.node).hi * (c₁ + 1) + c + m')

    under : Stack t R F (next ∷ rs) (i ∷ fs) left
    under = stack_loop c₁ c m' q k w o b g s (omega arith)

    go : (y : Bool) → lt_z r.value (node t i.node).hi ≡ y
        → Kept t R F m (r ∷ rs) (i ∷ fs) (cond y (Ok (Turn (record { place = i.rows; row = next }) (node t i.node).a)) (Ok (Leave i.rows (node t i.node).next)))
    go true y =
        let e = above-next r.value (node t i.node).hi y in
        let l' = rw e at l in
        let u : r.of_type ≡ IntegerT = ap (λ (d : DeclarationT). d.of_type) w in
        let j : record { name = r.name; type = r.of_type } ≡ object (node t i.node) IntegerT = ap (λ (d : DeclarationT). record { name = d.name; type = d.of_type }) w in
        turning r rs (c₁ + left) refl k
        (at_statement c₁ left (subst (λ (d : DeclarationT). Good t R F (suc (length fs)) (d ∷ declarations_of rs) (node t i.node).a c₁) (sym w) b) under
        (subst (λ (x : ObjectR). Open t i.node (node t i.node).a (x ∷ objects rs)) (sym j) (in_loop q o start))
        (more (integer-fits (r.value +ℤ pos 1) u) f) (omega arith))
        (omega arith)
    go false y = leaving rs i fs (c + m') refl (up here) k (at_statement c m' g s (open_next For q o) f (omega arith)) (omega arith)

kept_more : {t : Table} {R F m m' : ℕ} {rs : List Row} {fs : List Frame} {d : Decision} → Kept t R F m rs fs d → m ≤ m' → Kept t R F m' rs fs d
kept_more (faulting l) h = faulting (omega arith)
kept_more (finishing l) h = finishing (omega arith)
kept_more (passing n a l) h = passing n a (omega arith)
kept_more (opening n r a l) h = opening n r a (omega arith)
kept_more (assigning x z n p a l) h = assigning x z n p a (omega arith)
kept_more (getting x n p a l) h = getting x n p a (omega arith)
kept_more (putting n a l) h = putting n a (omega arith)
kept_more (entering n r a l) h = entering n r a (omega arith)
kept_more (looping n r v a l) h = looping n r v a (omega arith)
kept_more (turning r rest n e k a l) h = turning r rest n e k a (omega arith)
kept_more (leaving rest f fs n e k i a l) h = leaving rest f fs n e k i a (omega arith)

-- after an assignment of a value that fits
assigned : {t : Table} {R F : ℕ} {rs : List Row} {fs : List Frame} {at c m' : ℕ} (k : StatementKind) (x : ℕ) (z : ℤ) (u : TypeT) (p : Placed) → standing t at ≡ Statement k
    → means (declarations_of rs) x ≡ Some (Object u false) → topmost x rs ≡ Some p → Fits p.row.of_type z → Good t R F (length fs) (declarations_of rs) (node t at).next c
    → Stack t R F rs fs m' → Open t (holder_of fs) at (objects rs) → Truths rs → Live t R F (assign x z rs) fs (node t at).next (c + m')
assigned {t} {R} {F} {rs} {fs} {at} {c} {m'} k x z u p q e y fit g s o f =
    at_statement c m' (rw (declarations_assign x z rs) g) (stack_assign x z u e s) (rw (objects_assign x z rs) (open_next k q o)) (truths_assign x z rs p f y fit) (omega arith)

keep_assignment : {t : Table} {R F : ℕ} {rs : List Row} {fs : List Frame} {u : TypeT} (rows : Rows) (frames : Frames) (at c m' m : ℕ) → Formed t → Holds R rows rs → standing t at ≡ Statement Assignment
    → means (declarations_of rs) (node t at).name ≡ Some (Object u false) → typed 32 t None (declarations_of rs) (node t at).a ≡ Ok u → Good t R F (length fs) (declarations_of rs) (node t at).next c
    → Stack t R F rs fs m' → Open t (holder_of fs) at (objects rs) → Truths rs → suc (c + m') ≤ m → Kept t R F m rs fs (decided t rows frames at)
keep_assignment {t} {R} {F} {rs} {fs} {u} rows frames at c m' m w hr q e ty g s o f l = go (valued None rows at w hr f ty)
  where
    y : Target (node t at).name rs u
    y = target_of (node t at).name rs u e

    go : Valued u (value_at t rows at) → Kept t R F m rs fs (decided t rows frames at)
    go (faults b n r) = rw (q, r) (faulting (omega arith))
    go (gives v r i) =
        let a : topmost (node t at).name (newest_first rows) ≡ Some y.found = ap (topmost (node t at).name) hr.is ∙ y.is in
        let b : (is_of y.found.row.of_type v && not y.found.row.constant) ≡ true =
        and_from _ _ (suits y.found.row.of_type v (i ∙ sym y.typed)) (not_from_false _ y.free) in
        rw (q, r, a, b)
        (assigning (node t at).name (number_of v) (c + m') y.is
        (assigned Assignment (node t at).name (number_of v) u y.found q e y.is (subst (λ j. Fits j (number_of v)) (i ∙ sym y.typed) (value-fits v)) g s o f) (omega arith))

keep_get : {t : Table} {R F : ℕ} {rs : List Row} {fs : List Frame} {u : TypeT} (rows : Rows) (frames : Frames) (at c m' m : ℕ) → Holds R rows rs → standing t at ≡ Statement Get
    → means (declarations_of rs) (node t at).name ≡ Some (Object u false) → Good t R F (length fs) (declarations_of rs) (node t at).next c
    → Stack t R F rs fs m' → Open t (holder_of fs) at (objects rs) → Truths rs → suc (c + m') ≤ m → Kept t R F m rs fs (decided t rows frames at)
keep_get {t} {rs = rs} {u = u} rows frames at c m' m hr q e g s o f l =
    let y = target_of (node t at).name rs u e in
    let a : topmost (node t at).name (newest_first rows) ≡ Some y.found = ap (topmost (node t at).name) hr.is ∙ y.is in
    rw (q, a, y.free)
    (getting (node t at).name (c + m') y.is
    (λ z i. assigned Get (node t at).name z u y.found q e y.is (number_fits y.found.row.of_type z i) g s o f) (omega arith))

keep_put : {t : Table} {R F : ℕ} {rs : List Row} {fs : List Frame} {u : TypeT} (rows : Rows) (frames : Frames) (at c m' m : ℕ) → Formed t → Holds R rows rs → standing t at ≡ Statement Put
    → typed 32 t None (declarations_of rs) (node t at).a ≡ Ok u → Good t R F (length fs) (declarations_of rs) (node t at).next c
    → Stack t R F rs fs m' → Open t (holder_of fs) at (objects rs) → Truths rs → suc (c + m') ≤ m → Kept t R F m rs fs (decided t rows frames at)
keep_put {t} {R} {F} {rs} {fs} {u} rows frames at c m' m w hr q ty g s o f l = go (valued None rows at w hr f ty)
  where
    go : Valued u (value_at t rows at) → Kept t R F m rs fs (decided t rows frames at)
    go (faults b n r) = rw (q, r) (faulting (omega arith))
    go (gives v r i) = rw (q, r) (putting (c + m') (at_statement c m' g s (open_next Put q o) f (omega arith)) (omega arith))

-- an IF, by its condition
keep_branch : {t : Table} {R F : ℕ} {rs : List Row} {fs : List Frame} (rows : Rows) (frames : Frames) (at c₁ c₂ c m' m : ℕ) → Formed t → Holds R rows rs → Holds F frames fs → standing t at ≡ Statement If
    → length fs < F → typed 32 t None (declarations_of rs) (node t at).a ≡ Ok BooleanT → Good t R F (suc (length fs)) (declarations_of rs) (node t at).b c₁
    → Good t R F (suc (length fs)) (declarations_of rs) (node t at).c c₂ → Good t R F (length fs) (declarations_of rs) (node t at).next c
    → Stack t R F rs fs m' → Open t (holder_of fs) at (objects rs) → Truths rs → 2 + c₁ + c₂ + c + m' ≤ m → Kept t R F m rs fs (decided t rows frames at)
keep_branch {t} {R} {F} {rs} {fs} rows frames at c₁ c₂ c m' m w hr hf q r ty g₁ g₂ g s o f l = go (valued None rows at w hr f ty)
  where
    under : Stack t R F rs (frame_at at rows ∷ fs) (suc (c + m'))
    under = stack_branch c m' q o g s (omega arith)

    else : (b : Bool) → Kept t R F m rs fs (cond b (Ok (Pass (node t at).next)) (enters frames (frame_at at rows) (node t at).c))
    else true = passing (c + m') (at_statement c m' g s (open_next If q o) f (omega arith)) (omega arith)
    else false = rw (room_for hf r) (entering (c₂ + suc (c + m')) r (at_statement c₂ (suc (c + m')) g₂ under (in_else q o start) f (omega arith)) (omega arith))

    way : (b : Bool) → Kept t R F m rs fs (branch b t rows frames at)
    way true = rw (room_for hf r) (entering (c₁ + suc (c + m')) r (at_statement c₁ (suc (c + m')) g₁ under (in_then q o start) f (omega arith)) (omega arith))
    way false = else (eqb (node t at).c 0)

    go : Valued BooleanT (value_at t rows at) → Kept t R F m rs fs (decided t rows frames at)
    go (faults b n p) = rw (q, p) (faulting (omega arith))
    go (gives (Integer z) p i) = let z : ◌≡◌ {A = ℕ} 0 1 = cc in absurd (omega arith)
    go (gives (Boolean b) p i) = rw (q, p) (way b)

keep_loop : {t : Table} {R F : ℕ} {rs : List Row} {fs : List Frame} (rows : Rows) (frames : Frames) (at c₁ c m' m : ℕ) → Holds R rows rs → Holds F frames fs → standing t at ≡ Statement For
    → length fs < F → length rs < R → Good t R F (suc (length fs)) (counter (node t at) ∷ declarations_of rs) (node t at).a c₁ → Good t R F (length fs) (declarations_of rs) (node t at).next c
    → Stack t R F rs fs m' → Open t (holder_of fs) at (objects rs) → Truths rs → suc (turns_of (node t at) * (c₁ + 1)) + c + m' ≤ m → Kept t R F m rs fs (decided t rows frames at)
keep_loop {t} {R} {F} {rs} {fs} rows frames at c₁ c m' m hr hf q r v b g s o f l = rw q (go (le_z (node t at).lo (node t at).hi) l)
  where
    first : Row
    first = record { name = (node t at).name; of_type = IntegerT; constant = true; value = (node t at).lo }

    left : ℕ
    left = suc (above (node t at).lo (node t at).hi * (c₁ + 1) + c + m')

    under : Stack t R F (first ∷ rs) (frame_at at rows ∷ fs) left
    under = stack_loop c₁ c m' q (held_is hr) refl o b g s (omega arith)

    go : (y : Bool) → suc (cond y (suc (above (node t at).lo (node t at).hi)) 0 * (c₁ + 1)) + c + m' ≤ m
        → Kept t R F m rs fs (cond y (and_then (unless_fails (has_room frames) FramesFull) λ _. and_then (unless_fails (has_room rows) RowsFull) λ _. Ok (Loop (frame_at at rows) first (node t at).a))
        (Ok (Pass (node t at).next)))
    go true l' = rw (room_for hf r, room_for hr v) (looping (c₁ + left) r v (at_statement c₁ left b under (in_loop q o start) (more (integer-fits (node t at).lo refl) f) (omega arith)) (omega arith))
    go false l' = passing (c + m') (at_statement c m' g s (open_next For q o) f (omega arith)) (omega arith)

keep_block : {t : Table} {R F : ℕ} {rs : List Row} {fs : List Frame} {Δ : Environment} (rows : Rows) (frames : Frames) (at c₁ c₂ c m' m : ℕ) → Formed t → Holds R rows rs → Holds F frames fs
    → standing t at ≡ Statement Block → length fs < F → Opens t R Δ (declarations_of rs) (node t at).a c₁ → Good t R F (suc (length fs)) Δ (node t at).b c₂
    → Good t R F (length fs) (declarations_of rs) (node t at).next c
    → Stack t R F rs fs m' → Open t (holder_of fs) at (objects rs) → Truths rs → 2 + c₁ + c₂ + c + m' ≤ m → Kept t R F m rs fs (decided t rows frames at)
keep_block {t} {R} {F} {rs} {fs} rows frames at c₁ c₂ c m' m w hr hf q r b g₁ g s o f l =
    rw (q, room_for hf r)
    (entering (c₁ + c₂ + suc (c + m')) r
    (arrive (node t at).a c₁ c₂ (suc (c + m')) (λ j. block_local t at j w (part-statement t at Block q)) b g₁ (opening_block (objects rs) q o none) under f (omega arith)) (omega arith))
  where
    under : Stack t R F rs (frame_at at rows ∷ fs) (suc (c + m'))
    under = stack_block rs c m' q (held_is hr) here o g s (omega arith)

-- one statement, or the end of a list
keep_statement : {t : Table} {R F : ℕ} {rs : List Row} {fs : List Frame} (rows : Rows) (frames : Frames) (at c m' m : ℕ) → Formed t → Holds R rows rs → Holds F frames fs
    → Good t R F (length fs) (declarations_of rs) at c → Stack t R F rs fs m' → Open t (holder_of fs) at (objects rs) → Truths rs → c + m' ≤ m → Kept t R F m rs fs (decided t rows frames at)
keep_statement rows frames at c m' m w hr hf (good_end q) s o f l = rw q (kept_more (keep_end rows frames m' hr hf s f) (omega arith))
keep_statement rows frames at c m' m w hr hf (good_null c₁ q g h) s o f l = rw q (passing (c₁ + m') (at_statement c₁ m' g s (open_next Null q o) f (omega arith)) (omega arith))
keep_statement rows frames at c m' m w hr hf (good_assign u c₁ q e ty g h) s o f l = keep_assignment rows frames at c₁ m' m w hr q e ty g s o f (omega arith)
keep_statement rows frames at c m' m w hr hf (good_get u c₁ q e g h) s o f l = keep_get rows frames at c₁ m' m hr q e g s o f (omega arith)
keep_statement rows frames at c m' m w hr hf (good_put u c₁ q ty g h) s o f l = keep_put rows frames at c₁ m' m w hr q ty g s o f (omega arith)
keep_statement rows frames at c m' m w hr hf (good_branch c₁ c₂ c₃ q r ty g₁ g₂ g h) s o f l = keep_branch rows frames at c₁ c₂ c₃ m' m w hr hf q r ty g₁ g₂ g s o f (omega arith)
keep_statement {rs = rs} rows frames at c m' m w hr hf (good_loop c₁ c₂ q r v b g h) s o f l =
    let n = length-declarations rs in keep_loop rows frames at c₁ c₂ m' m hr hf q r (omega arith) b g s o f (omega arith)
keep_statement rows frames at c m' m w hr hf (good_block Δ c₁ c₂ c₃ q r b g₁ g h) s o f l = keep_block rows frames at c₁ c₂ c₃ m' m w hr hf q r b g₁ g s o f (omega arith)

-- one declaration
behind-first : {t : Table} {F : ℕ} {fs : List Frame} {d : ℕ} {Δ : Objects} (frames : Frames) (n : ℕ) → Formed t → Holds F frames fs → Opening t fs d Δ
    → behind t (top frames) n ≡ Ok (first_of n (body t fs))
behind-first {t} frames zero w hf (opening_all d) = rw (top-none hf, (holds t 0 (w.obeys 0 w.some)).rooted_at)
behind-first {t} frames zero w hf (opening_block {f = f} Γ b o d) = rw (top-some hf, kind_at t f.node Block b)
behind-first {t} {fs = fs} frames (suc n) w hf o = not_zero n (behind_last t (top frames)) (Ok (suc n)) ∙ ap Ok (sym (first_suc n (body t fs)))

opening_more : {t : Table} {fs : List Frame} {at : ℕ} {Δ : Objects} (k : DeclarationKind) (u : TypeT) → standing t at ≡ Declaration k → mark_of (node t at).lo ≡ Some u → Opening t fs at Δ
    → Opening t fs (node t at).next (object (node t at) u ∷ Δ)
opening_more k u q mk (opening_all d) = opening_all (one_more k u d q mk)
opening_more k u q mk (opening_block Γ b o d) = opening_block Γ b o (one_more k u d q mk)

stack_push : {t : Table} {R F : ℕ} {rs : List Row} {fs : List Frame} {at m : ℕ} {Δ : Objects} (r : Row) → Opening t fs at Δ → Stack t R F rs fs m → Stack t R F (r ∷ rs) fs m
stack_push r o (stack_none l) = stack_none l
stack_push r (opening_block Γ b o d) (stack_branch c m' q o' g s l) = let z : ◌≡◌ {A = ℕ} 0 1 = cc in absurd (omega arith)
stack_push r (opening_block Γ b o d) (stack_loop c₁ c m' q k p o' g₁ g s l) = let z : ◌≡◌ {A = ℕ} 0 1 = cc in absurd (omega arith)
stack_push r (opening_block Γ b o d) (stack_block rest c m' q k a o' g s l) = stack_block rest c m' q k (up a) o' g s l

declares_is : (k : DeclarationKind) (t : Table) (rows : Rows) (frames : Frames) (at : ℕ) → is_local k ≡ true → declaration k t rows frames at ≡ declares (is_constant k) t rows frames at
declares_is Parameter t rows frames at e = absurd (let z : ◌≡◌ {A = ℕ} 0 1 = cc in omega arith)
declares_is Variable t rows frames at e = refl
declares_is Constant t rows frames at e = refl

local-cost : (k : DeclarationKind) → is_local k ≡ true → declaration_cost k ≡ 1
local-cost Parameter e = absurd (let z : ◌≡◌ {A = ℕ} 0 1 = cc in omega arith)
local-cost Variable e = refl
local-cost Constant e = refl

keep_declaration : {t : Table} {R F : ℕ} {rs : List Row} {fs : List Frame} {Δ : Environment} (rows : Rows) (frames : Frames) (k : DeclarationKind) (at c₁ c₂ m' m : ℕ) → Formed t → Holds R rows rs → Holds F frames fs
    → standing t at ≡ Declaration k → is_local k ≡ true → Opens t R Δ (declarations_of rs) at c₁ → Good t R F (length fs) Δ (body t fs) c₂ → Opening t fs at (objects rs)
    → Stack t R F rs fs m' → Truths rs → c₁ + c₂ + m' ≤ m → Kept t R F m rs fs (decided t rows frames at)
keep_declaration rows frames k at c₁ c₂ m' m w hr hf e loc (opens_end q _) g o s f l = let z : ◌≡◌ {A = ℕ} 0 1 = cc in absurd (omega arith)
keep_declaration {t} {R} {F} {rs} {fs} {Δ} rows frames k at c₁ c₂ m' m w hr hf e loc (opens_one k' u c q mk ty r op h) g o s f l =
    let n = length-declarations rs in go (omega arith) (valued (Some (node t at).name) rows at w hr f (ty local))
  where
    local : is_local k' ≡ true
    local = subst (λ j. is_local j ≡ true) (cc) loc

    cost : declaration_cost k' ≡ 1
    cost = local-cost k' local

    go : length rs < R → Valued u (value_at t rows at) → Kept t R F m rs fs (decided t rows frames at)
    go v (faults b n p) = rw (q, declares_is k' t rows frames at local, behind-first frames (node t at).next w hf o, p) (faulting (omega (arith, cost)))
    go v (gives x p i) =
        rw (q, declares_is k' t rows frames at local, behind-first frames (node t at).next w hf o, p, mk, suits u x i, room_for hr v)
        (opening (c + c₂ + m') v
        (arrive (node t at).next c c₂ m' (λ j. local-next t at k' j w local q) op g (opening_more k' u q mk o) (stack_push _ o s)
        (more (subst (λ j. Fits j (number_of x)) i (value-fits x)) f) (omega arith)) (omega (arith, cost)))

-- what is decided at a place that runs well
pub keep : {t : Table} {R F : ℕ} {rs : List Row} {fs : List Frame} {m : ℕ} (rows : Rows) (frames : Frames) (at : ℕ) → Formed t → Holds R rows rs → Holds F frames fs → Live t R F rs fs at m
    → Kept t R F m rs fs (decided t rows frames at)
keep {m = m} rows frames at w hr hf (at_statement c m' g s o f l) = keep_statement rows frames at c m' m w hr hf g s o f l
keep {m = m} rows frames at w hr hf (at_declaration Δ k c₁ c₂ m' q loc op g o s f l) = keep_declaration rows frames k at c₁ c₂ m' m w hr hf q loc op g o s f l

pub live_open : {t : Table} {R F : ℕ} {rs : List Row} {fs : List Frame} {at m : ℕ} → Live t R F rs fs at m → Open t (holder_of fs) at (objects rs)
live_open (at_statement c m' g s o f l) = o
live_open (at_declaration Δ k c₁ c₂ m' q loc op g (opening_all d) s f l) = outermost (declaring k q d)
live_open (at_declaration Δ k c₁ c₂ m' q loc op g (opening_block Γ b o d) s f l) = in_block b o (declaring k q d)

pub live_truths : {t : Table} {R F : ℕ} {rs : List Row} {fs : List Frame} {at m : ℕ} → Live t R F rs fs at m → Truths rs
live_truths (at_statement c m' g s o f l) = f
live_truths (at_declaration Δ k c₁ c₂ m' q loc op g o s f l) = f

pub live_left : {t : Table} {R F : ℕ} {rs : List Row} {fs : List Frame} {at m : ℕ} → Live t R F rs fs at m → 1 ≤ m
live_left (at_statement c m' g s o f l) = let h = stack_left s in omega arith
live_left (at_declaration Δ k c₁ c₂ m' q loc op g o s f l) = let h = stack_left s in omega arith
