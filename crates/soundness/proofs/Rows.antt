-- Rows the newest first: the row that a name denotes, and what writing it leaves as it was.
use Rattle.std.proofs.Common.{◌≡◌, ℕ, zero, suc, ◌-◌, ◌<◌, Bool, true, false, cond, ◌||◌, eqb, ◌⊎◌, List, [], ◌∷◌, length, set, ℤ, pos, negsuc, ◌+ℤ◌, is_some, Some, None, sym, refl, ap, ◌∙◌, subst, inl, inr, arith}
use lib.IntN.{suc_ℤ, +ℤ_one}
use lib.Signed.{lt_z}
use Rattle.std.proofs.lemmas.Bool.{ltb-true, false≢true}
use Rattle.std.proofs.lemmas.Option.{none-some, same_Some}
use Rattle.procedure.specs.declared.types.«Type».{«Type» as TypeT}
use Rattle.procedure.specs.declared.types.«Type».TheVariants.{Integer as IntegerT, Boolean as BooleanT}
use Rattle.evaluator.specs.declared.rows.Placed.{Placed}
use Rattle.evaluator.specs.declared.rows.Row.{Row}
use Rattle.evaluator.specs.declared.value.Value.{Value}
use Rattle.evaluator.specs.declared.value.Value.TheVariants.{Integer, Boolean}
use Rattle.evaluator.specs.Rows.{topmost}
use Rattle.evaluator.specs.Values.{number_of, type_of_value, value_of_type}
use Rattle.machine.specs.Decide.{row_with}
use Rattle.checker.specs.declared.names.Meaning.TheVariants.{Mark, Object}
use Rattle.checker.specs.Cost.{above}
use Rattle.checker.specs.Names.{means}
use Rattle.soundness.specs.Evaluation.{declaration_of, declarations_of, Truths, none, more}
use Rattle.soundness.specs.Sound.{object_of, objects}
use Rattle.soundness.proofs.Tables.{Above, here, up}

-- 0 or 1, where the type is BOOLEAN
abbrev pub Fits : TypeT → ℤ → Type 0
Fits u z = u ≡ BooleanT → (z ≡ pos 0) ⊎ (z ≡ pos 1)

pub integer-fits : {u : TypeT} (z : ℤ) → u ≡ IntegerT → Fits u z
integer-fits z e h = let z : ◌≡◌ {A = ℕ} 0 1 = cc in absurd (omega arith)

pub value-fits : (v : Value) → Fits (type_of_value v) (number_of v)
value-fits (Integer z) e = let z : ◌≡◌ {A = ℕ} 0 1 = cc in absurd (omega arith)
value-fits (Boolean false) e = inl refl
value-fits (Boolean true) e = inr refl

pub number_fits : (u : TypeT) (z : ℤ) → is_some (value_of_type u z) ≡ true → Fits u z
number_fits IntegerT z h e = let z : ◌≡◌ {A = ℕ} 0 1 = cc in absurd (omega arith)
number_fits BooleanT (pos zero) h e = inl refl
number_fits BooleanT (pos (suc zero)) h e = inr refl
number_fits BooleanT (pos (suc (suc n))) h e = grind (arith, h)
number_fits BooleanT (negsuc n) h e = absurd (false≢true h)

pub truths_below : {rest rows : List Row} → Above rest rows → Truths rows → Truths rest
truths_below here f = f
truths_below (up a) (more h f) = truths_below a f

pub length-declarations : (rows : List Row) → length (declarations_of rows) ≡ length rows
length-declarations [] = refl
length-declarations (r ∷ rows) = ap suc (length-declarations rows)

-- the rows after the topmost row of the name x was given the value z
abbrev pub assign : ℕ → ℤ → List Row → List Row
assign x z [] = []
assign x z (r ∷ rows) = cond (eqb r.name x) (row_with r z ∷ rows) (r ∷ assign x z rows)

pub declarations_assign : (x : ℕ) (z : ℤ) (rows : List Row) → declarations_of (assign x z rows) ≡ declarations_of rows
declarations_assign x z [] = refl
declarations_assign x z (r ∷ rows) = go (eqb r.name x) (declarations_assign x z rows)
  where
    go : (b : Bool) → declarations_of (assign x z rows) ≡ declarations_of rows
        → declarations_of (cond b (row_with r z ∷ rows) (r ∷ assign x z rows)) ≡ declaration_of r ∷ declarations_of rows
    go true ih = refl
    go false ih = ap (λ l. declaration_of r ∷ l) ih

pub objects_assign : (x : ℕ) (z : ℤ) (rows : List Row) → objects (assign x z rows) ≡ objects rows
objects_assign x z [] = refl
objects_assign x z (r ∷ rows) = go (eqb r.name x) (objects_assign x z rows)
  where
    go : (b : Bool) → objects (assign x z rows) ≡ objects rows → objects (cond b (row_with r z ∷ rows) (r ∷ assign x z rows)) ≡ object_of r ∷ objects rows
    go true ih = refl
    go false ih = ap (λ l. object_of r ∷ l) ih

pub length_assign : (x : ℕ) (z : ℤ) (rows : List Row) → length (assign x z rows) ≡ length rows
length_assign x z rows = sym (length-declarations (assign x z rows)) ∙ ap length (declarations_assign x z rows) ∙ length-declarations rows

-- the variable of the name x, of a type, and its row
pub record Target (x : ℕ) (rows : List Row) (of_type : TypeT) : Type 0 where
  pub found : Placed
  pub is : topmost x rows ≡ Some found
  pub typed : found.row.of_type ≡ of_type
  pub free : found.row.constant ≡ false

predefined-constant : {P : Type 0} (a b c : Bool) (u : TypeT) → cond a (Some (Mark IntegerT)) (cond b (Some (Mark BooleanT)) (cond c (Some (Object BooleanT true)) None)) ≡ Some (Object u false) → P
predefined-constant a b c u e = absurd (grind (arith, e))

pub target_of : (x : ℕ) (rows : List Row) (u : TypeT) → means (declarations_of rows) x ≡ Some (Object u false) → Target x rows u
target_of x [] u e = predefined-constant (eqb x 1) (eqb x 2) (eqb x 15 || eqb x 16) u e
target_of x (r ∷ rows) u e = go (eqb r.name x) refl e (target_of x rows u)
  where
    go : (b : Bool) → eqb r.name x ≡ b → cond b (Some (Object r.of_type r.constant)) (means (declarations_of rows) x) ≡ Some (Object u false)
        → (means (declarations_of rows) x ≡ Some (Object u false) → Target x rows u) → Target x (r ∷ rows) u
    go true p q ih = record { found = record { place = length rows; row = r }; is = rw p; typed = cc; free = cc }
    go false p q ih = let c = ih q in record { found = c.found; is = rw p c.is; typed = c.typed; free = c.free }

-- writing at the place of the topmost row is assigning
pub record Written (x : ℕ) (z : ℤ) (rows : List Row) (p : Placed) : Type 0 where
  pub within : p.place < length rows
  pub same : set rows (length rows - 1 - p.place) (row_with p.row z) ≡ assign x z rows

pub written : (x : ℕ) (z : ℤ) (rows : List Row) (p : Placed) → topmost x rows ≡ Some p → Written x z rows p
written x z [] p e = absurd (none-some p e)
written x z (r ∷ rows) p e = go (eqb r.name x) refl e (written x z rows p)
  where
    go : (b : Bool) → eqb r.name x ≡ b → cond b (Some (record { place = length rows; row = r })) (topmost x rows) ≡ Some p → (topmost x rows ≡ Some p → Written x z rows p)
        → Written x z (r ∷ rows) p
    go true h q ih =
        let i : suc (length rows) - 1 - length rows ≡ 0 = omega arith in
        subst (λ (o : Placed). Written x z (r ∷ rows) o) (same_Some _ _ q) (record { within = omega arith; same = rw h (ap (λ n. set (r ∷ rows) n (row_with r z)) i) })
    go false h q ih =
        let w = ih q in
        let l = w.within in
        let i : suc (length rows) - 1 - p.place ≡ suc (length rows - 1 - p.place) = omega arith in
        record { within = omega arith; same = rw h (ap (λ n. set (r ∷ rows) n (row_with p.row z)) i ∙ ap (λ l. r ∷ l) w.same) }

pub truths_assign : (x : ℕ) (z : ℤ) (rows : List Row) (p : Placed) → Truths rows → topmost x rows ≡ Some p → Fits p.row.of_type z → Truths (assign x z rows)
truths_assign x z [] p f e h = none
truths_assign x z (r ∷ rows) p (more g f) e h = go (eqb r.name x) e (λ q. truths_assign x z rows p f q h)
  where
    go : (b : Bool) → cond b (Some (record { place = length rows; row = r })) (topmost x rows) ≡ Some p → (topmost x rows ≡ Some p → Truths (assign x z rows))
        → Truths (cond b (row_with r z ∷ rows) (r ∷ assign x z rows))
    go true q ih = more (subst (λ (o : Placed). Fits o.row.of_type z) (sym (same_Some _ _ q)) h) f
    go false q ih = more g (ih q)

-- an assignment changes the rows above, or those below
pub assign_above : (x : ℕ) (z : ℤ) {rest rows : List Row} → Above rest rows
    → Above rest (assign x z rows) ⊎ (Above (assign x z rest) (assign x z rows) × (means (declarations_of rows) x ≡ means (declarations_of rest) x))
assign_above x z here = inr (here, refl)
assign_above x z {rest} (up {x = r} {xs = rows} a) = go (eqb r.name x) (assign_above x z a)
  where
    go : (b : Bool) → Above rest (assign x z rows) ⊎ (Above (assign x z rest) (assign x z rows) × (means (declarations_of rows) x ≡ means (declarations_of rest) x))
        → Above rest (cond b (row_with r z ∷ rows) (r ∷ assign x z rows))
        ⊎ (Above (assign x z rest) (cond b (row_with r z ∷ rows) (r ∷ assign x z rows)) × (cond b (Some (Object r.of_type r.constant)) (means (declarations_of rows) x) ≡ means (declarations_of rest) x))
    go true w = inl (up a)
    go false (inl w) = inl (up w)
    go false (inr w) = inr (up w.0, w.1)

above_suc : (v h : ℤ) → lt_z v h ≡ true → above v h ≡ suc (above (suc_ℤ v) h)
above_suc (pos a) (pos b) e = let l = ltb-true a b e in omega arith
above_suc (pos a) (negsuc b) e = absurd (false≢true e)
above_suc (negsuc zero) (pos b) e = omega arith
above_suc (negsuc (suc a)) (pos b) e = omega arith
above_suc (negsuc zero) (negsuc b) e = let l = ltb-true b 0 e in omega arith
above_suc (negsuc (suc a)) (negsuc b) e = let l = ltb-true b (suc a) e in omega arith

-- a loop row below its end has one turn less after it rises
pub above-next : (v h : ℤ) → lt_z v h ≡ true → above v h ≡ suc (above (v +ℤ pos 1) h)
above-next v h e = above_suc v h e ∙ ap (λ i. suc (above i h)) (sym (+ℤ_one v))
