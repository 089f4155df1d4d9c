-- A text cut at its first separator, its pieces, and those of them that are words. Assumes nothing.
use Rattle.std.proofs.Common.{◌≡◌, ℕ, suc, ◌+◌, ◌<◌, ◌≤◌, Bool, true, false, not, nat_eq, List, [], ◌∷◌, length, take, drop, Some, None, Option, refl, sym, ap, ◌∙◌, arith, Bor}
use Rattle.std.specs.List.{position, position_or_len, before_first, after_first, FoldsTo}
use Rattle.std.specs.Option.{IfSome}
use Rattle.std.specs.Fn.{CalledAt}
use Rattle.std.specs.Iterator.{Yields, YieldsFirstBy, YieldsFirstRef, YieldsThen, FindsItem, MakesProgress, item_count}
use Rattle.std.proofs.lemmas.List.{take_all, drop_all}
use Rattle.std.proofs.lemmas.Bool.{cond_both}
use denote.Param.Members.{Mut}
use Rattle.files.specs.declared.scan.Separator.{Separator}
use Rattle.files.specs.declared.scan.Pieces.{Pieces}
use Rattle.files.specs.Scan.{Bytes, cuts, before, behind, pieces, filled, pieces_left, GivesPiece}

take-one : (n b : ℕ) (bs : Bytes) → take (1 + n) (b ∷ bs) ≡ b ∷ take n bs
take-one n b bs = let one : 1 + n ≡ suc n = omega arith in rw one

before_at : (s : Separator) (bs : Bytes) → before s bs ≡ before_first (cuts s) bs
before_at s [] = refl
before_at s (b ∷ bs) = grind (arith, before_at s bs, take-one (position_or_len (cuts s) bs) b bs)

behind_at : (s : Separator) (bs : Bytes) → behind s bs ≡ after_first (cuts s) bs
behind_at s [] = refl
behind_at s (b ∷ bs) = grind (arith, behind_at s bs)

pub cut_here : (s : Separator) (bs : Bytes) (i : ℕ) → Some i ≡ position (cuts s) bs → (take i bs ≡ before s bs) × (drop (i + 1) bs ≡ behind s bs)
cut_here s bs i is =
    let here : i ≡ position_or_len (cuts s) bs = grind arith in
    (rw here (sym (before_at s bs)), rw here (sym (behind_at s bs)))

pub cut_nowhere : (s : Separator) (bs : Bytes) → None ≡ position (cuts s) bs → (bs ≡ before s bs) × ([] ≡ behind s bs)
cut_nowhere s bs is =
    let all : length bs ≤ position_or_len (cuts s) bs = grind arith in
    (sym (before_at s bs ∙ take_all _ bs all), sym (behind_at s bs ∙ drop_all _ bs (omega (arith, all))))

-- the first piece, and the pieces of what stands behind it
pub pieces_step : (s : Separator) (bs : Bytes) → 0 < length bs → pieces s bs ≡ before s bs ∷ pieces s (behind s bs)
pieces_step s [] some = absurd (omega arith)
pieces_step s (b ∷ []) some = grind arith
pieces_step s (b ∷ c ∷ bs) some = let again = pieces_step s (c ∷ bs) (omega arith) in grind arith

behind-within : (s : Separator) (bs : Bytes) → length (behind s bs) ≤ length bs
behind-within s [] = omega arith
behind-within s (b ∷ bs) =
    cond_both (cuts s b) bs (behind s bs) (λ rest. length rest ≤ length (b ∷ bs)) (λ _. omega arith) (λ _. omega (arith, behind-within s bs))

-- what stands behind the first piece is shorter
pub behind_shorter : (s : Separator) (bs : Bytes) → 0 < length bs → length (behind s bs) < length bs
behind_shorter s [] some = absurd (omega arith)
behind_shorter s (b ∷ bs) some =
    cond_both (cuts s b) bs (behind s bs) (λ rest. length rest < length (b ∷ bs)) (λ _. omega arith) (λ _. omega (arith, behind-within s bs))

-- where the first of the items left is given, fewer are left
pub goes_on : {S A B : Type 0} {can : S → Type 0} (view : A → B) (rest : S → List B) → ((t : S) → can t) → (s : S) (r : Option A) (t : S) → YieldsFirstBy view rest s r t → MakesProgress can (item_count rest) s r t
goes_on view rest can s None t none = record { on = λ _. tt; keeps = tt; rests = λ _. tt }
goes_on view rest can s (Some x) t some = record { on = λ _. (can t, tt, rw some (omega arith)); keeps = can t; rests = λ _. tt }

pub filled_solid : (w : Bytes) (ws : List Bytes) → 0 < length w → filled (w ∷ ws) ≡ w ∷ filled ws
filled_solid [] ws some = absurd (omega arith)
filled_solid (b ∷ w) ws some = refl

filled_empty : (w : Bytes) (ws : List Bytes) → length w ≡ 0 → filled (w ∷ ws) ≡ filled ws
filled_empty [] ws none = refl
filled_empty (b ∷ w) ws none = absurd (omega arith)

abbrev WordsFrom : Pieces → Option (Bor Bytes) → Pieces → Type 0
WordsFrom = YieldsFirstRef (λ p. filled (pieces_left p))

-- a run of calls that each leave the sign as it was gives the pieces, and leaves the sign so
run_keeping_sign : (xs : List (Bor Bytes)) (s t : Pieces) → Yields GivesPiece s xs t → Yields (YieldsFirstRef pieces_left) s xs t × (t.separator ≡ s.separator)
run_keeping_sign [] s t same = (same, ap (λ (p : Pieces). p.separator) (sym same))
run_keeping_sign (x ∷ xs) s t run = let later = run_keeping_sign xs run.0 t run.2 in ((run.0, run.1.0, later.0), later.1 ∙ run.1.1)

-- the first piece that is not empty is the first word
module _ {F : Type 0} (g : Mut F (Bor (Bor Bytes) × Unit {0}) Bool) (f : F) (tells : (x : Bor Bytes) (b : Bool) (q : F) → CalledAt g f x b q → (q ≡ f) × (b ≡ not (nat_eq (length x.now) 0))) where
  pub finds_word : (s u : Pieces) (r : Option (Bor Bytes)) → FindsItem (YieldsFirstRef pieces_left) g s f r u → WordsFrom s r u
  finds_word s u r found = from found.0 s found.1 f refl found.2 found.3 found.4
    where
      last : (r : Option (Bor Bytes)) (s : Pieces) → YieldsFirstRef pieces_left s r u → IfSome r (λ x. (h : F) × CalledAt g f x true h) → WordsFrom s r u
      last None s none _ = (rw none.0 refl, rw none.1 refl)
      last (Some x) s some passes =
          let told = (tells x true passes.0 passes.1).1 in
          ap filled some ∙ filled_solid x.now (pieces_left u) (grind arith)

      onward : (a b : Pieces) → filled (pieces_left a) ≡ filled (pieces_left b) → WordsFrom b r u → WordsFrom a r u
      onward a b same rest = rw same rest

      from : (xs : List (Bor Bytes)) (s : Pieces) (h p : F) → p ≡ f → YieldsThen (YieldsFirstRef pieces_left) s xs r u → FoldsTo (λ p x q. CalledAt g p x false q) p xs h → IfSome r (λ x. (k : F) × CalledAt g h x true k) → WordsFrom s r u
      from [] s h p same runs calls passes =
          let here : s ≡ runs.0 = runs.1 in
          let unmoved : h ≡ f = sym calls ∙ same in
          last r s (rw here runs.2) (rw (← unmoved) passes)
      from (x ∷ xs) s h p same runs calls passes =
          let told = tells x false calls.0 (rw (← same) calls.1) in
          let skipped : filled (pieces_left s) ≡ filled (pieces_left runs.1.0) = ap filled runs.1.1 ∙ filled_empty x.now _ (grind arith) in
          onward s runs.1.0 skipped (from xs runs.1.0 h calls.0 told.0 (runs.0, runs.1.2, runs.2) calls.2 passes)

  -- the same of calls that each leave the sign as it was: the word is found, and the sign is as it was
  pub finds_word_keeping_sign : (s u : Pieces) (r : Option (Bor Bytes)) → FindsItem GivesPiece g s f r u → WordsFrom s r u × (u.separator ≡ s.separator)
  finds_word_keeping_sign s u r found =
      let run = run_keeping_sign found.0 s found.2.0 found.2.1 in
      (finds_word s u r (found.0, found.1, (found.2.0, run.0, found.2.2.0), found.3, found.4), found.2.2.1 ∙ run.1)
