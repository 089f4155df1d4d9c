-- Looking up by name.
use Rattle.std.proofs.Common.{◌≡◌, ℕ, zero, suc, ◌+◌, ◌-◌, ◌<◌, ◌≤◌, Bool, true, false, cond, List, [], ◌∷◌, length, get_or, Some, None, Option, nat_eq, nat_le, ap, ◌∙◌, arith}
use Rattle.std.proofs.lemmas.Bool.{cases_lt}
use Rattle.std.proofs.lemmas.List.{get_or_default}
use Rattle.stack.specs.Lookup.{place_of}
use Rattle.stack.specs.Tables.{newest}
use Rattle.stack.proofs.Newest.{newest-none, newest_next, length-newest}

module _ {T : Type 0} (named : T → ℕ) (name : ℕ) where
  -- no item at i or above, of the lowest n, has the name
  abbrev NoneFrom : ℕ → ℕ → List T → Type 0
  NoneFrom i n xs = (k : ℕ) (d : T) → i ≤ k → k < n → nat_eq (named (get_or xs k d)) name ≡ false

  -- the place among one more item, by what that item is
  place_less : (n : ℕ) (xs : List T) (d : T) → n < length xs
      → place_of named name (newest (suc n) xs) ≡ cond (nat_eq (named (get_or xs n d)) name) (Some n) (place_of named name (newest n xs))
  place_less n xs d h = rw (newest_next n xs d h, length-newest n xs (omega arith))

  -- what it says that the place is i: the item there has the name, and no newer one has it
  abbrev pub IsPlace : ℕ → List T → Option ℕ → Type 0
  IsPlace n xs None = NoneFrom 0 n xs
  IsPlace n xs (Some i) = (i < n) × ((d : T) → nat_eq (named (get_or xs i d)) name ≡ true) × NoneFrom (i + 1) n xs

  pub place_is : (n : ℕ) (xs : List T) (o : Option ℕ) → n ≤ length xs → IsPlace n xs o → o ≡ place_of named name (newest n xs)
  place_is zero xs None h p = rw newest-none
  place_is zero xs (Some i) h p = absurd (omega (arith, p.0))
  place_is (suc n) [] o h p = absurd (omega (arith, h))
  place_is (suc n) (x ∷ xs) None h p =
      let again = place_is n (x ∷ xs) None (omega arith) (λ k d q r. p k d q (omega arith)) in
      grind (arith, place_less n (x ∷ xs) x, p n x, again)
  place_is (suc n) (x ∷ xs) (Some i) h p =
      let again : i < n → Some i ≡ place_of named name (newest n (x ∷ xs)) = λ m.
      place_is n (x ∷ xs) (Some i) (omega arith) (m, p.1, λ k d q r. p.2 k d q (omega arith)) in
      grind (arith, place_less n (x ∷ xs) x, p.0, p.1 x, p.2 n x, again, cases_lt i n)

  -- any look-up that goes by the name, newest first, is answered by the place
  module _ {B : Type 0} (look : List T → B) (miss : B) (hit : ℕ → T → B) (none : look [] ≡ miss)
      (step : (x : T) (older : List T) → look (x ∷ older) ≡ cond (nat_eq (named x) name) (hit (length older) x) (look older)) where
    abbrev pub Answers : ℕ → List T → Option ℕ → Type 0
    Answers n xs None = look (newest n xs) ≡ miss
    Answers n xs (Some i) = (d : T) → look (newest n xs) ≡ hit i (get_or xs i d)

    look_less : (n : ℕ) (xs : List T) (d : T) → n < length xs
        → look (newest (suc n) xs) ≡ cond (nat_eq (named (get_or xs n d)) name) (hit n (get_or xs n d)) (look (newest n xs))
    look_less n xs d h = rw (newest_next n xs d h, step, length-newest n xs (omega arith))

    answers_more : (n : ℕ) (xs : List T) (d : T) → n < length xs → (b : Bool) (o : Option ℕ)
        → look (newest (suc n) xs) ≡ cond b (hit n (get_or xs n d)) (look (newest n xs)) → Answers n xs o → Answers (suc n) xs (cond b (Some n) o)
    answers_more n xs d h true o e p = λ d'. e ∙ ap (hit n) (get_or_default xs n d d' h)
    answers_more n xs d h false None e p = e ∙ p
    answers_more n xs d h false (Some i) e p = λ d'. e ∙ p d'

    pub place_answers : (n : ℕ) (xs : List T) → n ≤ length xs → Answers n xs (place_of named name (newest n xs))
    unfolding newest
    place_answers zero xs h = none
    place_answers (suc n) [] h = absurd (omega (arith, h))
    place_answers (suc n) (x ∷ xs) h =
        let ys = x ∷ xs in
        let l : n < length ys = omega arith in
        rw (place_less n ys x l) (answers_more n ys x l _ _ (look_less n ys x l) (place_answers n ys (omega arith)))

  -- a question whether the name is among the newest k is answered by the place too
  module _ (among : ℕ → List T → Bool) (none : (xs : List T) → among 0 xs ≡ false) (empty : (k : ℕ) → among k [] ≡ false)
      (step : (k : ℕ) (x : T) (older : List T) → among (suc k) (x ∷ older) ≡ cond (nat_eq (named x) name) true (among k older)) where
    abbrev pub Among : ℕ → List T → Option ℕ → Type 0
    Among k xs None = among k xs ≡ false
    Among k xs (Some i) = (i < length xs) × (among k xs ≡ nat_le (length xs - k) i)

    among_more : (b : Bool) (o : Option ℕ) (k : ℕ) (x : T) (xs : List T) → among (suc k) (x ∷ xs) ≡ cond b true (among k xs)
        → Among k xs o → Among (suc k) (x ∷ xs) (cond b (Some (length xs)) o)
    among_more true o k x xs e p = (omega arith, e ∙ grind arith)
    among_more false None k x xs e p = e ∙ p
    among_more false (Some i) k x xs e p = (omega (arith, p.0), e ∙ grind (arith, p.1))

    among_none : (b : Bool) (o : Option ℕ) (x : T) (xs : List T) → Among 0 xs o → Among 0 (x ∷ xs) (cond b (Some (length xs)) o)
    among_none true o x xs p = (omega arith, none (x ∷ xs) ∙ grind arith)
    among_none false None x xs p = none (x ∷ xs)
    among_none false (Some i) x xs p = (omega (arith, p.0), none (x ∷ xs) ∙ grind (arith, p.0))

    pub place_among : (k : ℕ) (xs : List T) → Among k xs (place_of named name xs)
    place_among k [] = empty k
    place_among zero (x ∷ xs) = among_none _ _ x xs (place_among 0 xs)
    place_among (suc k) (x ∷ xs) = among_more _ _ k x xs (step k x xs) (place_among k xs)
