-- The items newest first: what is written, cut and read.
use Rattle.std.proofs.Common.{◌≡◌, ℕ, zero, suc, ◌+◌, ◌-◌, ◌<◌, ◌≤◌, min, List, [], ◌∷◌, ◌++◌, reverse, length, get_or, take, drop, set, Some, None, Option, sym, refl, ap, ◌∙◌, arith}
use native.Mathlib.Numerals.{unary_clauses}
use Rattle.std.specs.List.{slice_get}
use Rattle.std.proofs.lemmas.Option.{slice_get-get_or}
use Rattle.std.proofs.lemmas.List.{append-nil, reverse-append, length-reverse, length-drop, length-take-le, take-append-drop, drop_at, take-set-le, take-take, take_more_set, get_or-reverse, get_or-take, get_or-set_same, get_or-set_other, length-set, same_lists}
use Rattle.std.proofs.lemmas.Bool.{cases_eq}
use Rattle.stack.specs.Tables.{before, newest, Kept}

module _ {T : Type 0} where
  take_nth : (n : ℕ) (xs : List T) → take (suc n) xs ≡ take n xs ++ before (slice_get xs n) []
  take_nth zero [] = refl
  take_nth zero (x ∷ xs) = refl
  take_nth (suc n) [] = refl
  take_nth (suc n) (x ∷ xs) = rw (take_nth n xs)

  reverse-before : (o : Option T) (ys : List T) → before o (reverse ys) ≡ reverse (ys ++ before o [])
  reverse-before None ys = ap reverse (sym (append-nil ys))
  reverse-before (Some x) ys = sym (reverse-append ys (x ∷ []))

  pub newest-reverse : (n : ℕ) (xs : List T) → newest n xs ≡ reverse (take n xs)
  unfolding newest
  newest-reverse zero xs = refl
  newest-reverse (suc n) xs =
      ap (before (slice_get xs n)) (newest-reverse n xs) ∙ reverse-before (slice_get xs n) (take n xs) ∙ ap reverse (sym (take_nth n xs))

  pub newest_next : (n : ℕ) (xs : List T) (d : T) → n < length xs → newest (suc n) xs ≡ get_or xs n d ∷ newest n xs
  unfolding newest
  newest_next n xs d h = rw (slice_get-get_or xs n d h)

  pub newest-none : (n : ℕ) (xs : List T) → n ≡ 0 → newest n xs ≡ []
  unfolding newest
  newest-none n xs h = rw h

  pub length-newest : (n : ℕ) (xs : List T) → n ≤ length xs → length (newest n xs) ≡ n
  length-newest n xs h = ap length (newest-reverse n xs) ∙ length-reverse (take n xs) ∙ length-take-le n xs h

  -- a write at or above k
  pub newest-set : (k i : ℕ) (xs : List T) (x : T) → k ≤ i → newest k (set xs i x) ≡ newest k xs
  newest-set k i xs x h = newest-reverse k (set xs i x) ∙ ap reverse (take-set-le k xs i x h) ∙ sym (newest-reverse k xs)

  pub kept_set : (n i : ℕ) (xs : List T) (x : T) → n ≤ i → Kept n xs (set xs i x)
  kept_set n i xs x h k l = newest-set k i xs x (omega arith)

  pub newest-put : (n : ℕ) (xs : List T) (x : T) → n < length xs → newest (n + 1) (set xs n x) ≡ x ∷ newest n xs
  newest-put n xs x h =
      newest-reverse (n + 1) (set xs n x) ∙ ap reverse (take_more_set xs n x h) ∙ reverse-append (take n xs) (x ∷ [])
      ∙ ap (λ ys. x ∷ ys) (sym (newest-reverse n xs))

  pub newest_less : (n : ℕ) (xs : List T) (d : T) → 0 < n → n ≤ length xs → newest n xs ≡ get_or xs (n - 1) d ∷ newest (n - 1) xs
  newest_less zero xs d p h = absurd (omega arith)
  newest_less (suc n) xs d p h = simp unary_clauses (newest_next n xs d (omega arith))

  pub newest-take : (k n : ℕ) (xs : List T) → k ≤ n → newest k (take n xs) ≡ newest k xs
  newest-take k n xs h = newest-reverse k (take n xs) ∙ ap reverse (take-take k n xs h) ∙ sym (newest-reverse k xs)

  reverse-take : (n : ℕ) (ys : List T) → reverse (take n ys) ≡ drop (length ys - n) (reverse ys)
  reverse-take n ys =
      let split : reverse ys ≡ reverse (drop n ys) ++ reverse (take n ys) =
      ap reverse (sym (take-append-drop n ys)) ∙ reverse-append (take n ys) (drop n ys) in
      let long : length (reverse (drop n ys)) ≡ length ys - n = length-reverse (drop n ys) ∙ length-drop n ys in
      sym (ap (drop (length ys - n)) split ∙ drop_at (reverse (drop n ys)) (reverse (take n ys)) (length ys - n) long)

  pub take_min : (n h : ℕ) (xs : List T) → take (min n h) xs ≡ take n (take h xs)
  take_min zero h xs = simp unary_clauses
  take_min (suc n) zero xs = simp unary_clauses
  take_min (suc n) (suc h) [] = simp unary_clauses
  take_min (suc n) (suc h) (x ∷ xs) = simp unary_clauses (ap (λ ys. x ∷ ys) (take_min n h xs))

  pub newest-cut : (n h : ℕ) (xs : List T) → h ≤ length xs → newest (min n h) xs ≡ drop (h - n) (newest h xs)
  newest-cut n h xs l =
      let long : length (take h xs) ≡ h = length-take-le h xs l in
      newest-reverse (min n h) xs ∙ ap reverse (take_min n h xs) ∙ reverse-take n (take h xs)
      ∙ ap (λ k. drop (k - n) (reverse (take h xs))) long ∙ ap (drop (h - n)) (sym (newest-reverse h xs))

  pub get_or-newest : (i h : ℕ) (xs : List T) (d : T) → i < h → h ≤ length xs → get_or (newest h xs) i d ≡ get_or xs (h - 1 - i) d
  get_or-newest i h xs d p l =
      let long : length (take h xs) ≡ h = length-take-le h xs l in
      ap (λ ys. get_or ys i d) (newest-reverse h xs) ∙ get_or-reverse (take h xs) i d (omega arith) ∙
      ap (λ k. get_or (take h xs) (k - 1 - i) d) long ∙ get_or-take h xs (h - 1 - i) d (omega arith)

  pub newest-replace : (i h : ℕ) (xs : List T) (x : T) → i < h → h ≤ length xs → newest h (set xs i x) ≡ set (newest h xs) (h - 1 - i) x
  newest-replace i h xs x p l =
      let a : h ≤ length (set xs i x) = simp length-set l in
      let long = length-newest h xs l in
      let long' = length-newest h (set xs i x) a in
      same_lists _ _ (long' ∙ sym long ∙ simp length-set)
      (λ k d q. grind (arith, get_or-newest, get_or-set_same, get_or-set_other, length-set, cases_eq k (h - 1 - i), cases_eq (h - 1 - k) i))

  -- in a list that has an item, that item serves as the default
  slice_get_same : (xs ys : List T) (i j : ℕ) → i < length xs → j < length ys → ((d : T) → get_or xs i d ≡ get_or ys j d) → slice_get xs i ≡ slice_get ys j
  slice_get_same [] ys i j p q e = absurd (omega arith)
  slice_get_same (x ∷ xs) ys i j p q e = slice_get-get_or (x ∷ xs) i x p ∙ ap Some (e x) ∙ sym (slice_get-get_or ys j x q)

  pub slice_get-newest : (k h : ℕ) (xs : List T) → k < h → h ≤ length xs → slice_get (newest h xs) k ≡ slice_get (take h xs) (h - 1 - k)
  slice_get-newest k h xs p l =
      let long = length-newest h xs l in
      let long' = length-take-le h xs l in
      slice_get_same (newest h xs) (take h xs) k (h - 1 - k) (omega arith) (omega arith)
      (λ d. get_or-newest k h xs d p l ∙ sym (get_or-take h xs (h - 1 - k) d (omega arith)))

-- what a client's search wants
pub ruleset newest_laws = (newest-none, newest_less, newest-put, newest-set, length-newest)
