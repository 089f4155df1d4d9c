-- The value of digits, held just above the magnitudes of 32-bit numbers. Assumes nothing.
use Rattle.std.proofs.Common.{◌≡◌, ℕ, zero, suc, ◌+◌, ◌-◌, ◌*◌, ◌<◌, ◌≤◌, min, true, false, cond, List, [], ◌∷◌, length, get_or, take, drop, ℤ, pos, negsuc, neg_ℤ, Some, None, Option, refl, ◌∙◌, arith, w32, SFits}
use Rattle.std.specs.Option.{option_map}
use Rattle.std.proofs.lemmas.List.{take_all, take_rest, at_drop_more, at_drop_all}
use Rattle.std.proofs.lemmas.Int.{ints}
use Rattle.std.proofs.lemmas.List.Sums.{fold_more}
use Rattle.std.proofs.lemmas.Bool.{eq-eqb}
use Rattle.std.proofs.lemmas.Bool.Decides.{nat_tests}
use Rattle.files.specs.Held.{held, held_number}
use Rattle.files.specs.Number.{is_digit, all_digits, digits_value, natural_written, number_written, number_within}

-- to hold the value on the way changes nothing
held_more : (n d : ℕ) → held (10 * held n + d) ≡ held (10 * n + d)
held_more n d = grind arith

pub written : (bs : List ℕ) → (length bs ≡ 0 → ⊥) → natural_written bs ≡ cond (all_digits bs) (Some (digits_value bs)) None
written [] some = absurd (some refl)
written (b ∷ bs) some = refl

-- the first i bytes are digits, and value is theirs
abbrev pub Sofar : List ℕ → ℕ → ℕ → Type 0
Sofar bs i value = (all_digits bs ≡ all_digits (drop i bs)) × (value ≡ held (digits_value (take i bs)))

module _ (bs : List ℕ) (i value : ℕ) (sofar : Sofar bs i value) where
  pub digits_more : (d : ℕ) → i < length bs → Some d ≡ cond (is_digit (get_or bs i 0)) (Some (get_or bs i 0 - 48)) None → Sofar bs (i + 1) (held (10 * value + d))
  digits_more d within is =
      let digit : (is_digit (get_or bs i 0) ≡ true) × (d ≡ get_or bs i 0 - 48) = grind arith in
      let rest : all_digits (drop i bs) ≡ all_digits (drop (i + 1) bs) = at_drop_more all_digits bs i 0 within ∙ rw digit.0 refl in
      let next = fold_more (λ n b. 10 * n + (b - 48)) 0 bs i 0 within in
      (sofar.0 ∙ rest, rw (digit.1, sofar.1, held_more, next) refl)

  pub digits_stop : i < length bs → None ≡ cond (is_digit (get_or bs i 0)) (Some (get_or bs i 0 - 48)) None → (length bs ≡ 0 → ⊥) → None ≡ option_map held (natural_written bs)
  digits_stop within is some =
      let other : is_digit (get_or bs i 0) ≡ false = grind arith in
      let rest : all_digits bs ≡ false = sofar.0 ∙ at_drop_more all_digits bs i 0 within ∙ rw other refl in
      rw (written bs some, rest) refl

  pub digits_all : length bs ≤ i → (length bs ≡ 0 → ⊥) → Some value ≡ option_map held (natural_written bs)
  digits_all end some =
      let rest : all_digits bs ≡ true = sofar.0 ∙ at_drop_all all_digits bs i end in
      rw (written bs some, rest, sofar.1, take_all i bs end) refl

-- a word that begins with `-`, as the code takes it apart
pub negative_held : (bs : List ℕ) → 0 < length bs → get_or bs 0 0 ≡ 45 → option_map held_number (number_written bs) ≡ option_map (λ n. neg_ℤ (pos n)) (option_map held (natural_written (take (length bs - 1) (drop 1 bs))))
negative_held [] some minus = absurd (omega arith)
negative_held (b ∷ bs) some minus = rw (eq-eqb b 45 minus, take_rest (b ∷ bs) 1) (both (natural_written bs))
  where
    both : (o : Option ℕ) → option_map held_number (option_map (λ n. neg_ℤ (pos n)) o) ≡ option_map (λ n. neg_ℤ (pos n)) (option_map held o)
    both None = refl
    both (Some zero) = refl
    both (Some (suc n)) = let one_less : held (suc n) ≡ suc (min n 2147483648) = omega arith in rw one_less refl

-- to hold a number leaves it in or out of any range of 32-bit numbers
pub within_held : (low high : ℤ) (o : Option ℤ) → SFits w32 low → SFits w32 high → number_within low high (option_map held_number o) ≡ number_within low high o
within_held low high None l h = refl
within_held low high (Some (pos n)) l h = grind (arith, ints, nat_tests)
within_held low high (Some (negsuc n)) l h = grind (arith, ints, nat_tests)
