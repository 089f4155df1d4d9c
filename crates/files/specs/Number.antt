-- Decimal numbers: which number a word writes, and whether it lies in a range. Assumes nothing.
use Rattle.std.specs.Prelude.{ℕ, ◌+◌, ◌-◌, ◌*◌, Bool, true, cond, ◌&&◌, List, [], ◌∷◌, ℤ, pos, neg_ℤ, Some, None, Ok, Err, fold, Option, Result, ◌==◌, int_le, nat_le}
use Rattle.std.specs.Option.{option_map}
use Rattle.files.specs.declared.number.NumberFault.{NumberFault}
use Rattle.files.specs.declared.number.NumberFault.TheVariants.{NoNumber, OutOfRange}

-- `0` is byte 48, and `9` is byte 57
abbrev pub is_digit : ℕ → Bool
is_digit b = nat_le 48 b && nat_le b 57

abbrev pub all_digits : List ℕ → Bool
all_digits [] = true
all_digits (b ∷ bs) = is_digit b && all_digits bs

-- the value of digits, by Horner's rule from the left
abbrev pub digits_value : List ℕ → ℕ
digits_value bs = fold (λ n b. 10 * n + (b - 48)) 0 bs

-- a natural number is written by one or more digits
abbrev pub natural_written : List ℕ → Option ℕ
natural_written [] = None
natural_written (b ∷ bs) = cond (all_digits (b ∷ bs)) (Some (digits_value (b ∷ bs))) None

-- a number is written by a natural number, with or without the sign `-`, byte 45, in front
abbrev pub number_written : List ℕ → Option ℤ
number_written [] = None
number_written (b ∷ bs) =
    cond (b == 45) (option_map (λ n. neg_ℤ (pos n)) (natural_written bs)) (option_map pos (natural_written (b ∷ bs)))

-- the number, where there is one from low to high
abbrev pub number_within : ℤ → ℤ → Option ℤ → Result ℤ NumberFault
number_within low high None = Err NoNumber
number_within low high (Some z) = cond (int_le low z && int_le z high) (Ok z) (Err OutOfRange)
