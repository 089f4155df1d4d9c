-- The operations where they part from one another, and at both ends of INTEGER.
use Rattle.std.specs.Prelude.{◌≡◌, ℕ, List, [], ◌∷◌, map, ℤ, pos, neg_ℤ, Ok, Err}
use Rattle.integer.specs.declared.fault.ArithmeticFault.TheVariants.{OutsideInteger, ZeroDivisor}
use Rattle.integer.specs.Fault.{cause_of}
use Rattle.integer.specs.Arithmetic.{Outcome, least, greatest, sum_of, difference_of, product_of, quotient_of, modulus_of, remainder_of, negation_of, absolute_of}

abbrev pub minus : ℕ → ℤ
minus n = neg_ℤ (pos n)

-- what is asked, and the answer
abbrev pub table : List (Outcome × Outcome)
table =
    (quotient_of (minus 7) (pos 2), Ok (minus 3))
    ∷ (remainder_of (minus 7) (pos 2), Ok (minus 1))
    ∷ (modulus_of (minus 7) (pos 2), Ok (pos 1))
    ∷ (modulus_of (pos 7) (minus 2), Ok (minus 1))
    ∷ (quotient_of least (minus 1), Err OutsideInteger)
    ∷ (remainder_of least (minus 1), Ok (pos 0))
    ∷ (modulus_of least (minus 1), Ok (pos 0))
    ∷ (negation_of least, Err OutsideInteger)
    ∷ (absolute_of least, Err OutsideInteger)
    ∷ (sum_of greatest (pos 1), Err OutsideInteger)
    ∷ (difference_of (pos 0) least, Err OutsideInteger)
    ∷ (product_of least (minus 1), Err OutsideInteger)
    ∷ (quotient_of least (pos 0), Err ZeroDivisor)
    ∷ (remainder_of least (pos 0), Err ZeroDivisor)
    ∷ (modulus_of least (pos 0), Err ZeroDivisor)
    ∷ []

abbrev pub answers : List Outcome
answers = map (λ line. line.1) table

pub record WorkedExamples : Type 0 where
  pub computed : map (λ line. line.0) table ≡ answers
  pub outside_cause : cause_of OutsideInteger ≡ 1
  pub zero_divisor_cause : cause_of ZeroDivisor ≡ 2
