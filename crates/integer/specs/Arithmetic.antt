-- What each operation gives on the integers: the exact number where INTEGER has it, or the fault.
-- int_div, of the library, rounds toward zero, and int_rem leaves what goes with it, with the dividend's sign.
use Rattle.std.specs.Prelude.{zero, suc, Bool, true, false, cond, ◌&&◌, ℤ, pos, negsuc, ◌+ℤ◌, ◌-ℤ◌, ◌*ℤ◌, neg_ℤ, Ok, Err, Result, int_div, int_le, int_rem, unsigned_abs}
use Rattle.integer.specs.declared.fault.ArithmeticFault.{ArithmeticFault}
use Rattle.integer.specs.declared.fault.ArithmeticFault.TheVariants.{OutsideInteger, ZeroDivisor}

abbrev pub Outcome : Type 0
Outcome = Result ℤ ArithmeticFault

abbrev pub least : ℤ
least = neg_ℤ (pos 2147483648)

abbrev pub greatest : ℤ
greatest = pos 2147483647

-- z, where INTEGER has it
abbrev pub as_integer : ℤ → Outcome
as_integer z = cond (int_le least z && int_le z greatest) (Ok z) (Err OutsideInteger)

-- o, where the divisor y is not 0
abbrev pub unless_zero : ℤ → Outcome → Outcome
unless_zero (pos zero) o = Err ZeroDivisor
unless_zero (pos (suc n)) o = o
unless_zero (negsuc n) o = o

-- whether r is not 0 and has another sign than y
abbrev pub opposed : ℤ → ℤ → Bool
opposed (pos zero) y = false
opposed (pos (suc r)) (pos y) = false
opposed (pos (suc r)) (negsuc y) = true
opposed (negsuc r) (pos y) = true
opposed (negsuc r) (negsuc y) = false

-- the quotient rounded down
abbrev pub floor_z : ℤ → ℤ → ℤ
floor_z x y = cond (opposed (int_rem x y) y) (int_div x y -ℤ pos 1) (int_div x y)

-- the remainder that goes with it, with the divisor's sign
abbrev pub mod_z : ℤ → ℤ → ℤ
mod_z x y = cond (opposed (int_rem x y) y) (int_rem x y +ℤ y) (int_rem x y)

abbrev pub sum_of : ℤ → ℤ → Outcome
sum_of x y = as_integer (x +ℤ y)

abbrev pub difference_of : ℤ → ℤ → Outcome
difference_of x y = as_integer (x -ℤ y)

abbrev pub product_of : ℤ → ℤ → Outcome
product_of x y = as_integer (x *ℤ y)

abbrev pub quotient_of : ℤ → ℤ → Outcome
quotient_of x y = unless_zero y (as_integer (int_div x y))

abbrev pub modulus_of : ℤ → ℤ → Outcome
modulus_of x y = unless_zero y (Ok (mod_z x y))

abbrev pub remainder_of : ℤ → ℤ → Outcome
remainder_of x y = unless_zero y (Ok (int_rem x y))

abbrev pub negation_of : ℤ → Outcome
negation_of x = as_integer (neg_ℤ x)

abbrev pub absolute_of : ℤ → Outcome
absolute_of x = as_integer (pos (unsigned_abs x))
