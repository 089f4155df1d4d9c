-- What division means in a textbook's words, and that the quotients and remainders computed are those meant.
use Rattle.std.specs.Prelude.{◌≡◌, zero, suc, ◌<◌, ◌⊎◌, ℤ, pos, negsuc, ◌+ℤ◌, ◌*ℤ◌, ◌≢◌, int_div, int_rem, unsigned_abs}
use Rattle.integer.specs.Arithmetic.{floor_z, mod_z}

-- -1, 0 or 1
abbrev pub sign_of : ℤ → ℤ
sign_of (pos zero) = pos 0
sign_of (pos (suc n)) = pos 1
sign_of (negsuc n) = negsuc 0

-- x divided by y is q and leaves r, which is 0 or has the sign of s
pub record Divides (x y q r s : ℤ) : Type 0 where
  pub sums : x ≡ q *ℤ y +ℤ r
  pub smaller : unsigned_abs r < unsigned_abs y
  pub signed : (r ≡ pos 0) ⊎ (sign_of r ≡ sign_of s)

-- toward zero: what is left has the dividend's sign
abbrev pub DividesTruncating : ℤ → ℤ → ℤ → ℤ → Type 0
DividesTruncating x y q r = Divides x y q r x

-- downward: what is left has the divisor's sign
abbrev pub DividesFlooring : ℤ → ℤ → ℤ → ℤ → Type 0
DividesFlooring x y q r = Divides x y q r y

-- the quotients and remainders computed divide so, and no others do
pub record Divided (x y : ℤ) : Type 0 where
  pub truncates : DividesTruncating x y (int_div x y) (int_rem x y)
  pub truncates_only : (q r : ℤ) → DividesTruncating x y q r → (q ≡ int_div x y) × (r ≡ int_rem x y)
  pub floors : DividesFlooring x y (floor_z x y) (mod_z x y)
  pub floors_only : (q r : ℤ) → DividesFlooring x y q r → (q ≡ floor_z x y) × (r ≡ mod_z x y)
  pub mod_by_rem : (mod_z x y ≡ int_rem x y) ⊎ (mod_z x y ≡ int_rem x y +ℤ y)

abbrev pub DivisionLaws : Type 0
DivisionLaws = (x y : ℤ) → (y ≢ pos 0) → Divided x y
