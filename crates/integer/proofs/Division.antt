-- The quotients and remainders computed divide as division means, and no others do.
use Rattle.std.proofs.Common.{◌≡◌, ℕ, zero, suc, ◌*◌, ◌%◌, ◌<◌, ◌≤◌, Bool, true, false, cond, ◌⊎◌, ℤ, pos, negsuc, ◌+ℤ◌, ◌-ℤ◌, ◌*ℤ◌, neg_ℤ, nat_abs, ◌<ℤ◌, sym, refl, ap, ◌∙◌, inl, inr, mod-lt, suc-mul, div-add-mod', zero-mul, arith}
use native.Mathlib.Nat.{mod-le}
use lib.IntN.{pred_ℤ, suc_ℤ, pred_ℤ-*ℤ, suc_ℤ-*ℤ, zero-*ℤ, +ℤ_idr, +ℤ_one, -ℤ_one}
use lib.Signed.{quot_z, rem_z}
use Rattle.std.proofs.lemmas.Int.{ints}
use Rattle.integer.specs.Arithmetic.{opposed, floor_z, mod_z}
use Rattle.integer.specs.Division.{sign_of, Divides, DividesTruncating, DividesFlooring, DivisionLaws}

-- products

abs_neg : (n : ℕ) → nat_abs (neg_ℤ (pos n)) ≡ n
abs_neg zero = refl
abs_neg (suc n) = refl

abs_product : (m n : ℤ) → nat_abs (m *ℤ n) ≡ nat_abs m * nat_abs n
abs_product (pos m) (pos n) = refl
abs_product (pos m) (negsuc n) = abs_neg (m * suc n)
abs_product (negsuc m) (pos n) = abs_neg (suc m * n)
abs_product (negsuc m) (negsuc n) = refl

less_times : (m n y : ℤ) → (m -ℤ n) *ℤ y ≡ m *ℤ y -ℤ n *ℤ y
less_times m (pos zero) y = rw (+ℤ_idr, zero-*ℤ, +ℤ_idr)
less_times m (pos (suc n)) y =
    let e : m -ℤ pos (suc n) ≡ pred_ℤ (m -ℤ pos n) = omega (arith, ints, -ℤ_one (m -ℤ pos n)) in
    rw (e, pred_ℤ-*ℤ) (omega (arith, ints, less_times m (pos n) y, suc_ℤ-*ℤ (pos n) y))
less_times m (negsuc zero) y =
    let e : m -ℤ negsuc zero ≡ suc_ℤ m = omega (arith, ints, +ℤ_one m) in
    rw (e, suc_ℤ-*ℤ) (omega (arith, ints, pred_ℤ-*ℤ (pos zero) y, zero-*ℤ y))
less_times m (negsuc (suc n)) y =
    let e : m -ℤ negsuc (suc n) ≡ suc_ℤ (m -ℤ negsuc n) = omega (arith, ints, +ℤ_one (m -ℤ negsuc n)) in
    rw (e, suc_ℤ-*ℤ) (omega (arith, ints, less_times m (negsuc n) y, pred_ℤ-*ℤ (negsuc n) y))

-- no two pairs divide x by y with one sign

none-fits : (m n : ℕ) → m * n < n → m ≡ 0
none-fits zero n h = refl
none-fits (suc m) n h = absurd (omega (arith, suc-mul m n))

abs_zero : (z : ℤ) → nat_abs z ≡ 0 → z ≡ pos 0
abs_zero (pos n) e = ap pos e
abs_zero (negsuc n) e = absurd (omega arith)

-- remainders of one sign lie closer than the divisor
closer : (n : ℕ) (r s z : ℤ) → nat_abs r < n → nat_abs s < n → (r ≡ pos 0) ⊎ (sign_of r ≡ sign_of z) → (s ≡ pos 0) ⊎ (sign_of s ≡ sign_of z)
    → nat_abs (s -ℤ r) < n
closer n (pos r) (pos s) z hr hs gr gs = omega (arith, ints)
closer n (pos zero) (negsuc s) z hr hs gr gs = omega (arith, ints)
closer n (pos (suc r)) (negsuc s) z hr hs gr gs = omega (arith, ints)
closer n (negsuc r) (pos zero) z hr hs gr gs = omega (arith, ints)
closer n (negsuc r) (pos (suc s)) z hr hs gr gs = omega (arith, ints)
closer n (negsuc r) (negsuc s) z hr hs gr gs = omega (arith, ints)

only : (x y q r p s z : ℤ) → Divides x y q r z → Divides x y p s z → (q ≡ p) × (r ≡ s)
only x y q r p s z d e =
    let h : nat_abs (s -ℤ r) < nat_abs y = closer (nat_abs y) r s z d.smaller e.smaller d.signed e.signed in
    let apart : (q -ℤ p) *ℤ y ≡ s -ℤ r = omega (arith, ints, d.sums, e.sums, less_times q p y) in
    let none : nat_abs (q -ℤ p) ≡ 0 = none-fits (nat_abs (q -ℤ p)) (nat_abs y) (rw (← abs_product, apart) h) in
    let zero : q -ℤ p ≡ pos 0 = abs_zero (q -ℤ p) none in
    let same : q ≡ p = omega (arith, ints) in
    (same, omega (arith, ints, d.sums, e.sums, ap (λ k. k *ℤ y) same))

-- toward zero

neg_neg : (q b : ℕ) → neg_ℤ (pos q) *ℤ negsuc b ≡ pos (q * suc b)
neg_neg zero b = rw zero-mul
neg_neg (suc q) b = refl

neg_pos : (q b : ℕ) → neg_ℤ (pos q) *ℤ pos b ≡ neg_ℤ (pos (q * b))
neg_pos zero b = rw zero-mul
neg_pos (suc q) b = refl

rem_sums : (x y : ℤ) → x ≡ quot_z x y *ℤ y +ℤ rem_z x y
rem_sums (pos a) (pos b) = omega (arith, ints, div-add-mod' a b)
rem_sums (pos a) (negsuc b) = rw neg_neg (omega (arith, ints, div-add-mod' a (suc b)))
rem_sums (negsuc a) (pos b) = rw neg_pos (omega (arith, ints, div-add-mod' (suc a) b))
rem_sums (negsuc a) (negsuc b) = omega (arith, ints, div-add-mod' (suc a) (suc b))

rem_smaller : (x y : ℤ) → 0 < nat_abs y → nat_abs (rem_z x y) < nat_abs y
rem_smaller (pos a) y h = mod-lt a h
rem_smaller (negsuc a) y h = rw abs_neg (mod-lt (suc a) h)

signed_up : (n a : ℕ) → n ≤ a → (pos n ≡ pos 0) ⊎ (sign_of (pos n) ≡ sign_of (pos a))
signed_up zero a h = inl refl
signed_up (suc n) zero h = absurd (omega arith)
signed_up (suc n) (suc a) h = inr refl

signed_down : (n a : ℕ) → (neg_ℤ (pos n) ≡ pos 0) ⊎ (sign_of (neg_ℤ (pos n)) ≡ sign_of (negsuc a))
signed_down zero a = inl refl
signed_down (suc n) a = inr refl

rem_signed : (x y : ℤ) → (rem_z x y ≡ pos 0) ⊎ (sign_of (rem_z x y) ≡ sign_of x)
rem_signed (pos a) y = signed_up (a % nat_abs y) a (mod-le a (nat_abs y))
rem_signed (negsuc a) y = signed_down (suc a % nat_abs y) a

-- downward

sign_below : (z : ℤ) → z <ℤ pos 0 → sign_of z ≡ negsuc 0
sign_below (pos n) h = absurd (omega (arith, ints))
sign_below (negsuc n) h = refl

sign_above : (z : ℤ) → pos 0 <ℤ z → sign_of z ≡ pos 1
sign_above (pos zero) h = absurd (omega (arith, ints))
sign_above (pos (suc n)) h = refl
sign_above (negsuc n) h = absurd (omega (arith, ints))

-- one less of y in the quotient is one more in the remainder
moved : (x y q r : ℤ) → x ≡ q *ℤ y +ℤ r → x ≡ (q -ℤ pos 1) *ℤ y +ℤ (r +ℤ y)
moved x y q r e = omega (arith, ints, less_times q (pos 1) y, suc_ℤ-*ℤ (pos 0) y, zero-*ℤ y)

floored : (x y q r : ℤ) → x ≡ q *ℤ y +ℤ r → nat_abs r < nat_abs y
    → DividesFlooring x y (cond (opposed r y) (q -ℤ pos 1) q) (cond (opposed r y) (r +ℤ y) r)
floored x y q (pos zero) e h = record { sums = e; smaller = h; signed = inl refl }
floored x (pos zero) q (pos (suc r)) e h = absurd (omega arith)
floored x (pos (suc y)) q (pos (suc r)) e h = record { sums = e; smaller = h; signed = inr refl }
floored x (negsuc y) q (pos (suc r)) e h = record {
  sums = moved x (negsuc y) q (pos (suc r)) e;
  smaller = omega (arith, ints);
  signed = inr (sign_below (pos (suc r) +ℤ negsuc y) (omega (arith, ints)));
}
floored x (pos y) q (negsuc r) e h = record {
  sums = moved x (pos y) q (negsuc r) e;
  smaller = omega (arith, ints);
  signed = inr (sign_above (negsuc r +ℤ pos y) (omega (arith, ints)) ∙ sym (sign_above (pos y) (omega (arith, ints))));
}
floored x (negsuc y) q (negsuc r) e h = record { sums = e; smaller = h; signed = inr refl }

-- both

abs_above : (y : ℤ) → (y ≡ pos 0 → ⊥) → 0 < nat_abs y
abs_above (pos zero) h = absurd (h refl)
abs_above (pos (suc n)) h = omega arith
abs_above (negsuc n) h = omega arith

either : (b : Bool) (m n : ℤ) → (cond b m n ≡ n) ⊎ (cond b m n ≡ m)
either true m n = inr refl
either false m n = inl refl

pub divided : DivisionLaws
divided x y h =
    let t : DividesTruncating x y (quot_z x y) (rem_z x y) = record { sums = rem_sums x y; smaller = rem_smaller x y (abs_above y h); signed = rem_signed x y } in
    let f : DividesFlooring x y (floor_z x y) (mod_z x y) = floored x y (quot_z x y) (rem_z x y) t.sums t.smaller in
    record {
      truncates = t;
      truncates_only = λ q r d. only x y q r (quot_z x y) (rem_z x y) x d t;
      floors = f;
      floors_only = λ q r d. only x y q r (floor_z x y) (mod_z x y) y d f;
      mod_by_rem = either (opposed (rem_z x y) y) (rem_z x y +ℤ y) (rem_z x y);
    }
