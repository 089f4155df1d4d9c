-- A number read as an integer, and then taken into a type that holds it. Assumes nothing.
use Rattle.std.specs.Prelude.{◌≡◌, ℤ, Ok, Err, Result, refl}
use Rattle.std.specs.Result.{OkIff}
use Rattle.files.specs.declared.line.LineFault.{LineFault}
use Rattle.procedure.specs.Sequence.{and_then}

-- a fault is told as it is, and a number that the type holds is taken into it
abbrev pub Holding : {X E : Type 0} → (ℤ → Result X E → Type 0) → (ℤ → Type 0) → Result ℤ LineFault → Result X LineFault → Type 0
Holding {X = X} gives holds (Ok z) read = (r : Result X _) → gives z r → holds z → (x : X) × (r ≡ Ok x) × (read ≡ Ok x)
Holding gives holds (Err e) read = read ≡ Err e

module _ {X : Type 0} (E : Type 0) (holds : ℤ → Type 0) (value : ℤ → X) where
  converted : (z : ℤ) (r : Result X E) → OkIff r (holds z) (value z) → holds z → (x : X) × (r ≡ Ok x) × (◌≡◌ {A = Result X LineFault} (Ok (value z)) (Ok x))
  converted z (Ok x) gives held = (x, refl, rw gives.1 refl)
  converted z (Err e) gives held = absurd (gives held)

  pub holding : (r : Result ℤ LineFault) → Holding {E = E} (λ z r. OkIff r (holds z) (value z)) holds r (and_then r (λ z. Ok (value z)))
  holding (Ok z) = converted z
  holding (Err e) = refl

pub holding_itself : (E : Type 0) (holds : ℤ → Type 0) (r : Result ℤ LineFault) → Holding {E = E} (λ z r. OkIff r (holds z) z) holds r r
holding_itself E holds (Ok z) = converted E holds (λ z. z) z
holding_itself E holds (Err e) = refl
