-- What holds of an answer if it is no refusal, followed along a sequence.
use Rattle.std.proofs.Common.{◌≡◌, ℕ, Bool, true, false, Ok, Err, Result, refl, subst}
use Rattle.procedure.specs.declared.refusal.Reason.{Reason}
use Rattle.checker.proofs.Chains.{then, need}

pub data Meets {A E : Type 0} (P : A → Type 0) : Result A E → Type 0 where
  met : {x : A} → P x → Meets P (Ok x)
  unmet : {e : E} → Meets P (Err e)

pub meets_then : {A B E : Type 0} {P : A → Type 0} {Q : B → Type 0} {r : Result A E} {k : A → Result B E} → Meets P r → ((x : A) → P x → Meets Q (k x)) → Meets Q (then r k)
unfolding then
meets_then (met h) f = f _ h
meets_then unmet f = unmet

pub meets_map : {A E : Type 0} {P Q : A → Type 0} {r : Result A E} → Meets P r → ((x : A) → P x → Q x) → Meets Q r
meets_map (met h) f = met (f _ h)
meets_map unmet f = unmet

pub meets_all : {A E : Type 0} {P : A → Type 0} (r : Result A E) → ((x : A) → P x) → Meets P r
meets_all (Ok x) f = met (f x)
meets_all (Err e) f = unmet

pub meets_itself : {A E : Type 0} (r : Result A E) → Meets (λ x. r ≡ Ok x) r
meets_itself (Ok x) = met refl
meets_itself (Err e) = unmet

pub wanted : (b : Bool) (reason : Reason) (n : ℕ) → Meets (λ _. b ≡ true) (need b reason n)
unfolding need
wanted true reason n = met refl
wanted false reason n = unmet

met_of : {A E : Type 0} {P : A → Type 0} {x : A} → Meets {E = E} P (Ok x) → P x
met_of (met h) = h

pub met_by : {A E : Type 0} {P : A → Type 0} {x : A} {r : Result A E} → r ≡ Ok x → Meets P r → P x
met_by {P = P} e m = met_of (subst (λ r. Meets P r) e m)
