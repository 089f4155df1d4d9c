-- Where a run is not PAUSED, no further step is made.
use Rattle.std.proofs.Common.{◌≡◌, ℕ, zero, suc, ◌+◌, ◌-◌, ◌≤◌, true, false, sym, refl, ap, ◌∙◌, add-zero, add-suc, arith}
use native.Mathlib.Numerals.{unary_clauses}
use Rattle.procedure.specs.Table.{Table}
use Rattle.machine.specs.Go.{advanced, going}
use Rattle.machine.specs.Outcomes.{is_paused}
use Rattle.machine.specs.State.{State, stepped}

pub advanced_paused : (t : Table) (s : State) → is_paused s.progress.outcome ≡ true → advanced t s ≡ stepped t s
advanced_paused t s h = rw h

pub advanced_over : (t : Table) (s : State) → is_paused s.progress.outcome ≡ false → advanced t s ≡ s
advanced_over t s h = rw h

pub going_over : (n : ℕ) (t : Table) (s : State) → is_paused s.progress.outcome ≡ false → going n t s ≡ s
unfolding going
going_over zero t s h = refl
going_over (suc n) t s h = ap (advanced t) (going_over n t s h) ∙ advanced_over t s h

-- Going for one budget and then for another is going for both.
pub going_again : (m n : ℕ) (t : Table) (s : State) → going n t (going m t s) ≡ going (m + n) t s
unfolding going
going_again m zero t s = simp add-zero
going_again m (suc n) t s = ap (advanced t) (going_again m n t s) ∙ simp add-suc

-- one step more, where the run is PAUSED
pub going_step : (n : ℕ) (t : Table) (s u v : State) → u ≡ going n t s → is_paused u.progress.outcome ≡ true → v ≡ stepped t u → v ≡ going (n + 1) t s
unfolding going
going_step n t s u v e p q = q ∙ sym (advanced_paused t u p) ∙ ap (advanced t) e ∙ simp unary_clauses

-- no step more, where it is not
pub going_past : (m n : ℕ) (t : Table) (s u : State) → u ≡ going m t s → is_paused u.progress.outcome ≡ false → m ≤ n → u ≡ going n t s
going_past m n t s u e p h =
    sym (going_over (n - m) t u p) ∙ ap (going (n - m) t) e ∙ going_again m (n - m) t s ∙ ap (λ (k : ℕ). going k t s) (omega arith)

pub going-none : (t : Table) (s : State) → going 0 t s ≡ s
unfolding going
going-none t s = refl

pub going_one_more : (n : ℕ) (t : Table) (s : State) → going (n + 1) t s ≡ advanced t (going n t s)
unfolding going
going_one_more n t s = simp unary_clauses
