-- One part after another: the first fault counts. Assumes nothing.
use Rattle.std.specs.Prelude.{ℕ, Bool, true, false, Ok, Err, Result}
use Rattle.procedure.specs.declared.refusal.Reason.{Reason}
use Rattle.procedure.specs.declared.refusal.Refusal.{Refusal}

-- what a first part gives, and then the next part
abbrev pub and_then : {T U E : Type 0} → Result T E → (T → Result U E) → Result U E
and_then (Ok x) next = next x
and_then (Err e) next = Err e

-- go on if the test holds, else that fault
abbrev pub unless_fails : {E : Type 0} → Bool → E → Result (Unit {0}) E
unless_fails true fault = Ok tt
unless_fails false fault = Err fault

-- an answer, or a refusal
abbrev pub Answer : Type 0 → Type 0
Answer T = Result T Refusal

-- refused for a reason at a node
abbrev pub refused_at : {T : Type 0} → Reason → ℕ → Answer T
refused_at reason n = Err (record { reason = reason; node = n })

-- go on if the test holds, else refused
abbrev pub want : Bool → Reason → ℕ → Answer (Unit {0})
want holds reason n = unless_fails holds (record { reason = reason; node = n })
