-- The form of a procedure: the verdict on a table. Assumes nothing.
use Rattle.std.specs.Prelude.{ℕ, zero, suc, Bool, cond, ◌||◌, length, Some, None, Ok, Err, Option, Result, ◌==◌, nat_le, nat_lt}
use Rattle.std.specs.Option.{option_or}
use Rattle.procedure.specs.declared.form.FormFault.{FormFault}
use Rattle.procedure.specs.declared.form.FormFault.TheVariants.{Bulky, Broken}
use Rattle.procedure.specs.declared.refusal.Reason.TheVariants.{Bulky as BulkyReason, Misshapen}
use Rattle.procedure.specs.declared.refusal.Refusal.{Refusal}
use Rattle.procedure.specs.declared.rules.Rule.{Rule}
use Rattle.procedure.specs.declared.rules.Rule.TheVariants.{Shallow}
use Rattle.procedure.specs.Level.{level}
use Rattle.procedure.specs.Limits.{node_limit, level_limit}
use Rattle.procedure.specs.Rules.{unless, broken_rule}
use Rattle.procedure.specs.Table.{Table}

-- No expression is more than 32 levels deep, and statements nest to 32 levels.
abbrev pub shallow : ℕ → Bool
shallow l = nat_le l level_limit

abbrev pub deep_rule : ℕ → Option Rule
deep_rule l = unless (shallow l) Shallow None

abbrev pub too_deep : Table → ℕ → Option Rule
too_deep t n = deep_rule (level t n)

abbrev pub fault_at : ℕ → Option Rule → Option FormFault
fault_at n None = None
fault_at n (Some rule) = Some (Broken rule n)

-- the fault of the lowest of the first k nodes that breaks a rule: that of fewer, or else that of the last of them
abbrev pub lowest : (ℕ → Option Rule) → ℕ → Option FormFault
lowest broken zero = None
lowest broken (suc k) = option_or (lowest broken k) (fault_at k (broken k))

abbrev pub is_bulky : Table → Bool
is_bulky t = length t == 0 || nat_lt node_limit (length t)

-- What a table lacks of the form of a procedure. The depth is asked only where the other rules hold at every node.
abbrev pub form_fault : Table → Option FormFault
form_fault t =
    cond (is_bulky t) (Some Bulky)
    (option_or (lowest (broken_rule t) (length t)) (lowest (too_deep t) (length t)))

-- the refusal that tells of a fault
abbrev pub refusal_of : FormFault → Refusal
refusal_of Bulky = record { reason = BulkyReason; node = 0 }
refusal_of (Broken rule n) = record { reason = Misshapen; node = n }

abbrev pub verdict_on : Option FormFault → Result (Unit {0}) Refusal
verdict_on None = Ok tt
verdict_on (Some fault) = Err (refusal_of fault)

-- the verdict of the form test
abbrev pub tested : Table → Result (Unit {0}) Refusal
tested t = verdict_on (form_fault t)
