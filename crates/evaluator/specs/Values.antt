-- Values, and the numbers that stand for them. Assumes nothing.
use Rattle.std.specs.Prelude.{Bool, true, false, cond, ℤ, pos, negsuc, Some, None, Option, ◌==◌}
use Rattle.procedure.specs.declared.types.«Type».{«Type» as TypeT}
use Rattle.procedure.specs.declared.types.«Type».TheVariants.{Integer as IntegerT, Boolean as BooleanT}
use Rattle.evaluator.specs.declared.value.Value.{Value}
use Rattle.evaluator.specs.declared.value.Value.TheVariants.{Integer, Boolean}

-- FALSE is 0, TRUE is 1
abbrev pub truth_number : Bool → ℤ
truth_number false = pos 0
truth_number true = pos 1

abbrev pub number_of : Value → ℤ
number_of (Integer z) = z
number_of (Boolean b) = truth_number b

abbrev pub type_of_value : Value → TypeT
type_of_value (Integer z) = IntegerT
type_of_value (Boolean b) = BooleanT

-- whether a value is of a type
abbrev pub is_of : TypeT → Value → Bool
is_of IntegerT (Integer z) = true
is_of IntegerT (Boolean b) = false
is_of BooleanT (Integer z) = false
is_of BooleanT (Boolean b) = true

-- the BOOLEAN that a number stands for, where it is 0 or 1
abbrev pub truth : ℤ → Option Value
truth (pos n) = cond (n == 0) (Some (Boolean false)) (cond (n == 1) (Some (Boolean true)) None)
truth (negsuc n) = None

-- the value of a type that a number stands for, where it stands for one
abbrev pub value_of_type : TypeT → ℤ → Option Value
value_of_type IntegerT z = Some (Integer z)
value_of_type BooleanT z = truth z
