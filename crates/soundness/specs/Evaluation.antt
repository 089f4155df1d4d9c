-- What an expression that the check has typed comes to. Assumes nothing.
use Rattle.std.specs.Prelude.{◌≡◌, ℕ, ◌⊎◌, List, [], ◌∷◌, pos, Ok, Err, Option}
use Rattle.integer.specs.declared.fault.ArithmeticFault.{ArithmeticFault}
use Rattle.procedure.specs.declared.types.«Type».{«Type» as TypeT}
use Rattle.procedure.specs.declared.types.«Type».TheVariants.{Boolean}
use Rattle.procedure.specs.Formed.{Formed}
use Rattle.procedure.specs.Table.{Table}
use Rattle.evaluator.specs.declared.fault.ExpressionFault.TheVariants.{Arithmetic}
use Rattle.evaluator.specs.declared.rows.Row.{Row}
use Rattle.evaluator.specs.declared.value.Value.{Value}
use Rattle.evaluator.specs.Evaluate.{root_value}
use Rattle.evaluator.specs.Operators.{Evaluation}
use Rattle.evaluator.specs.Values.{type_of_value}
use Rattle.checker.specs.declared.names.Declaration.{Declaration}
use Rattle.checker.specs.Region.{Environment}
use Rattle.checker.specs.Typing.{typed}

-- the declaration that a row was put for
abbrev pub declaration_of : Row → Declaration
declaration_of r = record { name = r.name; of_type = r.of_type; constant = r.constant }

abbrev pub declarations_of : List Row → Environment
declarations_of [] = []
declarations_of (r ∷ rows) = declaration_of r ∷ declarations_of rows

-- every BOOLEAN row holds 0 or 1
pub data Truths : List Row → Type 0 where
  none : Truths []
  more : {r : Row} {rows : List Row} → (r.of_type ≡ Boolean → (r.value ≡ pos 0) ⊎ (r.value ≡ pos 1)) → Truths rows → Truths (r ∷ rows)

-- a value of a type, or a fault of arithmetic
pub data ComesTo (of_type : TypeT) : Evaluation → Type 0 where
  value : (v : Value) → type_of_value v ≡ of_type → ComesTo of_type (Ok v)
  fault : (e : ArithmeticFault) (n : ℕ) → ComesTo of_type (Err (Arithmetic e n))

-- Where an expression e, which node n names, has a type among the declarations of the rows, its value is of that type, or arithmetic
-- faults. The same holds inside a declaration, whose own name means nothing.
abbrev pub EvaluationIsTyped : Type 0
EvaluationIsTyped =
    (t : Table) (rows : List Row) (own : Option ℕ) (n e : ℕ) (of_type : TypeT) → Formed t → Truths rows
    → typed 32 t own (declarations_of rows) e ≡ Ok of_type → ComesTo of_type (root_value t rows n e)
