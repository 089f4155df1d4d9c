-- What operators give: exact numbers, truths, or a fault at the operator's node. Assumes nothing.
use Rattle.std.specs.Prelude.{ℕ, Bool, cond, not, ◌&&◌, ◌||◌, ℤ, Some, None, Ok, Err, Option, Result, int_le, int_lt}
use Rattle.integer.specs.Arithmetic.{sum_of, difference_of, product_of, quotient_of, modulus_of, remainder_of, negation_of, absolute_of}
use Rattle.integer.specs.declared.fault.ArithmeticFault.{ArithmeticFault}
use Rattle.procedure.specs.declared.operator.ArithmeticOperator.{ArithmeticOperator}
use Rattle.procedure.specs.declared.operator.ArithmeticOperator.TheVariants.{Add, Subtract, Multiply, Divide, Mod, Rem}
use Rattle.procedure.specs.declared.operator.BinaryOperator.{BinaryOperator}
use Rattle.procedure.specs.declared.operator.BinaryOperator.TheVariants.{Arithmetic, Relational, Logical}
use Rattle.procedure.specs.declared.operator.LogicalOperator.{LogicalOperator}
use Rattle.procedure.specs.declared.operator.LogicalOperator.TheVariants.{And, Or, Xor}
use Rattle.procedure.specs.declared.operator.RelationalOperator.{RelationalOperator}
use Rattle.procedure.specs.declared.operator.RelationalOperator.TheVariants.{Equal, NotEqual, Less, LessOrEqual, Greater, GreaterOrEqual}
use Rattle.procedure.specs.declared.operator.UnaryOperator.{UnaryOperator}
use Rattle.procedure.specs.declared.operator.UnaryOperator.TheVariants.{Plus, Minus, Abs, Not}
use Rattle.evaluator.specs.declared.fault.ExpressionFault.{ExpressionFault}
use Rattle.evaluator.specs.declared.fault.ExpressionFault.TheVariants.{Arithmetic as ArithmeticFaulty, Unsuited}
use Rattle.evaluator.specs.declared.value.Value.{Value}
use Rattle.evaluator.specs.declared.value.Value.TheVariants.{Integer, Boolean}
use Rattle.evaluator.specs.Values.{truth_number}

abbrev pub Evaluation : Type 0
Evaluation = Result Value ExpressionFault

abbrev pub computed : ArithmeticOperator → ℤ → ℤ → Result ℤ ArithmeticFault
computed Add x y = sum_of x y
computed Subtract x y = difference_of x y
computed Multiply x y = product_of x y
computed Divide x y = quotient_of x y
computed Mod x y = modulus_of x y
computed Rem x y = remainder_of x y

-- two numbers are equal where neither is the greater
abbrev pub equals : ℤ → ℤ → Bool
equals x y = int_le x y && int_le y x

abbrev pub compared : RelationalOperator → ℤ → ℤ → Bool
compared Equal x y = equals x y
compared NotEqual x y = not (equals x y)
compared Less x y = int_lt x y
compared LessOrEqual x y = int_le x y
compared Greater x y = int_lt y x
compared GreaterOrEqual x y = int_le y x

abbrev pub combined : LogicalOperator → Bool → Bool → Bool
combined And x y = x && y
combined Or x y = x || y
combined Xor x y = cond x (not y) y

-- a result of arithmetic at the operator's node
abbrev pub at_operator : Result ℤ ArithmeticFault → ℕ → Evaluation
at_operator (Ok z) n = Ok (Integer z)
at_operator (Err e) n = Err (ArithmeticFaulty e n)

-- plus, minus and abs take a number, not takes a truth
abbrev pub unary_value : Option UnaryOperator → Value → ℕ → Evaluation
unary_value None v n = Err (Unsuited n)
unary_value (Some Plus) (Integer x) n = Ok (Integer x)
unary_value (Some Plus) (Boolean b) n = Err (Unsuited n)
unary_value (Some Minus) (Integer x) n = at_operator (negation_of x) n
unary_value (Some Minus) (Boolean b) n = Err (Unsuited n)
unary_value (Some Abs) (Integer x) n = at_operator (absolute_of x) n
unary_value (Some Abs) (Boolean b) n = Err (Unsuited n)
unary_value (Some Not) (Integer x) n = Err (Unsuited n)
unary_value (Some Not) (Boolean b) n = Ok (Boolean (not b))

-- arithmetic takes two numbers, a relation two of one type, with FALSE before TRUE, and, or and xor two truths
abbrev pub binary_value : Option BinaryOperator → Value → Value → ℕ → Evaluation
binary_value None l r n = Err (Unsuited n)
binary_value (Some (Arithmetic o)) (Integer x) (Integer y) n = at_operator (computed o x y) n
binary_value (Some (Arithmetic o)) (Integer x) (Boolean c) n = Err (Unsuited n)
binary_value (Some (Arithmetic o)) (Boolean b) r n = Err (Unsuited n)
binary_value (Some (Relational o)) (Integer x) (Integer y) n = Ok (Boolean (compared o x y))
binary_value (Some (Relational o)) (Integer x) (Boolean c) n = Err (Unsuited n)
binary_value (Some (Relational o)) (Boolean b) (Integer y) n = Err (Unsuited n)
binary_value (Some (Relational o)) (Boolean b) (Boolean c) n = Ok (Boolean (compared o (truth_number b) (truth_number c)))
binary_value (Some (Logical o)) (Integer x) r n = Err (Unsuited n)
binary_value (Some (Logical o)) (Boolean b) (Integer y) n = Err (Unsuited n)
binary_value (Some (Logical o)) (Boolean b) (Boolean c) n = Ok (Boolean (combined o b c))
