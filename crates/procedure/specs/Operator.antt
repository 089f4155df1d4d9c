-- Which number is which operator. Assumes nothing.
use Rattle.std.specs.Prelude.{cond, ℤ, pos, negsuc, Some, None, Option, ◌==◌}
use Rattle.procedure.specs.declared.operator.UnaryOperator.{UnaryOperator}
use Rattle.procedure.specs.declared.operator.UnaryOperator.TheVariants.{Plus, Minus, Abs, Not}
use Rattle.procedure.specs.declared.operator.BinaryOperator.{BinaryOperator}
use Rattle.procedure.specs.declared.operator.BinaryOperator.TheVariants.{Arithmetic, Relational, Logical}
use Rattle.procedure.specs.declared.operator.ArithmeticOperator.TheVariants.{Add, Subtract, Multiply, Divide, Mod, Rem}
use Rattle.procedure.specs.declared.operator.RelationalOperator.TheVariants.{Equal, NotEqual, Less, LessOrEqual, Greater, GreaterOrEqual}
use Rattle.procedure.specs.declared.operator.LogicalOperator.TheVariants.{And, Or, Xor}

-- the unary operator of a number, where the number is listed
abbrev pub unary_operator_of : ℤ → Option UnaryOperator
unary_operator_of (negsuc n) = None
unary_operator_of (pos n) =
    cond (n == 1) (Some Plus)
    (cond (n == 2) (Some Minus)
    (cond (n == 3) (Some Abs)
    (cond (n == 4) (Some Not) None)))

-- the binary operator of a number, where the number is listed
abbrev pub binary_operator_of : ℤ → Option BinaryOperator
binary_operator_of (negsuc n) = None
binary_operator_of (pos n) =
    cond (n == 11) (Some (Arithmetic Add))
    (cond (n == 12) (Some (Arithmetic Subtract))
    (cond (n == 13) (Some (Arithmetic Multiply))
    (cond (n == 14) (Some (Arithmetic Divide))
    (cond (n == 15) (Some (Arithmetic Mod))
    (cond (n == 16) (Some (Arithmetic Rem))
    (cond (n == 21) (Some (Relational Equal))
    (cond (n == 22) (Some (Relational NotEqual))
    (cond (n == 23) (Some (Relational Less))
    (cond (n == 24) (Some (Relational LessOrEqual))
    (cond (n == 25) (Some (Relational Greater))
    (cond (n == 26) (Some (Relational GreaterOrEqual))
    (cond (n == 31) (Some (Logical And))
    (cond (n == 32) (Some (Logical Or))
    (cond (n == 33) (Some (Logical Xor)) None))))))))))))))
