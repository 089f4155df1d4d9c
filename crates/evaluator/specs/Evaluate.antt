-- The value of an expression, or its fault. Assumes nothing.
use Rattle.std.specs.Prelude.{ℕ, zero, suc, true, false, cond, List, Some, None, Ok, Err, Option, Result, ◌==◌, nat_lt}
use Rattle.std.specs.Option.{ok_or}
use Rattle.procedure.specs.declared.kind.ExpressionKind.{ExpressionKind}
use Rattle.procedure.specs.declared.kind.ExpressionKind.TheVariants.{Numeral, Name, Unary, Binary}
use Rattle.procedure.specs.declared.kind.Kind.{Kind}
use Rattle.procedure.specs.declared.kind.Kind.TheVariants.{Procedure, Declaration, Statement, Expression}
use Rattle.procedure.specs.Operator.{unary_operator_of, binary_operator_of}
use Rattle.procedure.specs.Sequence.{and_then}
use Rattle.procedure.specs.Table.{Table, node, part}
use Rattle.evaluator.specs.declared.fault.ExpressionFault.{ExpressionFault}
use Rattle.evaluator.specs.declared.fault.ExpressionFault.TheVariants.{NoPart, NoRow, Unsuited, TooDeep}
use Rattle.evaluator.specs.declared.rows.Placed.{Placed}
use Rattle.evaluator.specs.declared.rows.Row.{Row}
use Rattle.evaluator.specs.declared.value.Value.TheVariants.{Integer, Boolean}
use Rattle.evaluator.specs.Operators.{Evaluation, unary_value, binary_value}
use Rattle.evaluator.specs.Rows.{topmost}
use Rattle.evaluator.specs.Values.{value_of_type}

abbrev pub expression_kind : Option Kind → Option ExpressionKind
expression_kind None = None
expression_kind (Some Procedure) = None
expression_kind (Some (Declaration k)) = None
expression_kind (Some (Statement k)) = None
expression_kind (Some (Expression k)) = Some k

-- the kind of the expression that a reference names
abbrev pub expression_of : Table → ℕ → Option ExpressionKind
expression_of t m = expression_kind (part t m)

-- what is no expression is told at the node naming it
abbrev pub named_part : Option ExpressionKind → ℕ → Result ExpressionKind ExpressionFault
named_part k n = ok_or k (NoPart n)

-- an operand of the operator at n has a smaller number
abbrev pub operand_kind : Table → ℕ → ℕ → Result ExpressionKind ExpressionFault
operand_kind t n m = cond (nat_lt m n) (named_part (expression_of t m) n) (Err (NoPart n))

-- the value that a row holds, read at n: a BOOLEAN row that holds neither 0 nor 1 has none
abbrev pub row_value : Row → ℕ → Evaluation
row_value r n = ok_or (value_of_type r.of_type r.value) (Unsuited n)

-- the value of a name: its topmost row's, else TRUE or FALSE
abbrev pub name_value : Option Placed → ℕ → ℕ → Evaluation
name_value (Some p) x n = row_value p.row n
name_value None x n = cond (x == 15) (Ok (Boolean true)) (cond (x == 16) (Ok (Boolean false)) (Err (NoRow n)))

abbrev pub Evaluates : Type 0
Evaluates = ExpressionKind → ℕ → Evaluation

-- the value of the operand m of the operator at n, where below gives the values of expressions
abbrev pub operand_value : Evaluates → Table → ℕ → ℕ → Evaluation
operand_value below t n m = and_then (operand_kind t n m) λ k. below k m

-- the value of the expression of a kind at n, where below gives the values of its operands: left, then right, then the operator
abbrev pub valued : Evaluates → Table → List Row → Evaluates
valued below t rows Numeral n = Ok (Integer (node t n).lo)
valued below t rows Name n = name_value (topmost (node t n).name rows) (node t n).name n
valued below t rows Unary n =
    and_then (operand_value below t n (node t n).a) λ x.
    unary_value (unary_operator_of (node t n).lo) x n
valued below t rows Binary n =
    and_then (operand_value below t n (node t n).a) λ l.
    and_then (operand_value below t n (node t n).b) λ r.
    binary_value (binary_operator_of (node t n).lo) l r n

-- of an expression so many levels are entered at most; rows are read the newest first
unfoldable pub evaluated : ℕ → Table → List Row → Evaluates
evaluated zero t rows k n = Err (TooDeep n)
evaluated (suc levels) t rows k n = valued (evaluated levels t rows) t rows k n

-- the value of the expression m that node n names
abbrev pub root_value : Table → List Row → ℕ → ℕ → Evaluation
root_value t rows n m = and_then (named_part (expression_of t m) n) λ k. evaluated 32 t rows k m
