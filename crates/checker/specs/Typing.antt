-- The type of an expression, or its first fault: left, right, then the operator. Assumes nothing.
use Rattle.std.specs.Prelude.{ℕ, zero, suc, Bool, true, false, List, Some, None, Ok, Option}
use Rattle.procedure.specs.declared.kind.Kind.{Kind}
use Rattle.procedure.specs.declared.kind.Kind.TheVariants.{Procedure, Declaration as DeclarationKind, Statement, Expression}
use Rattle.procedure.specs.declared.kind.ExpressionKind.TheVariants.{Numeral, Name, Unary, Binary}
use Rattle.procedure.specs.declared.operator.UnaryOperator.{UnaryOperator}
use Rattle.procedure.specs.declared.operator.UnaryOperator.TheVariants.{Plus, Minus, Abs, Not}
use Rattle.procedure.specs.declared.operator.BinaryOperator.{BinaryOperator}
use Rattle.procedure.specs.declared.operator.BinaryOperator.TheVariants.{Arithmetic, Relational, Logical}
use Rattle.procedure.specs.declared.refusal.Reason.TheVariants.{Misshapen, Unmarked, Unknown, Mismatched, Fixed}
use Rattle.procedure.specs.declared.types.«Type».{«Type» as TypeT}
use Rattle.procedure.specs.declared.types.«Type».TheVariants.{Integer, Boolean}
use Rattle.procedure.specs.Operator.{unary_operator_of, binary_operator_of}
use Rattle.procedure.specs.Sequence.{Answer, refused_at, and_then}
use Rattle.procedure.specs.Table.{Table, node, part}
use Rattle.checker.specs.declared.names.Declaration.{Declaration}
use Rattle.checker.specs.declared.names.Meaning.{Meaning}
use Rattle.checker.specs.declared.names.Meaning.TheVariants.{Mark, Object}
use Rattle.checker.specs.Names.{means_inside}

-- the type of an object that a name denotes
abbrev pub object_type : Option Meaning → ℕ → Answer TypeT
object_type None n = refused_at Unknown n
object_type (Some (Mark t)) n = refused_at Unknown n
object_type (Some (Object t constant)) n = Ok t

-- plus, minus and abs want INTEGER, not wants BOOLEAN
abbrev pub unary_type : Option UnaryOperator → TypeT → ℕ → Answer TypeT
unary_type None t n = refused_at Misshapen n
unary_type (Some Plus) Integer n = Ok Integer
unary_type (Some Plus) Boolean n = refused_at Mismatched n
unary_type (Some Minus) Integer n = Ok Integer
unary_type (Some Minus) Boolean n = refused_at Mismatched n
unary_type (Some Abs) Integer n = Ok Integer
unary_type (Some Abs) Boolean n = refused_at Mismatched n
unary_type (Some Not) Integer n = refused_at Mismatched n
unary_type (Some Not) Boolean n = Ok Boolean

-- arithmetic wants two of INTEGER, a relation two of one type, and, or and xor two of BOOLEAN
abbrev pub binary_type : Option BinaryOperator → TypeT → TypeT → ℕ → Answer TypeT
binary_type None l r n = refused_at Misshapen n
binary_type (Some (Arithmetic o)) Integer Integer n = Ok Integer
binary_type (Some (Arithmetic o)) Integer Boolean n = refused_at Mismatched n
binary_type (Some (Arithmetic o)) Boolean r n = refused_at Mismatched n
binary_type (Some (Relational o)) Integer Integer n = Ok Boolean
binary_type (Some (Relational o)) Integer Boolean n = refused_at Mismatched n
binary_type (Some (Relational o)) Boolean Integer n = refused_at Mismatched n
binary_type (Some (Relational o)) Boolean Boolean n = Ok Boolean
binary_type (Some (Logical o)) Integer r n = refused_at Mismatched n
binary_type (Some (Logical o)) Boolean Integer n = refused_at Mismatched n
binary_type (Some (Logical o)) Boolean Boolean n = Ok Boolean

-- the type of the node n of a kind, where below gives the types of its operands
abbrev pub typed_as : (ℕ → Answer TypeT) → Option Kind → Table → Option ℕ → List Declaration → ℕ → Answer TypeT
typed_as below None t own declared n = refused_at Misshapen n
typed_as below (Some Procedure) t own declared n = refused_at Misshapen n
typed_as below (Some (DeclarationKind k)) t own declared n = refused_at Misshapen n
typed_as below (Some (Statement k)) t own declared n = refused_at Misshapen n
typed_as below (Some (Expression Numeral)) t own declared n = Ok Integer
typed_as below (Some (Expression Name)) t own declared n = object_type (means_inside own declared (node t n).name) n
typed_as below (Some (Expression Unary)) t own declared n =
    and_then (below (node t n).a) λ x. unary_type (unary_operator_of (node t n).lo) x n
typed_as below (Some (Expression Binary)) t own declared n =
    and_then (below (node t n).a) λ l. and_then (below (node t n).b) λ r. binary_type (binary_operator_of (node t n).lo) l r n

-- the type of an expression of so many levels at most
unfoldable pub typed : ℕ → Table → Option ℕ → List Declaration → ℕ → Answer TypeT
typed zero t own declared n = refused_at Misshapen n
typed (suc levels) t own declared n = typed_as (typed levels t own declared) (part t n) t own declared n

abbrev pub same_type : TypeT → TypeT → Bool
same_type Integer Integer = true
same_type Integer Boolean = false
same_type Boolean Integer = false
same_type Boolean Boolean = true

-- the type that a mark denotes, where the field lo holds a name that means one
abbrev pub mark_type : Option Meaning → ℕ → Answer TypeT
mark_type None n = refused_at Unmarked n
mark_type (Some (Mark t)) n = Ok t
mark_type (Some (Object t constant)) n = refused_at Unmarked n

-- the type of a target, which is no constant
abbrev pub target_type : Option Meaning → ℕ → Answer TypeT
target_type None n = refused_at Unknown n
target_type (Some (Mark t)) n = refused_at Unknown n
target_type (Some (Object t false)) n = Ok t
target_type (Some (Object t true)) n = refused_at Fixed n
