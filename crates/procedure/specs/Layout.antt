-- What the fields of a node hold, by its kind: the table of the format. Assumes nothing.
use Rattle.std.specs.Prelude.{Bool, true, false, Some, None, Option}
use Rattle.procedure.specs.declared.kind.Kind.{Kind}
use Rattle.procedure.specs.declared.kind.Kind.TheVariants.{Procedure, Declaration, Statement, Expression}
use Rattle.procedure.specs.declared.kind.DeclarationKind.{DeclarationKind}
use Rattle.procedure.specs.declared.kind.DeclarationKind.TheVariants.{Parameter, Variable, Constant}
use Rattle.procedure.specs.declared.kind.StatementKind.{StatementKind}
use Rattle.procedure.specs.declared.kind.StatementKind.TheVariants.{Null, Assignment, If, For, Block, Get, Put}
use Rattle.procedure.specs.declared.kind.ExpressionKind.{ExpressionKind}
use Rattle.procedure.specs.declared.kind.ExpressionKind.TheVariants.{Numeral, Name, Unary, Binary}
use Rattle.procedure.specs.declared.layout.Layout.{Layout}
use Rattle.procedure.specs.declared.layout.Role.{Role}
use Rattle.procedure.specs.declared.layout.Role.TheVariants.{Operand, Root, Declarations, Locals, Statements, Alternative, Following}
use Rattle.procedure.specs.declared.layout.Number.{Number}
use Rattle.procedure.specs.declared.layout.Number.TheVariants.{Mark, Numeral as Value, Bound, UnaryOperator, BinaryOperator}

-- whether name is used, what lo and hi hold, and what a, b, c and next name: None where the field is not used
abbrev pub fields : Bool → Option Number → Option Number → Option Role → Option Role → Option Role → Option Role → Layout
fields named lo hi a b c next = record { name = named; lo = lo; hi = hi; a = a; b = b; c = c; next = next }

abbrev pub declaration_layout : DeclarationKind → Layout
declaration_layout Parameter = fields true (Some Mark) None None None None (Some Declarations)
declaration_layout Variable = fields true (Some Mark) None (Some Root) None None (Some Locals)
declaration_layout Constant = fields true (Some Mark) None (Some Root) None None (Some Locals)

abbrev pub statement_layout : StatementKind → Layout
statement_layout Null = fields false None None None None None (Some Following)
statement_layout Assignment = fields true None None (Some Root) None None (Some Following)
statement_layout If = fields false None None (Some Root) (Some Statements) (Some Alternative) (Some Following)
statement_layout For = fields true (Some Bound) (Some Bound) (Some Statements) None None (Some Following)
statement_layout Block = fields false None None (Some Locals) (Some Statements) None (Some Following)
statement_layout Get = fields true None None None None None (Some Following)
statement_layout Put = fields false None None (Some Root) None None (Some Following)

abbrev pub expression_layout : ExpressionKind → Layout
expression_layout Numeral = fields false (Some Value) None None None None None
expression_layout Name = fields true None None None None None None
expression_layout Unary = fields false (Some UnaryOperator) None (Some Operand) None None None
expression_layout Binary = fields false (Some BinaryOperator) None (Some Operand) (Some Operand) None None

-- a node of no listed kind uses no field
abbrev pub layout : Option Kind → Layout
layout None = fields false None None None None None None
layout (Some Procedure) = fields true None None (Some Declarations) (Some Statements) None None
layout (Some (Declaration k)) = declaration_layout k
layout (Some (Statement k)) = statement_layout k
layout (Some (Expression k)) = expression_layout k
