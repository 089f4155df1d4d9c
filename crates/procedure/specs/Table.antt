-- A procedure as a table of nodes, and what stands at a number. Assumes nothing.
use Rattle.std.specs.Prelude.{ℕ, zero, suc, Bool, true, false, List, pos, Some, None, Option, slice_index_or}
use Rattle.procedure.specs.declared.kind.Kind.{Kind}
use Rattle.procedure.specs.declared.kind.Kind.TheVariants.{Procedure, Declaration, Statement, Expression}
use Rattle.procedure.specs.declared.kind.DeclarationKind.TheVariants.{Parameter, Variable, Constant}
use Rattle.procedure.specs.declared.layout.Layout.{Layout}
use Rattle.procedure.specs.declared.node.Node.{Node}
use Rattle.procedure.specs.declared.table.Standing.{Standing}
use Rattle.procedure.specs.declared.table.Standing.TheVariants.{End, Unlisted, Procedure as AProcedure, Declaration as ADeclaration, Statement as AStatement, Expression as AnExpression}
use Rattle.procedure.specs.Kind.{kind_of}
use Rattle.procedure.specs.Layout.{layout}

abbrev pub Table : Type 0
Table = List Node

-- what lies beyond the table: a node of no listed kind
abbrev pub blank : Node
blank = record { kind = 0; name = 0; a = 0; b = 0; c = 0; next = 0; lo = pos 0; hi = pos 0 }

abbrev pub node : Table → ℕ → Node
node t n = slice_index_or t n blank

abbrev pub layout_of : Node → Layout
layout_of x = layout (kind_of x.kind)

abbrev pub layout_at : Table → ℕ → Layout
layout_at t n = layout_of (node t n)

-- the kind of the node that a reference names: 0 names nothing
abbrev pub part : Table → ℕ → Option Kind
part t zero = None
part t (suc n) = kind_of (node t (suc n)).kind

abbrev pub standing_of : Option Kind → Standing
standing_of None = Unlisted
standing_of (Some Procedure) = AProcedure
standing_of (Some (Declaration k)) = ADeclaration k
standing_of (Some (Statement k)) = AStatement k
standing_of (Some (Expression k)) = AnExpression k

-- what stands at a number: 0 is the end of a list
abbrev pub standing : Table → ℕ → Standing
standing t zero = End
standing t (suc n) = standing_of (kind_of (node t (suc n)).kind)

abbrev pub is_procedure : Option Kind → Bool
is_procedure None = false
is_procedure (Some Procedure) = true
is_procedure (Some (Declaration k)) = false
is_procedure (Some (Statement k)) = false
is_procedure (Some (Expression k)) = false

abbrev pub is_declaration : Option Kind → Bool
is_declaration None = false
is_declaration (Some Procedure) = false
is_declaration (Some (Declaration k)) = true
is_declaration (Some (Statement k)) = false
is_declaration (Some (Expression k)) = false

-- a variable or a constant
abbrev pub is_local : Option Kind → Bool
is_local None = false
is_local (Some Procedure) = false
is_local (Some (Declaration Parameter)) = false
is_local (Some (Declaration Variable)) = true
is_local (Some (Declaration Constant)) = true
is_local (Some (Statement k)) = false
is_local (Some (Expression k)) = false

abbrev pub is_statement : Option Kind → Bool
is_statement None = false
is_statement (Some Procedure) = false
is_statement (Some (Declaration k)) = false
is_statement (Some (Statement k)) = true
is_statement (Some (Expression k)) = false

abbrev pub is_expression : Option Kind → Bool
is_expression None = false
is_expression (Some Procedure) = false
is_expression (Some (Declaration k)) = false
is_expression (Some (Statement k)) = false
is_expression (Some (Expression k)) = true

abbrev pub expression_at : Table → ℕ → Bool
expression_at t n = is_expression (kind_of (node t n).kind)
