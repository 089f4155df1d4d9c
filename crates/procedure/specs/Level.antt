-- The level of a node. Assumes nothing.
use Rattle.std.specs.Prelude.{ℕ, zero, suc, length}
use Rattle.procedure.specs.declared.layout.Role.TheVariants.{Operand, Root, Declarations, Locals, Statements, Alternative, Following}
use Rattle.procedure.specs.declared.naming.Naming.{Naming}
use Rattle.procedure.specs.declared.naming.Naming.TheVariants.{Never, Once, Often}
use Rattle.procedure.specs.Naming.{naming}
use Rattle.procedure.specs.Table.{Table}

-- the level of a node by how it is named, where up gives the level of the node naming it
abbrev pub level_by : (ℕ → ℕ) → Naming → ℕ
level_by up Never = 0
level_by up (Once m Operand) = suc (up m)
level_by up (Once m Root) = 1
level_by up (Once m Declarations) = 0
level_by up (Once m Locals) = 0
level_by up (Once m Statements) = suc (up m)
level_by up (Once m Alternative) = suc (up m)
level_by up (Once m Following) = up m
level_by up Often = 0

-- the same, from one naming node to the next, at most f of them
abbrev pub level_within : ℕ → Table → ℕ → ℕ
level_within zero t n = 0
level_within (suc f) t n = level_by (level_within f t) (naming t n)

-- The level of a node: an expression's root is on the first, and its operands on the next; the procedure's statements are
-- on the first, and the lists inside a statement on the next. The procedure itself and declarations are on none.
-- No chain of naming nodes is longer than the table.
abbrev pub level : Table → ℕ → ℕ
level t n = level_within (length t) t n
