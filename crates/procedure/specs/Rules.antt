-- The rules of the form that look at a node and what it names. Assumes nothing.
use Rattle.std.specs.Prelude.{◌≡◌, ℕ, ◌<◌, Bool, true, false, cond, not, ◌&&◌, ◌||◌, length, ℤ, pos, negsuc, is_some, Some, None, Option, ◌==◌, nat_le, nat_lt}
use Rattle.procedure.specs.declared.layout.Layout.{Layout}
use Rattle.procedure.specs.declared.layout.Role.{Role}
use Rattle.procedure.specs.declared.layout.Role.TheVariants.{Operand, Root, Declarations, Locals, Statements, Alternative, Following}
use Rattle.procedure.specs.declared.layout.Number.{Number}
use Rattle.procedure.specs.declared.layout.Number.TheVariants.{Mark, Numeral, Bound, UnaryOperator, BinaryOperator}
use Rattle.procedure.specs.declared.naming.Naming.{Naming}
use Rattle.procedure.specs.declared.node.Node.{Node}
use Rattle.procedure.specs.declared.rules.Rule.{Rule}
use Rattle.procedure.specs.declared.rules.Rule.TheVariants.{Rooted, Listed, Sorted, Ordered, NamedOnce}
use Rattle.procedure.specs.Kind.{kind_of}
use Rattle.procedure.specs.Limits.{last_name}
use Rattle.procedure.specs.Naming.{naming, is_once}
use Rattle.procedure.specs.Operator.{unary_operator_of, binary_operator_of}
use Rattle.procedure.specs.Table.{Table, node, layout_of, part, is_procedure, is_declaration, is_local, is_statement, is_expression}

-- Node 0 is a procedure, and no other node is.
abbrev pub rooted : ℕ → Node → Bool
rooted n x = cond (n == 0) (is_procedure (kind_of x.kind)) (not (is_procedure (kind_of x.kind)))

-- The kind is listed.
abbrev pub listed : Node → Bool
listed x = is_some (kind_of x.kind)

abbrev pub is_name : ℕ → Bool
is_name n = nat_le 1 n && nat_le n last_name

-- a field name: a name where it is used, else 0
abbrev pub name_holds : Bool → ℕ → Bool
name_holds true n = is_name n
name_holds false n = n == 0

-- a field lo or hi: a value of its sort where it is used, else 0
abbrev pub number_holds : Option Number → ℤ → Bool
number_holds None (pos n) = n == 0
number_holds None (negsuc n) = false
number_holds (Some Mark) (pos n) = is_name n
number_holds (Some Mark) (negsuc n) = false
number_holds (Some Numeral) (pos n) = true
number_holds (Some Numeral) (negsuc n) = false
number_holds (Some Bound) z = true
number_holds (Some UnaryOperator) z = is_some (unary_operator_of z)
number_holds (Some BinaryOperator) z = is_some (binary_operator_of z)

-- a reference names a node of its sort, or nothing where it may
abbrev pub fits : Table → Role → ℕ → Bool
fits t Operand m = is_expression (part t m)
fits t Root m = is_expression (part t m)
fits t Declarations m = m == 0 || is_declaration (part t m)
fits t Locals m = m == 0 || is_local (part t m)
fits t Statements m = is_statement (part t m)
fits t Alternative m = m == 0 || is_statement (part t m)
fits t Following m = m == 0 || is_statement (part t m)

-- a reference: a node of its sort where it is used, else 0
abbrev pub part_holds : Table → Option Role → ℕ → Bool
part_holds t None m = m == 0
part_holds t (Some role) m = fits t role m

abbrev pub values_hold : Layout → Node → Bool
values_hold l x = name_holds l.name x.name && (number_holds l.lo x.lo && number_holds l.hi x.hi)

abbrev pub parts_fit : Table → Layout → Node → Bool
parts_fit t l x = part_holds t l.a x.a && (part_holds t l.b x.b && (part_holds t l.c x.c && part_holds t l.next x.next))

-- Each field has a value of its sort.
abbrev pub sorted : Table → Node → Bool
sorted t x = values_hold (layout_of x) x && parts_fit t (layout_of x) x

-- an operand m has a smaller number than its operator n; what else n names has a greater one
abbrev pub in_order : ℕ → Role → ℕ → Bool
in_order n Operand m = nat_lt m n
in_order n Root m = nat_lt n m
in_order n Declarations m = m == 0 || nat_lt n m
in_order n Locals m = m == 0 || nat_lt n m
in_order n Statements m = nat_lt n m
in_order n Alternative m = m == 0 || nat_lt n m
in_order n Following m = m == 0 || nat_lt n m

abbrev pub part_in_order : ℕ → Option Role → ℕ → Bool
part_in_order n None m = true
part_in_order n (Some role) m = in_order n role m

abbrev pub parts_in_order : ℕ → Layout → Node → Bool
parts_in_order n l x = part_in_order n l.a x.a && (part_in_order n l.b x.b && (part_in_order n l.c x.c && part_in_order n l.next x.next))

-- Operands have smaller numbers than their operator; all other parts, and next, have greater numbers than the node naming them.
abbrev pub ordered : ℕ → Node → Bool
ordered n x = parts_in_order n (layout_of x) x

-- Every node but 0 is named exactly once.
abbrev pub named_once : ℕ → Naming → Bool
named_once n s = n == 0 || is_once s

-- a rule that does not hold is broken; else what the others say
abbrev pub unless : Bool → Rule → Option Rule → Option Rule
unless true rule others = others
unless false rule others = Some rule

-- the first of these rules that node n, which is x and so named, breaks
abbrev pub broken_by : Table → ℕ → Node → Naming → Option Rule
broken_by t n x s =
    unless (rooted n x) Rooted
    (unless (listed x) Listed
    (unless (sorted t x) Sorted
    (unless (ordered n x) Ordered
    (unless (named_once n s) NamedOnce None))))

abbrev pub broken_rule : Table → ℕ → Option Rule
broken_rule t n = broken_by t n (node t n) (naming t n)

-- no node of the table breaks one of these rules
abbrev pub Obeys : Table → Type 0
Obeys t = (n : ℕ) → n < length t → broken_rule t n ≡ None
