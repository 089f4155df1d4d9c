-- How the nodes of a table are named by one another. Assumes nothing.
use Rattle.std.specs.Prelude.{ℕ, zero, suc, ◌+◌, Bool, true, false, cond, List, [], ◌∷◌, Some, None, Option, ◌==◌}
use Rattle.procedure.specs.declared.layout.Layout.{Layout}
use Rattle.procedure.specs.declared.layout.Role.{Role}
use Rattle.procedure.specs.declared.naming.Naming.{Naming}
use Rattle.procedure.specs.declared.naming.Naming.TheVariants.{Never, Once, Often}
use Rattle.procedure.specs.declared.node.Node.{Node}
use Rattle.procedure.specs.Table.{Table, layout_of}

abbrev pub once_more : ℕ → Role → Naming → Naming
once_more m role Never = Once m role
once_more m role (Once k r) = Often
once_more m role Often = Often

-- how n is named, after a reference of node m to v, which names nothing where it is not used
abbrev pub after_reference : ℕ → ℕ → Option Role → ℕ → Naming → Naming
after_reference n m None v s = s
after_reference n m (Some role) zero s = s
after_reference n m (Some role) (suc v) s = cond (suc v == n) (once_more m role s) s

-- and after all references of node m, which is x and has the layout l
abbrev pub after_node : ℕ → ℕ → Layout → Node → Naming → Naming
after_node n m l x s =
    after_reference n m l.next x.next
    (after_reference n m l.c x.c
    (after_reference n m l.b x.b
    (after_reference n m l.a x.a s)))

-- and after all nodes of a list whose first has the number m
abbrev pub after_nodes : ℕ → ℕ → List Node → Naming → Naming
after_nodes n m [] s = s
after_nodes n m (x ∷ xs) s = after_nodes n (m + 1) xs (after_node n m (layout_of x) x s)

-- how the table names node n: each reference counts for itself
abbrev pub naming : Table → ℕ → Naming
naming t n = after_nodes n 0 t Never

abbrev pub is_once : Naming → Bool
is_once Never = false
is_once (Once m r) = true
is_once Often = false
