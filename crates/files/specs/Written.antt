-- How nodes are written: a line each, eight numbers with a space between them. Assumes nothing.
use Rattle.std.specs.Prelude.{All, ◌≡◌, ◌≤◌, List, [], ◌∷◌, ◌++◌, Ok, decimal}
use Rattle.std.specs.Fmt.{signed_decimal}
use Rattle.procedure.specs.declared.node.Node.{Node}
use Rattle.files.specs.declared.line.Field.TheVariants.{Lo, Hi}
use Rattle.files.specs.Scan.{Bytes}
use Rattle.files.specs.Line.{Within}
use Rattle.files.specs.File.{procedure_read}

-- the fields of a node fit their types
pub record Fitting (n : Node) : Type 0 where
  pub kind : n.kind ≤ 255
  pub name : n.name ≤ 65535
  pub a : n.a ≤ 65535
  pub b : n.b ≤ 65535
  pub c : n.c ≤ 65535
  pub next : n.next ≤ 65535
  pub lo : Within Lo n.lo
  pub hi : Within Hi n.hi

-- words with a space between them
abbrev pub spaced : List Bytes → Bytes
spaced [] = []
spaced (w ∷ []) = w
spaced (w ∷ v ∷ ws) = w ++ (32 ∷ spaced (v ∷ ws))

abbrev pub node_words : Node → List Bytes
node_words n =
    decimal n.kind ∷ decimal n.name ∷ decimal n.a ∷ decimal n.b ∷ decimal n.c ∷ decimal n.next ∷ signed_decimal n.lo ∷ signed_decimal n.hi ∷ []

-- each node on a line of its own
abbrev pub nodes_text : List Node → Bytes
nodes_text [] = []
nodes_text (n ∷ ns) = spaced (node_words n) ++ (10 ∷ nodes_text ns)

-- nodes that are so written are read back
abbrev pub ReadBack : Type 0
ReadBack = (ns : List Node) → All Fitting ns → procedure_read (nodes_text ns) ≡ Ok ns
