-- Which objects are open at a place of a procedure, said of its table alone. Assumes nothing.
use Rattle.std.specs.Prelude.{◌≡◌, ℕ, List, [], ◌∷◌, Some}
use Rattle.procedure.specs.declared.kind.DeclarationKind.{DeclarationKind}
use Rattle.procedure.specs.declared.kind.StatementKind.{StatementKind}
use Rattle.procedure.specs.declared.kind.StatementKind.TheVariants.{If, For, Block}
use Rattle.procedure.specs.declared.node.Node.{Node}
use Rattle.procedure.specs.declared.table.Standing.TheVariants.{Declaration, Statement}
use Rattle.procedure.specs.declared.types.«Type».{«Type» as TypeT}
use Rattle.procedure.specs.declared.types.«Type».TheVariants.{Integer}
use Rattle.procedure.specs.Table.{Table, node, standing}
use Rattle.machine.specs.Decide.{mark_of}

pub record Object : Type 0 where
  pub name : ℕ
  pub type : TypeT

-- The open objects, the newest first: declarations within a list in reverse order, the innermost list first.
abbrev pub Objects : Type 0
Objects = List Object

-- the object of a declaration or of a FOR
abbrev pub object : Node → TypeT → Object
object x of_type = record { name = x.name; type = of_type }

-- The list of statements that begins at head comes to at, which is one of its nodes or, as 0, its end.
pub data Along (t : Table) (head : ℕ) : ℕ → Type 0 where
  start : Along t head head
  on : {at : ℕ} (k : StatementKind) → Along t head at → standing t at ≡ Statement k → Along t head (node t at).next

-- The declarations of the list that begins at head, up to at, opened on top of Γ, give Δ: each with the type that its mark denotes.
pub data Declared (t : Table) (head : ℕ) (Γ : Objects) : ℕ → Objects → Type 0 where
  none : Declared t head Γ head Γ
  more : {at : ℕ} {Δ : Objects} (k : DeclarationKind) (of_type : TypeT) → Declared t head Γ at Δ → standing t at ≡ Declaration k
      → mark_of (node t at).lo ≡ Some of_type → Declared t head Γ (node t at).next (object (node t at) of_type ∷ Δ)

-- Open at a place of a procedure or block with the declarations d and the statements b, around which Γ is open: at a
-- declaration those earlier in its list, at a statement and at the end of the statements all of them.
pub data Within (t : Table) (d b : ℕ) (Γ : Objects) (at : ℕ) (Δ : Objects) : Type 0 where
  declaring : (k : DeclarationKind) → standing t at ≡ Declaration k → Declared t d Γ at Δ → Within t d b Γ at Δ
  stating : Declared t d Γ 0 Δ → Along t b at → Within t d b Γ at Δ

-- Open at a place of a list of holder, which is 0 for the procedure, or the node of an IF, a FOR or a block. What is open at
-- that node is open inside it too; a FOR adds its parameter, a block its declarations.
pub data Open (t : Table) : ℕ → ℕ → Objects → Type 0 where
  outermost : {at : ℕ} {Δ : Objects} → Within t (node t 0).a (node t 0).b [] at Δ → Open t 0 at Δ
  in_then : {holder n at : ℕ} {Γ : Objects} → standing t n ≡ Statement If → Open t holder n Γ → Along t (node t n).b at → Open t n at Γ
  in_else : {holder n at : ℕ} {Γ : Objects} → standing t n ≡ Statement If → Open t holder n Γ → Along t (node t n).c at → Open t n at Γ
  in_loop : {holder n at : ℕ} {Γ : Objects} → standing t n ≡ Statement For → Open t holder n Γ → Along t (node t n).a at
      → Open t n at (object (node t n) Integer ∷ Γ)
  in_block : {holder n at : ℕ} {Γ Δ : Objects} → standing t n ≡ Statement Block → Open t holder n Γ
      → Within t (node t n).a (node t n).b Γ at Δ → Open t n at Δ
