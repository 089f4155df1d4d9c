-- A table as a tree: who names whom, and what is reached. Assumes nothing.
use Rattle.std.specs.Prelude.{◌≡◌, ℕ, ◌<◌, length, Some}
use Rattle.procedure.specs.declared.layout.Role.{Role}
use Rattle.procedure.specs.Table.{Table, node, layout_at}

-- one of the references of node m is used in the role r and holds n
pub data Refers (t : Table) (m : ℕ) (r : Role) (n : ℕ) : Type 0 where
  by_a : (layout_at t m).a ≡ Some r → (node t m).a ≡ n → Refers t m r n
  by_b : (layout_at t m).b ≡ Some r → (node t m).b ≡ n → Refers t m r n
  by_c : (layout_at t m).c ≡ Some r → (node t m).c ≡ n → Refers t m r n
  by_next : (layout_at t m).next ≡ Some r → (node t m).next ≡ n → Refers t m r n

-- node m names node n: a reference of m that is used holds n, which is not 0
pub record Names (t : Table) (m n : ℕ) : Type 0 where
  pub role : Role
  pub part : 0 < n
  pub refers : Refers t m role n

-- what is reached from node 0 by following what each node names
pub data Reached (t : Table) : ℕ → Type 0 where
  root : Reached t 0
  onward : {m n : ℕ} → Reached t m → Names t m n → Reached t n

-- Every node but 0 has exactly one namer, and every node is reached from node 0.
pub record Tree (t : Table) : Type 0 where
  pub namer : (n : ℕ) → 0 < n → n < length t → (m : ℕ) × Names t m n
  pub no_other : (n k m : ℕ) → n < length t → Names t k n → Names t m n → k ≡ m
  pub reached : (n : ℕ) → n < length t → Reached t n
