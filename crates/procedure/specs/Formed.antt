-- What the verdict of the form test means. Assumes nothing.
use Rattle.std.specs.Prelude.{◌≡◌, ℕ, ◌<◌, ◌≤◌, true, length, Some, None, Option}
use Rattle.procedure.specs.declared.refusal.Reason.TheVariants.{Bulky, Misshapen}
use Rattle.procedure.specs.declared.refusal.Refusal.{Refusal}
use Rattle.procedure.specs.declared.rules.Rule.{Rule}
use Rattle.procedure.specs.Form.{is_bulky, too_deep}
use Rattle.procedure.specs.Level.{level}
use Rattle.procedure.specs.Limits.{node_limit, level_limit}
use Rattle.procedure.specs.Rules.{broken_rule, Obeys}
use Rattle.procedure.specs.Table.{Table}
use Rattle.procedure.specs.Tree.{Tree}

-- A table of the form of a procedure: it has 1 to 1,024 nodes, none of which breaks a rule or lies too deep, and it is a tree.
pub record Formed (t : Table) : Type 0 where
  pub some : 0 < length t
  pub few : length t ≤ node_limit
  pub obeys : Obeys t
  pub shallow : (n : ℕ) → n < length t → level t n ≤ level_limit
  pub tree : Tree t

-- n breaks a rule, and no lower node does
pub record Lowest (t : Table) (broken : ℕ → Option Rule) (n : ℕ) : Type 0 where
  pub rule : Rule
  pub within : n < length t
  pub breaks : broken n ≡ Some rule
  pub none_lower : (k : ℕ) → k < n → broken k ≡ None

-- Misshapen at node n: it is the lowest that breaks a rule; or none does, and it is the lowest that lies too deep.
pub data MisshapenAt (t : Table) (n : ℕ) : Type 0 where
  by_rule : Lowest t (broken_rule t) n → MisshapenAt t n
  by_depth : Obeys t → Lowest t (too_deep t) n → MisshapenAt t n

-- a refusal that the form test gives is true
pub data Deserved (t : Table) (e : Refusal) : Type 0 where
  bulky : is_bulky t ≡ true → e ≡ record { reason = Bulky; node = 0 } → Deserved t e
  misshapen : MisshapenAt t e.node → e.reason ≡ Misshapen → Deserved t e
