-- What an allowed procedure takes: its steps, its open declarations and its frames. Assumes nothing.
use Rattle.std.specs.Prelude.{ℕ, suc, ◌+◌, ◌*◌, ◌≤◌, max}
use Rattle.procedure.specs.declared.kind.DeclarationKind.{DeclarationKind}
use Rattle.procedure.specs.declared.types.«Type».{«Type» as TypeT}
use Rattle.procedure.specs.Table.{Table, node}
use Rattle.checker.specs.declared.answer.Sheet.{Sheet}
use Rattle.checker.specs.Allowed.{Scope, Initial, no_value, value, Declarations, no_more, declares, Statement, nulls, assigns, branches, loops, blocks, gets, puts, Statements, ends, follows, Allowed}
use Rattle.checker.specs.Answer.{sheet}
use Rattle.checker.specs.Cost.{turns_of}

-- how many declarations a list has
unfoldable pub count : {t : Table} {Γ : Scope} {d : ℕ} {Γ' : Scope} → Declarations t Γ d Γ' → ℕ
count (no_more q) = 0
count (declares q one rest) = suc (count rest)

-- a variable or a constant takes a step, a parameter none
unfoldable pub initial_steps : {t : Table} {Γ : Scope} {e : ℕ} {ty : TypeT} {k : DeclarationKind} → Initial t Γ e ty k → ℕ
initial_steps no_value = 0
initial_steps (value v typed) = 1

unfoldable pub declared_steps : {t : Table} {Γ : Scope} {d : ℕ} {Γ' : Scope} → Declarations t Γ d Γ' → ℕ
declared_steps (no_more q) = 0
declared_steps (declares q one rest) = initial_steps one.initial + declared_steps rest

-- The most steps of a list of statements, and of one.
unfoldable mutual
  pub steps : {t : Table} {Γ : Scope} {s : ℕ} → Statements t Γ s → ℕ
  steps (ends q) = 0
  steps (follows one rest) = steps_in one + steps rest

  pub steps_in : {t : Table} {Γ : Scope} {s : ℕ} → Statement t Γ s → ℕ
  steps_in (nulls q) = 1
  steps_in (assigns q target typed) = 1
  steps_in (branches q typed thens elses) = 2 + steps thens + steps elses
  steps_in {t} {s = s} (loops q body) = 1 + turns_of (node t s) * (steps body + 1)
  steps_in (blocks q ds body) = 2 + declared_steps ds + steps body
  steps_in (gets q target) = 1
  steps_in (puts q typed) = 1

-- The most declarations that are open together, where k are open around.
unfoldable mutual
  pub most_open : {t : Table} {Γ : Scope} {s : ℕ} → Statements t Γ s → ℕ → ℕ
  most_open (ends q) k = k
  most_open (follows one rest) k = max (most_open_in one k) (most_open rest k)

  pub most_open_in : {t : Table} {Γ : Scope} {s : ℕ} → Statement t Γ s → ℕ → ℕ
  most_open_in (nulls q) k = k
  most_open_in (assigns q target typed) k = k
  most_open_in (branches q typed thens elses) k = max (most_open thens k) (most_open elses k)
  most_open_in (loops q body) k = most_open body (suc k)
  most_open_in (blocks q ds body) k = most_open body (k + count ds)
  most_open_in (gets q target) k = k
  most_open_in (puts q typed) k = k

-- The most IF, FOR and blocks around one statement.
unfoldable mutual
  pub depth : {t : Table} {Γ : Scope} {s : ℕ} → Statements t Γ s → ℕ
  depth (ends q) = 0
  depth (follows one rest) = max (depth_in one) (depth rest)

  pub depth_in : {t : Table} {Γ : Scope} {s : ℕ} → Statement t Γ s → ℕ
  depth_in (nulls q) = 0
  depth_in (assigns q target typed) = 0
  depth_in (branches q typed thens elses) = max (depth thens) (depth elses) + 1
  depth_in (loops q body) = depth body + 1
  depth_in (blocks q ds body) = depth body + 1
  depth_in (gets q target) = 0
  depth_in (puts q typed) = 0

-- the sheet of an allowed procedure: ceiling, rows and frames
abbrev pub sheet_of : {t : Table} → Allowed t → Sheet
sheet_of p =
    sheet (1 + declared_steps p.declared + steps p.stated) (most_open p.stated (count p.declared)) (depth p.stated)

-- The limits of what passes: at most 256 declarations are open together, and at most 1,000,000,000 steps are needed.
pub record Limited {t : Table} (p : Allowed t) : Type 0 where
  pub few : (sheet_of p).rows ≤ 256
  pub short : (sheet_of p).ceiling ≤ 1000000000
