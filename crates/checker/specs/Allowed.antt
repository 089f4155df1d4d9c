-- What the language allows: the rules of visibility and of types, over the table alone. Assumes nothing.
use Rattle.std.specs.Prelude.{◌≡◌, ℕ, Bool, true, false, cond, ℤ, pos, Some, None, Option, ◌==◌, nat_le}
use Rattle.procedure.specs.declared.kind.Kind.TheVariants.{Expression}
use Rattle.procedure.specs.declared.kind.DeclarationKind.{DeclarationKind}
use Rattle.procedure.specs.declared.kind.DeclarationKind.TheVariants.{Parameter, Variable, Constant}
use Rattle.procedure.specs.declared.kind.StatementKind.TheVariants.{Null, Assignment, If, For, Block, Get, Put}
use Rattle.procedure.specs.declared.kind.ExpressionKind.TheVariants.{Numeral, Name, Unary, Binary}
use Rattle.procedure.specs.declared.operator.UnaryOperator.{UnaryOperator}
use Rattle.procedure.specs.declared.operator.UnaryOperator.TheVariants.{Plus, Minus, Abs, Not}
use Rattle.procedure.specs.declared.operator.BinaryOperator.{BinaryOperator}
use Rattle.procedure.specs.declared.operator.BinaryOperator.TheVariants.{Arithmetic, Relational, Logical}
use Rattle.procedure.specs.declared.operator.ArithmeticOperator.{ArithmeticOperator}
use Rattle.procedure.specs.declared.operator.RelationalOperator.{RelationalOperator}
use Rattle.procedure.specs.declared.operator.LogicalOperator.{LogicalOperator}
use Rattle.procedure.specs.declared.table.Standing.TheVariants.{End, Declaration as ADeclaration, Statement as AStatement}
use Rattle.procedure.specs.declared.types.«Type».{«Type» as TypeT}
use Rattle.procedure.specs.declared.types.«Type».TheVariants.{Integer, Boolean}
use Rattle.procedure.specs.Operator.{unary_operator_of, binary_operator_of}
use Rattle.procedure.specs.Table.{Table, node, part, standing}
use Rattle.checker.specs.declared.names.Meaning.{Meaning}
use Rattle.checker.specs.declared.names.Meaning.TheVariants.{Mark, Object}
use Rattle.checker.specs.Names.{predefined}

-- What is visible at a place: which names the current region declares, and what each name means.
pub record Scope : Type 0 where
  pub local : ℕ → Bool
  pub means : ℕ → Option Meaning

-- Around every procedure: the names up to 16 are declared, and mean what is predefined.
abbrev pub standard : Scope
standard = record { local = λ x. nat_le x 16; means = predefined }

-- A region begins: nothing is declared in it, and all names mean what they meant.
abbrev pub begin_region : Scope → Scope
begin_region Γ = record { local = λ x. false; means = Γ.means }

-- Inside its own declaration a name means nothing, even if an outer one exists.
abbrev pub hide : ℕ → Scope → Scope
hide i Γ = record { local = Γ.local; means = λ x. cond (i == x) None (Γ.means x) }

-- Behind its declaration a name is one of the region's, and means what is declared.
abbrev pub declare : ℕ → Meaning → Scope → Scope
declare i m Γ = record { local = λ x. cond (i == x) true (Γ.local x); means = λ x. cond (i == x) (Some m) (Γ.means x) }

-- an object that can be given a value, and one that cannot
abbrev pub variable : TypeT → Meaning
variable ty = Object ty false

abbrev pub constant : TypeT → Meaning
constant ty = Object ty true

-- what a declaration of a kind, whose mark denotes the type, declares
abbrev pub object_of : DeclarationKind → TypeT → Meaning
object_of Parameter ty = variable ty
object_of Variable ty = variable ty
object_of Constant ty = constant ty

-- the type mark, a name in a field lo, denotes the type
abbrev pub Marks : Scope → ℤ → TypeT → Type 0
Marks Γ lo ty = (i : ℕ) × (lo ≡ pos i) × (Γ.means i ≡ Some (Mark ty))

-- Plus, minus and abs take INTEGER, not takes BOOLEAN.
pub data UnaryTakes : UnaryOperator → TypeT → TypeT → Type 0 where
  takes_plus : UnaryTakes Plus Integer Integer
  takes_minus : UnaryTakes Minus Integer Integer
  takes_abs : UnaryTakes Abs Integer Integer
  takes_not : UnaryTakes Not Boolean Boolean

-- Arithmetic takes two of INTEGER; a relation takes two of one type; and, or and xor take two of BOOLEAN.
pub data BinaryTakes : BinaryOperator → TypeT → TypeT → TypeT → Type 0 where
  takes_arithmetic : {o : ArithmeticOperator} → BinaryTakes (Arithmetic o) Integer Integer Integer
  takes_relation : {o : RelationalOperator} {ty : TypeT} → BinaryTakes (Relational o) ty ty Boolean
  takes_logical : {o : LogicalOperator} → BinaryTakes (Logical o) Boolean Boolean Boolean

-- The expression at e has the type ty.
pub data Typed (t : Table) (Γ : Scope) : ℕ → TypeT → Type 0 where
  typed_numeral : {e : ℕ} → part t e ≡ Some (Expression Numeral) → Typed t Γ e Integer
  typed_name : {e : ℕ} {ty : TypeT} {c : Bool} → part t e ≡ Some (Expression Name) → Γ.means (node t e).name ≡ Some (Object ty c) → Typed t Γ e ty
  typed_unary : {e : ℕ} {x ty : TypeT} {o : UnaryOperator} → part t e ≡ Some (Expression Unary) → unary_operator_of (node t e).lo ≡ Some o
      → Typed t Γ (node t e).a x → UnaryTakes o x ty → Typed t Γ e ty
  typed_binary : {e : ℕ} {x y ty : TypeT} {o : BinaryOperator} → part t e ≡ Some (Expression Binary) → binary_operator_of (node t e).lo ≡ Some o
      → Typed t Γ (node t e).a x → Typed t Γ (node t e).b y → BinaryTakes o x y ty → Typed t Γ e ty

-- variables and constants have an initial value, parameters have none
pub data Valued : DeclarationKind → Type 0 where
  valued_variable : Valued Variable
  valued_constant : Valued Constant

-- The initial value at e, if the kind has one, is of the type ty.
pub data Initial (t : Table) (Γ : Scope) (e : ℕ) (ty : TypeT) : DeclarationKind → Type 0 where
  no_value : Initial t Γ e ty Parameter
  value : {k : DeclarationKind} → Valued k → Typed t Γ e ty → Initial t Γ e ty k

-- The declaration at d declares an object of the type ty: its name is new in the region, and inside it the name means nothing.
pub record Declaration (t : Table) (Γ : Scope) (d : ℕ) (k : DeclarationKind) (ty : TypeT) : Type 0 where
  pub new : Γ.local (node t d).name ≡ false
  pub marked : Marks (hide (node t d).name Γ) (node t d).lo ty
  pub initial : Initial t (hide (node t d).name Γ) (node t d).a ty k

-- The list of declarations from d on is allowed where Γ holds, and after it Γ' holds.
pub data Declarations (t : Table) : Scope → ℕ → Scope → Type 0 where
  no_more : {Γ : Scope} {d : ℕ} → standing t d ≡ End → Declarations t Γ d Γ
  declares : {Γ Γ' : Scope} {d : ℕ} {k : DeclarationKind} {ty : TypeT} → standing t d ≡ ADeclaration k → Declaration t Γ d k ty
      → Declarations t (declare (node t d).name (object_of k ty) Γ) (node t d).next Γ' → Declarations t Γ d Γ'

-- what holds in the body of the FOR at s: a region with the loop parameter alone
abbrev pub inside_for : Table → ℕ → Scope → Scope
inside_for t s Γ = declare (node t s).name (constant Integer) (begin_region Γ)

mutual
  -- The statement at s is allowed where Γ holds.
  pub data Statement (t : Table) : Scope → ℕ → Type 0 where
    nulls : {Γ : Scope} {s : ℕ} → standing t s ≡ AStatement Null → Statement t Γ s
    assigns : {Γ : Scope} {s : ℕ} {ty : TypeT} → standing t s ≡ AStatement Assignment → Γ.means (node t s).name ≡ Some (variable ty) → Typed t Γ (node t s).a ty
        → Statement t Γ s
    branches : {Γ : Scope} {s : ℕ} → standing t s ≡ AStatement If → Typed t Γ (node t s).a Boolean → Statements t Γ (node t s).b → Statements t Γ (node t s).c
        → Statement t Γ s
    loops : {Γ : Scope} {s : ℕ} → standing t s ≡ AStatement For → Statements t (inside_for t s Γ) (node t s).a → Statement t Γ s
    blocks : {Γ Γ' : Scope} {s : ℕ} → standing t s ≡ AStatement Block → Declarations t (begin_region Γ) (node t s).a Γ' → Statements t Γ' (node t s).b
        → Statement t Γ s
    gets : {Γ : Scope} {s : ℕ} {ty : TypeT} → standing t s ≡ AStatement Get → Γ.means (node t s).name ≡ Some (variable ty) → Statement t Γ s
    puts : {Γ : Scope} {s : ℕ} {ty : TypeT} → standing t s ≡ AStatement Put → Typed t Γ (node t s).a ty → Statement t Γ s

  -- The list of statements from s on is allowed where Γ holds.
  pub data Statements (t : Table) : Scope → ℕ → Type 0 where
    ends : {Γ : Scope} {s : ℕ} → standing t s ≡ End → Statements t Γ s
    follows : {Γ : Scope} {s : ℕ} → Statement t Γ s → Statements t Γ (node t s).next → Statements t Γ s

-- The procedure is allowed: its name is none of the predefined ones, and its parameters and declarations form one region.
pub record Allowed (t : Table) : Type 0 where
  pub fresh : standard.local (node t 0).name ≡ false
  pub inner : Scope
  pub declared : Declarations t (begin_region standard) (node t 0).a inner
  pub stated : Statements t inner (node t 0).b
