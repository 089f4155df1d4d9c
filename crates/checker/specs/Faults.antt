-- The first fault of a procedure: which rule is broken, at which node, with nothing wrong before it. Assumes nothing.
use Rattle.std.specs.Prelude.{◌≡◌, ℕ, suc, ◌+◌, ◌<◌, ◌≤◌, Bool, true, false, Some, Option, ◌≢◌}
use Rattle.procedure.specs.declared.kind.Kind.TheVariants.{Expression}
use Rattle.procedure.specs.declared.kind.DeclarationKind.{DeclarationKind}
use Rattle.procedure.specs.declared.kind.StatementKind.TheVariants.{Assignment, If, For, Block, Get, Put}
use Rattle.procedure.specs.declared.kind.ExpressionKind.TheVariants.{Name, Unary, Binary}
use Rattle.procedure.specs.declared.operator.UnaryOperator.{UnaryOperator}
use Rattle.procedure.specs.declared.operator.BinaryOperator.{BinaryOperator}
use Rattle.procedure.specs.declared.refusal.Reason.TheVariants.{Taken, Unmarked, Unknown, Mismatched, Fixed, Cramped}
use Rattle.procedure.specs.declared.refusal.Refusal.{Refusal}
use Rattle.procedure.specs.declared.table.Standing.TheVariants.{Declaration as ADeclaration, Statement as AStatement}
use Rattle.procedure.specs.declared.types.«Type».{«Type» as TypeT}
use Rattle.procedure.specs.declared.types.«Type».TheVariants.{Boolean}
use Rattle.procedure.specs.Operator.{unary_operator_of, binary_operator_of}
use Rattle.procedure.specs.Refusal.{refusal_at}
use Rattle.procedure.specs.Table.{Table, node, part, standing}
use Rattle.checker.specs.declared.names.Meaning.{Meaning}
use Rattle.checker.specs.declared.names.Meaning.TheVariants.{Object}
use Rattle.checker.specs.Allowed.{Scope, standard, begin_region, hide, declare, variable, constant, object_of, Marks, UnaryTakes, BinaryTakes, Typed, Valued, Declaration, Declarations, inside_for, Statement, Statements}
use Rattle.checker.specs.Measure.{count, most_open, most_open_in}

-- the meaning is no object, whatever its type
abbrev pub NoObject : Option Meaning → Type 0
NoObject m = (ty : TypeT) (c : Bool) → m ≢ Some (Object ty c)

-- The first fault of the expression at e: left, right, then the operator.
pub data ExpressionFault (t : Table) (Γ : Scope) : ℕ → Refusal → Type 0 where
  unknown_name : {e : ℕ} → part t e ≡ Some (Expression Name) → NoObject (Γ.means (node t e).name) → ExpressionFault t Γ e (refusal_at Unknown e)
  in_operand : {e : ℕ} {r : Refusal} → part t e ≡ Some (Expression Unary) → ExpressionFault t Γ (node t e).a r → ExpressionFault t Γ e r
  mismatched_operand : {e : ℕ} {x : TypeT} {o : UnaryOperator} → part t e ≡ Some (Expression Unary) → unary_operator_of (node t e).lo ≡ Some o
      → Typed t Γ (node t e).a x → ((ty : TypeT) → UnaryTakes o x ty → ⊥) → ExpressionFault t Γ e (refusal_at Mismatched e)
  in_left : {e : ℕ} {r : Refusal} → part t e ≡ Some (Expression Binary) → ExpressionFault t Γ (node t e).a r → ExpressionFault t Γ e r
  in_right : {e : ℕ} {x : TypeT} {r : Refusal} → part t e ≡ Some (Expression Binary) → Typed t Γ (node t e).a x → ExpressionFault t Γ (node t e).b r
      → ExpressionFault t Γ e r
  mismatched_operands : {e : ℕ} {x y : TypeT} {o : BinaryOperator} → part t e ≡ Some (Expression Binary) → binary_operator_of (node t e).lo ≡ Some o
      → Typed t Γ (node t e).a x → Typed t Γ (node t e).b y → ((ty : TypeT) → BinaryTakes o x y ty → ⊥) → ExpressionFault t Γ e (refusal_at Mismatched e)

-- The first fault of the one declaration at d: taken, unmarked, a fault of its initial value, mismatched.
pub data DeclarationFault (t : Table) (Γ : Scope) (d : ℕ) (k : DeclarationKind) : Refusal → Type 0 where
  taken_name : Γ.local (node t d).name ≡ true → DeclarationFault t Γ d k (refusal_at Taken d)
  unmarked_type : Γ.local (node t d).name ≡ false → ((ty : TypeT) → Marks (hide (node t d).name Γ) (node t d).lo ty → ⊥)
      → DeclarationFault t Γ d k (refusal_at Unmarked d)
  in_value : {ty : TypeT} {r : Refusal} → Γ.local (node t d).name ≡ false → Marks (hide (node t d).name Γ) (node t d).lo ty → Valued k
      → ExpressionFault t (hide (node t d).name Γ) (node t d).a r → DeclarationFault t Γ d k r
  mismatched_value : {ty x : TypeT} → Γ.local (node t d).name ≡ false → Marks (hide (node t d).name Γ) (node t d).lo ty → Valued k
      → Typed t (hide (node t d).name Γ) (node t d).a x → (x ≢ ty) → DeclarationFault t Γ d k (refusal_at Mismatched d)

-- The first fault of the list of declarations from d on, where n are open: of the first, or that 256 are open, or of what follows.
pub data DeclarationsFault (t : Table) : Scope → ℕ → ℕ → Refusal → Type 0 where
  in_declaration : {Γ : Scope} {n d : ℕ} {k : DeclarationKind} {r : Refusal} → standing t d ≡ ADeclaration k → DeclarationFault t Γ d k r
      → DeclarationsFault t Γ n d r
  cramped_declaration : {Γ : Scope} {n d : ℕ} {k : DeclarationKind} {ty : TypeT} → standing t d ≡ ADeclaration k → Declaration t Γ d k ty → 256 ≤ n
      → DeclarationsFault t Γ n d (refusal_at Cramped d)
  in_later_declaration : {Γ : Scope} {n d : ℕ} {k : DeclarationKind} {ty : TypeT} {r : Refusal} → standing t d ≡ ADeclaration k → Declaration t Γ d k ty → n < 256
      → DeclarationsFault t (declare (node t d).name (object_of k ty) Γ) (suc n) (node t d).next r → DeclarationsFault t Γ n d r

-- The first fault of the target of the statement at s: it is no object, or a constant.
pub data TargetFault (t : Table) (Γ : Scope) (s : ℕ) : Refusal → Type 0 where
  unknown_target : NoObject (Γ.means (node t s).name) → TargetFault t Γ s (refusal_at Unknown s)
  fixed_target : {ty : TypeT} → Γ.means (node t s).name ≡ Some (constant ty) → TargetFault t Γ s (refusal_at Fixed s)

mutual
  -- The first fault of the statement at s, where n declarations are open.
  pub data StatementFault (t : Table) : Scope → ℕ → ℕ → Refusal → Type 0 where
    in_assignment_target : {Γ : Scope} {n s : ℕ} {r : Refusal} → standing t s ≡ AStatement Assignment → TargetFault t Γ s r → StatementFault t Γ n s r
    in_assigned : {Γ : Scope} {n s : ℕ} {ty : TypeT} {r : Refusal} → standing t s ≡ AStatement Assignment → Γ.means (node t s).name ≡ Some (variable ty)
        → ExpressionFault t Γ (node t s).a r → StatementFault t Γ n s r
    mismatched_assignment : {Γ : Scope} {n s : ℕ} {ty x : TypeT} → standing t s ≡ AStatement Assignment → Γ.means (node t s).name ≡ Some (variable ty)
        → Typed t Γ (node t s).a x → (x ≢ ty) → StatementFault t Γ n s (refusal_at Mismatched s)
    in_condition : {Γ : Scope} {n s : ℕ} {r : Refusal} → standing t s ≡ AStatement If → ExpressionFault t Γ (node t s).a r → StatementFault t Γ n s r
    mismatched_condition : {Γ : Scope} {n s : ℕ} {x : TypeT} → standing t s ≡ AStatement If → Typed t Γ (node t s).a x → (x ≢ Boolean)
        → StatementFault t Γ n s (refusal_at Mismatched s)
    in_then : {Γ : Scope} {n s : ℕ} {r : Refusal} → standing t s ≡ AStatement If → Typed t Γ (node t s).a Boolean → StatementsFault t Γ n (node t s).b r
        → StatementFault t Γ n s r
    in_else : {Γ : Scope} {n s : ℕ} {r : Refusal} → standing t s ≡ AStatement If → Typed t Γ (node t s).a Boolean → (thens : Statements t Γ (node t s).b)
        → most_open thens n ≤ 256 → StatementsFault t Γ n (node t s).c r → StatementFault t Γ n s r
    cramped_for : {Γ : Scope} {n s : ℕ} → standing t s ≡ AStatement For → 256 ≤ n → StatementFault t Γ n s (refusal_at Cramped s)
    in_body : {Γ : Scope} {n s : ℕ} {r : Refusal} → standing t s ≡ AStatement For → n < 256 → StatementsFault t (inside_for t s Γ) (suc n) (node t s).a r
        → StatementFault t Γ n s r
    in_block_declarations : {Γ : Scope} {n s : ℕ} {r : Refusal} → standing t s ≡ AStatement Block → DeclarationsFault t (begin_region Γ) n (node t s).a r
        → StatementFault t Γ n s r
    in_block : {Γ Γ' : Scope} {n s : ℕ} {r : Refusal} → standing t s ≡ AStatement Block → (ds : Declarations t (begin_region Γ) (node t s).a Γ')
        → n + count ds ≤ 256 → StatementsFault t Γ' (n + count ds) (node t s).b r → StatementFault t Γ n s r
    in_get_target : {Γ : Scope} {n s : ℕ} {r : Refusal} → standing t s ≡ AStatement Get → TargetFault t Γ s r → StatementFault t Γ n s r
    in_put : {Γ : Scope} {n s : ℕ} {r : Refusal} → standing t s ≡ AStatement Put → ExpressionFault t Γ (node t s).a r → StatementFault t Γ n s r

  -- The first fault of the list of statements from s on: of the first, or the first has none and it is that of the rest.
  pub data StatementsFault (t : Table) : Scope → ℕ → ℕ → Refusal → Type 0 where
    in_first : {Γ : Scope} {n s : ℕ} {r : Refusal} → StatementFault t Γ n s r → StatementsFault t Γ n s r
    in_rest : {Γ : Scope} {n s : ℕ} {r : Refusal} → (one : Statement t Γ s) → most_open_in one n ≤ 256 → StatementsFault t Γ n (node t s).next r
        → StatementsFault t Γ n s r

-- The first fault of the procedure: its name is taken; or it is in the declarations; or these have none, and it is in the statements.
pub data FirstFault (t : Table) : Refusal → Type 0 where
  taken_procedure : standard.local (node t 0).name ≡ true → FirstFault t (refusal_at Taken 0)
  in_declarations : {r : Refusal} → standard.local (node t 0).name ≡ false → DeclarationsFault t (begin_region standard) 0 (node t 0).a r → FirstFault t r
  in_statements : {Γ : Scope} {r : Refusal} → standard.local (node t 0).name ≡ false → (ds : Declarations t (begin_region standard) (node t 0).a Γ)
      → count ds ≤ 256 → StatementsFault t Γ (count ds) (node t 0).b r → FirstFault t r
