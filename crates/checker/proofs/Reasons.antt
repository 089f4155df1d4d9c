-- The first fault of a procedure has one of six reasons.
use Rattle.std.proofs.Common.{ℕ, ◌≤◌}
use Rattle.procedure.specs.declared.refusal.Reason.{Reason}
use Rattle.procedure.specs.declared.refusal.Reason.TheVariants.{Bulky, Misshapen, Taken, Unmarked, Unknown, Mismatched, Fixed, Overlong, Cramped, Miscounted, Unfit, Short, Overdrawn, Over, Absent, Unset}
use Rattle.procedure.specs.declared.refusal.Refusal.{Refusal}
use Rattle.procedure.specs.declared.kind.DeclarationKind.{DeclarationKind}
use Rattle.procedure.specs.Formed.{Formed}
use Rattle.procedure.specs.Table.{Table}
use Rattle.checker.specs.Allowed.{Scope}
use Rattle.checker.specs.Faults.{ExpressionFault, unknown_name, in_operand, mismatched_operand, in_left, in_right, mismatched_operands, DeclarationFault, taken_name, unmarked_type, in_value, mismatched_value, DeclarationsFault, in_declaration, cramped_declaration, in_later_declaration, TargetFault, unknown_target, fixed_target, StatementFault, in_assignment_target, in_assigned, mismatched_assignment, in_condition, mismatched_condition, in_then, in_else, cramped_for, in_body, in_block_declarations, in_block, in_get_target, in_put, StatementsFault, in_first, in_rest, FirstFault, taken_procedure, in_declarations, in_statements}
use Rattle.checker.specs.Rightly.{RightFor}

abbrev OfWalk : Reason → Type 0
OfWalk Bulky = ⊥
OfWalk Misshapen = ⊥
OfWalk Taken = Unit {0}
OfWalk Unmarked = Unit {0}
OfWalk Unknown = Unit {0}
OfWalk Mismatched = Unit {0}
OfWalk Fixed = Unit {0}
OfWalk Overlong = ⊥
OfWalk Cramped = Unit {0}
OfWalk Miscounted = ⊥
OfWalk Unfit = ⊥
OfWalk Short = ⊥
OfWalk Overdrawn = ⊥
OfWalk Over = ⊥
OfWalk Absent = ⊥
OfWalk Unset = ⊥

expression_reason : {t : Table} {Γ : Scope} {e : ℕ} {r : Refusal} → ExpressionFault t Γ e r → OfWalk r.reason
expression_reason (unknown_name q n) = tt
expression_reason (in_operand q d) = expression_reason d
expression_reason (mismatched_operand q o p n) = tt
expression_reason (in_left q d) = expression_reason d
expression_reason (in_right q p d) = expression_reason d
expression_reason (mismatched_operands q o p g n) = tt

declaration_reason : {t : Table} {Γ : Scope} {d : ℕ} {k : DeclarationKind} {r : Refusal} → DeclarationFault t Γ d k r → OfWalk r.reason
declaration_reason (taken_name e) = tt
declaration_reason (unmarked_type e m) = tt
declaration_reason (in_value e m v d) = expression_reason d
declaration_reason (mismatched_value e m v p o) = tt

declarations_reason : {t : Table} {Γ : Scope} {n d : ℕ} {r : Refusal} → DeclarationsFault t Γ n d r → OfWalk r.reason
declarations_reason (in_declaration q d) = declaration_reason d
declarations_reason (cramped_declaration q one full) = tt
declarations_reason (in_later_declaration q one room d) = declarations_reason d

target_reason : {t : Table} {Γ : Scope} {s : ℕ} {r : Refusal} → TargetFault t Γ s r → OfWalk r.reason
target_reason (unknown_target n) = tt
target_reason (fixed_target e) = tt

mutual
  statement_reason : {t : Table} {Γ : Scope} {n s : ℕ} {r : Refusal} → StatementFault t Γ n s r → OfWalk r.reason
  statement_reason (in_assignment_target q d) = target_reason d
  statement_reason (in_assigned q m d) = expression_reason d
  statement_reason (mismatched_assignment q m p o) = tt
  statement_reason (in_condition q d) = expression_reason d
  statement_reason (mismatched_condition q p o) = tt
  statement_reason (in_then q p d) = statements_reason d
  statement_reason (in_else q p thens room d) = statements_reason d
  statement_reason (cramped_for q full) = tt
  statement_reason (in_body q room d) = statements_reason d
  statement_reason (in_block_declarations q d) = declarations_reason d
  statement_reason (in_block q ds room d) = statements_reason d
  statement_reason (in_get_target q d) = target_reason d
  statement_reason (in_put q d) = expression_reason d

  statements_reason : {t : Table} {Γ : Scope} {n s : ℕ} {r : Refusal} → StatementsFault t Γ n s r → OfWalk r.reason
  statements_reason (in_first d) = statement_reason d
  statements_reason (in_rest one room d) = statements_reason d

fault_reason : {t : Table} {r : Refusal} → FirstFault t r → OfWalk r.reason
fault_reason (taken_procedure e) = tt
fault_reason (in_declarations e d) = declarations_reason d
fault_reason (in_statements e ds room d) = statements_reason d

-- So a refusal that tells it is right.
pub right_fault : (t : Table) (w : ℕ) (r : Refusal) → 256 ≤ w → Formed t → FirstFault t r → RightFor r.reason t w r
right_fault t w r wide formed d = go r.reason (fault_reason d)
  where
    go : (reason : Reason) → OfWalk reason → RightFor reason t w r
    go Bulky o = absurd o
    go Misshapen o = absurd o
    go Taken o = (wide, formed, d)
    go Unmarked o = (wide, formed, d)
    go Unknown o = (wide, formed, d)
    go Mismatched o = (wide, formed, d)
    go Fixed o = (wide, formed, d)
    go Overlong o = absurd o
    go Cramped o = (wide, formed, d)
    go Miscounted o = absurd o
    go Unfit o = absurd o
    go Short o = absurd o
    go Overdrawn o = absurd o
    go Over o = absurd o
    go Absent o = absurd o
    go Unset o = absurd o
