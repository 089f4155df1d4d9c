-- Beginning a run: a row for each parameter, with the values in their order. Assumes nothing.
use Rattle.std.specs.Prelude.{ℕ, zero, suc, Bool, true, false, cond, not, List, [], ◌∷◌, ◌++◌, length, drop, ℤ, is_some, None, Ok, Err, ◌==◌, nat_le}
use Rattle.std.specs.Option.{unwrap_or}
use Rattle.procedure.specs.declared.kind.DeclarationKind.TheVariants.{Parameter, Variable, Constant}
use Rattle.procedure.specs.declared.refusal.Reason.TheVariants.{Bulky, Unmarked, Miscounted, Unfit, Short}
use Rattle.procedure.specs.declared.table.Standing.{Standing}
use Rattle.procedure.specs.declared.table.Standing.TheVariants.{End, Unlisted, Procedure, Declaration, Statement, Expression}
use Rattle.procedure.specs.declared.types.«Type».{«Type» as TypeT}
use Rattle.procedure.specs.declared.types.«Type».TheVariants.{Integer}
use Rattle.procedure.specs.Form.{is_bulky, tested}
use Rattle.procedure.specs.Sequence.{Answer, and_then, want}
use Rattle.procedure.specs.Table.{Table, node, standing}
use Rattle.evaluator.specs.declared.rows.Row.{Row}
use Rattle.evaluator.specs.Values.{value_of_type}
use Rattle.machine.specs.declared.outcome.Outcome.TheVariants.{Paused}
use Rattle.machine.specs.declared.parameters.Parameters.{Parameters}
use Rattle.machine.specs.declared.progress.Progress.{Progress}
use Rattle.machine.specs.declared.run.Run.{Run}
use Rattle.machine.specs.Decide.{Rows, mark_of}

abbrev pub is_parameter : Standing → Bool
is_parameter End = false
is_parameter Unlisted = false
is_parameter Procedure = false
is_parameter (Declaration Parameter) = true
is_parameter (Declaration Variable) = false
is_parameter (Declaration Constant) = false
is_parameter (Statement k) = false
is_parameter (Expression k) = false

-- the parameters from node n on, at most so many, and the node behind them
abbrev pub parameters_from : ℕ → Table → ℕ → List ℕ
parameters_from zero t n = []
parameters_from (suc f) t n = cond (is_parameter (standing t n)) (n ∷ parameters_from f t (node t n).next) []

abbrev pub behind_parameters : ℕ → Table → ℕ → ℕ
behind_parameters zero t n = n
behind_parameters (suc f) t n = cond (is_parameter (standing t n)) (behind_parameters f t (node t n).next) n

-- the parameters of a procedure stand first in its list
abbrev pub parameters : Table → List ℕ
parameters t = parameters_from (length t) t (node t 0).a

-- those that an iterator has left
abbrev pub parameters_left : Parameters → List ℕ
parameters_left p = parameters_from p.left p.nodes.now p.next

-- the node due first: the next declaration, else the first statement
abbrev pub due_behind : ℕ → Table → ℕ
due_behind n t = cond (n == 0) (node t 0).b n

abbrev pub first_due : Table → ℕ
first_due t = due_behind (behind_parameters (length t) t (node t 0).a) t

-- each parameter's mark names INTEGER or BOOLEAN
abbrev pub marked : Table → List ℕ → Answer (Unit {0})
marked t [] = Ok tt
marked t (n ∷ ns) = and_then (want (is_some (mark_of (node t n).lo)) Unmarked n) λ _. marked t ns

abbrev pub parameter_type : Table → ℕ → TypeT
parameter_type t n = unwrap_or (mark_of (node t n).lo) Integer

-- each value is one of its parameter's type
abbrev pub fitting : Table → List ℕ → List ℤ → Answer (Unit {0})
fitting t [] vs = Ok tt
fitting t (n ∷ ns) [] = Ok tt
fitting t (n ∷ ns) (v ∷ vs) = and_then (want (is_some (value_of_type (parameter_type t n) v)) Unfit n) λ _. fitting t ns vs

abbrev pub parameter_row : Table → ℕ → ℤ → Row
parameter_row t n v = record { name = (node t n).name; of_type = parameter_type t n; constant = false; value = v }

abbrev pub parameter_rows : Table → List ℕ → List ℤ → List Row
parameter_rows t [] vs = []
parameter_rows t (n ∷ ns) [] = []
parameter_rows t (n ∷ ns) (v ∷ vs) = parameter_row t n v ∷ parameter_rows t ns vs

-- nothing was counted yet
abbrev pub fresh : ℕ → Progress
fresh at = record { outcome = Paused; cause = None; node = 0; at = at; steps = 0; reads = 0; writes = 0 }

-- a run that has begun, with every place of its rows
pub record Begun : Type 0 where
  pub progress : Progress
  pub rows : Rows
  pub frames_held : ℕ

-- Begin, over so many places for rows: those above the parameters' are left as they are.
abbrev pub begun : Table → List ℤ → List Row → Answer Begun
begun t values places =
    and_then (want (not (is_bulky t)) Bulky 0) λ _.
    and_then (tested t) λ _.
    and_then (marked t (parameters t)) λ _.
    and_then (want (length values == length (parameters t)) Miscounted 0) λ _.
    and_then (want (nat_le (length (parameters t)) (length places)) Short 0) λ _.
    and_then (fitting t (parameters t) values) λ _.
    Ok (record {
      progress = fresh (first_due t);
      rows = record { places = parameter_rows t (parameters t) values ++ drop (length values) places; held = length values };
      frames_held = 0;
    })

-- what a begin answers, with the rows after it
abbrev pub with_places : Answer Run → List Row → Answer Begun
with_places (Ok run) places = Ok (record {
  progress = run.shown.progress;
  rows = record { places = places; held = run.shown.rows };
  frames_held = run.shown.frames;
})
with_places (Err e) places = Err e
