-- What a step does, or why it fails, by what stands at the node due. Assumes nothing.
use Rattle.std.specs.Prelude.{ℕ, Bool, true, false, cond, not, ◌&&◌, ℤ, pos, negsuc, ◌+ℤ◌, Some, None, Ok, Err, Option, Result, ◌==◌, int_le, nat_le, nat_lt}
use Rattle.std.specs.Int.Signed.{lt_z}
use Rattle.std.specs.Option.{ok_or}
use Rattle.std.specs.Result.{result_map_both}
use Rattle.stack.specs.Acts.{item, top}
use Rattle.stack.specs.Tables.{room, newest_first, Table as StackTable}
use Rattle.procedure.specs.declared.kind.DeclarationKind.{DeclarationKind}
use Rattle.procedure.specs.declared.kind.DeclarationKind.TheVariants.{Parameter, Variable, Constant}
use Rattle.procedure.specs.declared.kind.Kind.{Kind}
use Rattle.procedure.specs.declared.kind.Kind.TheVariants.{Procedure as ProcedureK, Declaration as DeclarationK, Statement as StatementK, Expression as ExpressionK}
use Rattle.procedure.specs.declared.kind.StatementKind.{StatementKind}
use Rattle.procedure.specs.declared.kind.StatementKind.TheVariants.{Null, Assignment, If, For, Block, Get, Put}
use Rattle.procedure.specs.declared.node.Node.{Node}
use Rattle.procedure.specs.declared.table.Standing.{Standing}
use Rattle.procedure.specs.declared.table.Standing.TheVariants.{End, Unlisted, Procedure, Declaration, Statement, Expression}
use Rattle.procedure.specs.declared.types.«Type».{«Type» as TypeT}
use Rattle.procedure.specs.declared.types.«Type».TheVariants.{Integer as IntegerT}
use Rattle.procedure.specs.Kind.{kind_of}
use Rattle.procedure.specs.Sequence.{and_then, unless_fails}
use Rattle.procedure.specs.Table.{Table, node, standing, is_procedure}
use Rattle.procedure.specs.Types.{type_of}
use Rattle.evaluator.specs.declared.rows.Placed.{Placed}
use Rattle.evaluator.specs.declared.rows.Row.{Row}
use Rattle.evaluator.specs.declared.value.Value.{Value}
use Rattle.evaluator.specs.declared.value.Value.TheVariants.{Integer, Boolean}
use Rattle.evaluator.specs.Evaluate.{root_value}
use Rattle.evaluator.specs.Rows.{topmost}
use Rattle.evaluator.specs.Values.{number_of, is_of}
use Rattle.machine.specs.declared.act.Act.{Act}
use Rattle.machine.specs.declared.act.Act.TheVariants.{Done, Pass, Declare, Assign, Get as GetA, Put as PutA, Enter, Loop, Turn, Leave}
use Rattle.machine.specs.declared.fault.StepFault.{StepFault}
use Rattle.machine.specs.declared.fault.StepFault.TheVariants.{Expression as ExpressionF, NoStep, NoTarget, WrongType, RowsFull, FramesFull}
use Rattle.machine.specs.declared.frame.Frame.{Frame}

abbrev pub Rows : Type 0
Rows = StackTable Row

abbrev pub Frames : Type 0
Frames = StackTable Frame

abbrev pub Decision : Type 0
Decision = Result Act StepFault

-- the value of the expression a of the node due
abbrev pub value_at : Table → Rows → ℕ → Result Value StepFault
value_at t rows at = result_map_both (λ v. v) ExpressionF (root_value t (newest_first rows) at (node t at).a)

abbrev pub has_room : {T : Type 0} → StackTable T → Bool
has_room s = nat_lt 0 (room s)

abbrev pub row_with : Row → ℤ → Row
row_with r z = record { name = r.name; of_type = r.of_type; constant = r.constant; value = z }

-- a frame for the node due
abbrev pub frame_at : ℕ → Rows → Frame
frame_at at rows = record { node = at; rows = rows.held }

abbrev pub enters : Frames → Frame → ℕ → Decision
enters frames f to = and_then (unless_fails (has_room frames) FramesFull) λ _. Ok (Enter f to)

abbrev pub is_block : Option Kind → Bool
is_block None = false
is_block (Some ProcedureK) = false
is_block (Some (DeclarationK k)) = false
is_block (Some (StatementK Null)) = false
is_block (Some (StatementK Assignment)) = false
is_block (Some (StatementK If)) = false
is_block (Some (StatementK For)) = false
is_block (Some (StatementK Block)) = true
is_block (Some (StatementK Get)) = false
is_block (Some (StatementK Put)) = false
is_block (Some (ExpressionK k)) = false

-- behind the last declaration: the statements of the block under the top frame, or of the procedure where there is no frame
abbrev pub behind_last : Table → Option Frame → Result ℕ StepFault
behind_last t None = and_then (unless_fails (is_procedure (kind_of (node t 0).kind)) NoStep) λ _. Ok (node t 0).b
behind_last t (Some f) = and_then (unless_fails (is_block (kind_of (node t f.node).kind)) NoStep) λ _. Ok (node t f.node).b

-- behind a declaration: the next one, if any
abbrev pub behind : Table → Option Frame → ℕ → Result ℕ StepFault
behind t outer next = cond (next == 0) (behind_last t outer) (Ok next)

-- the type that a mark names: INTEGER or BOOLEAN
abbrev pub mark_of : ℤ → Option TypeT
mark_of (pos n) = type_of n
mark_of (negsuc n) = None

abbrev pub declared_row : Node → Bool → TypeT → Value → Row
declared_row x constant marked v = record { name = x.name; of_type = marked; constant = constant; value = number_of v }

-- a variable or a constant: evaluated, then put as a row
abbrev pub declares : Bool → Table → Rows → Frames → ℕ → Decision
declares constant t rows frames at =
    and_then (behind t (top frames) (node t at).next) λ to.
    and_then (value_at t rows at) λ v.
    and_then (ok_or (mark_of (node t at).lo) WrongType) λ marked.
    and_then (unless_fails (is_of marked v) WrongType) λ _.
    and_then (unless_fails (has_room rows) RowsFull) λ _.
    Ok (Declare (declared_row (node t at) constant marked v) to)

-- a parameter is no step
abbrev pub declaration : DeclarationKind → Table → Rows → Frames → ℕ → Decision
declaration Parameter t rows frames at = Err NoStep
declaration Variable t rows frames at = declares false t rows frames at
declaration Constant t rows frames at = declares true t rows frames at

-- the topmost row of the node's name
abbrev pub target : Table → Rows → ℕ → Result Placed StepFault
target t rows at = ok_or (topmost (node t at).name (newest_first rows)) NoTarget

abbrev pub placed : Placed → ℤ → Placed
placed p z = record { place = p.place; row = row_with p.row z }

abbrev pub assignment : Table → Rows → ℕ → Decision
assignment t rows at =
    and_then (value_at t rows at) λ v.
    and_then (target t rows at) λ p.
    and_then (unless_fails (is_of p.row.of_type v && not p.row.constant) WrongType) λ _.
    Ok (Assign (placed p (number_of v)) (node t at).next)

abbrev pub gets : Table → Rows → ℕ → Decision
gets t rows at =
    and_then (target t rows at) λ p.
    and_then (unless_fails (not p.row.constant) WrongType) λ _.
    Ok (GetA p (node t at).next)

abbrev pub puts : Table → Rows → ℕ → Decision
puts t rows at = and_then (value_at t rows at) λ v. Ok (PutA (number_of v) (node t at).next)

-- a condition is a truth
abbrev pub condition : Value → Result Bool StepFault
condition (Integer z) = Err WrongType
condition (Boolean b) = Ok b

-- the THEN list, the ELSE list, or on where there is none
abbrev pub branch : Bool → Table → Rows → Frames → ℕ → Decision
branch true t rows frames at = enters frames (frame_at at rows) (node t at).b
branch false t rows frames at =
    cond ((node t at).c == 0) (Ok (Pass (node t at).next)) (enters frames (frame_at at rows) (node t at).c)

abbrev pub branches : Table → Rows → Frames → ℕ → Decision
branches t rows frames at =
    and_then (value_at t rows at) λ v.
    and_then (condition v) λ b.
    branch b t rows frames at

-- a FOR whose lower bound is above its upper one is passed over
abbrev pub loops : Table → Rows → Frames → ℕ → Decision
loops t rows frames at =
    cond (int_le (node t at).lo (node t at).hi)
    (and_then (unless_fails (has_room frames) FramesFull) λ _.
    and_then (unless_fails (has_room rows) RowsFull) λ _.
    Ok (Loop (frame_at at rows) (record { name = (node t at).name; of_type = IntegerT; constant = true; value = (node t at).lo }) (node t at).a))
    (Ok (Pass (node t at).next))

-- a block begins with its declarations, if it has any
abbrev pub blocks : Table → Rows → Frames → ℕ → Decision
blocks t rows frames at = enters frames (frame_at at rows) (cond ((node t at).a == 0) (node t at).b (node t at).a)

abbrev pub statement : StatementKind → Table → Rows → Frames → ℕ → Decision
statement Null t rows frames at = Ok (Pass (node t at).next)
statement Assignment t rows frames at = assignment t rows at
statement If t rows frames at = branches t rows frames at
statement For t rows frames at = loops t rows frames at
statement Block t rows frames at = blocks t rows frames at
statement Get t rows frames at = gets t rows at
statement Put t rows frames at = puts t rows at

-- the end of a FOR's body: its parameter, if it is below hi, rises by one, else the loop ends
abbrev pub turns : Option Row → Node → Frame → Decision
turns None x f = Err NoStep
turns (Some r) x f =
    cond (lt_z r.value x.hi) (Ok (Turn (record { place = f.rows; row = row_with r (r.value +ℤ pos 1) }) x.a))
    (Ok (Leave f.rows x.next))

-- the end of a list under a frame, by the kind of the frame's node
abbrev pub leaves : Option Kind → Node → Rows → Frame → Decision
leaves None x rows f = Err NoStep
leaves (Some ProcedureK) x rows f = Err NoStep
leaves (Some (DeclarationK k)) x rows f = Err NoStep
leaves (Some (StatementK Null)) x rows f = Err NoStep
leaves (Some (StatementK Assignment)) x rows f = Err NoStep
leaves (Some (StatementK If)) x rows f = Ok (Leave rows.held x.next)
leaves (Some (StatementK For)) x rows f = turns (item f.rows rows) x f
leaves (Some (StatementK Block)) x rows f = and_then (unless_fails (nat_le f.rows rows.held) NoStep) λ _. Ok (Leave f.rows x.next)
leaves (Some (StatementK Get)) x rows f = Err NoStep
leaves (Some (StatementK Put)) x rows f = Err NoStep
leaves (Some (ExpressionK k)) x rows f = Err NoStep

-- the end of a list: without a frame the run is done
abbrev pub list_end : Table → Rows → Option Frame → Decision
list_end t rows None = Ok Done
list_end t rows (Some f) = leaves (kind_of (node t f.node).kind) (node t f.node) rows f

abbrev pub decision : Standing → Table → Rows → Frames → ℕ → Decision
decision End t rows frames at = list_end t rows (top frames)
decision Unlisted t rows frames at = Err NoStep
decision Procedure t rows frames at = Err NoStep
decision (Declaration k) t rows frames at = declaration k t rows frames at
decision (Statement k) t rows frames at = statement k t rows frames at
decision (Expression k) t rows frames at = Err NoStep

-- What the step due at a node does, or why it fails.
abbrev pub decided : Table → Rows → Frames → ℕ → Decision
decided t rows frames at = decision (standing t at) t rows frames at
