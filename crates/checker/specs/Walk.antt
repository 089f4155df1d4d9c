-- The walk of the check: declarations, then statements, in list order, to a sheet or the first fault. Assumes nothing.
use Rattle.std.specs.Prelude.{ℕ, zero, suc, ◌+◌, ◌-◌, ◌*◌, ◌≤◌, max, Bool, true, false, cond, not, [], length, ℤ, pos, negsuc, IfOk, Some, None, Ok, Err, Option, nat_le}
use Rattle.procedure.specs.declared.kind.DeclarationKind.{DeclarationKind}
use Rattle.procedure.specs.declared.kind.DeclarationKind.TheVariants.{Parameter, Variable, Constant}
use Rattle.procedure.specs.declared.kind.StatementKind.{StatementKind}
use Rattle.procedure.specs.declared.kind.StatementKind.TheVariants.{Null, Assignment, If, For, Block, Get, Put}
use Rattle.procedure.specs.declared.refusal.Reason.TheVariants.{Bulky, Misshapen, Taken, Mismatched, Overlong, Short}
use Rattle.procedure.specs.declared.table.Standing.{Standing}
use Rattle.procedure.specs.declared.table.Standing.TheVariants.{End, Unlisted, Procedure, Declaration, Statement, Expression}
use Rattle.procedure.specs.declared.types.«Type».{«Type» as TypeT}
use Rattle.procedure.specs.declared.types.«Type».TheVariants.{Integer, Boolean}
use Rattle.procedure.specs.Form.{is_bulky, tested}
use Rattle.procedure.specs.Sequence.{Answer, refused_at, and_then, want}
use Rattle.procedure.specs.Table.{Table, node, standing}
use Rattle.checker.specs.declared.answer.Sheet.{Sheet}
use Rattle.checker.specs.declared.names.Declaration.{Declaration as DeclarationT}
use Rattle.checker.specs.declared.names.Meaning.{Meaning}
use Rattle.checker.specs.Answer.{sheet}
use Rattle.checker.specs.Cost.{turns_of, exact}
use Rattle.checker.specs.Names.{means, means_inside}
use Rattle.checker.specs.Region.{Environment, is_taken, put}
use Rattle.checker.specs.Typing.{typed, same_type, mark_type, target_type}

-- what the name in the field lo means, inside the declaration of own; a name has 16 bits
abbrev pub mark_meaning : ℤ → ℕ → Environment → Option Meaning
mark_meaning (pos m) own declared = cond (nat_le m 65535) (means_inside (Some own) declared m) None
mark_meaning (negsuc m) own declared = None

-- an expression has at most 32 levels
abbrev pub type_at : Table → Environment → ℕ → Answer TypeT
type_at t declared n = typed 32 t None declared n

-- an initial value: a parameter has none; a variable's or constant's is of the type of the mark
abbrev pub initial : DeclarationKind → Table → Environment → TypeT → ℕ → Answer (Unit {0})
initial Parameter t declared marked n = Ok tt
initial Variable t declared marked n =
    and_then (typed 32 t (Some (node t n).name) declared (node t n).a) λ x. want (same_type x marked) Mismatched n
initial Constant t declared marked n =
    and_then (typed 32 t (Some (node t n).name) declared (node t n).a) λ x. want (same_type x marked) Mismatched n

abbrev pub is_constant : DeclarationKind → Bool
is_constant Parameter = false
is_constant Variable = false
is_constant Constant = true

-- a variable or a constant takes a step, a parameter none
abbrev pub declaration_cost : DeclarationKind → ℕ
declaration_cost Parameter = 0
declaration_cost Variable = 1
declaration_cost Constant = 1

-- one declaration, in a region that began with base declarations open
abbrev pub declaration : DeclarationKind → Table → ℕ → Environment → ℕ → Answer DeclarationT
declaration k t base declared n =
    and_then (want (not (is_taken (node t n).name (length declared - base) declared)) Taken n) λ _.
    and_then (mark_type (mark_meaning (node t n).lo (node t n).name declared) n) λ marked.
    and_then (initial k t declared marked n) λ _.
    Ok (record { name = (node t n).name; of_type = marked; constant = is_constant k })

-- what is open after a list of declarations, and what the list costs
pub record Opened : Type 0 where
  pub declared : Environment
  pub cost : ℕ

abbrev pub Declares : Type 0
Declares = Environment → ℕ → Answer Opened

abbrev pub declares : Declares → Standing → Table → ℕ → Environment → ℕ → Answer Opened
declares rest End t base declared n = Ok (record { declared = declared; cost = 0 })
declares rest (Declaration k) t base declared n =
    and_then (declaration k t base declared n) λ d.
    and_then (put d declared n) λ more.
    and_then (rest more (node t n).next) λ o.
    Ok (record { declared = o.declared; cost = o.cost + declaration_cost k })
declares rest Unlisted t base declared n = refused_at Misshapen n
declares rest Procedure t base declared n = refused_at Misshapen n
declares rest (Statement k) t base declared n = refused_at Misshapen n
declares rest (Expression k) t base declared n = refused_at Misshapen n

-- a list of declarations, of at most so many nodes
abbrev pub declarations : ℕ → Table → ℕ → Declares
declarations zero t base declared n = refused_at Misshapen n
declarations (suc f) t base declared n = declares (declarations f t base) (standing t n) t base declared n

abbrev pub Walks : Type 0
Walks = Environment → ℕ → Answer Sheet

-- a statement without lists of its own
abbrev pub simple : Environment → Sheet
simple declared = sheet 1 (length declared) 0

abbrev pub assignment : Table → Environment → ℕ → Answer Sheet
assignment t declared n =
    and_then (target_type (means declared (node t n).name) n) λ target.
    and_then (type_at t declared (node t n).a) λ x.
    and_then (want (same_type x target) Mismatched n) λ _.
    Ok (simple declared)

abbrev pub get_statement : Table → Environment → ℕ → Answer Sheet
get_statement t declared n = and_then (target_type (means declared (node t n).name) n) λ _. Ok (simple declared)

abbrev pub put_statement : Table → Environment → ℕ → Answer Sheet
put_statement t declared n = and_then (type_at t declared (node t n).a) λ _. Ok (simple declared)

-- in what follows, cost says how costs are counted, and lists walks the lists inside
abbrev pub if_statement : (ℕ → ℕ) → Walks → Table → Environment → ℕ → Answer Sheet
if_statement cost lists t declared n =
    and_then (type_at t declared (node t n).a) λ x.
    and_then (want (same_type x Boolean) Mismatched n) λ _.
    and_then (lists declared (node t n).b) λ yes.
    and_then (lists declared (node t n).c) λ no.
    Ok (sheet (cost (2 + yes.ceiling + no.ceiling)) (max yes.rows no.rows) (max yes.frames no.frames + 1))

abbrev pub for_statement : (ℕ → ℕ) → Walks → Table → Environment → ℕ → Answer Sheet
for_statement cost lists t declared n =
    and_then (put (record { name = (node t n).name; of_type = Integer; constant = true }) declared n) λ inner.
    and_then (lists inner (node t n).a) λ body.
    Ok (sheet (cost (1 + turns_of (node t n) * (body.ceiling + 1))) body.rows (body.frames + 1))

abbrev pub block_statement : (ℕ → ℕ) → Walks → (ℕ → Declares) → Table → Environment → ℕ → Answer Sheet
block_statement cost lists opens t declared n =
    and_then (opens (length declared) declared (node t n).a) λ o.
    and_then (lists o.declared (node t n).b) λ inside.
    Ok (sheet (cost (2 + o.cost + inside.ceiling)) inside.rows (inside.frames + 1))

-- a region: its declarations, which begin at d, then its statements, which begin at s
abbrev pub region : (ℕ → ℕ) → Walks → (ℕ → Declares) → Environment → ℕ → ℕ → Answer Sheet
region cost lists opens declared d s =
    and_then (opens (length declared) declared d) λ o.
    and_then (lists o.declared s) λ inside.
    Ok (sheet (cost (o.cost + inside.ceiling)) inside.rows inside.frames)

-- one statement, without what follows it
abbrev pub statement : (ℕ → ℕ) → Walks → (ℕ → Declares) → StatementKind → Table → Environment → ℕ → Answer Sheet
statement cost lists opens Null t declared n = Ok (simple declared)
statement cost lists opens Assignment t declared n = assignment t declared n
statement cost lists opens If t declared n = if_statement cost lists t declared n
statement cost lists opens For t declared n = for_statement cost lists t declared n
statement cost lists opens Block t declared n = block_statement cost lists opens t declared n
statement cost lists opens Get t declared n = get_statement t declared n
statement cost lists opens Put t declared n = put_statement t declared n

abbrev pub states : (ℕ → ℕ) → Walks → (ℕ → Declares) → Standing → Table → Environment → ℕ → Answer Sheet
states cost lists opens End t declared n = Ok (sheet 0 (length declared) 0)
states cost lists opens (Statement k) t declared n =
    and_then (statement cost lists opens k t declared n) λ first.
    and_then (lists declared (node t n).next) λ rest.
    Ok (sheet (cost (first.ceiling + rest.ceiling)) (max first.rows rest.rows) (max first.frames rest.frames))
states cost lists opens Unlisted t declared n = refused_at Misshapen n
states cost lists opens Procedure t declared n = refused_at Misshapen n
states cost lists opens (Declaration k) t declared n = refused_at Misshapen n
states cost lists opens (Expression k) t declared n = refused_at Misshapen n

-- a list of statements, of at most so many nodes in a row
abbrev pub statements : (ℕ → ℕ) → ℕ → Table → Walks
statements cost zero t declared n = refused_at Misshapen n
statements cost (suc f) t declared n = states cost (statements cost f t) (declarations f t) (standing t n) t declared n

-- the whole procedure: its region, then its statements
abbrev pub procedure : (ℕ → ℕ) → ℕ → Table → Answer Sheet
procedure cost f t =
    and_then (declarations f t 0 [] (node t 0).a) λ o.
    and_then (statements cost f t o.declared (node t 0).b) λ inside.
    Ok (sheet (cost (1 + o.cost + inside.ceiling)) inside.rows inside.frames)

-- what passes needs at most 1,000,000,000 steps
abbrev pub judged : Answer Sheet → Answer Sheet
judged a = and_then a λ s. and_then (want (nat_le s.ceiling 1000000000) Overlong 0) λ _. Ok s

-- The check, with a working table of w places.
abbrev pub checked : Table → ℕ → Answer Sheet
checked t w =
    and_then (want (not (is_bulky t)) Bulky 0) λ _.
    and_then (want (nat_le 256 w) Short 0) λ _.
    and_then (tested t) λ _.
    and_then (want (nat_le 17 (node t 0).name) Taken 0) λ _.
    judged (procedure exact (length t) t)

-- for the code, which counts no further than just above the limit
abbrev pub Small : ℕ → Answer Sheet → Type 0
Small f a = IfOk a (λ s. (s.ceiling ≤ 1000000001) × (s.frames ≤ f))

abbrev pub with_cost : Answer ℕ → Environment → Answer Opened
with_cost (Ok c) declared = Ok (record { declared = declared; cost = c })
with_cost (Err e) declared = Err e
