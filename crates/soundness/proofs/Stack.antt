-- The frames, each with what is open and what is left to do when its list has ended.
use Rattle.std.proofs.Common.{◌≡◌, ℕ, suc, ◌+◌, ◌*◌, ◌≤◌, Bool, true, false, cond, eqb, ◌⊎◌, List, [], ◌∷◌, length, ℤ, Some, Option, sym, ap, ◌∙◌, inl, inr, arith}
use Rattle.std.proofs.lemmas.Bool.{true≢false}
use Rattle.procedure.specs.declared.kind.Kind.{Kind}
use Rattle.procedure.specs.declared.kind.Kind.TheVariants.{Statement as StatementK}
use Rattle.procedure.specs.declared.kind.StatementKind.{StatementKind}
use Rattle.procedure.specs.declared.kind.StatementKind.TheVariants.{If, For, Block}
use Rattle.procedure.specs.declared.table.Standing.TheVariants.{End, Statement}
use Rattle.procedure.specs.declared.types.«Type».{«Type» as TypeT}
use Rattle.procedure.specs.Kind.{kind_of}
use Rattle.procedure.specs.Table.{Table, node, standing, standing_of}
use Rattle.evaluator.specs.declared.rows.Row.{Row}
use Rattle.machine.specs.declared.frame.Frame.{Frame}
use Rattle.machine.specs.Decide.{row_with}
use Rattle.checker.specs.declared.names.Declaration.{Declaration}
use Rattle.checker.specs.declared.names.Meaning.TheVariants.{Object}
use Rattle.checker.specs.Cost.{above}
use Rattle.checker.specs.Names.{means}
use Rattle.checker.proofs.Shapes.{kind-part, part-statement}
use Rattle.soundness.specs.Evaluation.{declaration_of, declarations_of}
use Rattle.soundness.specs.Open.{Objects, on, declaring, stating, Open, outermost, in_then, in_else, in_loop, in_block}
use Rattle.soundness.specs.Sound.{objects}
use Rattle.soundness.proofs.Good.{Good, counter}
use Rattle.soundness.proofs.Rows.{assign, declarations_assign, objects_assign, length_assign, assign_above}
use Rattle.soundness.proofs.Tables.{Above}

pub kind_at : (t : Table) (n : ℕ) (k : StatementKind) → standing t n ≡ Statement k → kind_of (node t n).kind ≡ Some (StatementK k)
kind_at t n k e = kind-part t n (StatementK k) (part-statement t n k e)

pub goes_on : {P : Type 0} (t : Table) (n : ℕ) → standing t (suc n) ≡ End → P
goes_on t n e = absurd (no_end (kind_of (node t (suc n)).kind) e) where
  no_end : (o : Option Kind) → standing_of o ≡ End → ⊥
  no_end o q = grind (arith, q)

-- the statement that holds the list under way, by the frames the newest first
abbrev pub holder_of : List Frame → ℕ
holder_of [] = 0
holder_of (f ∷ fs) = f.node

pub data Stack (t : Table) (R F : ℕ) : List Row → List Frame → ℕ → Type 0 where
  stack_none : {rows : List Row} {m : ℕ} → 1 ≤ m → Stack t R F rows [] m
  stack_branch : {rows : List Row} {f : Frame} {fs : List Frame} {m : ℕ} (c m' : ℕ) → standing t f.node ≡ Statement If → Open t (holder_of fs) f.node (objects rows)
      → Good t R F (length fs) (declarations_of rows) (node t f.node).next c → Stack t R F rows fs m' → suc (c + m') ≤ m → Stack t R F rows (f ∷ fs) m
  stack_loop : {r : Row} {rows : List Row} {f : Frame} {fs : List Frame} {m : ℕ} (c₁ c m' : ℕ) → standing t f.node ≡ Statement For → f.rows ≡ length rows
      → declaration_of r ≡ counter (node t f.node) → Open t (holder_of fs) f.node (objects rows)
      → Good t R F (suc (length fs)) (counter (node t f.node) ∷ declarations_of rows) (node t f.node).a c₁
      → Good t R F (length fs) (declarations_of rows) (node t f.node).next c → Stack t R F rows fs m'
      → suc (above r.value (node t f.node).hi * (c₁ + 1) + c + m') ≤ m → Stack t R F (r ∷ rows) (f ∷ fs) m
  stack_block : {rows : List Row} {f : Frame} {fs : List Frame} {m : ℕ} (rest : List Row) (c m' : ℕ) → standing t f.node ≡ Statement Block → f.rows ≡ length rest
      → Above rest rows → Open t (holder_of fs) f.node (objects rest) → Good t R F (length fs) (declarations_of rest) (node t f.node).next c
      → Stack t R F rest fs m' → suc (c + m') ≤ m → Stack t R F rows (f ∷ fs) m

-- something is always left to do
pub stack_left : {t : Table} {R F m : ℕ} {rows : List Row} {fs : List Frame} → Stack t R F rows fs m → 1 ≤ m
stack_left (stack_none l) = l
stack_left (stack_branch c m' q o g s l) = omega arith
stack_left (stack_loop c₁ c m' q k p o b g s l) = omega arith
stack_left (stack_block rest c m' q k a o g s l) = omega arith

-- an assignment to a variable leaves the frames as they are
pub stack_assign : {t : Table} {R F : ℕ} {rows : List Row} {fs : List Frame} {m : ℕ} (x : ℕ) (z : ℤ) (u : TypeT) → means (declarations_of rows) x ≡ Some (Object u false)
    → Stack t R F rows fs m → Stack t R F (assign x z rows) fs m
stack_assign x z u e (stack_none l) = stack_none l
stack_assign x z u e (stack_branch {rows = rows} c m' q op g s l) =
    stack_branch c m' q (rw (objects_assign x z rows) op) (rw (declarations_assign x z rows) g) (stack_assign x z u e s) l
stack_assign {t} {R} {F} x z u e (stack_loop {r = r} {rows = rows} {f = f} {fs = fs} {m = m} c₁ c m' q k p op b g s l) =
    go (eqb r.name x) e (λ w. stack_assign x z u w s)
  where
    go : (b : Bool) → cond b (Some (Object r.of_type r.constant)) (means (declarations_of rows) x) ≡ Some (Object u false)
        → (means (declarations_of rows) x ≡ Some (Object u false) → Stack t R F (assign x z rows) fs m')
        → Stack t R F (cond b (row_with r z ∷ rows) (r ∷ assign x z rows)) (f ∷ fs) m
    go true w ih = let i : r.constant ≡ true = ap (λ (d : Declaration). d.constant) p in let j : r.constant ≡ false = cc in absurd (true≢false (sym i ∙ j))
    go false w ih =
        stack_loop c₁ c m' q (k ∙ sym (length_assign x z rows)) p (rw (objects_assign x z rows) op) (rw (declarations_assign x z rows) b) (rw (declarations_assign x z rows) g) (ih w) l
stack_assign {t} {R} {F} x z u e (stack_block {rows = rows} {f = f} {fs = fs} {m = m} rest c m' q k a op g s l) =
    go (assign_above x z a) (λ w. stack_assign x z u w s)
  where
    go : Above rest (assign x z rows) ⊎ (Above (assign x z rest) (assign x z rows) × (means (declarations_of rows) x ≡ means (declarations_of rest) x))
        → (means (declarations_of rest) x ≡ Some (Object u false) → Stack t R F (assign x z rest) fs m') → Stack t R F (assign x z rows) (f ∷ fs) m
    go (inl b) ih = stack_block rest c m' q k b op g s l
    go (inr b) ih = stack_block (assign x z rest) c m' q (k ∙ sym (length_assign x z rest)) b.0 (rw (objects_assign x z rest) op) (rw (declarations_assign x z rest) g) (ih (sym b.1 ∙ e)) l

-- what is open at a statement is open after it
pub open_next : {t : Table} {h n : ℕ} {Γ : Objects} (k : StatementKind) → standing t n ≡ Statement k → Open t h n Γ → Open t h (node t n).next Γ
open_next k q (outermost (declaring j w d)) = let z : ◌≡◌ {A = ℕ} 0 1 = cc in absurd (omega arith)
open_next k q (outermost (stating d a)) = outermost (stating d (on k a q))
open_next k q (in_then w o a) = in_then w o (on k a q)
open_next k q (in_else w o a) = in_else w o (on k a q)
open_next k q (in_loop w o a) = in_loop w o (on k a q)
open_next k q (in_block w o (declaring j v d)) = let z : ◌≡◌ {A = ℕ} 0 1 = cc in absurd (omega arith)
open_next k q (in_block w o (stating d a)) = in_block w o (stating d (on k a q))
