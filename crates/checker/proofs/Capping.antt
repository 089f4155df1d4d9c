-- Costs held just above the limit give the verdict and the sheet of the exact ones.
use Rattle.std.proofs.Common.{◌≡◌, ℕ, zero, suc, ◌+◌, ◌*◌, ◌<◌, ◌≤◌, Bool, true, false, leb, Ok, Err, refl, ap, ◌∙◌, mul-le-mul_right, one-mul, arith, leb-false, leb-true}
use Rattle.procedure.specs.declared.kind.StatementKind.{StatementKind}
use Rattle.procedure.specs.declared.kind.StatementKind.TheVariants.{Null, Assignment, If, For, Block, Get, Put}
use Rattle.procedure.specs.declared.table.Standing.{Standing}
use Rattle.procedure.specs.declared.table.Standing.TheVariants.{End, Unlisted, Procedure, Declaration, Statement, Expression}
use Rattle.procedure.specs.Sequence.{Answer}
use Rattle.procedure.specs.Table.{Table, node, standing}
use Rattle.checker.specs.declared.answer.Sheet.{Sheet}
use Rattle.checker.specs.Answer.{sheet}
use Rattle.checker.specs.Cost.{exact, held}
use Rattle.checker.specs.Region.{Environment}
use Rattle.checker.specs.Walk.{Walks, Declares, if_statement, for_statement, block_statement, statement, states, statements, declarations, procedure, judged}

abbrev low : Sheet → Sheet
low s = sheet (held s.ceiling) s.rows s.frames

abbrev lowered : Answer Sheet → Answer Sheet
lowered (Ok s) = Ok (low s)
lowered (Err e) = Err e

-- two walks of which the first holds costs where the second counts them
abbrev Lowers : Walks → Walks → Type 0
Lowers a b = (declared : Environment) (n : ℕ) → a declared n ≡ lowered (b declared n)

mul_more : (k c : ℕ) → 0 < k → c ≤ k * c
mul_more k c h = rw one-mul at (mul-le-mul_right c h)

held-turns : (k c : ℕ) → held (1 + k * (held c + 1)) ≡ held (1 + k * (c + 1))
held-turns zero c = omega arith
held-turns (suc k) c = go (leb c 1000000001) refl where
  go : (b : Bool) → leb c 1000000001 ≡ b → held (1 + suc k * (held c + 1)) ≡ held (1 + suc k * (c + 1))
  go true e = ap (λ (n : ℕ). held (1 + suc k * (n + 1))) (omega (arith, leb-true))
  go false e =
      let p : held c + 1 ≤ suc k * (held c + 1) = mul_more (suc k) (held c + 1) (omega arith) in
      let q : c + 1 ≤ suc k * (c + 1) = mul_more (suc k) (c + 1) (omega arith) in
      omega (arith, leb-false)

if_low : (a b : Walks) (t : Table) (declared : Environment) (n : ℕ) → Lowers a b → if_statement held a t declared n ≡ lowered (if_statement exact b t declared n)
if_low a b t declared n ih =
    let p : a declared (node t n).b ≡ lowered (b declared (node t n).b) = ih declared (node t n).b in
    let q : a declared (node t n).c ≡ lowered (b declared (node t n).c) = ih declared (node t n).c in
    grind (arith, p, q)

for-low : (a b : Walks) (t : Table) (declared : Environment) (n : ℕ) → Lowers a b → for_statement held a t declared n ≡ lowered (for_statement exact b t declared n)
for-low a b t declared n ih = grind (arith, ih, held-turns)

block_low : (a b : Walks) (o : ℕ → Declares) (t : Table) (declared : Environment) (n : ℕ) → Lowers a b
    → block_statement held a o t declared n ≡ lowered (block_statement exact b o t declared n)
block_low a b o t declared n ih = grind (arith, ih)

statement-low : (a b : Walks) (o : ℕ → Declares) (k : StatementKind) (t : Table) (declared : Environment) (n : ℕ) → Lowers a b
    → statement held a o k t declared n ≡ lowered (statement exact b o k t declared n)
statement-low a b o Null t declared n ih = refl
statement-low a b o Assignment t declared n ih = grind arith
statement-low a b o If t declared n ih = if_low a b t declared n ih
statement-low a b o For t declared n ih = for-low a b t declared n ih
statement-low a b o Block t declared n ih = block_low a b o t declared n ih
statement-low a b o Get t declared n ih = grind arith
statement-low a b o Put t declared n ih = grind arith

states-low : (a b : Walks) (o : ℕ → Declares) (k : Standing) (t : Table) (declared : Environment) (n : ℕ) → Lowers a b
    → states held a o k t declared n ≡ lowered (states exact b o k t declared n)
states-low a b o End t declared n ih = refl
states-low a b o (Statement k) t declared n ih =
    let p : statement held a o k t declared n ≡ lowered (statement exact b o k t declared n) = statement-low a b o k t declared n ih in
    grind (arith, p, ih)
states-low a b o Unlisted t declared n ih = refl
states-low a b o Procedure t declared n ih = refl
states-low a b o (Declaration k) t declared n ih = refl
states-low a b o (Expression k) t declared n ih = refl

statements-low : (f : ℕ) (t : Table) → Lowers (statements held f t) (statements exact f t)
statements-low zero t declared n = refl
statements-low (suc f) t declared n =
    states-low (statements held f t) (statements exact f t) (declarations f t) (standing t n) t declared n (statements-low f t)

procedure-low : (f : ℕ) (t : Table) → procedure held f t ≡ lowered (procedure exact f t)
procedure-low f t = grind (arith, statements-low)

-- The verdict, and the sheet of what passes, are the same.
pub capping : (f : ℕ) (t : Table) → judged (procedure held f t) ≡ judged (procedure exact f t)
capping f t = ap judged (procedure-low f t) ∙ go (procedure exact f t) where
  go : (a : Answer Sheet) → judged (lowered a) ≡ judged a
  go (Err e) = refl
  go (Ok s) = grind arith
