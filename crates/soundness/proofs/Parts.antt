-- What the parts of a node are in a table that breaks no rule: operands stand before their operator, no parameter behind a local.
use Rattle.std.proofs.Common.{◌≡◌, ℕ, zero, suc, ◌<◌, ◌≤◌, Bool, true, false, ◌||◌, eqb, ltb, ◌⊎◌, length, Some, Option, subst, inl, inr, arith}
use Rattle.std.proofs.lemmas.Bool.{eqb-true, ltb-true, or_cases, false≢true}
use Rattle.procedure.specs.declared.kind.Kind.{Kind}
use Rattle.procedure.specs.declared.kind.Kind.TheVariants.{Declaration, Statement, Expression}
use Rattle.procedure.specs.declared.kind.DeclarationKind.{DeclarationKind}
use Rattle.procedure.specs.declared.kind.DeclarationKind.TheVariants.{Parameter, Variable, Constant}
use Rattle.procedure.specs.declared.kind.StatementKind.TheVariants.{Block}
use Rattle.procedure.specs.declared.kind.ExpressionKind.TheVariants.{Unary, Binary}
use Rattle.procedure.specs.declared.layout.Role.TheVariants.{Locals}
use Rattle.procedure.specs.declared.table.Standing.TheVariants.{Declaration as DeclarationS}
use Rattle.procedure.specs.Formed.{Formed}
use Rattle.procedure.specs.Rules.{fits}
use Rattle.procedure.specs.Table.{Table, node, part, standing, is_local as is_local_part}
use Rattle.checker.proofs.Shapes.{within, part-declaration, fields}

pub unary_before : (t : Table) (n : ℕ) → Formed t → part t n ≡ Some (Expression Unary) → (node t n).a < n
unary_before t n w q = ltb-true _ _ (fields t w n (Expression Unary) q).a.order

pub binary_before : (t : Table) (n : ℕ) → Formed t → part t n ≡ Some (Expression Binary) → ((node t n).a < n) × ((node t n).b < n)
binary_before t n w q =
    let f = fields t w n (Expression Binary) q in
    (ltb-true _ _ f.a.order, ltb-true _ _ f.b.order)

-- a variable or a constant, which has an initial value
abbrev pub is_local : DeclarationKind → Bool
is_local Parameter = false
is_local Variable = true
is_local Constant = true

local_is : (k : DeclarationKind) → is_local_part (Some (Declaration k)) ≡ true → is_local k ≡ true
local_is k e = grind (arith, e)

or_suc : (v : ℕ) (b : Bool) → (eqb (suc v) 0 || b) ≡ true → b ≡ true
or_suc v b e = grind (arith, e)

local_fits : (t : Table) (m : ℕ) (k : DeclarationKind) → fits t Locals m ≡ true → standing t m ≡ DeclarationS k → is_local k ≡ true
local_fits t zero k f e = let z : ◌≡◌ {A = ℕ} 0 1 = cc in absurd (omega arith)
local_fits t (suc m) k f e = local_is k (subst (λ (o : Option Kind). is_local_part o ≡ true) (part-declaration t (suc m) k e) (or_suc m _ f))

-- what follows a local is none but a local
pub local-next : (t : Table) (n : ℕ) (k j : DeclarationKind) → Formed t → is_local k ≡ true → standing t n ≡ DeclarationS k → standing t (node t n).next ≡ DeclarationS j → is_local j ≡ true
local-next t n Parameter j w l e f = absurd (false≢true l)
local-next t n Variable j w l e f = local_fits t (node t n).next j (fields t w n (Declaration Variable) (part-declaration t n Variable e)).next.fitting f
local-next t n Constant j w l e f = local_fits t (node t n).next j (fields t w n (Declaration Constant) (part-declaration t n Constant e)).next.fitting f

-- a block has no parameters
pub block_local : (t : Table) (n : ℕ) (j : DeclarationKind) → Formed t → part t n ≡ Some (Statement Block) → standing t (node t n).a ≡ DeclarationS j → is_local j ≡ true
block_local t n j w e f = local_fits t (node t n).a j (fields t w n (Statement Block) e).a.fitting f

-- what follows a parameter has a greater number
pub parameter-next : (t : Table) (n : ℕ) → Formed t → standing t n ≡ DeclarationS Parameter → ((node t n).next ≡ 0) ⊎ (n < (node t n).next)
parameter-next t n w e = go (or_cases (eqb (node t n).next 0) (ltb n (node t n).next) (fields t w n (Declaration Parameter) (part-declaration t n Parameter e)).next.order)
  where
    go : (eqb (node t n).next 0 ≡ true) ⊎ (ltb n (node t n).next ≡ true) → ((node t n).next ≡ 0) ⊎ (n < (node t n).next)
    go (inl h) = inl (eqb-true _ _ h)
    go (inr h) = inr (ltb-true _ _ h)

pub no_declaration : {P : Type 0} (t : Table) (n : ℕ) (k : DeclarationKind) → length t ≤ n → standing t n ≡ DeclarationS k → P
no_declaration t n k h e = absurd (let i = within t n (Declaration k) (part-declaration t n k e) in let l = i.1 in omega arith)
