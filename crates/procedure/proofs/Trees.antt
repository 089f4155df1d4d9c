-- A table that breaks no rule is a tree.
use Rattle.std.proofs.Common.{◌≡◌, ℕ, zero, suc, ◌+◌, ◌<◌, ◌≤◌, Bool, true, false, ◌⊎◌, length, sym, refl, ◌∙◌, inl, inr, arith}
use Rattle.std.proofs.lemmas.Bool.{false≢true}
use Rattle.procedure.specs.declared.layout.Role.{Role}
use Rattle.procedure.specs.declared.layout.Role.TheVariants.{Operand, Root, Declarations, Locals, Statements, Alternative, Following}
use Rattle.procedure.specs.declared.naming.Naming.{Naming}
use Rattle.procedure.specs.declared.naming.Naming.TheVariants.{Never, Once, Often}
use Rattle.procedure.specs.Naming.{naming, is_once}
use Rattle.procedure.specs.Rules.{named_once, Obeys}
use Rattle.procedure.specs.Table.{Table, expression_at}
use Rattle.procedure.specs.Tree.{Names, Reached, root, onward, Tree}
use Rattle.procedure.proofs.Namings.{named_by, namer-within, named_only_by}
use Rattle.procedure.proofs.Obeys.{holds, Placed, namer-placed}

once_is : (s : Naming) → is_once s ≡ true → (m : ℕ) × ((r : Role) × (s ≡ Once m r))
once_is Never e = absurd (false≢true e)
once_is (Once m r) e = (m, (r, refl))
once_is Often e = absurd (false≢true e)

once_of : (n : ℕ) (s : Naming) → 0 < n → named_once n s ≡ true → is_once s ≡ true
once_of n s p e = grind (arith, e)

once_at : (t : Table) → Obeys t → (n : ℕ) → 0 < n → n < length t → (m : ℕ) × ((r : Role) × (naming t n ≡ Once m r))
once_at t w n p l = once_is (naming t n) (once_of n (naming t n) p (holds t n (w n l)).named_at)

namer_of : (t : Table) → Obeys t → (n : ℕ) → 0 < n → n < length t → (m : ℕ) × Names t m n
namer_of t w n p l = let o = once_at t w n p l in (o.0, named_by t n o.0 o.1.0 o.1.1)

only_namer : (t : Table) → Obeys t → (n k m : ℕ) → n < length t → Names t k n → Names t m n → k ≡ m
only_namer t w n k m l p q =
    let o = once_at t w n p.part l in
    (named_only_by t n o.0 k o.1.0 o.1.1 p).0 ∙ sym (named_only_by t n o.0 m o.1.0 o.1.1 q).0

-- who names a node is an expression with a greater number, as the node is one, or is none and has a smaller number
placed_ways : (r : Role) (a b : Bool) (m n : ℕ) → Placed r a b m n → ((a ≡ true) × (b ≡ true) × (n < m)) ⊎ ((a ≡ false) × (m < n))
placed_ways Operand a b m n p = inl p
placed_ways Root a b m n p = inr (p.0, p.2)
placed_ways Declarations a b m n p = inr (p.0, p.2)
placed_ways Locals a b m n p = inr (p.0, p.2)
placed_ways Statements a b m n p = inr (p.0, p.2)
placed_ways Alternative a b m n p = inr (p.0, p.2)
placed_ways Following a b m n p = inr (p.0, p.2)

placed_plain : (r : Role) (a b : Bool) (m n : ℕ) → b ≡ false → Placed r a b m n → (a ≡ false) × (m < n)
placed_plain r a b m n e p = elim (placed_ways r a b m n p) [ inl q ↦ absurd (false≢true (sym e ∙ q.1)) | inr q ↦ q ]

-- what is no expression is reached by way of smaller numbers
reach_plain : (t : Table) → Obeys t → (f n : ℕ) → n < f → n < length t → expression_at t n ≡ false → Reached t n
reach_plain t w zero n h l e = absurd (omega arith)
reach_plain t w (suc f) zero h l e = root
reach_plain t w (suc f) (suc v) h l e =
    let o = namer_of t w (suc v) (omega arith) l in
    let p = placed_plain o.1.role (expression_at t o.0) (expression_at t (suc v)) o.0 (suc v) e (namer-placed t o.0 (suc v) w o.1) in
    onward (reach_plain t w f o.0 (omega (arith, p.1)) (namer-within t o.0 (suc v) o.1) p.0) o.1

-- and an expression by way of greater ones, up to its root
reach_expression : (t : Table) → Obeys t → (f n : ℕ) → length t ≤ f + n → 0 < n → n < length t → Reached t n
reach_expression t w zero n h p l = absurd (omega arith)
reach_expression t w (suc f) n h p l =
    let o = namer_of t w n p l in
    let i = namer-within t o.0 n o.1 in
    elim (placed_ways o.1.role (expression_at t o.0) (expression_at t n) o.0 n (namer-placed t o.0 n w o.1)) [
      | inl q ↦ onward (reach_expression t w f o.0 (omega (arith, q.2)) (omega (arith, q.2)) i) o.1
      | inr q ↦ onward (reach_plain t w (suc o.0) o.0 (omega arith) i q.0) o.1
    ]

reach : (t : Table) → Obeys t → (n : ℕ) → n < length t → Reached t n
reach t w zero l = root
reach t w (suc v) l = reach_expression t w (length t) (suc v) (omega arith) (omega arith) l

pub tree : (t : Table) → Obeys t → Tree t
tree t w = record { namer = namer_of t w; no_other = only_namer t w; reached = reach t w }
