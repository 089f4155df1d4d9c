-- What is known of a node that is named once: the one reference that names it, and that there is no other.
use Rattle.std.proofs.Common.{◌≡◌, ℕ, zero, suc, ◌+◌, ◌-◌, ◌<◌, ◌≤◌, Bool, true, false, cond, eqb, length, drop, Some, None, Option, sym, refl, ap, ◌∙◌, subst, inl, inr, arith, eq-eqb, eqb-true}
use Rattle.std.proofs.lemmas.List.{at_drop_more, at_drop_all, get_or_past}
use Rattle.std.proofs.lemmas.Bool.{cases_lt}
use Rattle.std.proofs.lemmas.Option.{none-some}
use Rattle.procedure.specs.Kind.{kind_of}
use Rattle.procedure.specs.Layout.{layout}
use Rattle.procedure.specs.declared.layout.Layout.{Layout}
use Rattle.procedure.specs.declared.layout.Role.{Role}
use Rattle.procedure.specs.declared.naming.Naming.{Naming}
use Rattle.procedure.specs.declared.naming.Naming.TheVariants.{Never, Once, Often}
use Rattle.procedure.specs.declared.node.Node.{Node}
use Rattle.procedure.specs.Naming.{naming, once_more, after_reference, after_node, after_nodes}
use Rattle.procedure.specs.Table.{Table, node, layout_at, blank}
use Rattle.procedure.specs.Tree.{Refers, by_a, by_b, by_c, by_next, Names}

-- a naming that is Once tells of a reference to n
abbrev Says : Table → ℕ → Naming → Type 0
Says t n Never = Unit {0}
Says t n (Once m r) = (0 < n) × Refers t m r n
Says t n Often = Unit {0}

says_more : (t : Table) (n m : ℕ) (r : Role) (s : Naming) → 0 < n → Refers t m r n → Says t n (once_more m r s)
says_more t n m r Never p h = (p, h)
says_more t n m r (Once k q) p h = tt
says_more t n m r Often p h = tt

says_if : (t : Table) (n m v : ℕ) (r : Role) (s : Naming) (e : Bool) → eqb (suc v) n ≡ e
    → Refers t m r (suc v) → Says t n s → Says t n (cond e (once_more m r s) s)
says_if t n m v r s true q h w =
    let e : suc v ≡ n = eqb-true _ _ q in
    says_more t n m r s (omega arith) (subst (Refers t m r) e h)
says_if t n m v r s false q h w = w

says_reference : (t : Table) (n m : ℕ) (o : Option Role) (v : ℕ) (s : Naming) → ((r : Role) → o ≡ Some r → Refers t m r v)
    → Says t n s → Says t n (after_reference n m o v s)
says_reference t n m None v s h w = w
says_reference t n m (Some r) zero s h w = w
says_reference t n m (Some r) (suc v) s h w = says_if t n m v r s (eqb (suc v) n) refl (h r refl) w

says_node : (t : Table) (n m : ℕ) (s : Naming) → Says t n s → Says t n (after_node n m (layout_at t m) (node t m) s)
says_node t n m s w =
    says_reference t n m _ _ _ (λ r e. by_next e refl)
    (says_reference t n m _ _ _ (λ r e. by_c e refl)
    (says_reference t n m _ _ _ (λ r e. by_b e refl)
    (says_reference t n m _ _ _ (λ r e. by_a e refl) w)))

says_nodes : (t : Table) (n k m : ℕ) (s : Naming) → k + m ≡ length t → Says t n s → Says t n (after_nodes n m (drop m t) s)
says_nodes t n zero m s e w =
    subst (Says t n) (sym (at_drop_all (λ xs. after_nodes n m xs s) t m (omega arith))) w
says_nodes t n (suc k) m s e w =
    subst (Says t n) (sym (at_drop_more (λ xs. after_nodes n m xs s) t m blank (omega arith)))
    (says_nodes t n k (m + 1) (after_node n m (layout_at t m) (node t m) s) (omega arith) (says_node t n m s w))

-- a node that is named once is named by the node that is told
pub named_by : (t : Table) (n m : ℕ) (r : Role) → naming t n ≡ Once m r → Names t m n
named_by t n m r e =
    let h : Says t n (Once m r) = subst (Says t n) e (says_nodes t n (length t) 0 Never (omega arith) tt) in
    record { role = r; part = h.0; refers = h.1 }

-- a naming that has met the reference of k in the role q
abbrev Met : ℕ → Role → Naming → Type 0
Met k q Never = ⊥
Met k q (Once m r) = (k ≡ m) × (q ≡ r)
Met k q Often = Unit {0}

met_more : (k m : ℕ) (q r : Role) (s : Naming) → Met k q s → Met k q (once_more m r s)
met_more k m q r Never w = absurd w
met_more k m q r (Once j p) w = tt
met_more k m q r Often w = tt

met_new : (m : ℕ) (r : Role) (s : Naming) → Met m r (once_more m r s)
met_new m r Never = (refl, refl)
met_new m r (Once j p) = tt
met_new m r Often = tt

met_if : (k m : ℕ) (q r : Role) (s : Naming) (b : Bool) → Met k q s → Met k q (cond b (once_more m r s) s)
met_if k m q r s true w = met_more k m q r s w
met_if k m q r s false w = w

met_reference : (k n m : ℕ) (q : Role) (o : Option Role) (v : ℕ) (s : Naming) → Met k q s → Met k q (after_reference n m o v s)
met_reference k n m q None v s w = w
met_reference k n m q (Some r) zero s w = w
met_reference k n m q (Some r) (suc v) s w = met_if k m q r s (eqb (suc v) n) w

-- the naming after the first one, two and three references of a node
abbrev after-a : ℕ → ℕ → Layout → Node → Naming → Naming
after-a n m l x s = after_reference n m l.a x.a s

abbrev after-b : ℕ → ℕ → Layout → Node → Naming → Naming
after-b n m l x s = after_reference n m l.b x.b (after-a n m l x s)

abbrev after-c : ℕ → ℕ → Layout → Node → Naming → Naming
after-c n m l x s = after_reference n m l.c x.c (after-b n m l x s)

met_from_c : (k n m : ℕ) (q : Role) (l : Layout) (x : Node) (s : Naming) → Met k q (after-c n m l x s) → Met k q (after_node n m l x s)
met_from_c k n m q l x s w = met_reference k n m q l.next x.next (after-c n m l x s) w

met_from_b : (k n m : ℕ) (q : Role) (l : Layout) (x : Node) (s : Naming) → Met k q (after-b n m l x s) → Met k q (after_node n m l x s)
met_from_b k n m q l x s w = met_from_c k n m q l x s (met_reference k n m q l.c x.c (after-b n m l x s) w)

met_from_a : (k n m : ℕ) (q : Role) (l : Layout) (x : Node) (s : Naming) → Met k q (after-a n m l x s) → Met k q (after_node n m l x s)
met_from_a k n m q l x s w = met_from_b k n m q l x s (met_reference k n m q l.b x.b (after-a n m l x s) w)

met_node : (k n m : ℕ) (q : Role) (l : Layout) (x : Node) (s : Naming) → Met k q s → Met k q (after_node n m l x s)
met_node k n m q l x s w = met_from_a k n m q l x s (met_reference k n m q l.a x.a s w)

met_here : (m : ℕ) (r : Role) (n : ℕ) (s : Naming) → 0 < n → Met m r (after_reference n m (Some r) n s)
met_here m r zero s p = absurd (omega arith)
met_here m r (suc v) s p =
    subst (Met m r) (sym (ap (λ b. cond b (once_more m r s) s) (eq-eqb (suc v) (suc v) refl))) (met_new m r s)

met_at : (m : ℕ) (q : Role) (o : Option Role) (n v : ℕ) (s : Naming) → o ≡ Some q → v ≡ n → 0 < n → Met m q (after_reference n m o v s)
met_at m q o n v s e f p =
    subst (λ z. Met m q (after_reference n m z v s)) (sym e)
    (subst (λ z. Met m q (after_reference n m (Some q) z s)) (sym f) (met_here m q n s p))

met_refers : (t : Table) (m n : ℕ) (q : Role) (s : Naming) → 0 < n → Refers t m q n → Met m q (after_node n m (layout_at t m) (node t m) s)
met_refers t m n q s p (by_a e f) =
    met_from_a m n m q (layout_at t m) (node t m) s (met_at m q (layout_at t m).a n (node t m).a s e f p)
met_refers t m n q s p (by_b e f) =
    met_from_b m n m q (layout_at t m) (node t m) s
    (met_at m q (layout_at t m).b n (node t m).b (after-a n m (layout_at t m) (node t m) s) e f p)
met_refers t m n q s p (by_c e f) =
    met_from_c m n m q (layout_at t m) (node t m) s
    (met_at m q (layout_at t m).c n (node t m).c (after-b n m (layout_at t m) (node t m) s) e f p)
met_refers t m n q s p (by_next e f) =
    met_at m q (layout_at t m).next n (node t m).next (after-c n m (layout_at t m) (node t m) s) e f p

-- what has been met stays met
met_on : (t : Table) (k n : ℕ) (q : Role) (j m : ℕ) (s : Naming) → j + m ≡ length t → Met k q s → Met k q (after_nodes n m (drop m t) s)
met_on t k n q zero m s e w =
    subst (Met k q) (sym (at_drop_all (λ xs. after_nodes n m xs s) t m (omega arith))) w
met_on t k n q (suc j) m s e w =
    subst (Met k q) (sym (at_drop_more (λ xs. after_nodes n m xs s) t m blank (omega arith)))
    (met_on t k n q j (m + 1) (after_node n m (layout_at t m) (node t m) s) (omega arith) (met_node k n m q (layout_at t m) (node t m) s w))

-- i nodes on, k is met; j more follow it
met_nodes : (t : Table) (k n : ℕ) (q : Role) → 0 < n → Refers t k q n
    → (i j m : ℕ) (s : Naming) → i + m ≡ k → suc j + k ≡ length t → Met k q (after_nodes n m (drop m t) s)
met_nodes t k n q p h zero j m s d e =
    let f : m ≡ k = omega arith in
    subst (λ z. Met k q (after_nodes n z (drop z t) s)) (sym f)
    (subst (Met k q) (sym (at_drop_more (λ xs. after_nodes n k xs s) t k blank (omega arith)))
    (met_on t k n q j (k + 1) (after_node n k (layout_at t k) (node t k) s) (omega arith) (met_refers t k n q s p h)))
met_nodes t k n q p h (suc i) j m s d e =
    subst (Met k q) (sym (at_drop_more (λ xs. after_nodes n m xs s) t m blank (omega arith)))
    (met_nodes t k n q p h i j (m + 1) (after_node n m (layout_at t m) (node t m) s) (omega arith) e)

-- beyond the table nothing is named
unused_beyond : (t : Table) (k : ℕ) (pick : Layout → Option Role) → pick (layout None) ≡ None → length t ≤ k
    → (q : Role) → pick (layout_at t k) ≡ Some q → ⊥
unused_beyond t k pick d h q e =
    let b : node t k ≡ blank = get_or_past t k blank h in
    none-some q (sym d ∙ sym (ap (λ x. pick (layout (kind_of x.kind))) b) ∙ e)

refers-within : (t : Table) (k n : ℕ) (q : Role) → length t ≤ k → Refers t k q n → ⊥
refers-within t k n q h (by_a e f) = unused_beyond t k (λ l. l.a) refl h q e
refers-within t k n q h (by_b e f) = unused_beyond t k (λ l. l.b) refl h q e
refers-within t k n q h (by_c e f) = unused_beyond t k (λ l. l.c) refl h q e
refers-within t k n q h (by_next e f) = unused_beyond t k (λ l. l.next) refl h q e

-- who names a node stands in the table
pub namer-within : (t : Table) (k n : ℕ) → Names t k n → k < length t
namer-within t k n h =
    elim (cases_lt k (length t)) [ inl within ↦ within | inr beyond ↦ absurd (refers-within t k n h.role beyond h.refers) ]

-- a node that is named once has no other namer, nor another role
pub named_only_by : (t : Table) (n m k : ℕ) (r : Role) → naming t n ≡ Once m r → (h : Names t k n) → (k ≡ m) × (h.role ≡ r)
named_only_by t n m k r e h =
    let w : k < length t = namer-within t k n h in
    subst (Met k h.role) e (met_nodes t k n h.role h.part h.refers k (length t - suc k) 0 Never (omega arith) (omega arith))
