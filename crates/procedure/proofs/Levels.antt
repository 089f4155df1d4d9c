-- The level of a node is one more than, or the same as, the level of its namer.
use Rattle.std.proofs.Common.{◌≡◌, ℕ, zero, suc, ◌+◌, ◌^◌, ◌<◌, ◌≤◌, Bool, true, false, ◌⊎◌, List, length, get_or, set, sym, refl, ap, ◌∙◌, subst, inl, inr, arith}
use Rattle.std.proofs.lemmas.Grind.{common_steps}
use Rattle.std.proofs.lemmas.Bool.{true≢false, false≢true}
use Rattle.procedure.specs.declared.layout.Role.{Role}
use Rattle.procedure.specs.declared.layout.Role.TheVariants.{Operand, Root, Declarations, Locals, Statements, Alternative, Following}
use Rattle.procedure.specs.declared.naming.Naming.{Naming}
use Rattle.procedure.specs.declared.naming.Naming.TheVariants.{Once}
use Rattle.procedure.specs.Level.{level, level_by, level_within}
use Rattle.procedure.specs.Naming.{naming}
use Rattle.procedure.specs.Rules.{Obeys}
use Rattle.procedure.specs.Table.{Table, expression_at}
use Rattle.procedure.proofs.Namings.{named_by, namer-within, named_only_by}
use Rattle.procedure.proofs.Obeys.{Placed, namer-placed}

-- roles by which a level goes on from the namer's
abbrev pub climbs : Role → Bool
climbs Operand = true
climbs Root = false
climbs Declarations = false
climbs Locals = false
climbs Statements = true
climbs Alternative = true
climbs Following = true

-- the level asks for the namer's alone, and only where it goes on from it
pub level_from : (s : Naming) (up on : ℕ → ℕ) → ((m : ℕ) (r : Role) → s ≡ Once m r → climbs r ≡ true → up m ≡ on m) → level_by up s ≡ level_by on s
level_from s up on h = grind (arith, h)

-- n and m, from which n's level goes on, are both expressions or both none, and m stands where n's chain leads
abbrev Closer : Bool → Bool → ℕ → ℕ → Type 0
Closer a b m n = ((a ≡ true) × (b ≡ true) × (n < m)) ⊎ ((a ≡ false) × (b ≡ false) × (m < n))

placed_closer : (r : Role) (a b : Bool) (m n : ℕ) → climbs r ≡ true → Placed r a b m n → Closer a b m n
placed_closer Operand a b m n c p = inl p
placed_closer Root a b m n c p = absurd (false≢true c)
placed_closer Declarations a b m n c p = absurd (false≢true c)
placed_closer Locals a b m n c p = absurd (false≢true c)
placed_closer Statements a b m n c p = inr p
placed_closer Alternative a b m n c p = inr p
placed_closer Following a b m n c p = inr p

pub namer_closer : (t : Table) (m n : ℕ) (r : Role) → Obeys t → naming t n ≡ Once m r → climbs r ≡ true
    → (m < length t) × Closer (expression_at t m) (expression_at t n) m n
namer_closer t m n r w e c =
    let h = named_by t n m r e in
    let p : Placed r (expression_at t m) (expression_at t n) m n =
    subst (λ x. Placed x (expression_at t m) (expression_at t n) m n) (named_only_by t n m m r e h).1 (namer-placed t m n w h) in
    (namer-within t m n h, placed_closer r (expression_at t m) (expression_at t n) m n c p)

-- f turns are enough for the chain from n
abbrev Enough : Bool → Table → ℕ → ℕ → Type 0
Enough b t n f = (b ≡ true → length t ≤ f + n) × (b ≡ false → n < f)

enough_on : (t : Table) (a b : Bool) (m n f : ℕ) → Closer a b m n → Enough b t n (suc f) → Enough a t m f
enough_on t a b m n f (inl c) h = ((λ _. omega (arith, c.2, h.0 c.1)), λ e. absurd (true≢false (sym c.0 ∙ e)))
enough_on t a b m n f (inr c) h = ((λ e. absurd (true≢false (sym e ∙ c.0))), λ _. omega (arith, c.2, h.1 c.1))

none_left : (t : Table) (a : Bool) (n : ℕ) → n < length t → Enough a t n 0 → ⊥
none_left t true n l h = omega (arith, h.0 refl)
none_left t false n l h = omega (arith, h.1 refl)

-- where the turns are enough, one more changes nothing
steady : (t : Table) → Obeys t → (f n : ℕ) → n < length t → Enough (expression_at t n) t n f → level_within f t n ≡ level_within (suc f) t n
steady t w zero n l h = absurd (none_left t (expression_at t n) n l h)
steady t w (suc f) n l h =
    level_from (naming t n) (level_within f t) (level_within (suc f) t)
    (λ m r e c.
    let k = namer_closer t m n r w e c in
    steady t w f m k.0 (enough_on t (expression_at t m) (expression_at t n) m n f k.1 h))

start_enough : (t : Table) (a b : Bool) (m n f : ℕ) → length t ≡ suc f → n < length t → Closer a b m n → Enough a t m f
start_enough t a b m n f e l (inl c) = ((λ _. omega (arith, c.2)), λ q. absurd (true≢false (sym c.0 ∙ q)))
start_enough t a b m n f e l (inr c) = ((λ q. absurd (true≢false (sym q ∙ c.0))), λ _. omega (arith, c.2))

level_law_of : (t : Table) → Obeys t → (k n : ℕ) → length t ≡ k → n < length t → level_within k t n ≡ level_by (level_within k t) (naming t n)
level_law_of t w zero n e l = absurd (omega arith)
level_law_of t w (suc f) n e l =
    level_from (naming t n) (level_within f t) (level_within (suc f) t)
    (λ m r q c.
    let k = namer_closer t m n r w q c in
    steady t w f m k.0 (start_enough t (expression_at t m) (expression_at t n) m n f e l k.1))

-- The level of a node follows from its namer's.
pub level_law : (t : Table) → Obeys t → (n : ℕ) → n < length t → level t n ≡ level_by (level t) (naming t n)
level_law t w n l = level_law_of t w (length t) n refl l

level_by_le : (s : Naming) (up : ℕ → ℕ) (k : ℕ) → ((m : ℕ) → up m ≤ k) → level_by up s ≤ suc k
level_by_le s up k h = grind (arith, h)

level_within_le : (t : Table) (k n : ℕ) → level_within k t n ≤ k
level_within_le t zero n = omega arith
level_within_le t (suc k) n = level_by_le (naming t n) (level_within k t) k (level_within_le t k)

-- No level is above the number of nodes.
pub level_le : (t : Table) (n : ℕ) → level t n ≤ length t
level_le t n = level_within_le t (length t) n

-- A level that is computed from known levels is the node's.
noted_level : (t : Table) → Obeys t → length t ≤ 1024 → (levels : List ℕ) (s : Naming) (r n : ℕ) → n < length t → s ≡ naming t n
    → (level_by (λ m. get_or levels m 0) s < 2 ^ 16 → r ≡ level_by (λ m. get_or levels m 0) s)
    → ((m : ℕ) → m < length t → Closer (expression_at t m) (expression_at t n) m n → get_or levels m 0 ≡ level t m)
    → r ≡ level t n
noted_level t w few levels s r n l e exact known =
    let q : level_by (λ m. get_or levels m 0) s ≡ level t n =
    level_from s (λ m. get_or levels m 0) (level t)
    (λ m role i c. let k = namer_closer t m n role w (sym e ∙ i) c in known m k.0 k.1)
    ∙ ap (level_by (level t)) e ∙ sym (level_law t w n l) in
    exact (omega (arith, q, level_le t n)) ∙ q

closer_plain : (a b : Bool) (m n : ℕ) → b ≡ false → Closer a b m n → (a ≡ false) × (m < n)
closer_plain a b m n e (inl c) = absurd (true≢false (sym c.1 ∙ e))
closer_plain a b m n e (inr c) = (c.0, c.2)

closer_sides : (a b : Bool) (m n : ℕ) → Closer a b m n → (n < m) ⊎ (a ≡ false)
closer_sides a b m n c = elim c [ inl p ↦ inl p.2 | inr q ↦ inr q.0 ]

-- what a list holds at k after a write of r at n
after-set : (levels : List ℕ) (n r k v : ℕ) → n < length levels → (k ≡ n → r ≡ v) → ((k ≡ n → ⊥) → get_or levels k 0 ≡ v) → get_or (set levels n r) k 0 ≡ v
after-set levels n r k v l same other = grind (arith, common_steps, same, other)

-- one turn of each pass over the levels
pub upward : (t : Table) → Obeys t → length t ≤ 1024 → (levels : List ℕ) (s : Naming) (r n : ℕ) → n < length t → length levels ≡ 1024 → s ≡ naming t n
    → (level_by (λ m. get_or levels m 0) s < 2 ^ 16 → r ≡ level_by (λ m. get_or levels m 0) s)
    → ((k : ℕ) → k < n → expression_at t k ≡ false → get_or levels k 0 ≡ level t k)
    → (k : ℕ) → k < n + 1 → expression_at t k ≡ false → get_or (set levels n r) k 0 ≡ level t k
upward t w few levels s r n l size e exact known k h plain =
    after-set levels n r k (level t k) (omega arith)
    (λ q.
    noted_level t w few levels s r n l e exact
    (λ m i c. let p = closer_plain (expression_at t m) (expression_at t n) m n (ap (expression_at t) (sym q) ∙ plain) c in known m p.1 p.0)
    ∙ ap (level t) (sym q))
    (λ d. known k (omega (arith, d)) plain)

pub downward : (t : Table) → Obeys t → length t ≤ 1024 → (levels : List ℕ) (s : Naming) (r n : ℕ) → n < length t → length levels ≡ 1024 → s ≡ naming t n
    → (level_by (λ m. get_or levels m 0) s < 2 ^ 16 → r ≡ level_by (λ m. get_or levels m 0) s)
    → ((k : ℕ) → k < length t → expression_at t k ≡ false → get_or levels k 0 ≡ level t k)
    → ((k : ℕ) → n < k → k < length t → get_or levels k 0 ≡ level t k)
    → (k : ℕ) → k < length t → (n < k) ⊎ ((k ≡ n) ⊎ (expression_at t k ≡ false)) → get_or (set levels n r) k 0 ≡ level t k
downward t w few levels s r n l size e exact plain known k h way =
    after-set levels n r k (level t k) (omega arith)
    (λ q.
    noted_level t w few levels s r n l e exact
    (λ m i c. elim (closer_sides (expression_at t m) (expression_at t n) m n c) [ inl g ↦ known m g i | inr f ↦ plain m i f ])
    ∙ ap (level t) (sym q))
    (λ d. elim way [ inl g ↦ known k g h | inr other ↦ elim other [ inl q ↦ absurd (d q) | inr f ↦ plain k h f ] ])
