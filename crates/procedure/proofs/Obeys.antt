-- Where the namer of a node stands, in a table that breaks no rule.
use Rattle.std.proofs.Common.{◌≡◌, ℕ, zero, suc, ◌<◌, Bool, true, false, ◌&&◌, ◌||◌, eqb, Some, None, Option, sym, refl, subst, arith, ltb-true}
use Rattle.std.proofs.lemmas.Bool.{and_parts}
use Rattle.std.proofs.lemmas.Option.{none-some}
use Rattle.procedure.specs.declared.kind.Kind.{Kind}
use Rattle.procedure.specs.declared.layout.Role.{Role}
use Rattle.procedure.specs.declared.layout.Role.TheVariants.{Operand, Root, Declarations, Locals, Statements, Alternative, Following}
use Rattle.procedure.specs.declared.rules.Rule.{Rule}
use Rattle.procedure.specs.declared.rules.Rule.TheVariants.{Rooted, Listed, Sorted, Ordered, NamedOnce}
use Rattle.procedure.specs.Kind.{kind_of}
use Rattle.procedure.specs.Layout.{layout}
use Rattle.procedure.specs.Naming.{naming}
use Rattle.procedure.specs.Rules.{rooted, listed, sorted, ordered, named_once, unless, broken_rule, Obeys, fits, in_order, part_holds, part_in_order, values_hold}
use Rattle.procedure.specs.Table.{Table, node, layout_at, part, expression_at, is_expression, is_declaration, is_local, is_statement}
use Rattle.procedure.specs.Tree.{Refers, by_a, by_b, by_c, by_next, Names}
use Rattle.procedure.proofs.Namings.{namer-within}

unless-none : (b : Bool) (rule : Rule) (o : Option Rule) → unless b rule o ≡ None → (b ≡ true) × (o ≡ None)
unless-none true rule o e = (refl, e)
unless-none false rule o e = absurd (none-some rule (sym e))

pub record Holds (t : Table) (n : ℕ) : Type 0 where
  pub rooted_at : rooted n (node t n) ≡ true
  pub listed_at : listed (node t n) ≡ true
  pub sorted_at : sorted t (node t n) ≡ true
  pub ordered_at : ordered n (node t n) ≡ true
  pub named_at : named_once n (naming t n) ≡ true

pub holds : (t : Table) (n : ℕ) → broken_rule t n ≡ None → Holds t n
holds t n e =
    let p = unless-none (rooted n (node t n)) Rooted _ e in
    let q = unless-none (listed (node t n)) Listed _ p.1 in
    let r = unless-none (sorted t (node t n)) Sorted _ q.1 in
    let s = unless-none (ordered n (node t n)) Ordered _ r.1 in
    let u = unless-none (named_once n (naming t n)) NamedOnce _ s.1 in
    record { rooted_at = p.0; listed_at = q.0; sorted_at = r.0; ordered_at = s.0; named_at = u.0 }

abbrev is_operand : Role → Bool
is_operand Operand = true
is_operand Root = false
is_operand Declarations = false
is_operand Locals = false
is_operand Statements = false
is_operand Alternative = false
is_operand Following = false

-- an expression has operands and no other parts, and nothing else has operands
abbrev Suits : Bool → Option Role → Type 0
Suits e o = (r : Role) → o ≡ Some r → e ≡ is_operand r

record AllSuit (k : Option Kind) : Type 0 where
  at_a : Suits (is_expression k) (layout k).a
  at_b : Suits (is_expression k) (layout k).b
  at_c : Suits (is_expression k) (layout k).c
  at_next : Suits (is_expression k) (layout k).next

all_suit : (k : Option Kind) → AllSuit k
all_suit k = record {
  at_a = λ r e. grind (arith, e);
  at_b = λ r e. grind (arith, e);
  at_c = λ r e. grind (arith, e);
  at_next = λ r e. grind (arith, e);
}

-- where m, which names n in a role, stands: is it an expression, is n, and whose number is greater
abbrev pub Placed : Role → Bool → Bool → ℕ → ℕ → Type 0
Placed Operand em en m n = (em ≡ true) × (en ≡ true) × (n < m)
Placed Root em en m n = (em ≡ false) × (en ≡ true) × (m < n)
Placed Declarations em en m n = (em ≡ false) × (en ≡ false) × (m < n)
Placed Locals em en m n = (em ≡ false) × (en ≡ false) × (m < n)
Placed Statements em en m n = (em ≡ false) × (en ≡ false) × (m < n)
Placed Alternative em en m n = (em ≡ false) × (en ≡ false) × (m < n)
Placed Following em en m n = (em ≡ false) × (en ≡ false) × (m < n)

or_nonzero : (v : ℕ) (b : Bool) → (eqb (suc v) 0 || b) ≡ true → b ≡ true
or_nonzero v b e = grind (arith, e)

declaration_plain : (k : Option Kind) → is_declaration k ≡ true → is_expression k ≡ false
declaration_plain k e = grind (arith, e)

local_plain : (k : Option Kind) → is_local k ≡ true → is_expression k ≡ false
local_plain k e = grind (arith, e)

statement_plain : (k : Option Kind) → is_statement k ≡ true → is_expression k ≡ false
statement_plain k e = grind (arith, e)

placed : (t : Table) (r : Role) (em : Bool) (m v : ℕ) → em ≡ is_operand r
    → fits t r (suc v) ≡ true → in_order m r (suc v) ≡ true → Placed r em (expression_at t (suc v)) m (suc v)
placed t Operand em m v s f o = (s, f, ltb-true _ _ o)
placed t Root em m v s f o = (s, f, ltb-true _ _ o)
placed t Declarations em m v s f o = (s, declaration_plain (part t (suc v)) (or_nonzero v _ f), ltb-true _ _ (or_nonzero v _ o))
placed t Locals em m v s f o = (s, local_plain (part t (suc v)) (or_nonzero v _ f), ltb-true _ _ (or_nonzero v _ o))
placed t Statements em m v s f o = (s, statement_plain (part t (suc v)) f, ltb-true _ _ o)
placed t Alternative em m v s f o = (s, statement_plain (part t (suc v)) (or_nonzero v _ f), ltb-true _ _ (or_nonzero v _ o))
placed t Following em m v s f o = (s, statement_plain (part t (suc v)) (or_nonzero v _ f), ltb-true _ _ (or_nonzero v _ o))

-- the same, of a reference that a rule-abiding node has
placed_at : (t : Table) (r : Role) (q : Option Role) (em : Bool) (m v w : ℕ) → q ≡ Some r → w ≡ suc v → Suits em q
    → part_holds t q w ≡ true → part_in_order m q w ≡ true → Placed r em (expression_at t (suc v)) m (suc v)
placed_at t r q em m v w e d s f o =
    placed t r em m v (s r e)
    (subst (λ x. part_holds t x (suc v) ≡ true) e (subst (λ x. part_holds t q x ≡ true) d f))
    (subst (λ x. part_in_order m x (suc v) ≡ true) e (subst (λ x. part_in_order m q x ≡ true) d o))

all_four : (a b c d : Bool) → (a && (b && (c && d))) ≡ true → (a ≡ true) × (b ≡ true) × (c ≡ true) × (d ≡ true)
all_four a b c d e = let p = and_parts a _ e in let q = and_parts b _ p.1 in let r = and_parts c d q.1 in (p.0, q.0, r.0, r.1)

placed_by : (t : Table) (m v : ℕ) (r : Role) → Holds t m → Refers t m r (suc v)
    → Placed r (expression_at t m) (expression_at t (suc v)) m (suc v)
placed_by t m v r h i =
    let f = all_four _ _ _ _ (and_parts (values_hold (layout_at t m) (node t m)) _ h.sorted_at).1 in
    let o = all_four _ _ _ _ h.ordered_at in
    let s = all_suit (kind_of (node t m).kind) in
    elim i as (λ _. Placed r (expression_at t m) (expression_at t (suc v)) m (suc v)) [
      | by_a e d ↦ placed_at t r (layout_at t m).a (expression_at t m) m v (node t m).a e d s.at_a f.0 o.0
      | by_b e d ↦ placed_at t r (layout_at t m).b (expression_at t m) m v (node t m).b e d s.at_b f.1 o.1
      | by_c e d ↦ placed_at t r (layout_at t m).c (expression_at t m) m v (node t m).c e d s.at_c f.2 o.2
      | by_next e d ↦ placed_at t r (layout_at t m).next (expression_at t m) m v (node t m).next e d s.at_next f.3 o.3
    ]

-- in a table that breaks no rule, who names a node stands in its place
pub namer-placed : (t : Table) (m n : ℕ) → Obeys t → (h : Names t m n) → Placed h.role (expression_at t m) (expression_at t n) m n
namer-placed t m zero w h = absurd (omega (arith, h.part))
namer-placed t m (suc v) w h =
    placed_by t m v h.role (holds t m (w m (namer-within t m (suc v) h))) h.refers
