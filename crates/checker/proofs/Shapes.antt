-- What the form of a table says of a node by its kind: what its references name, how deep that lies, and that the nodes left last.
use Rattle.std.proofs.Common.{◌≡◌, ℕ, zero, suc, ◌+◌, ◌-◌, ◌<◌, ◌≤◌, true, ◌||◌, eqb, ltb, ◌⊎◌, length, Some, None, Option, sym, refl, ap, ◌∙◌, subst, inl, inr, arith}
use Rattle.std.proofs.lemmas.List.{get_or_past}
use Rattle.std.proofs.lemmas.Bool.{eqb-true, ltb-true, and_parts, or_cases, or_left, or_right, cases_lt, false≢true}
use Rattle.procedure.specs.declared.kind.Kind.{Kind}
use Rattle.procedure.specs.declared.kind.Kind.TheVariants.{Procedure, Declaration, Statement, Expression}
use Rattle.procedure.specs.declared.kind.DeclarationKind.{DeclarationKind}
use Rattle.procedure.specs.declared.kind.StatementKind.{StatementKind}
use Rattle.procedure.specs.declared.layout.Layout.{Layout}
use Rattle.procedure.specs.declared.layout.Role.{Role}
use Rattle.procedure.specs.declared.layout.Role.TheVariants.{Operand, Root, Declarations, Locals, Statements, Alternative, Following}
use Rattle.procedure.specs.declared.naming.Naming.{Naming}
use Rattle.procedure.specs.declared.naming.Naming.TheVariants.{Never, Once, Often}
use Rattle.procedure.specs.declared.node.Node.{Node}
use Rattle.procedure.specs.declared.table.Standing.{Standing}
use Rattle.procedure.specs.declared.table.Standing.TheVariants.{End, Unlisted, Procedure as AProcedure, Declaration as ADeclaration, Statement as AStatement, Expression as AnExpression}
use Rattle.procedure.specs.Formed.{Formed}
use Rattle.procedure.specs.Kind.{kind_of}
use Rattle.procedure.specs.Layout.{layout}
use Rattle.procedure.specs.Level.{level, level_by}
use Rattle.procedure.specs.Naming.{naming, is_once}
use Rattle.procedure.specs.Rules.{fits, in_order, part_holds, part_in_order, number_holds, values_hold, name_holds}
use Rattle.procedure.specs.Table.{Table, node, blank, part, standing, standing_of, layout_at, is_expression, is_declaration, is_local, is_statement}
use Rattle.procedure.specs.Tree.{Refers, by_a, by_b, by_c, by_next, Names}
use Rattle.procedure.proofs.Levels.{level_law}
use Rattle.procedure.proofs.Namings.{named_only_by}
use Rattle.procedure.proofs.Obeys.{holds}

-- What has a kind is a node of the table.
pub within : (t : Table) (n : ℕ) (k : Kind) → part t n ≡ Some k → (0 < n) × (n < length t)
within t zero k q = absurd (let z : ◌≡◌ {A = ℕ} 0 1 = cc in omega arith)
within t (suc n) k q = go (cases_lt (suc n) (length t))
  where
    go : (suc n < length t) ⊎ (length t ≤ suc n) → (0 < suc n) × (suc n < length t)
    go (inl h) = (omega arith, h)
    go (inr h) =
        let e : kind_of (node t (suc n)).kind ≡ None = ap (λ (x : Node). kind_of x.kind) (get_or_past t (suc n) blank h) in
        absurd (let z : ◌≡◌ {A = ℕ} 0 1 = cc in omega arith)

pub kind-part : (t : Table) (n : ℕ) (k : Kind) → part t n ≡ Some k → kind_of (node t n).kind ≡ Some k
kind-part t zero k q = absurd (let z : ◌≡◌ {A = ℕ} 0 1 = cc in omega arith)
kind-part t (suc n) k q = q

-- the kind of what stands at a number
abbrev kind_in : Standing → Option Kind
kind_in End = None
kind_in Unlisted = None
kind_in AProcedure = Some Procedure
kind_in (ADeclaration k) = Some (Declaration k)
kind_in (AStatement k) = Some (Statement k)
kind_in (AnExpression k) = Some (Expression k)

kind_of_standing : (o : Option Kind) → o ≡ kind_in (standing_of o)
kind_of_standing o = grind arith

part_is : (t : Table) (n : ℕ) → part t n ≡ kind_in (standing t n)
part_is t zero = refl
part_is t (suc n) = kind_of_standing (kind_of (node t (suc n)).kind)

pub part-statement : (t : Table) (n : ℕ) (k : StatementKind) → standing t n ≡ AStatement k → part t n ≡ Some (Statement k)
part-statement t n k q = part_is t n ∙ ap kind_in q

pub part-declaration : (t : Table) (n : ℕ) (k : DeclarationKind) → standing t n ≡ ADeclaration k → part t n ≡ Some (Declaration k)
part-declaration t n k q = part_is t n ∙ ap kind_in q

-- The level of a node goes by the one reference that names it.
named_level : (t : Table) → Formed t → (m n : ℕ) (r : Role) → Refers t m r n → 0 < n → n < length t
    → level t n ≡ level_by (level t) (Once m r)
named_level t w m n r refers some inside = go (naming t n) refl (or_cases (eqb n 0) (is_once (naming t n)) (holds t n (w.obeys n inside)).named_at)
  where
    go : (s : Naming) → naming t n ≡ s → (eqb n 0 ≡ true) ⊎ (is_once (naming t n) ≡ true) → level t n ≡ level_by (level t) (Once m r)
    go s e (inl z) = absurd (let y = eqb-true n 0 z in omega arith)
    go Never e (inr o) = absurd (false≢true (sym (ap is_once e) ∙ o))
    go Often e (inr o) = absurd (false≢true (sym (ap is_once e) ∙ o))
    go (Once k q) e (inr o) =
        let h : Names t m n = record { role = r; part = some; refers = refers } in
        let x = named_only_by t n k m q e h in
        level_law t w.obeys n inside ∙ ap (level_by (level t)) e ∙ ap (λ i. level_by (level t) (Once i q)) (sym x.0)
        ∙ ap (λ i. level_by (level t) (Once m i)) (sym x.1)

-- A reference m of node n in a role: it names what it may, in order, and on the level that follows from n's.
pub record Reference (t : Table) (n : ℕ) (r : Role) (m : ℕ) : Type 0 where
  pub fitting : fits t r m ≡ true
  pub order : in_order n r m ≡ true
  pub deeper : 0 < m → m < length t → level t m ≡ level_by (level t) (Once n r)

-- The same where the field is used.
abbrev pub Referred : (t : Table) (n : ℕ) (o : Option Role) (m : ℕ) → Type 0
Referred t n None m = Unit {0}
Referred t n (Some r) m = Reference t n r m

referred : (t : Table) → Formed t → (n : ℕ) (o : Option Role) (m : ℕ) → part_holds t o m ≡ true → part_in_order n o m ≡ true
    → ((r : Role) → o ≡ Some r → Refers t n r m) → Referred t n o m
referred t w n None m f o h = tt
referred t w n (Some r) m f o h = record { fitting = f; order = o; deeper = named_level t w n m r (h r refl) }

-- The fields of node n, by its layout.
pub record Fields (t : Table) (n : ℕ) (l : Layout) : Type 0 where
  pub lo : number_holds l.lo (node t n).lo ≡ true
  pub a : Referred t n l.a (node t n).a
  pub b : Referred t n l.b (node t n).b
  pub c : Referred t n l.c (node t n).c
  pub next : Referred t n l.next (node t n).next

fields_at : (t : Table) → Formed t → (n : ℕ) → n < length t → Fields t n (layout_at t n)
fields_at t w n h =
    let x = holds t n (w.obeys n h) in
    let s = and_parts (values_hold (layout_at t n) (node t n)) _ x.sorted_at in
    let v = and_parts (name_holds (layout_at t n).name (node t n).name) _ s.0 in
    let fa = and_parts (part_holds t (layout_at t n).a (node t n).a) _ s.1 in
    let fb = and_parts (part_holds t (layout_at t n).b (node t n).b) _ fa.1 in
    let fc = and_parts (part_holds t (layout_at t n).c (node t n).c) _ fb.1 in
    let oa = and_parts (part_in_order n (layout_at t n).a (node t n).a) _ x.ordered_at in
    let ob = and_parts (part_in_order n (layout_at t n).b (node t n).b) _ oa.1 in
    let oc = and_parts (part_in_order n (layout_at t n).c (node t n).c) _ ob.1 in
    record {
      lo = (and_parts (number_holds (layout_at t n).lo (node t n).lo) _ v.1).0;
      a = referred t w n (layout_at t n).a (node t n).a fa.0 oa.0 (λ r e. by_a e refl);
      b = referred t w n (layout_at t n).b (node t n).b fb.0 ob.0 (λ r e. by_b e refl);
      c = referred t w n (layout_at t n).c (node t n).c fc.0 oc.0 (λ r e. by_c e refl);
      next = referred t w n (layout_at t n).next (node t n).next fc.1 oc.1 (λ r e. by_next e refl);
    }

fields_of : (t : Table) → Formed t → (n : ℕ) (k : Option Kind) → n < length t → kind_of (node t n).kind ≡ k → Fields t n (layout k)
fields_of t w n k h q = subst (λ k. Fields t n (layout k)) q (fields_at t w n h)

-- The same of a node that a reference names.
pub fields : (t : Table) → Formed t → (n : ℕ) (k : Kind) → part t n ≡ Some k → Fields t n (layout (Some k))
fields t w n k q = fields_of t w n (Some k) (within t n k q).1 (kind-part t n k q)

is_root : (t : Table) → Formed t → kind_of (node t 0).kind ≡ Some Procedure
is_root t w = let e = (holds t 0 (w.obeys 0 w.some)).rooted_at in grind (arith, e)

pub root-fields : (t : Table) → Formed t → Fields t 0 (layout (Some Procedure))
root-fields t w = fields_of t w 0 (Some Procedure) w.some (is_root t w)

-- An expression stands at e, and l levels are enough for it.
pub record Expressed (t : Table) (l e : ℕ) : Type 0 where
  pub expression : is_expression (part t e) ≡ true
  pub enough : 33 ≤ l + level t e

expression_within : (t : Table) (e : ℕ) → is_expression (part t e) ≡ true → (0 < e) × (e < length t)
expression_within t e h = go (part t e) refl h
  where
    go : (o : Option Kind) → part t e ≡ o → is_expression o ≡ true → (0 < e) × (e < length t)
    go None q i = absurd (false≢true i)
    go (Some k) q i = within t e k q

pub expressed_root : (t : Table) (n m : ℕ) → Reference t n Root m → Expressed t 32 m
expressed_root t n m h =
    let i = expression_within t m h.fitting in
    let e : level t m ≡ 1 = h.deeper i.0 i.1 in
    record { expression = h.fitting; enough = omega arith }

pub expressed_operand : (t : Table) (n m l : ℕ) → Reference t n Operand m → 33 ≤ suc l + level t n → Expressed t l m
expressed_operand t n m l h g =
    let i = expression_within t m h.fitting in
    let e : level t m ≡ suc (level t n) = h.deeper i.0 i.1 in
    record { expression = h.fitting; enough = omega arith }

-- In a formed table the levels never run out.
pub levels_last : (t : Table) (e : ℕ) → Formed t → Expressed t 0 e → ⊥
levels_last t e w h =
    let i = expression_within t e h.expression in
    let s : level t e ≤ 32 = w.shallow e i.1 in
    let g = h.enough in
    omega arith

-- The nodes left. A list's end wants one turn; a node as many as there are nodes from it on, and one.
abbrev pub reach : Table → ℕ → ℕ
reach t zero = 1
reach t (suc n) = length t - n

-- A list, of which the role says what may stand in it, stands at n, and f turns are enough for it.
pub record Listed (t : Table) (r : Role) (f n : ℕ) : Type 0 where
  pub fitting : fits t r n ≡ true
  pub enough : reach t n ≤ f

-- What stands in a list of statements, and in one of declarations.
abbrev pub states : Standing → Type 0
states End = Unit {0}
states Unlisted = ⊥
states AProcedure = ⊥
states (ADeclaration k) = ⊥
states (AStatement k) = Unit {0}
states (AnExpression k) = ⊥

abbrev pub declares : Standing → Type 0
declares End = Unit {0}
declares Unlisted = ⊥
declares AProcedure = ⊥
declares (ADeclaration k) = Unit {0}
declares (AStatement k) = ⊥
declares (AnExpression k) = ⊥

pub states_here : (t : Table) (n : ℕ) → fits t Following n ≡ true → states (standing t n)
states_here t zero e = tt
states_here t (suc n) e = go (kind_of (node t (suc n)).kind) (or_cases (eqb (suc n) 0) _ e)
  where
    go : (o : Option Kind) → (eqb (suc n) 0 ≡ true) ⊎ (is_statement o ≡ true) → states (standing_of o)
    go o (inl z) = absurd (let y = eqb-true (suc n) 0 z in omega arith)
    go None (inr z) = absurd (false≢true z)
    go (Some Procedure) (inr z) = absurd (false≢true z)
    go (Some (Declaration k)) (inr z) = absurd (false≢true z)
    go (Some (Statement k)) (inr z) = tt
    go (Some (Expression k)) (inr z) = absurd (false≢true z)

pub declares_here : (t : Table) (n : ℕ) → fits t Declarations n ≡ true → declares (standing t n)
declares_here t zero e = tt
declares_here t (suc n) e = go (kind_of (node t (suc n)).kind) (or_cases (eqb (suc n) 0) _ e)
  where
    go : (o : Option Kind) → (eqb (suc n) 0 ≡ true) ⊎ (is_declaration o ≡ true) → declares (standing_of o)
    go o (inl z) = absurd (let y = eqb-true (suc n) 0 z in omega arith)
    go None (inr z) = absurd (false≢true z)
    go (Some Procedure) (inr z) = absurd (false≢true z)
    go (Some (Declaration k)) (inr z) = tt
    go (Some (Statement k)) (inr z) = absurd (false≢true z)
    go (Some (Expression k)) (inr z) = absurd (false≢true z)

past : (t : Table) (n : ℕ) → length t ≤ suc n → standing t (suc n) ≡ Unlisted
past t n h = ap (λ (x : Node). standing_of (kind_of x.kind)) (get_or_past t (suc n) blank h)

-- In a formed table the nodes left never run out.
pub nodes_last : (t : Table) (n : ℕ) → Listed t Following 0 n → ⊥
nodes_last t zero h = let e = h.enough in omega arith
nodes_last t (suc n) h = let e = h.enough in subst states (past t n (omega arith)) (states_here t (suc n) h.fitting)

pub nodes_last_declared : (t : Table) (n : ℕ) → Listed t Declarations 0 n → ⊥
nodes_last_declared t zero h = let e = h.enough in omega arith
nodes_last_declared t (suc n) h = let e = h.enough in subst declares (past t n (omega arith)) (declares_here t (suc n) h.fitting)

-- What stands further on wants less.
nearer : (t : Table) (n p f : ℕ) → (0 < n) × (n < length t) → (0 < p → n < p) → reach t n ≤ suc f → reach t p ≤ f
nearer t zero p f i b h = absurd (let z = i.0 in omega arith)
nearer t (suc n) zero f i b h = let z = i.1 in omega arith
nearer t (suc n) (suc p) f i b h = let z = i.1 in let y = b (omega arith) in omega arith

beyond : (n p : ℕ) → (eqb p 0 || ltb n p) ≡ true → 0 < p → n < p
beyond n p e h = go (or_cases (eqb p 0) (ltb n p) e)
  where
    go : (eqb p 0 ≡ true) ⊎ (ltb n p ≡ true) → n < p
    go (inl z) = absurd (let y = eqb-true p 0 z in omega arith)
    go (inr l) = ltb-true n p l

local-declared : (o : Option Kind) → is_local o ≡ true → is_declaration o ≡ true
local-declared o e = grind (arith, e)

locals_fit : (t : Table) (m : ℕ) → fits t Locals m ≡ true → fits t Declarations m ≡ true
locals_fit t m e = go (or_cases (eqb m 0) (is_local (part t m)) e)
  where
    go : (eqb m 0 ≡ true) ⊎ (is_local (part t m) ≡ true) → (eqb m 0 || is_declaration (part t m)) ≡ true
    go (inl z) = or_left (eqb m 0) (is_declaration (part t m)) z
    go (inr z) = or_right (eqb m 0) (is_declaration (part t m)) (local-declared (part t m) z)

-- The lists that a node names, each with a turn less.
module _ (t : Table) (n m f : ℕ) (k : Kind) (q : part t n ≡ Some k) (turn : reach t n ≤ suc f) where
  pub following_list : Reference t n Following m → Listed t Following f m
  following_list h = record { fitting = h.fitting; enough = nearer t n m f (within t n k q) (beyond n m h.order) turn }

  pub alternative_list : Reference t n Alternative m → Listed t Following f m
  alternative_list h = record { fitting = h.fitting; enough = nearer t n m f (within t n k q) (beyond n m h.order) turn }

  pub statements_list : Reference t n Statements m → Listed t Following f m
  statements_list h = record {
    fitting = or_right (eqb m 0) (is_statement (part t m)) h.fitting;
    enough = nearer t n m f (within t n k q) (λ _. ltb-true n m h.order) turn;
  }

  pub declarations_list : Reference t n Declarations m → Listed t Declarations f m
  declarations_list h = record { fitting = h.fitting; enough = nearer t n m f (within t n k q) (beyond n m h.order) turn }

  pub locals_list : Reference t n Locals m → Listed t Declarations f m
  locals_list h = record { fitting = locals_fit t m h.fitting; enough = nearer t n m f (within t n k q) (beyond n m h.order) turn }

start : (t : Table) (p : ℕ) → 0 < length t → reach t p ≤ length t
start t zero h = omega arith
start t (suc p) h = omega arith

-- The procedure's own lists.
pub first-declarations : (t : Table) → Formed t → Listed t Declarations (length t) (node t 0).a
first-declarations t w = record { fitting = (root-fields t w).a.fitting; enough = start t (node t 0).a w.some }

pub first-statements : (t : Table) → Formed t → Listed t Following (length t) (node t 0).b
first-statements t w = record {
  fitting = or_right (eqb (node t 0).b 0) (is_statement (part t (node t 0).b)) (root-fields t w).b.fitting;
  enough = start t (node t 0).b w.some;
}
