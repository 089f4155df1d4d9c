-- An expression has a type exactly by the rules, and else its first fault is theirs.
use Rattle.std.proofs.Common.{◌≡◌, ℕ, zero, suc, Bool, true, false, is_some, Some, None, Ok, Err, Option, sym, refl, ap, ◌∙◌, subst, arith}
use Rattle.std.proofs.lemmas.Bool.{false≢true, false_from_ne_true}
use Rattle.procedure.specs.declared.kind.Kind.{Kind}
use Rattle.procedure.specs.declared.kind.Kind.TheVariants.{Procedure, Declaration, Statement, Expression}
use Rattle.procedure.specs.declared.kind.ExpressionKind.TheVariants.{Numeral, Name, Unary, Binary}
use Rattle.procedure.specs.declared.operator.UnaryOperator.{UnaryOperator}
use Rattle.procedure.specs.declared.operator.UnaryOperator.TheVariants.{Plus, Minus, Abs, Not}
use Rattle.procedure.specs.declared.operator.BinaryOperator.{BinaryOperator}
use Rattle.procedure.specs.declared.operator.BinaryOperator.TheVariants.{Arithmetic, Relational, Logical}
use Rattle.procedure.specs.declared.refusal.Reason.TheVariants.{Unknown, Mismatched}
use Rattle.procedure.specs.declared.refusal.Refusal.{Refusal}
use Rattle.procedure.specs.declared.types.«Type».{«Type» as TypeT}
use Rattle.procedure.specs.declared.types.«Type».TheVariants.{Integer, Boolean}
use Rattle.procedure.specs.Formed.{Formed}
use Rattle.procedure.specs.Operator.{unary_operator_of, binary_operator_of}
use Rattle.procedure.specs.Refusal.{refusal_at}
use Rattle.procedure.specs.Sequence.{Answer}
use Rattle.procedure.specs.Table.{Table, node, part, is_expression}
use Rattle.checker.specs.declared.names.Meaning.{Meaning}
use Rattle.checker.specs.declared.names.Meaning.TheVariants.{Mark, Object}
use Rattle.checker.specs.Allowed.{Scope, UnaryTakes, takes_plus, takes_minus, takes_abs, takes_not, BinaryTakes, takes_arithmetic, takes_relation, takes_logical, Typed, typed_numeral, typed_name, typed_unary, typed_binary}
use Rattle.checker.specs.Faults.{NoObject, ExpressionFault, unknown_name, in_operand, mismatched_operand, in_left, in_right, mismatched_operands}
use Rattle.checker.specs.Names.{means_inside}
use Rattle.checker.specs.Region.{Environment}
use Rattle.checker.specs.Typing.{object_type, unary_type, binary_type, typed_as, typed, same_type}
use Rattle.checker.proofs.Chains.{unary_chain, binary_chain, Judges, passes, fails, judges_then, judges_map, then_is, err_then, cannot_pass}
use Rattle.checker.proofs.Scopes.{Sees}
use Rattle.checker.proofs.Shapes.{fields, Expressed, expressed_operand, levels_last}

-- Two types are one, or not.
pub same_true : (x y : TypeT) → same_type x y ≡ true → x ≡ y
same_true x y e = grind (arith, e)

pub same_self : (x : TypeT) → same_type x x ≡ true
same_self Integer = refl
same_self Boolean = refl

pub same_false : (x y : TypeT) → same_type x y ≡ false → x ≡ y → ⊥
same_false x y e h = false≢true (sym e ∙ ap (same_type x) (sym h) ∙ same_self x)

pub different : (x y : TypeT) → (x ≡ y → ⊥) → same_type x y ≡ false
different x y n = false_from_ne_true (same_type x y) (λ e. n (same_true x y e))

pub some_of : {A : Type 0} (o : Option A) → is_some o ≡ true → (x : A) × (o ≡ Some x)
some_of (Some x) e = (x, refl)
some_of None e = absurd (false≢true e)

pub none_no_object : NoObject None
none_no_object ty c e = let z : ◌≡◌ {A = ℕ} 0 1 = cc in omega arith

pub mark_no_object : (x : TypeT) → NoObject (Some (Mark x))
mark_no_object x ty c e = let z : ◌≡◌ {A = ℕ} 0 1 = cc in omega arith

object-judged : (m : Option Meaning) (n : ℕ) → Judges (λ ty. (c : Bool) × (m ≡ Some (Object ty c))) (λ r. NoObject m × (r ≡ refusal_at Unknown n)) (object_type m n)
object-judged None n = fails (none_no_object, refl)
object-judged (Some (Mark x)) n = fails (mark_no_object x, refl)
object-judged (Some (Object ty c)) n = passes (c, refl)

takes_one : (o : UnaryOperator) (x ty : TypeT) (n : ℕ) → UnaryTakes o x ty → unary_type (Some o) x n ≡ Ok ty
takes_one o x ty n takes_plus = refl
takes_one o x ty n takes_minus = refl
takes_one o x ty n takes_abs = refl
takes_one o x ty n takes_not = refl

takes_two : (o : BinaryOperator) (x y ty : TypeT) (n : ℕ) → BinaryTakes o x y ty → binary_type (Some o) x y n ≡ Ok ty
takes_two o x y ty n takes_arithmetic = refl
takes_two o x y ty n (takes_relation {o = r} {ty = s}) = go s
  where
    go : (s : TypeT) → binary_type (Some (Relational r)) s s n ≡ Ok Boolean
    go Integer = refl
    go Boolean = refl
takes_two o x y ty n takes_logical = refl

-- what a unary operator that refuses an operand takes of it: nothing
refuses_one : (o : UnaryOperator) (x : TypeT) (n : ℕ) (r : Refusal) → unary_type (Some o) x n ≡ Err r → (ty : TypeT) → UnaryTakes o x ty → ⊥
refuses_one o x n r e ty h = let g = takes_one o x ty n h in let z : ◌≡◌ {A = ℕ} 0 1 = cc in omega arith

refuses_two : (o : BinaryOperator) (x y : TypeT) (n : ℕ) (r : Refusal) → binary_type (Some o) x y n ≡ Err r → (ty : TypeT) → BinaryTakes o x y ty → ⊥
refuses_two o x y n r e ty h = let g = takes_two o x y ty n h in let z : ◌≡◌ {A = ℕ} 0 1 = cc in omega arith

unary_judged : (o : UnaryOperator) (x : TypeT) (n : ℕ)
    → Judges (UnaryTakes o x) (λ r. ((ty : TypeT) → UnaryTakes o x ty → ⊥) × (r ≡ refusal_at Mismatched n)) (unary_type (Some o) x n)
unary_judged Plus Integer n = passes takes_plus
unary_judged Plus Boolean n = fails (refuses_one Plus Boolean n _ refl, refl)
unary_judged Minus Integer n = passes takes_minus
unary_judged Minus Boolean n = fails (refuses_one Minus Boolean n _ refl, refl)
unary_judged Abs Integer n = passes takes_abs
unary_judged Abs Boolean n = fails (refuses_one Abs Boolean n _ refl, refl)
unary_judged Not Integer n = fails (refuses_one Not Integer n _ refl, refl)
unary_judged Not Boolean n = passes takes_not

binary_judged : (o : BinaryOperator) (x y : TypeT) (n : ℕ)
    → Judges (BinaryTakes o x y) (λ r. ((ty : TypeT) → BinaryTakes o x y ty → ⊥) × (r ≡ refusal_at Mismatched n)) (binary_type (Some o) x y n)
binary_judged (Arithmetic o) Integer Integer n = passes takes_arithmetic
binary_judged (Arithmetic o) Integer Boolean n = fails (refuses_two (Arithmetic o) Integer Boolean n _ refl, refl)
binary_judged (Arithmetic o) Boolean y n = fails (refuses_two (Arithmetic o) Boolean y n _ refl, refl)
binary_judged (Relational o) Integer Integer n = passes takes_relation
binary_judged (Relational o) Integer Boolean n = fails (refuses_two (Relational o) Integer Boolean n _ refl, refl)
binary_judged (Relational o) Boolean Integer n = fails (refuses_two (Relational o) Boolean Integer n _ refl, refl)
binary_judged (Relational o) Boolean Boolean n = passes takes_relation
binary_judged (Logical o) Integer y n = fails (refuses_two (Logical o) Integer y n _ refl, refl)
binary_judged (Logical o) Boolean Integer n = fails (refuses_two (Logical o) Boolean Integer n _ refl, refl)
binary_judged (Logical o) Boolean Boolean n = passes takes_logical

module _ (t : Table) (w : Formed t) (own : Option ℕ) (declared : Environment) (Γ : Scope) (sees : Sees own declared Γ) where
  abbrev Judged : ℕ → Answer TypeT → Type 0
  Judged e a = Judges (Typed t Γ e) (ExpressionFault t Γ e) a

  typed-judged : (below : ℕ → Answer TypeT) (l : ℕ) (k : Option Kind) (e : ℕ) → ((m : ℕ) → Expressed t l m → Judged m (below m))
      → Expressed t (suc l) e → part t e ≡ k → Judged e (typed_as below k t own declared e)
  typed-judged below l None e ih h q = absurd (false≢true (sym (ap is_expression q) ∙ h.expression))
  typed-judged below l (Some Procedure) e ih h q = absurd (false≢true (sym (ap is_expression q) ∙ h.expression))
  typed-judged below l (Some (Declaration k)) e ih h q = absurd (false≢true (sym (ap is_expression q) ∙ h.expression))
  typed-judged below l (Some (Statement k)) e ih h q = absurd (false≢true (sym (ap is_expression q) ∙ h.expression))
  typed-judged below l (Some (Expression Numeral)) e ih h q = passes (typed_numeral q)
  typed-judged below l (Some (Expression Name)) e ih h q =
      judges_map
      (λ r d. subst (ExpressionFault t Γ e) (sym d.1) (unknown_name q (λ ty c i. d.0 ty c (sym (sees (node t e).name) ∙ i))))
      (λ ty p. typed_name q (sees (node t e).name ∙ p.1))
      (object-judged (means_inside own declared (node t e).name) e)
  typed-judged below l (Some (Expression Unary)) e ih h q =
      let s = fields t w e (Expression Unary) q in
      let o = some_of (unary_operator_of (node t e).lo) s.lo in
      subst (Judged e) (sym (unary_chain below t own declared e))
      (judges_then (ih (node t e).a (expressed_operand t e (node t e).a l s.a h.enough)) (λ r d. in_operand q d) λ x p.
      subst (λ i. Judged e (unary_type i x e)) (sym o.1)
      (judges_map
      (λ r d. subst (ExpressionFault t Γ e) (sym d.1) (mismatched_operand q o.1 p d.0))
      (λ ty g. typed_unary q o.1 p g)
      (unary_judged o.0 x e)))
  typed-judged below l (Some (Expression Binary)) e ih h q =
      let s = fields t w e (Expression Binary) q in
      let o = some_of (binary_operator_of (node t e).lo) s.lo in
      subst (Judged e) (sym (binary_chain below t own declared e))
      (judges_then (ih (node t e).a (expressed_operand t e (node t e).a l s.a h.enough)) (λ r d. in_left q d) λ x p.
      judges_then (ih (node t e).b (expressed_operand t e (node t e).b l s.b h.enough)) (λ r d. in_right q p d) λ y g.
      subst (λ i. Judged e (binary_type i x y e)) (sym o.1)
      (judges_map
      (λ r d. subst (ExpressionFault t Γ e) (sym d.1) (mismatched_operands q o.1 p g d.0))
      (λ ty i. typed_binary q o.1 p g i)
      (binary_judged o.0 x y e)))

  -- The type that the walk gives an expression is the rules', and so is its fault.
  pub type-judged : (l e : ℕ) → Expressed t l e → Judged e (typed l t own declared e)
  unfolding typed
  type-judged zero e h = absurd (levels_last t e w h)
  type-judged (suc l) e h = typed-judged (typed l t own declared) l (part t e) e (type-judged l) h refl

  -- An expression that has a type by the rules is given it.
  pub type_given : (l e : ℕ) (ty : TypeT) → Expressed t l e → Typed t Γ e ty → typed l t own declared e ≡ Ok ty
  unfolding typed
  type_given zero e ty h p = absurd (levels_last t e w h)
  type_given (suc l) e ty h (typed_numeral q) = ap (λ k. typed_as (typed l t own declared) k t own declared e) q
  type_given (suc l) e ty h (typed_name q m) =
      ap (λ k. typed_as (typed l t own declared) k t own declared e) q
      ∙ ap (λ i. object_type i e) (sym (sees (node t e).name) ∙ m)
  type_given (suc l) e ty h (typed_unary {x = x} {o = o} q i p g) =
      let s = fields t w e (Expression Unary) q in
      ap (λ k. typed_as (typed l t own declared) k t own declared e) q
      ∙ unary_chain (typed l t own declared) t own declared e
      ∙ then_is _ (type_given l (node t e).a x (expressed_operand t e (node t e).a l s.a h.enough) p)
      (ap (λ j. unary_type j x e) i ∙ takes_one o x ty e g)
  type_given (suc l) e ty h (typed_binary {x = x} {y = y} {o = o} q i p r g) =
      let s = fields t w e (Expression Binary) q in
      ap (λ k. typed_as (typed l t own declared) k t own declared e) q
      ∙ binary_chain (typed l t own declared) t own declared e
      ∙ then_is _ (type_given l (node t e).a x (expressed_operand t e (node t e).a l s.a h.enough) p)
      (then_is _ (type_given l (node t e).b y (expressed_operand t e (node t e).b l s.b h.enough) r)
      (ap (λ j. binary_type j x y e) i ∙ takes_two o x y ty e g))

  -- An expression that has a fault by the rules is refused with it.
  pub type_refused : (l e : ℕ) (r : Refusal) → Expressed t l e → ExpressionFault t Γ e r → typed l t own declared e ≡ Err r
  unfolding typed
  type_refused zero e r h d = absurd (levels_last t e w h)
  type_refused (suc l) e r h (unknown_name q n) =
      ap (λ k. typed_as (typed l t own declared) k t own declared e) q
      ∙ cannot_pass (object-judged (means_inside own declared (node t e).name) e) (λ ty p. n ty p.0 (sees (node t e).name ∙ p.1)) (λ r d. d.1)
  type_refused (suc l) e r h (in_operand q d) =
      let s = fields t w e (Expression Unary) q in
      ap (λ k. typed_as (typed l t own declared) k t own declared e) q
      ∙ unary_chain (typed l t own declared) t own declared e
      ∙ err_then _ (type_refused l (node t e).a r (expressed_operand t e (node t e).a l s.a h.enough) d)
  type_refused (suc l) e r h (mismatched_operand {x = x} {o = o} q i p n) =
      let s = fields t w e (Expression Unary) q in
      ap (λ k. typed_as (typed l t own declared) k t own declared e) q
      ∙ unary_chain (typed l t own declared) t own declared e
      ∙ then_is _ (type_given l (node t e).a x (expressed_operand t e (node t e).a l s.a h.enough) p)
      (ap (λ j. unary_type j x e) i ∙ cannot_pass (unary_judged o x e) n (λ r d. d.1))
  type_refused (suc l) e r h (in_left q d) =
      let s = fields t w e (Expression Binary) q in
      ap (λ k. typed_as (typed l t own declared) k t own declared e) q
      ∙ binary_chain (typed l t own declared) t own declared e
      ∙ err_then _ (type_refused l (node t e).a r (expressed_operand t e (node t e).a l s.a h.enough) d)
  type_refused (suc l) e r h (in_right {x = x} q p d) =
      let s = fields t w e (Expression Binary) q in
      ap (λ k. typed_as (typed l t own declared) k t own declared e) q
      ∙ binary_chain (typed l t own declared) t own declared e
      ∙ then_is _ (type_given l (node t e).a x (expressed_operand t e (node t e).a l s.a h.enough) p)
      (err_then _ (type_refused l (node t e).b r (expressed_operand t e (node t e).b l s.b h.enough) d))
  type_refused (suc l) e r h (mismatched_operands {x = x} {y = y} {o = o} q i p g n) =
      let s = fields t w e (Expression Binary) q in
      ap (λ k. typed_as (typed l t own declared) k t own declared e) q
      ∙ binary_chain (typed l t own declared) t own declared e
      ∙ then_is _ (type_given l (node t e).a x (expressed_operand t e (node t e).a l s.a h.enough) p)
      (then_is _ (type_given l (node t e).b y (expressed_operand t e (node t e).b l s.b h.enough) g)
      (ap (λ j. binary_type j x y e) i ∙ cannot_pass (binary_judged o x y e) n (λ r d. d.1)))
