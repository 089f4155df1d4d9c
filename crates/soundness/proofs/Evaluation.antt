-- An expression that has a type comes to a value of that type, or arithmetic faults.
use Rattle.std.proofs.Common.{◌≡◌, ℕ, zero, suc, ◌<◌, Bool, true, false, cond, ◌||◌, eqb, ◌⊎◌, List, [], ◌∷◌, length, ℤ, pos, Some, None, Ok, Err, Option, Result, sym, refl, subst, inl, inr}
use Rattle.std.proofs.lemmas.Bool.{lt-ltb}
use Rattle.integer.specs.declared.fault.ArithmeticFault.{ArithmeticFault}
use Rattle.procedure.specs.declared.kind.ExpressionKind.{ExpressionKind}
use Rattle.procedure.specs.declared.kind.ExpressionKind.TheVariants.{Numeral, Name, Unary, Binary}
use Rattle.procedure.specs.declared.kind.Kind.{Kind}
use Rattle.procedure.specs.declared.kind.Kind.TheVariants.{Procedure, Declaration as DeclarationK, Statement, Expression}
use Rattle.procedure.specs.declared.operator.BinaryOperator.{BinaryOperator}
use Rattle.procedure.specs.declared.operator.BinaryOperator.TheVariants.{Arithmetic, Relational, Logical}
use Rattle.procedure.specs.declared.operator.UnaryOperator.{UnaryOperator}
use Rattle.procedure.specs.declared.operator.UnaryOperator.TheVariants.{Plus, Minus, Abs, Not}
use Rattle.procedure.specs.declared.types.«Type».{«Type» as TypeT}
use Rattle.procedure.specs.declared.types.«Type».TheVariants.{Integer as IntegerT, Boolean as BooleanT}
use Rattle.procedure.specs.Operator.{unary_operator_of, binary_operator_of}
use Rattle.procedure.specs.Formed.{Formed}
use Rattle.procedure.specs.Sequence.{Answer, and_then}
use Rattle.procedure.specs.Table.{Table, node, part}
use Rattle.evaluator.specs.declared.rows.Row.{Row}
use Rattle.evaluator.specs.declared.value.Value.{Value}
use Rattle.evaluator.specs.declared.value.Value.TheVariants.{Integer, Boolean}
use Rattle.evaluator.specs.Evaluate.{evaluated, name_value, row_value, operand_kind}
use Rattle.evaluator.specs.Operators.{Evaluation, at_operator, unary_value, binary_value}
use Rattle.evaluator.specs.Rows.{topmost}
use Rattle.evaluator.specs.Values.{type_of_value}
use Rattle.checker.specs.Names.{means, means_inside}
use Rattle.checker.specs.declared.names.Meaning.TheVariants.{Mark, Object}
use Rattle.checker.specs.Typing.{typed, typed_as, object_type, unary_type, binary_type}
use Rattle.checker.proofs.Chains.{unary_chain, binary_chain}
use Rattle.soundness.specs.Evaluation.{declarations_of, Truths, more, ComesTo, value, fault, EvaluationIsTyped}
use Rattle.soundness.proofs.Meets.{Meets, met, unmet, meets_then, meets_map, meets_all, met_by}
use Rattle.soundness.proofs.Parts.{unary_before, binary_before}

-- what a row of a type holds
row_comes : (r : Row) (n : ℕ) → (r.of_type ≡ BooleanT → (r.value ≡ pos 0) ⊎ (r.value ≡ pos 1)) → ComesTo r.of_type (row_value r n)
row_comes r n h = go r.of_type r.value h
  where
    bit : (z : ℤ) → (z ≡ pos 0) ⊎ (z ≡ pos 1) → ComesTo BooleanT (row_value (record { name = 0; of_type = BooleanT; constant = false; value = z }) n)
    bit z (inl e) = rw e (value (Boolean false) refl)
    bit z (inr e) = rw e (value (Boolean true) refl)

    go : (u : TypeT) (z : ℤ) → (u ≡ BooleanT → (z ≡ pos 0) ⊎ (z ≡ pos 1)) → ComesTo u (row_value (record { name = 0; of_type = u; constant = false; value = z }) n)
    go IntegerT z k = value (Integer z) refl
    go BooleanT z k = bit z (k refl)

-- a name, by its innermost declaration
means_comes : (x : ℕ) (rows : List Row) (n : ℕ) → Truths rows → Meets (λ v. ComesTo v (name_value (topmost x rows) x n)) (object_type (means (declarations_of rows) x) n)
means_comes x [] n h = go (eqb x 1) (eqb x 2) (eqb x 15) (eqb x 16)
  where
    go : (a b c d : Bool) → Meets (λ v. ComesTo v (cond c (Ok (Boolean true)) (cond d (Ok (Boolean false)) (name_value None 0 n))))
        (object_type (cond a (Some (Mark IntegerT)) (cond b (Some (Mark BooleanT)) (cond (c || d) (Some (Object BooleanT true)) None))) n)
    go true b c d = unmet
    go false true c d = unmet
    go false false true d = met (value (Boolean true) refl)
    go false false false true = met (value (Boolean false) refl)
    go false false false false = unmet
means_comes x (r ∷ rows) n (more h k) = go (eqb r.name x) (means_comes x rows n k)
  where
    go : (b : Bool) → Meets (λ v. ComesTo v (name_value (topmost x rows) x n)) (object_type (means (declarations_of rows) x) n)
        → Meets (λ v. ComesTo v (name_value (cond b (Some (record { place = length rows; row = r })) (topmost x rows)) x n)) (object_type (cond b (Some (Object r.of_type r.constant)) (means (declarations_of rows) x)) n)
    go true ih = met (row_comes r n h)
    go false ih = ih

name_comes : (own : Option ℕ) (x : ℕ) (rows : List Row) (n : ℕ) → Truths rows
    → Meets (λ v. ComesTo v (name_value (topmost x rows) x n)) (object_type (means_inside own (declarations_of rows) x) n)
name_comes None x rows n h = means_comes x rows n h
name_comes (Some own) x rows n h = go (eqb own x)
  where
    go : (b : Bool) → Meets (λ v. ComesTo v (name_value (topmost x rows) x n)) (object_type (cond b None (means (declarations_of rows) x)) n)
    go true = unmet
    go false = means_comes x rows n h

-- operators
arithmetic_comes : (r : Result ℤ ArithmeticFault) (n : ℕ) → ComesTo IntegerT (at_operator r n)
arithmetic_comes (Ok z) n = value (Integer z) refl
arithmetic_comes (Err e) n = fault e n

unary_comes : (o : Option UnaryOperator) (x : Value) (n : ℕ) → Meets (λ v. ComesTo v (unary_value o x n)) (unary_type o (type_of_value x) n)
unary_comes None x n = unmet
unary_comes (Some Plus) (Integer x) n = met (value (Integer x) refl)
unary_comes (Some Plus) (Boolean b) n = unmet
unary_comes (Some Minus) (Integer x) n = met (arithmetic_comes _ n)
unary_comes (Some Minus) (Boolean b) n = unmet
unary_comes (Some Abs) (Integer x) n = met (arithmetic_comes _ n)
unary_comes (Some Abs) (Boolean b) n = unmet
unary_comes (Some Not) (Integer x) n = unmet
unary_comes (Some Not) (Boolean b) n = met (value (Boolean _) refl)

binary_comes : (o : Option BinaryOperator) (l r : Value) (n : ℕ) → Meets (λ v. ComesTo v (binary_value o l r n)) (binary_type o (type_of_value l) (type_of_value r) n)
binary_comes None l r n = unmet
binary_comes (Some (Arithmetic o)) (Integer x) (Integer y) n = met (arithmetic_comes _ n)
binary_comes (Some (Arithmetic o)) (Integer x) (Boolean c) n = unmet
binary_comes (Some (Arithmetic o)) (Boolean b) r n = unmet
binary_comes (Some (Relational o)) (Integer x) (Integer y) n = met (value (Boolean _) refl)
binary_comes (Some (Relational o)) (Integer x) (Boolean c) n = unmet
binary_comes (Some (Relational o)) (Boolean b) (Integer y) n = unmet
binary_comes (Some (Relational o)) (Boolean b) (Boolean c) n = met (value (Boolean _) refl)
binary_comes (Some (Logical o)) (Integer x) r n = unmet
binary_comes (Some (Logical o)) (Boolean b) (Integer y) n = unmet
binary_comes (Some (Logical o)) (Boolean b) (Boolean c) n = met (value (Boolean _) refl)

-- operators on what their operands come to
unary_after : {u : TypeT} {x : Evaluation} (o : Option UnaryOperator) (n : ℕ) → ComesTo u x → Meets (λ v. ComesTo v (and_then x λ i. unary_value o i n)) (unary_type o u n)
unary_after o n (value v e) = subst (λ u. Meets (λ i. ComesTo i (unary_value o v n)) (unary_type o u n)) e (unary_comes o v n)
unary_after {u} o n (fault e m) = meets_all (unary_type o u n) (λ _. fault e m)

binary_after : {u w : TypeT} {x y : Evaluation} (o : Option BinaryOperator) (n : ℕ) → ComesTo u x → ComesTo w y
    → Meets (λ v. ComesTo v (and_then x λ i. and_then y λ j. binary_value o i j n)) (binary_type o u w n)
binary_after {u} {w} o n (fault e m) c = meets_all (binary_type o u w n) (λ _. fault e m)
binary_after {u} {w} o n (value v p) (fault e m) = meets_all (binary_type o u w n) (λ _. fault e m)
binary_after {u} {w} o n (value v p) (value i q) =
    subst (λ k. Meets (λ z. ComesTo z (binary_value o v i n)) (binary_type o k w n)) p
    (subst (λ k. Meets (λ z. ComesTo z (binary_value o v i n)) (binary_type o (type_of_value v) k n)) q (binary_comes o v i n))

-- e is an expression, which comes to a value of the type or to a fault of arithmetic within l levels
record Evaluates (t : Table) (rows : List Row) (l e : ℕ) (of_type : TypeT) : Type 0 where
  kind : ExpressionKind
  is : part t e ≡ Some (Expression kind)
  comes : ComesTo of_type (evaluated l t rows kind e)

operand_is : (t : Table) (n m : ℕ) (k : ExpressionKind) → m < n → part t m ≡ Some (Expression k) → operand_kind t n m ≡ Ok k
operand_is t n m k l q = rw (lt-ltb m n l, q)

typed_as_good : (below : ℕ → Answer TypeT) (k : Option Kind) (t : Table) (own : Option ℕ) (rows : List Row) (l e : ℕ) → Formed t → Truths rows
    → ((m : ℕ) → Meets (Evaluates t rows l m) (below m)) → part t e ≡ k → Meets (Evaluates t rows (suc l) e) (typed_as below k t own (declarations_of rows) e)
unfolding evaluated
typed_as_good below None t own rows l e w h ih q = unmet
typed_as_good below (Some Procedure) t own rows l e w h ih q = unmet
typed_as_good below (Some (DeclarationK k)) t own rows l e w h ih q = unmet
typed_as_good below (Some (Statement k)) t own rows l e w h ih q = unmet
typed_as_good below (Some (Expression Numeral)) t own rows l e w h ih q = met (record { kind = Numeral; is = q; comes = value (Integer (node t e).lo) refl })
typed_as_good below (Some (Expression Name)) t own rows l e w h ih q =
    meets_map (name_comes own (node t e).name rows e h) λ v c. record { kind = Name; is = q; comes = c }
typed_as_good below (Some (Expression Unary)) t own rows l e w h ih q =
    subst (Meets (Evaluates t rows (suc l) e)) (sym (unary_chain below t own (declarations_of rows) e))
    (meets_then (ih (node t e).a) λ x i.
    meets_map (unary_after (unary_operator_of (node t e).lo) e i.comes) λ v c.
    record { kind = Unary; is = q; comes = rw (operand_is t e (node t e).a i.kind (unary_before t e w q) i.is) c })
typed_as_good below (Some (Expression Binary)) t own rows l e w h ih q =
    let b = binary_before t e w q in
    subst (Meets (Evaluates t rows (suc l) e)) (sym (binary_chain below t own (declarations_of rows) e))
    (meets_then (ih (node t e).a) λ x i. meets_then (ih (node t e).b) λ y j.
    meets_map (binary_after (binary_operator_of (node t e).lo) e i.comes j.comes) λ v c.
    record {
      kind = Binary;
      is = q;
      comes = rw (operand_is t e (node t e).a i.kind b.0 i.is, operand_is t e (node t e).b j.kind b.1 j.is) c;
    })

typed_good : (l : ℕ) (t : Table) (own : Option ℕ) (rows : List Row) (e : ℕ) → Formed t → Truths rows → Meets (Evaluates t rows l e) (typed l t own (declarations_of rows) e)
unfolding typed
typed_good zero t own rows e w h = unmet
typed_good (suc l) t own rows e w h = typed_as_good (typed l t own (declarations_of rows)) (part t e) t own rows l e w h (λ m. typed_good l t own rows m w h) refl

pub evaluation_is_typed : EvaluationIsTyped
evaluation_is_typed t rows own n e of_type f h q =
    let i = met_by q (typed_good 32 t own rows e f h) in
    rw i.is i.comes
