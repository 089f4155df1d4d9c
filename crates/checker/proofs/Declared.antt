-- A list of declarations is walked through exactly if the rules allow it with room, and else its first fault is theirs.
use Rattle.std.proofs.Common.{◌≡◌, ℕ, zero, suc, ◌+◌, ◌<◌, ◌≤◌, Bool, true, false, cond, ltb, leb, ◌∷◌, length, ℤ, pos, negsuc, Some, None, Ok, Err, Option, sym, refl, ap, ◌∙◌, subst, arith}
use Rattle.std.proofs.lemmas.Bool.{leb-true, le-leb, ltb-true, ltb-false, lt-ltb, not-true, not-false, not_from_false, not_from_true, le-ltb, and_parts, false≢true}
use Rattle.procedure.specs.declared.kind.DeclarationKind.{DeclarationKind}
use Rattle.procedure.specs.declared.kind.DeclarationKind.TheVariants.{Parameter, Variable, Constant}
use Rattle.procedure.specs.declared.layout.Number.TheVariants.{Mark as MarkT}
use Rattle.procedure.specs.declared.layout.Role.TheVariants.{Declarations as DeclarationsRole}
use Rattle.procedure.specs.declared.refusal.Reason.TheVariants.{Unmarked, Mismatched, Cramped}
use Rattle.procedure.specs.declared.refusal.Refusal.{Refusal}
use Rattle.procedure.specs.declared.table.Standing.{Standing}
use Rattle.procedure.specs.declared.table.Standing.TheVariants.{End, Unlisted, Procedure, Declaration as ADeclaration, Statement as AStatement, Expression as AnExpression}
use Rattle.procedure.specs.declared.types.«Type».{«Type» as TypeT}
use Rattle.procedure.specs.Formed.{Formed}
use Rattle.procedure.specs.Rules.{number_holds}
use Rattle.procedure.specs.Refusal.{refusal_at}
use Rattle.procedure.specs.Sequence.{Answer}
use Rattle.procedure.specs.Table.{Table, node, standing}
use Rattle.checker.specs.declared.names.Declaration.{Declaration as DeclarationT}
use Rattle.checker.specs.declared.names.Meaning.{Meaning}
use Rattle.checker.specs.declared.names.Meaning.TheVariants.{Mark, Object}
use Rattle.checker.specs.Allowed.{Scope, hide, declare, object_of, Marks, Typed, Valued, valued_variable, valued_constant, Initial, no_value, value, Declaration, Declarations, no_more, declares}
use Rattle.checker.specs.Faults.{ExpressionFault, DeclarationFault, taken_name, unmarked_type, in_value, mismatched_value, DeclarationsFault, in_declaration, cramped_declaration, in_later_declaration}
use Rattle.checker.specs.Measure.{count, initial_steps, declared_steps}
use Rattle.checker.specs.Names.{means_inside}
use Rattle.checker.specs.Region.{Environment, put}
use Rattle.checker.specs.Typing.{mark_type}
use Rattle.checker.specs.Walk.{Opened, Declares, mark_meaning, initial, is_constant, declaration_cost, declaration, declares as declares_walk, declarations}
use Rattle.checker.proofs.Chains.{then, valued, variable_chain, constant_chain, declaration_chain, put_chain, declares_chain, Judges, passes, fails, judges_then, judges_need, judges_end, Gives, gives, gives_then, ok_then, then_is, need_is, err_then, need_not, cannot_pass}
use Rattle.checker.proofs.Expressions.{same_true, same_self, same_false, different, type-judged, type_given, type_refused}
use Rattle.checker.proofs.Scopes.{Sees, Alike, Agrees, sees_inside, agrees_declare, object_is}
use Rattle.checker.proofs.Shapes.{part-declaration, fields, Expressed, expressed_root, Listed, declares as declares_list, declares_here, nodes_last_declared, declarations_list, locals_list}

-- what the form says of a declaration: its mark is a name, its value an expression, and what follows a list of declarations
marked_by_name : (t : Table) → Formed t → (d : ℕ) (k : DeclarationKind) → standing t d ≡ ADeclaration k → number_holds (Some MarkT) (node t d).lo ≡ true
marked_by_name t w d Parameter q = (fields t w d _ (part-declaration t d Parameter q)).lo
marked_by_name t w d Variable q = (fields t w d _ (part-declaration t d Variable q)).lo
marked_by_name t w d Constant q = (fields t w d _ (part-declaration t d Constant q)).lo

value_expressed : (t : Table) → Formed t → (d : ℕ) (k : DeclarationKind) → standing t d ≡ ADeclaration k → Valued k → Expressed t 32 (node t d).a
value_expressed t w d k q valued_variable = expressed_root t d (node t d).a (fields t w d _ (part-declaration t d Variable q)).a
value_expressed t w d k q valued_constant = expressed_root t d (node t d).a (fields t w d _ (part-declaration t d Constant q)).a

next-declarations : (t : Table) → Formed t → (f d : ℕ) (k : DeclarationKind) → standing t d ≡ ADeclaration k → Listed t DeclarationsRole (suc f) d
    → Listed t DeclarationsRole f (node t d).next
next-declarations t w f d Parameter q h =
    let p = part-declaration t d Parameter q in declarations_list t d (node t d).next f _ p h.enough (fields t w d _ p).next
next-declarations t w f d Variable q h =
    let p = part-declaration t d Variable q in locals_list t d (node t d).next f _ p h.enough (fields t w d _ p).next
next-declarations t w f d Constant q h =
    let p = part-declaration t d Constant q in locals_list t d (node t d).next f _ p h.enough (fields t w d _ p).next

-- the name in a mark is one of 16 bits
mark_fits : (i : ℕ) → number_holds (Some MarkT) (pos i) ≡ true → leb i 65535 ≡ true
mark_fits i e = let s = leb-true i 272 (and_parts (leb 1 i) (leb i 272) e).1 in le-leb i 65535 (omega arith)

mark_judged : (lo : ℤ) (own : ℕ) (declared : Environment) (Γ : Scope) (n : ℕ) → number_holds (Some MarkT) lo ≡ true → Sees (Some own) declared Γ
    → Judges (Marks Γ lo) (λ r. ((ty : TypeT) → Marks Γ lo ty → ⊥) × (r ≡ refusal_at Unmarked n)) (mark_type (mark_meaning lo own declared) n)
mark_judged (negsuc i) own declared Γ n e sees = absurd (false≢true e)
mark_judged (pos i) own declared Γ n e sees =
    subst (λ b. Judges (Marks Γ (pos i)) (λ r. ((ty : TypeT) → Marks Γ (pos i) ty → ⊥) × (r ≡ refusal_at Unmarked n))
    (mark_type (cond b (means_inside (Some own) declared i) None) n)) (sym (mark_fits i e)) (go (means_inside (Some own) declared i) (sees i))
  where
    go : (m : Option Meaning) → Γ.means i ≡ m → Judges (Marks Γ (pos i)) (λ r. ((ty : TypeT) → Marks Γ (pos i) ty → ⊥) × (r ≡ refusal_at Unmarked n)) (mark_type m n)
    go None q = fails ((λ ty h. let a = h.1 in let b = h.2 in let z : ◌≡◌ {A = ℕ} 0 1 = cc in omega arith), refl)
    go (Some (Mark ty)) q = passes (i, refl, q)
    go (Some (Object ty c)) q = fails ((λ ty h. let a = h.1 in let b = h.2 in let z : ◌≡◌ {A = ℕ} 0 1 = cc in omega arith), refl)

mark_given : (lo : ℤ) (own : ℕ) (declared : Environment) (Γ : Scope) (ty : TypeT) (n : ℕ) → number_holds (Some MarkT) lo ≡ true → Sees (Some own) declared Γ
    → Marks Γ lo ty → mark_type (mark_meaning lo own declared) n ≡ Ok ty
mark_given (negsuc i) own declared Γ ty n e sees m = absurd (false≢true e)
mark_given (pos i) own declared Γ ty n e sees m =
    let a = m.1 in let b = m.2 in
    let s : means_inside (Some own) declared i ≡ Some (Mark ty) = sym (sees i) ∙ cc in
    ap (λ b. mark_type (cond b (means_inside (Some own) declared i) None) n) (mark_fits i e) ∙ ap (λ x. mark_type x n) s

module _ (t : Table) (w : Formed t) (declared : Environment) (Γ : Scope) (d : ℕ) where
  -- the scope inside the declaration
  abbrev inside : Scope
  inside = hide (node t d).name Γ

  -- what the walk makes of the declaration
  abbrev made : DeclarationKind → TypeT → DeclarationT
  made k ty = record { name = (node t d).name; of_type = ty; constant = is_constant k }

  valued-judged : (F : Refusal → Type 0) (k : DeclarationKind) (ty : TypeT) → standing t d ≡ ADeclaration k → Alike declared Γ → Valued k
      → ((r : Refusal) → ExpressionFault t inside (node t d).a r → F r)
      → ((x : TypeT) → Typed t inside (node t d).a x → (x ≡ ty → ⊥) → F (refusal_at Mismatched d))
      → Judges (λ _. Initial t inside (node t d).a ty k) F (valued t declared ty d)
  valued-judged F k ty q same v in-it other =
      judges_then (type-judged t w (Some (node t d).name) declared inside (sees_inside declared Γ (node t d).name same) 32 (node t d).a (value_expressed t w d k q v))
      in-it λ x p.
      judges_end _ _ _ (λ e. other x p (same_false x ty e)) λ e. value v (subst (Typed t inside (node t d).a) (same_true x ty e) p)

  initial-judged : (F : Refusal → Type 0) (k : DeclarationKind) (ty : TypeT) → standing t d ≡ ADeclaration k → Alike declared Γ
      → (Valued k → (r : Refusal) → ExpressionFault t inside (node t d).a r → F r)
      → (Valued k → (x : TypeT) → Typed t inside (node t d).a x → (x ≡ ty → ⊥) → F (refusal_at Mismatched d))
      → Judges (λ _. Initial t inside (node t d).a ty k) F (initial k t declared ty d)
  initial-judged F Parameter ty q same in-it other = passes no_value
  initial-judged F Variable ty q same in-it other =
      subst (Judges (λ _. Initial t inside (node t d).a ty Variable) F) (sym (variable_chain t declared ty d))
      (valued-judged F Variable ty q same valued_variable (in-it valued_variable) (other valued_variable))
  initial-judged F Constant ty q same in-it other =
      subst (Judges (λ _. Initial t inside (node t d).a ty Constant) F) (sym (constant_chain t declared ty d))
      (valued-judged F Constant ty q same valued_constant (in-it valued_constant) (other valued_constant))

  -- the declaration that the walk made is allowed
  record Made (k : DeclarationKind) (x : DeclarationT) : Type 0 where
    of_type : TypeT
    one : Declaration t Γ d k of_type
    told : made k of_type ≡ x

  declaration-judged : (base : ℕ) (k : DeclarationKind) → standing t d ≡ ADeclaration k → Agrees base declared Γ
      → Judges (Made k) (DeclarationFault t Γ d k) (declaration k t base declared d)
  declaration-judged base k q h =
      subst (Judges (Made k) (DeclarationFault t Γ d k)) (sym (declaration_chain k t base declared d))
      (judges_need _ _ _ _ (λ e. taken_name (h.locals (node t d).name ∙ not-false _ e)) λ e.
      let new : Γ.local (node t d).name ≡ false = h.locals (node t d).name ∙ not-true _ e in
      judges_then (mark_judged (node t d).lo (node t d).name declared inside d (marked_by_name t w d k q) (sees_inside declared Γ (node t d).name h.alike))
      (λ r g. subst (DeclarationFault t Γ d k) (sym g.1) (unmarked_type new g.0)) λ ty m.
      judges_then (initial-judged (DeclarationFault t Γ d k) k ty q h.alike (λ v r g. in_value new m v g) (λ v x p o. mismatched_value new m v p o))
      (λ r g. g) λ _ i.
      passes (record { of_type = ty; one = record { new = new; marked = m; initial = i }; told = refl }))

  -- what follows a declaration of the walk
  judges_declaration : {B : Type 0} {Q : B → Type 0} {F : Refusal → Type 0} (base : ℕ) (k : DeclarationKind) (next : DeclarationT → Answer B)
      → standing t d ≡ ADeclaration k → Agrees base declared Γ → ((r : Refusal) → DeclarationFault t Γ d k r → F r)
      → ((ty : TypeT) → Declaration t Γ d k ty → Judges Q F (next (made k ty))) → Judges Q F (then (declaration k t base declared d) next)
  judges_declaration {Q = Q} {F = F} base k next q h g f =
      judges_then (declaration-judged base k q h) g λ x m. subst (λ x. Judges Q F (next x)) m.told (f m.of_type m.one)

  valued_given : (k : DeclarationKind) (ty : TypeT) → standing t d ≡ ADeclaration k → Alike declared Γ → Valued k → Typed t inside (node t d).a ty
      → valued t declared ty d ≡ Ok tt
  valued_given k ty q same v p =
      then_is _ (type_given t w (Some (node t d).name) declared inside (sees_inside declared Γ (node t d).name same) 32 (node t d).a ty (value_expressed t w d k q v) p)
      (need_is _ _ (same_self ty))

  initial_given : (k : DeclarationKind) (ty : TypeT) → standing t d ≡ ADeclaration k → Alike declared Γ → Initial t inside (node t d).a ty k
      → initial k t declared ty d ≡ Ok tt
  initial_given k ty q same no_value = refl
  initial_given k ty q same (value valued_variable p) = variable_chain t declared ty d ∙ valued_given Variable ty q same valued_variable p
  initial_given k ty q same (value valued_constant p) = constant_chain t declared ty d ∙ valued_given Constant ty q same valued_constant p

  declaration_given : (base : ℕ) (k : DeclarationKind) (ty : TypeT) → standing t d ≡ ADeclaration k → Agrees base declared Γ → Declaration t Γ d k ty
      → declaration k t base declared d ≡ Ok (made k ty)
  declaration_given base k ty q h one =
      declaration_chain k t base declared d
      ∙ then_is _ (need_is _ _ (not_from_false _ (sym (h.locals (node t d).name) ∙ one.new)))
      (then_is _ (mark_given (node t d).lo (node t d).name declared inside ty d (marked_by_name t w d k q) (sees_inside declared Γ (node t d).name h.alike) one.marked)
      (then_is _ (initial_given k ty q h.alike one.initial) refl))

  value_refused : (k : DeclarationKind) (ty : TypeT) (r : Refusal) → Valued k → valued t declared ty d ≡ Err r → initial k t declared ty d ≡ Err r
  value_refused k ty r valued_variable e = variable_chain t declared ty d ∙ e
  value_refused k ty r valued_constant e = constant_chain t declared ty d ∙ e

  declaration_refused : (base : ℕ) (k : DeclarationKind) (r : Refusal) → standing t d ≡ ADeclaration k → Agrees base declared Γ → DeclarationFault t Γ d k r
      → declaration k t base declared d ≡ Err r
  declaration_refused base k r q h (taken_name e) =
      declaration_chain k t base declared d ∙ err_then _ (need_not _ _ (not_from_true _ (sym (h.locals (node t d).name) ∙ e)))
  declaration_refused base k r q h (unmarked_type e n) =
      declaration_chain k t base declared d
      ∙ then_is _ (need_is _ _ (not_from_false _ (sym (h.locals (node t d).name) ∙ e)))
      (err_then _ (cannot_pass
      (mark_judged (node t d).lo (node t d).name declared inside d (marked_by_name t w d k q) (sees_inside declared Γ (node t d).name h.alike)) n (λ r g. g.1)))
  declaration_refused base k r q h (in_value {ty = ty} e m v g) =
      declaration_chain k t base declared d
      ∙ then_is _ (need_is _ _ (not_from_false _ (sym (h.locals (node t d).name) ∙ e)))
      (then_is _ (mark_given (node t d).lo (node t d).name declared inside ty d (marked_by_name t w d k q) (sees_inside declared Γ (node t d).name h.alike) m)
      (err_then _ (value_refused k ty r v (err_then _
      (type_refused t w (Some (node t d).name) declared inside (sees_inside declared Γ (node t d).name h.alike) 32 (node t d).a r (value_expressed t w d k q v) g)))))
  declaration_refused base k r q h (mismatched_value {ty = ty} {x = x} e m v p n) =
      declaration_chain k t base declared d
      ∙ then_is _ (need_is _ _ (not_from_false _ (sym (h.locals (node t d).name) ∙ e)))
      (then_is _ (mark_given (node t d).lo (node t d).name declared inside ty d (marked_by_name t w d k q) (sees_inside declared Γ (node t d).name h.alike) m)
      (err_then _ (value_refused k ty (refusal_at Mismatched d) v (then_is _
      (type_given t w (Some (node t d).name) declared inside (sees_inside declared Γ (node t d).name h.alike) 32 (node t d).a x (value_expressed t w d k q v) p)
      (need_not _ _ (different x ty n))))))

-- one declaration more
pub judges_put : {B : Type 0} {Q : B → Type 0} {F : Refusal → Type 0} (d : DeclarationT) (declared : Environment) (n : ℕ) (next : Environment → Answer B)
    → (256 ≤ length declared → F (refusal_at Cramped n)) → (length declared < 256 → Judges Q F (next (d ∷ declared))) → Judges Q F (then (put d declared n) next)
unfolding then
judges_put {Q = Q} {F = F} d declared n next g h = go (ltb (length declared) 256) refl
  where
    go : (b : Bool) → ltb (length declared) 256 ≡ b → Judges Q F (then (put d declared n) next)
    go true e = rw e (h (ltb-true (length declared) 256 e))
    go false e = rw e (fails (g (ltb-false (length declared) 256 e)))

pub put_given : (d : DeclarationT) (declared : Environment) (n : ℕ) → length declared < 256 → put d declared n ≡ Ok (d ∷ declared)
put_given d declared n h = put_chain d declared n ∙ then_is _ (need_is _ _ (lt-ltb (length declared) 256 h)) refl

pub put_refused : (d : DeclarationT) (declared : Environment) (n : ℕ) → 256 ≤ length declared → put d declared n ≡ Err (refusal_at Cramped n)
put_refused d declared n h = put_chain d declared n ∙ err_then _ (need_not _ _ (le-ltb (length declared) 256 h))

cost_is : {t : Table} {Γ : Scope} {e : ℕ} {ty : TypeT} {k : DeclarationKind} (i : Initial t Γ e ty k) → declaration_cost k ≡ initial_steps i
unfolding initial_steps
cost_is no_value = refl
cost_is (value valued_variable p) = refl
cost_is (value valued_constant p) = refl

-- The declarations from d on, which the walk opened as o, are allowed.
pub record OpenedWell (t : Table) (base : ℕ) (declared : Environment) (Γ : Scope) (d : ℕ) (o : Opened) : Type 0 where
  pub inner : Scope
  pub allowed : Declarations t Γ d inner
  pub agrees : Agrees base o.declared inner
  pub cost : o.cost ≡ declared_steps allowed
  pub longer : length o.declared ≡ length declared + count allowed
  pub room : length o.declared ≤ 256

module _ (t : Table) (w : Formed t) (base : ℕ) where
  abbrev Judged : Environment → Scope → ℕ → Answer Opened → Type 0
  Judged declared Γ d a = Judges (OpenedWell t base declared Γ d) (DeclarationsFault t Γ (length declared) d) a

  declares-judged : (rest : Declares) (f : ℕ) (k : Standing) (declared : Environment) (Γ : Scope) (d : ℕ)
      → ((declared : Environment) (Γ : Scope) (d : ℕ) → Listed t DeclarationsRole f d → length declared ≤ 256 → Agrees base declared Γ → Judged declared Γ d (rest declared d))
      → Listed t DeclarationsRole (suc f) d → length declared ≤ 256 → Agrees base declared Γ → standing t d ≡ k → Judged declared Γ d (declares_walk rest k t base declared d)
  unfolding count declared_steps
  declares-judged rest f End declared Γ d ih l few h q =
      passes (record { inner = Γ; allowed = no_more q; agrees = h; cost = refl; longer = omega arith; room = few })
  declares-judged rest f (ADeclaration k) declared Γ d ih l few h q =
      subst (Judged declared Γ d) (sym (declares_chain rest k t base declared d))
      (judges_declaration t w declared Γ d base k _ q h (λ r g. in_declaration q g) λ ty one.
      judges_put _ _ _ _ (cramped_declaration q one) λ room.
      judges_then (ih (made t w declared Γ d k ty ∷ declared) (declare (node t d).name (object_of k ty) Γ) (node t d).next (next-declarations t w f d k q l) (omega arith)
      (agrees_declare base declared Γ (made t w declared Γ d k ty) (object_of k ty) (object_is k ty) h)) (λ r g. in_later_declaration q one room g) λ o v.
      let more : length o.declared ≡ suc (length declared) + count v.allowed = v.longer in
      let c = cost_is one.initial in
      let e = v.cost in
      passes (record {
        inner = v.inner;
        allowed = declares q one v.allowed;
        agrees = v.agrees;
        cost = omega arith;
        longer = omega arith;
        room = v.room;
      }))
  declares-judged rest f Unlisted declared Γ d ih l few h q = absurd (subst declares_list q (declares_here t d l.fitting))
  declares-judged rest f Procedure declared Γ d ih l few h q = absurd (subst declares_list q (declares_here t d l.fitting))
  declares-judged rest f (AStatement k) declared Γ d ih l few h q = absurd (subst declares_list q (declares_here t d l.fitting))
  declares-judged rest f (AnExpression k) declared Γ d ih l few h q = absurd (subst declares_list q (declares_here t d l.fitting))

  pub declarations-judged : (f : ℕ) (declared : Environment) (Γ : Scope) (d : ℕ) → Listed t DeclarationsRole f d → length declared ≤ 256 → Agrees base declared Γ
      → Judged declared Γ d (declarations f t base declared d)
  declarations-judged zero declared Γ d l few h = absurd (nodes_last_declared t d l)
  declarations-judged (suc f) declared Γ d l few h =
      declares-judged (declarations f t base) f (standing t d) declared Γ d (declarations-judged f) l few h refl

-- The walk opened as o what the rules declare: n declarations, of c steps, after which Γ' holds.
pub record OpenedSo (base : ℕ) (declared : Environment) (Γ' : Scope) (n c : ℕ) (o : Opened) : Type 0 where
  pub agrees : Agrees base o.declared Γ'
  pub cost : o.cost ≡ c
  pub longer : length o.declared ≡ length declared + n

module _ (t : Table) (w : Formed t) (base : ℕ) where
  of_standing : {P : Opened → Type 0} {k : Standing} (rest : Declares) (declared : Environment) (d : ℕ) → standing t d ≡ k
      → Gives P (declares_walk rest k t base declared d) → Gives P (declares_walk rest (standing t d) t base declared d)
  of_standing {P} rest declared d q g = subst (λ k. Gives P (declares_walk rest k t base declared d)) (sym q) g

  pub declarations_given : (f : ℕ) (declared : Environment) (Γ : Scope) (d : ℕ) (Γ' : Scope) → Listed t DeclarationsRole f d → Agrees base declared Γ
      → (ds : Declarations t Γ d Γ') → length declared + count ds ≤ 256
      → Gives (OpenedSo base declared Γ' (count ds) (declared_steps ds)) (declarations f t base declared d)
  unfolding count declared_steps
  declarations_given zero declared Γ d Γ' l h ds room = absurd (nodes_last_declared t d l)
  declarations_given (suc f) declared Γ d Γ' l h (no_more q) room =
      of_standing (declarations f t base) declared d q (gives (record { agrees = h; cost = refl; longer = omega arith }))
  declarations_given (suc f) declared Γ d Γ' l h (declares {k = k} {ty = ty} q one rest) room =
      of_standing (declarations f t base) declared d q
      (subst (Gives (OpenedSo base declared Γ' (suc (count rest)) (initial_steps one.initial + declared_steps rest)))
      (sym (declares_chain (declarations f t base) k t base declared d))
      (ok_then _ (declaration_given t w declared Γ d base k ty q h one)
      (ok_then _ (put_given (made t w declared Γ d k ty) declared d (omega arith))
      (gives_then (declarations_given f (made t w declared Γ d k ty ∷ declared) (declare (node t d).name (object_of k ty) Γ) (node t d).next Γ'
      (next-declarations t w f d k q l) (agrees_declare base declared Γ (made t w declared Γ d k ty) (object_of k ty) (object_is k ty) h) rest less) λ o v.
      let more : length o.declared ≡ suc (length declared) + count rest = v.longer in
      let c = cost_is one.initial in
      let e = v.cost in
      gives (record { agrees = v.agrees; cost = omega arith; longer = omega arith })))))
    where
      less : suc (length declared) + count rest ≤ 256
      less = omega arith

module _ (t : Table) (w : Formed t) (base : ℕ) where
  at_standing : {a : Answer Opened} {k : Standing} (rest : Declares) (declared : Environment) (d : ℕ) → standing t d ≡ k
      → declares_walk rest k t base declared d ≡ a → declares_walk rest (standing t d) t base declared d ≡ a
  at_standing rest declared d q e = ap (λ k. declares_walk rest k t base declared d) q ∙ e

  -- A list that has a fault by the rules is refused with it.
  pub declarations_refused : (f : ℕ) (declared : Environment) (Γ : Scope) (n d : ℕ) (r : Refusal) → Listed t DeclarationsRole f d → Agrees base declared Γ → length declared ≡ n
      → DeclarationsFault t Γ n d r → declarations f t base declared d ≡ Err r
  declarations_refused zero declared Γ n d r l h e g = absurd (nodes_last_declared t d l)
  declarations_refused (suc f) declared Γ n d r l h e (in_declaration {k = k} q g) =
      at_standing (declarations f t base) declared d q
      (declares_chain (declarations f t base) k t base declared d ∙ err_then _ (declaration_refused t w declared Γ d base k r q h g))
  declarations_refused (suc f) declared Γ n d r l h e (cramped_declaration {k = k} {ty = ty} q one full) =
      at_standing (declarations f t base) declared d q
      (declares_chain (declarations f t base) k t base declared d
      ∙ then_is _ (declaration_given t w declared Γ d base k ty q h one) (err_then _ (put_refused (made t w declared Γ d k ty) declared d (omega arith))))
  declarations_refused (suc f) declared Γ n d r l h e (in_later_declaration {k = k} {ty = ty} q one room g) =
      at_standing (declarations f t base) declared d q
      (declares_chain (declarations f t base) k t base declared d
      ∙ then_is _ (declaration_given t w declared Γ d base k ty q h one)
      (then_is _ (put_given (made t w declared Γ d k ty) declared d (omega arith))
      (err_then _ (declarations_refused f (made t w declared Γ d k ty ∷ declared) (declare (node t d).name (object_of k ty) Γ) (suc n) (node t d).next r
      (next-declarations t w f d k q l) (agrees_declare base declared Γ (made t w declared Γ d k ty) (object_of k ty) (object_is k ty) h) (ap suc e) g))))
