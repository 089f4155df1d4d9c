-- A list of statements is walked through exactly if the rules allow it with room, and else its first fault is theirs.
use Rattle.std.proofs.Common.{◌≡◌, ℕ, zero, suc, ◌+◌, ◌*◌, ◌≤◌, true, false, ◌∷◌, length, Some, None, Ok, Err, Option, sym, refl, ap, ◌∙◌, subst, arith}
use Rattle.procedure.specs.declared.kind.Kind.TheVariants.{Statement as StatementKindT}
use Rattle.procedure.specs.declared.kind.StatementKind.{StatementKind}
use Rattle.procedure.specs.declared.kind.StatementKind.TheVariants.{Null, Assignment, If, For, Block, Get, Put}
use Rattle.procedure.specs.declared.layout.Role.TheVariants.{Following, Declarations as DeclarationsRole}
use Rattle.procedure.specs.declared.refusal.Reason.TheVariants.{Unknown}
use Rattle.procedure.specs.declared.refusal.Refusal.{Refusal}
use Rattle.procedure.specs.declared.table.Standing.{Standing}
use Rattle.procedure.specs.declared.table.Standing.TheVariants.{End, Unlisted, Procedure, Declaration as ADeclaration, Statement as AStatement, Expression as AnExpression}
use Rattle.procedure.specs.declared.types.«Type».{«Type» as TypeT}
use Rattle.procedure.specs.declared.types.«Type».TheVariants.{Integer, Boolean}
use Rattle.procedure.specs.Formed.{Formed}
use Rattle.procedure.specs.Layout.{layout}
use Rattle.procedure.specs.Refusal.{refusal_at}
use Rattle.procedure.specs.Sequence.{Answer}
use Rattle.procedure.specs.Table.{Table, node, standing}
use Rattle.checker.specs.declared.answer.Sheet.{Sheet}
use Rattle.checker.specs.declared.names.Declaration.{Declaration as DeclarationT}
use Rattle.checker.specs.declared.names.Meaning.{Meaning}
use Rattle.checker.specs.declared.names.Meaning.TheVariants.{Mark, Object}
use Rattle.checker.specs.Allowed.{Scope, begin_region, variable, constant, Typed, Declarations, inside_for, Statement, nulls, assigns, branches, loops, blocks, gets, puts, Statements, ends, follows}
use Rattle.checker.specs.Cost.{turns_of, exact}
use Rattle.checker.specs.Faults.{NoObject, ExpressionFault, DeclarationsFault, TargetFault, unknown_target, fixed_target, StatementFault, in_assignment_target, in_assigned, mismatched_assignment, in_condition, mismatched_condition, in_then, in_else, cramped_for, in_body, in_block_declarations, in_block, in_get_target, in_put, StatementsFault, in_first, in_rest}
use Rattle.checker.specs.Measure.{count, declared_steps, steps, steps_in, most_open, most_open_in, depth, depth_in}
use Rattle.checker.specs.Names.{means}
use Rattle.checker.specs.Region.{Environment}
use Rattle.checker.specs.Typing.{target_type}
use Rattle.checker.specs.Walk.{Declares, Walks, type_at, declarations, statement, states, statements}
use Rattle.checker.proofs.Chains.{assignment_chain, get_chain, put_statement_chain, if_chain, for_chain, block_chain, states_chain, Judges, passes, fails, judges_then, judges_need, Gives, gives, gives_then, ok_then, need_then, then_is, need_is, err_then, gives_is, need_not}
use Rattle.checker.proofs.Declared.{judges_put, put_given, put_refused, OpenedWell, declarations-judged, OpenedSo, declarations_given, declarations_refused}
use Rattle.checker.proofs.Expressions.{none_no_object, mark_no_object, same_true, same_self, same_false, different, type-judged, type_given, type_refused}
use Rattle.checker.proofs.Scopes.{Alike, Agrees, alike_declare, agrees_begin}
use Rattle.checker.proofs.Shapes.{part-statement, Reference, Fields, fields, Expressed, expressed_root, Listed, states as states_list, states_here, nodes_last, following_list, alternative_list, statements_list, locals_list}

-- what the form says of the parts of a statement
next-statements : (t : Table) → Formed t → (f s : ℕ) (k : StatementKind) → standing t s ≡ AStatement k → Listed t Following (suc f) s → Listed t Following f (node t s).next
next-statements t w f s k q h = let p = part-statement t s k q in go k (λ x. following_list t s (node t s).next f _ p h.enough x) (fields t w s _ p)
  where
    go : (k : StatementKind) → (Reference t s Following (node t s).next → Listed t Following f (node t s).next)
        → Fields t s (layout (Some (StatementKindT k))) → Listed t Following f (node t s).next
    go Null g x = g x.next
    go Assignment g x = g x.next
    go If g x = g x.next
    go For g x = g x.next
    go Block g x = g x.next
    go Get g x = g x.next
    go Put g x = g x.next

target-judged : (t : Table) (declared : Environment) (Γ : Scope) (s : ℕ) → Alike declared Γ
    → Judges (λ ty. Γ.means (node t s).name ≡ Some (variable ty)) (TargetFault t Γ s) (target_type (means declared (node t s).name) s)
target-judged t declared Γ s same = go (means declared (node t s).name) (same (node t s).name)
  where
    go : (m : Option Meaning) → Γ.means (node t s).name ≡ m → Judges (λ ty. Γ.means (node t s).name ≡ Some (variable ty)) (TargetFault t Γ s) (target_type m s)
    go None q = fails (unknown_target (subst NoObject (sym q) none_no_object))
    go (Some (Mark x)) q = fails (unknown_target (subst NoObject (sym q) (mark_no_object x)))
    go (Some (Object ty false)) q = passes q
    go (Some (Object ty true)) q = fails (fixed_target q)

target_given : (t : Table) (declared : Environment) (Γ : Scope) (s : ℕ) (ty : TypeT) → Alike declared Γ → Γ.means (node t s).name ≡ Some (variable ty)
    → target_type (means declared (node t s).name) s ≡ Ok ty
target_given t declared Γ s ty same q = ap (λ m. target_type m s) (sym (same (node t s).name) ∙ q)

-- the loop parameter
abbrev counter : Table → ℕ → DeclarationT
counter t s = record { name = (node t s).name; of_type = Integer; constant = true }

-- The statement at s, for which the walk's sheet is x, is allowed.
record OneWell (t : Table) (declared : Environment) (Γ : Scope) (s : ℕ) (x : Sheet) : Type 0 where
  allowed : Statement t Γ s
  ceiling : x.ceiling ≡ steps_in allowed
  rows : x.rows ≡ most_open_in allowed (length declared)
  frames : x.frames ≡ depth_in allowed
  room : x.rows ≤ 256

-- The statements from s on, for which the walk's sheet is x, are allowed.
pub record AllWell (t : Table) (declared : Environment) (Γ : Scope) (s : ℕ) (x : Sheet) : Type 0 where
  pub allowed : Statements t Γ s
  pub ceiling : x.ceiling ≡ steps allowed
  pub rows : x.rows ≡ most_open allowed (length declared)
  pub frames : x.frames ≡ depth allowed
  pub room : x.rows ≤ 256

module _ (t : Table) (w : Formed t) where
  abbrev Judged : Environment → Scope → ℕ → Answer Sheet → Type 0
  Judged declared Γ s a = Judges (AllWell t declared Γ s) (StatementsFault t Γ (length declared) s) a

  abbrev OneJudged : Environment → Scope → ℕ → Answer Sheet → Type 0
  OneJudged declared Γ s a = Judges (OneWell t declared Γ s) (StatementFault t Γ (length declared) s) a

  root-judged : (declared : Environment) (Γ : Scope) (e : ℕ) → Alike declared Γ → Expressed t 32 e → Judges (Typed t Γ e) (ExpressionFault t Γ e) (type_at t declared e)
  root-judged declared Γ e same h = type-judged t w None declared Γ same 32 e h

  module _ (lists : Walks) (opens : ℕ → Declares) (f : ℕ)
      (ih : (declared : Environment) (Γ : Scope) (s : ℕ) → Listed t Following f s → length declared ≤ 256 → Alike declared Γ → Judged declared Γ s (lists declared s))
      (od : (base : ℕ) (declared : Environment) (Γ : Scope) (d : ℕ) → Listed t DeclarationsRole f d → length declared ≤ 256 → Agrees base declared Γ
      → Judges (OpenedWell t base declared Γ d) (DeclarationsFault t Γ (length declared) d) (opens base declared d))
      (declared : Environment) (Γ : Scope) (s : ℕ) (l : Listed t Following (suc f) s) (few : length declared ≤ 256) (h : Alike declared Γ)
    where
      one_judged : (k : StatementKind) → standing t s ≡ AStatement k → OneJudged declared Γ s (statement exact lists opens k t declared s)
      unfolding steps_in most_open_in depth_in
      one_judged Null q = passes (record { allowed = nulls q; ceiling = refl; rows = refl; frames = refl; room = few })
      one_judged Assignment q =
          let x = fields t w s _ (part-statement t s Assignment q) in
          subst (OneJudged declared Γ s) (sym (assignment_chain t declared s))
          (judges_then (target-judged t declared Γ s h) (λ r g. in_assignment_target q g) λ ty target.
          judges_then (root-judged declared Γ (node t s).a h (expressed_root t s (node t s).a x.a)) (λ r g. in_assigned q target g) λ u p.
          judges_need _ _ _ _ (λ e. mismatched_assignment q target p (same_false u ty e)) λ e.
          passes (record {
            allowed = assigns q target (subst (Typed t Γ (node t s).a) (same_true u ty e) p);
            ceiling = refl;
            rows = refl;
            frames = refl;
            room = few;
          }))
      one_judged If q =
          let p = part-statement t s If q in
          let x = fields t w s _ p in
          subst (OneJudged declared Γ s) (sym (if_chain lists t declared s))
          (judges_then (root-judged declared Γ (node t s).a h (expressed_root t s (node t s).a x.a)) (λ r g. in_condition q g) λ u c.
          judges_need _ _ _ _ (λ e. mismatched_condition q c (same_false u Boolean e)) λ e.
          let b : Typed t Γ (node t s).a Boolean = subst (Typed t Γ (node t s).a) (same_true u Boolean e) c in
          judges_then (ih declared Γ (node t s).b (statements_list t s (node t s).b f _ p l.enough x.b) few h) (λ r g. in_then q b g) λ y v.
          judges_then (ih declared Γ (node t s).c (alternative_list t s (node t s).c f _ p l.enough x.c) few h)
          (λ r g. in_else q b v.allowed (let i = v.rows in let j = v.room in omega arith) g) λ z u.
          let vc = v.ceiling in let vr = v.rows in let vf = v.frames in let vm = v.room in
          let uc = u.ceiling in let ur = u.rows in let uf = u.frames in let um = u.room in
          passes (record {
            allowed = branches q b v.allowed u.allowed;
            ceiling = omega arith;
            rows = omega arith;
            frames = omega arith;
            room = omega arith;
          }))
      one_judged For q =
          let p = part-statement t s For q in
          let x = fields t w s _ p in
          subst (OneJudged declared Γ s) (sym (for_chain lists t declared s))
          (judges_put _ _ _ _ (λ full. cramped_for q full) λ free.
          judges_then (ih (counter t s ∷ declared) (inside_for t s Γ) (node t s).a (statements_list t s (node t s).a f _ p l.enough x.a) (omega arith)
          (alike_declare declared (begin_region Γ) (counter t s) (constant Integer) refl h)) (λ r g. in_body q free g) λ y v.
          let vr : y.rows ≡ most_open v.allowed (suc (length declared)) = v.rows in
          let one : y.ceiling + 1 ≡ steps v.allowed + 1 = ap (λ (n : ℕ). n + 1) v.ceiling in
          passes (record {
            allowed = loops q v.allowed;
            ceiling = ap (λ (n : ℕ). 1 + turns_of (node t s) * n) one;
            rows = vr;
            frames = ap (λ (n : ℕ). n + 1) v.frames;
            room = v.room;
          }))
      one_judged Block q =
          let p = part-statement t s Block q in
          let x = fields t w s _ p in
          subst (OneJudged declared Γ s) (sym (block_chain lists opens t declared s))
          (judges_then (od (length declared) declared (begin_region Γ) (node t s).a (locals_list t s (node t s).a f _ p l.enough x.a) few (agrees_begin declared Γ h))
          (λ r g. in_block_declarations q g) λ o v.
          let long : length o.declared ≡ length declared + count v.allowed = v.longer in
          judges_then (ih o.declared v.inner (node t s).b (statements_list t s (node t s).b f _ p l.enough x.b) v.room v.agrees.alike)
          (λ r g. in_block q v.allowed (let i = v.room in omega arith) (subst (λ n. StatementsFault t v.inner n (node t s).b r) long g)) λ y u.
          let oc = v.cost in let uc = u.ceiling in
          passes (record {
            allowed = blocks q v.allowed u.allowed;
            ceiling = omega arith;
            rows = u.rows ∙ ap (most_open u.allowed) long;
            frames = ap (λ (n : ℕ). n + 1) u.frames;
            room = u.room;
          }))
      one_judged Get q =
          subst (OneJudged declared Γ s) (sym (get_chain t declared s))
          (judges_then (target-judged t declared Γ s h) (λ r g. in_get_target q g) λ ty target.
          passes (record { allowed = gets q target; ceiling = refl; rows = refl; frames = refl; room = few }))
      one_judged Put q =
          let x = fields t w s _ (part-statement t s Put q) in
          subst (OneJudged declared Γ s) (sym (put_statement_chain t declared s))
          (judges_then (root-judged declared Γ (node t s).a h (expressed_root t s (node t s).a x.a)) (λ r g. in_put q g) λ ty p.
          passes (record { allowed = puts q p; ceiling = refl; rows = refl; frames = refl; room = few }))

      all-judged : (k : Standing) → standing t s ≡ k → Judged declared Γ s (states exact lists opens k t declared s)
      unfolding steps most_open depth
      all-judged End q = passes (record { allowed = ends q; ceiling = refl; rows = refl; frames = refl; room = few })
      all-judged (AStatement k) q =
          subst (Judged declared Γ s) (sym (states_chain lists opens k t declared s))
          (judges_then (one_judged k q) (λ r g. in_first g) λ y v.
          judges_then (ih declared Γ (node t s).next (next-statements t w f s k q l) few h)
          (λ r g. in_rest v.allowed (let i = v.rows in let j = v.room in omega arith) g) λ z u.
          let vc = v.ceiling in let vr = v.rows in let vf = v.frames in let vm = v.room in
          let uc = u.ceiling in let ur = u.rows in let uf = u.frames in let um = u.room in
          passes (record {
            allowed = follows v.allowed u.allowed;
            ceiling = omega arith;
            rows = omega arith;
            frames = omega arith;
            room = omega arith;
          }))
      all-judged Unlisted q = absurd (subst states_list q (states_here t s l.fitting))
      all-judged Procedure q = absurd (subst states_list q (states_here t s l.fitting))
      all-judged (ADeclaration k) q = absurd (subst states_list q (states_here t s l.fitting))
      all-judged (AnExpression k) q = absurd (subst states_list q (states_here t s l.fitting))

  pub statements-judged : (f : ℕ) (declared : Environment) (Γ : Scope) (s : ℕ) → Listed t Following f s → length declared ≤ 256 → Alike declared Γ
      → Judged declared Γ s (statements exact f t declared s)
  statements-judged zero declared Γ s l few h = absurd (nodes_last t s l)
  statements-judged (suc f) declared Γ s l few h =
      all-judged (statements exact f t) (declarations f t) f (statements-judged f) (λ base. declarations-judged t w base f) declared Γ s l few h (standing t s) refl

-- The walk's sheet x of one statement, and of a list, is what the rules say, where k declarations are open.
record OneSo {t : Table} {Γ : Scope} {s : ℕ} (p : Statement t Γ s) (k : ℕ) (x : Sheet) : Type 0 where
  ceiling : x.ceiling ≡ steps_in p
  rows : x.rows ≡ most_open_in p k
  frames : x.frames ≡ depth_in p

pub record AllSo {t : Table} {Γ : Scope} {s : ℕ} (p : Statements t Γ s) (k : ℕ) (x : Sheet) : Type 0 where
  pub ceiling : x.ceiling ≡ steps p
  pub rows : x.rows ≡ most_open p k
  pub frames : x.frames ≡ depth p

pub most_open-least : {t : Table} {Γ : Scope} {s : ℕ} (p : Statements t Γ s) (k : ℕ) → k ≤ most_open p k
unfolding most_open
most_open-least (ends q) k = omega arith
most_open-least (follows one rest) k = let h = most_open-least rest k in omega arith

module _ (t : Table) (w : Formed t) where
  root_given : (declared : Environment) (Γ : Scope) (e : ℕ) (ty : TypeT) → Alike declared Γ → Expressed t 32 e → Typed t Γ e ty → type_at t declared e ≡ Ok ty
  root_given declared Γ e ty same h p = type_given t w None declared Γ same 32 e ty h p

  -- the statement is of a kind, and as such it passes
  record OneGiven (lists : Walks) (opens : ℕ → Declares) (declared : Environment) (Γ : Scope) (s : ℕ) (p : Statement t Γ s) : Type 0 where
    kind : StatementKind
    stands : standing t s ≡ AStatement kind
    passing : Gives (OneSo p (length declared)) (statement exact lists opens kind t declared s)

  module _ (lists : Walks) (opens : ℕ → Declares) (f : ℕ)
      (ih : (declared : Environment) (Γ : Scope) (s : ℕ) → Listed t Following f s → Alike declared Γ → (p : Statements t Γ s) → most_open p (length declared) ≤ 256
      → Gives (AllSo p (length declared)) (lists declared s))
      (od : (base : ℕ) (declared : Environment) (Γ : Scope) (d : ℕ) (Γ' : Scope) → Listed t DeclarationsRole f d → Agrees base declared Γ
      → (ds : Declarations t Γ d Γ') → length declared + count ds ≤ 256 → Gives (OpenedSo base declared Γ' (count ds) (declared_steps ds)) (opens base declared d))
      (declared : Environment) (Γ : Scope) (s : ℕ) (l : Listed t Following (suc f) s) (h : Alike declared Γ)
    where
      one_given : (p : Statement t Γ s) → most_open_in p (length declared) ≤ 256 → OneGiven lists opens declared Γ s p
      unfolding steps_in most_open_in depth_in
      one_given (nulls q) room = record { kind = Null; stands = q; passing = gives (record { ceiling = refl; rows = refl; frames = refl }) }
      one_given (assigns {ty = ty} q target typed) room =
          let x = fields t w s _ (part-statement t s Assignment q) in
          record {
            kind = Assignment;
            stands = q;
            passing = subst (Gives (OneSo (assigns q target typed) (length declared))) (sym (assignment_chain t declared s))
                (ok_then _ (target_given t declared Γ s ty h target)
                (ok_then _ (root_given declared Γ (node t s).a ty h (expressed_root t s (node t s).a x.a) typed)
                (need_then _ _ _ (same_self ty)
                (gives (record { ceiling = refl; rows = refl; frames = refl })))));
          }
      one_given (branches q typed thens elses) room =
          let p = part-statement t s If q in
          let x = fields t w s _ p in
          record {
            kind = If;
            stands = q;
            passing = subst (Gives (OneSo (branches q typed thens elses) (length declared))) (sym (if_chain lists t declared s))
                (ok_then _ (root_given declared Γ (node t s).a Boolean h (expressed_root t s (node t s).a x.a) typed)
                (need_then _ _ _ refl
                (gives_then (ih declared Γ (node t s).b (statements_list t s (node t s).b f _ p l.enough x.b) h thens (omega arith)) λ y v.
                gives_then (ih declared Γ (node t s).c (alternative_list t s (node t s).c f _ p l.enough x.c) h elses (omega arith)) λ z u.
                let vc = v.ceiling in let vr = v.rows in let vf = v.frames in
                let uc = u.ceiling in let ur = u.rows in let uf = u.frames in
                gives (record { ceiling = omega arith; rows = omega arith; frames = omega arith }))));
          }
      one_given (loops q body) room =
          let p = part-statement t s For q in
          let x = fields t w s _ p in
          record {
            kind = For;
            stands = q;
            passing = subst (Gives (OneSo (loops q body) (length declared))) (sym (for_chain lists t declared s))
                (ok_then _ (put_given (counter t s) declared s (let m = most_open-least body (suc (length declared)) in omega arith))
                (gives_then (ih (counter t s ∷ declared) (inside_for t s Γ) (node t s).a (statements_list t s (node t s).a f _ p l.enough x.a)
                (alike_declare declared (begin_region Γ) (counter t s) (constant Integer) refl h) body room) λ y v.
                let vr : y.rows ≡ most_open body (suc (length declared)) = v.rows in
                let one : y.ceiling + 1 ≡ steps body + 1 = ap (λ (n : ℕ). n + 1) v.ceiling in
                gives (record {
                  ceiling = ap (λ (n : ℕ). 1 + turns_of (node t s) * n) one;
                  rows = vr;
                  frames = ap (λ (n : ℕ). n + 1) v.frames;
                })));
          }
      one_given (blocks {Γ' = Γ'} q ds body) room =
          let p = part-statement t s Block q in
          let x = fields t w s _ p in
          record {
            kind = Block;
            stands = q;
            passing = subst (Gives (OneSo (blocks q ds body) (length declared))) (sym (block_chain lists opens t declared s))
                (gives_then (od (length declared) declared (begin_region Γ) (node t s).a Γ' (locals_list t s (node t s).a f _ p l.enough x.a) (agrees_begin declared Γ h) ds
                (let m = most_open-least body (length declared + count ds) in omega arith)) λ o v.
                let long : length o.declared ≡ length declared + count ds = v.longer in
                gives_then (ih o.declared Γ' (node t s).b (statements_list t s (node t s).b f _ p l.enough x.b) v.agrees.alike body
                (subst (λ n. most_open body n ≤ 256) (sym long) room)) λ y u.
                let oc = v.cost in let uc = u.ceiling in
                gives (record {
                  ceiling = omega arith;
                  rows = u.rows ∙ ap (most_open body) long;
                  frames = ap (λ (n : ℕ). n + 1) u.frames;
                }));
          }
      one_given (gets {ty = ty} q target) room =
          record {
            kind = Get;
            stands = q;
            passing = subst (Gives (OneSo (gets q target) (length declared))) (sym (get_chain t declared s))
                (ok_then _ (target_given t declared Γ s ty h target) (gives (record { ceiling = refl; rows = refl; frames = refl })));
          }
      one_given (puts {ty = ty} q typed) room =
          let x = fields t w s _ (part-statement t s Put q) in
          record {
            kind = Put;
            stands = q;
            passing = subst (Gives (OneSo (puts q typed) (length declared))) (sym (put_statement_chain t declared s))
                (ok_then _ (root_given declared Γ (node t s).a ty h (expressed_root t s (node t s).a x.a) typed)
                (gives (record { ceiling = refl; rows = refl; frames = refl })));
          }

      of_standing : {P : Sheet → Type 0} {k : Standing} → standing t s ≡ k → Gives P (states exact lists opens k t declared s)
          → Gives P (states exact lists opens (standing t s) t declared s)
      of_standing {P} q g = subst (λ k. Gives P (states exact lists opens k t declared s)) (sym q) g

      all_given : (p : Statements t Γ s) → most_open p (length declared) ≤ 256
          → Gives (AllSo p (length declared)) (states exact lists opens (standing t s) t declared s)
      unfolding steps most_open depth
      all_given (ends q) room =
          of_standing q (gives (record { ceiling = refl; rows = refl; frames = refl }))
      all_given (follows one rest) room =
          let g = one_given one (omega arith) in
          of_standing g.stands
          (subst (Gives (AllSo (follows one rest) (length declared))) (sym (states_chain lists opens g.kind t declared s))
          (gives_then g.passing λ y v.
          gives_then (ih declared Γ (node t s).next (next-statements t w f s g.kind g.stands l) h rest (omega arith)) λ z u.
          let vc = v.ceiling in let vr = v.rows in let vf = v.frames in
          let uc = u.ceiling in let ur = u.rows in let uf = u.frames in
          gives (record { ceiling = omega arith; rows = omega arith; frames = omega arith })))

  pub statements_given : (f : ℕ) (declared : Environment) (Γ : Scope) (s : ℕ) → Listed t Following f s → Alike declared Γ → (p : Statements t Γ s)
      → most_open p (length declared) ≤ 256 → Gives (AllSo p (length declared)) (statements exact f t declared s)
  statements_given zero declared Γ s l h p room = absurd (nodes_last t s l)
  statements_given (suc f) declared Γ s l h p room =
      all_given (statements exact f t) (declarations f t) f (statements_given f) (λ base. declarations_given t w base f) declared Γ s l h p room

-- a target that has a fault is refused with it
target_refused : (t : Table) (declared : Environment) (Γ : Scope) (s : ℕ) (r : Refusal) → Alike declared Γ → TargetFault t Γ s r
    → target_type (means declared (node t s).name) s ≡ Err r
target_refused t declared Γ s r same (unknown_target n) = go (means declared (node t s).name) (same (node t s).name)
  where
    go : (m : Option Meaning) → Γ.means (node t s).name ≡ m → target_type m s ≡ Err (refusal_at Unknown s)
    go None q = refl
    go (Some (Mark ty)) q = refl
    go (Some (Object ty c)) q = absurd (n ty c q)
target_refused t declared Γ s r same (fixed_target q) = ap (λ m. target_type m s) (sym (same (node t s).name) ∙ q)

module _ (t : Table) (w : Formed t) where
  root_refused : (declared : Environment) (Γ : Scope) (e : ℕ) (r : Refusal) → Alike declared Γ → Expressed t 32 e → ExpressionFault t Γ e r → type_at t declared e ≡ Err r
  root_refused declared Γ e r same h d = type_refused t w None declared Γ same 32 e r h d

  -- the statement is of a kind, and as such it is refused
  record OneRefused (lists : Walks) (opens : ℕ → Declares) (declared : Environment) (s : ℕ) (r : Refusal) : Type 0 where
    kind : StatementKind
    stands : standing t s ≡ AStatement kind
    refusing : statement exact lists opens kind t declared s ≡ Err r

  module _ (lists : Walks) (opens : ℕ → Declares) (f : ℕ)
      (given : (declared : Environment) (Γ : Scope) (s : ℕ) → Listed t Following f s → Alike declared Γ → (p : Statements t Γ s) → most_open p (length declared) ≤ 256
      → Gives (AllSo p (length declared)) (lists declared s))
      (opening : (base : ℕ) (declared : Environment) (Γ : Scope) (d : ℕ) (Γ' : Scope) → Listed t DeclarationsRole f d → Agrees base declared Γ
      → (ds : Declarations t Γ d Γ') → length declared + count ds ≤ 256 → Gives (OpenedSo base declared Γ' (count ds) (declared_steps ds)) (opens base declared d))
      (ih : (declared : Environment) (Γ : Scope) (n s : ℕ) (r : Refusal) → Listed t Following f s → Alike declared Γ → length declared ≡ n → StatementsFault t Γ n s r
      → lists declared s ≡ Err r)
      (od : (base : ℕ) (declared : Environment) (Γ : Scope) (n d : ℕ) (r : Refusal) → Listed t DeclarationsRole f d → Agrees base declared Γ → length declared ≡ n
      → DeclarationsFault t Γ n d r → opens base declared d ≡ Err r)
      (declared : Environment) (Γ : Scope) (n s : ℕ) (l : Listed t Following (suc f) s) (h : Alike declared Γ) (e : length declared ≡ n)
    where
      roomy : {s : ℕ} (p : Statements t Γ s) → most_open p n ≤ 256 → most_open p (length declared) ≤ 256
      roomy p room = subst (λ k. most_open p k ≤ 256) (sym e) room

      one_refused : (r : Refusal) → StatementFault t Γ n s r → OneRefused lists opens declared s r
      one_refused r (in_assignment_target q d) =
          record { kind = Assignment; stands = q; refusing = assignment_chain t declared s ∙ err_then _ (target_refused t declared Γ s r h d) }
      one_refused r (in_assigned {ty = ty} q target d) =
          let x = fields t w s _ (part-statement t s Assignment q) in
          record {
            kind = Assignment;
            stands = q;
            refusing = assignment_chain t declared s
                ∙ then_is _ (target_given t declared Γ s ty h target)
                (err_then _ (root_refused declared Γ (node t s).a r h (expressed_root t s (node t s).a x.a) d));
          }
      one_refused r (mismatched_assignment {ty = ty} {x = u} q target p o) =
          let x = fields t w s _ (part-statement t s Assignment q) in
          record {
            kind = Assignment;
            stands = q;
            refusing = assignment_chain t declared s
                ∙ then_is _ (target_given t declared Γ s ty h target)
                (then_is _ (root_given t w declared Γ (node t s).a u h (expressed_root t s (node t s).a x.a) p)
                (err_then _ (need_not _ _ (different u ty o))));
          }
      one_refused r (in_condition q d) =
          let x = fields t w s _ (part-statement t s If q) in
          record {
            kind = If;
            stands = q;
            refusing = if_chain lists t declared s ∙ err_then _ (root_refused declared Γ (node t s).a r h (expressed_root t s (node t s).a x.a) d);
          }
      one_refused r (mismatched_condition {x = u} q p o) =
          let x = fields t w s _ (part-statement t s If q) in
          record {
            kind = If;
            stands = q;
            refusing = if_chain lists t declared s
                ∙ then_is _ (root_given t w declared Γ (node t s).a u h (expressed_root t s (node t s).a x.a) p)
                (err_then _ (need_not _ _ (different u Boolean o)));
          }
      one_refused r (in_then q p d) =
          let part = part-statement t s If q in
          let x = fields t w s _ part in
          record {
            kind = If;
            stands = q;
            refusing = if_chain lists t declared s
                ∙ then_is _ (root_given t w declared Γ (node t s).a Boolean h (expressed_root t s (node t s).a x.a) p)
                (then_is _ (need_is _ _ refl)
                (err_then _ (ih declared Γ n (node t s).b r (statements_list t s (node t s).b f _ part l.enough x.b) h e d)));
          }
      one_refused r (in_else q p thens room d) =
          let part = part-statement t s If q in
          let x = fields t w s _ part in
          record {
            kind = If;
            stands = q;
            refusing = if_chain lists t declared s
                ∙ then_is _ (root_given t w declared Γ (node t s).a Boolean h (expressed_root t s (node t s).a x.a) p)
                (then_is _ (need_is _ _ refl)
                (gives_is _ (given declared Γ (node t s).b (statements_list t s (node t s).b f _ part l.enough x.b) h thens (roomy thens room)) λ y v.
                err_then _ (ih declared Γ n (node t s).c r (alternative_list t s (node t s).c f _ part l.enough x.c) h e d)));
          }
      one_refused r (cramped_for q full) =
          record { kind = For; stands = q; refusing = for_chain lists t declared s ∙ err_then _ (put_refused (counter t s) declared s (omega arith)) }
      one_refused r (in_body q room d) =
          let part = part-statement t s For q in
          let x = fields t w s _ part in
          record {
            kind = For;
            stands = q;
            refusing = for_chain lists t declared s
                ∙ then_is _ (put_given (counter t s) declared s (omega arith))
                (err_then _ (ih (counter t s ∷ declared) (inside_for t s Γ) (suc n) (node t s).a r (statements_list t s (node t s).a f _ part l.enough x.a)
                (alike_declare declared (begin_region Γ) (counter t s) (constant Integer) refl h) (ap suc e) d));
          }
      one_refused r (in_block_declarations q d) =
          let part = part-statement t s Block q in
          let x = fields t w s _ part in
          record {
            kind = Block;
            stands = q;
            refusing = block_chain lists opens t declared s
                ∙ err_then _ (od (length declared) declared (begin_region Γ) n (node t s).a r (locals_list t s (node t s).a f _ part l.enough x.a) (agrees_begin declared Γ h) e d);
          }
      one_refused r (in_block {Γ' = Γ'} q ds room d) =
          let part = part-statement t s Block q in
          let x = fields t w s _ part in
          record {
            kind = Block;
            stands = q;
            refusing = block_chain lists opens t declared s
                ∙ gives_is _ (opening (length declared) declared (begin_region Γ) (node t s).a Γ' (locals_list t s (node t s).a f _ part l.enough x.a) (agrees_begin declared Γ h) ds
                (omega arith)) λ o v.
                err_then _ (ih o.declared Γ' (n + count ds) (node t s).b r (statements_list t s (node t s).b f _ part l.enough x.b) v.agrees.alike
                (v.longer ∙ ap (λ (k : ℕ). k + count ds) e) d);
          }
      one_refused r (in_get_target q d) =
          record { kind = Get; stands = q; refusing = get_chain t declared s ∙ err_then _ (target_refused t declared Γ s r h d) }
      one_refused r (in_put q d) =
          let x = fields t w s _ (part-statement t s Put q) in
          record {
            kind = Put;
            stands = q;
            refusing = put_statement_chain t declared s ∙ err_then _ (root_refused declared Γ (node t s).a r h (expressed_root t s (node t s).a x.a) d);
          }

      all_refused : (r : Refusal) → StatementsFault t Γ n s r → states exact lists opens (standing t s) t declared s ≡ Err r
      all_refused r (in_first d) =
          let g = one_refused r d in
          ap (λ k. states exact lists opens k t declared s) g.stands ∙ states_chain lists opens g.kind t declared s ∙ err_then _ g.refusing
      all_refused r (in_rest one room d) =
          let g = one_given t w lists opens f given opening declared Γ s l h one (subst (λ k. most_open_in one k ≤ 256) (sym e) room) in
          ap (λ k. states exact lists opens k t declared s) g.stands
          ∙ states_chain lists opens g.kind t declared s
          ∙ gives_is _ g.passing λ y v.
          err_then _ (ih declared Γ n (node t s).next r (next-statements t w f s g.kind g.stands l) h e d)

  -- A list that has a fault by the rules is refused with it.
  pub statements_refused : (f : ℕ) (declared : Environment) (Γ : Scope) (n s : ℕ) (r : Refusal) → Listed t Following f s → Alike declared Γ → length declared ≡ n
      → StatementsFault t Γ n s r → statements exact f t declared s ≡ Err r
  statements_refused zero declared Γ n s r l h e d = absurd (nodes_last t s l)
  statements_refused (suc f) declared Γ n s r l h e d =
      all_refused (statements exact f t) (declarations f t) f (statements_given t w f) (λ base. declarations_given t w base f) (statements_refused f)
      (λ base. declarations_refused t w base f) declared Γ n s l h e r d
