-- What the verdict of the form test means.
use Rattle.std.proofs.Common.{◌≡◌, ℕ, ◌<◌, ◌≤◌, Bool, true, false, cond, length, Some, None, Option, sym, refl, subst, arith, MatchOption, MatchResult}
use Rattle.std.specs.Option.{option_or}
use Rattle.procedure.specs.declared.form.FormFault.{FormFault}
use Rattle.procedure.specs.declared.form.FormFault.TheVariants.{Bulky, Broken}
use Rattle.procedure.specs.declared.rules.Rule.{Rule}
use Rattle.procedure.specs.Form.{lowest, is_bulky, too_deep, form_fault, refusal_of, verdict_on, tested}
use Rattle.procedure.specs.Formed.{Formed, Lowest, MisshapenAt, by_rule, by_depth, Deserved, bulky, misshapen}
use Rattle.procedure.specs.Level.{level}
use Rattle.procedure.specs.Limits.{node_limit, level_limit}
use Rattle.procedure.specs.Rules.{broken_rule, Obeys}
use Rattle.procedure.specs.Table.{Table}
use Rattle.procedure.proofs.Lowest.{none_broken, Found, lowest_found}
use Rattle.procedure.proofs.Trees.{tree}

abbrev Judged : Table → Option FormFault → Type 0
Judged t fault = MatchResult (verdict_on fault) (λ _. Formed t) (Deserved t)

found_lowest : (t : Table) (broken : ℕ → Option Rule) (e : FormFault) → (f : Found broken (length t) e) → Lowest t broken f.at
found_lowest t broken e f = record { rule = f.rule; within = f.within; breaks = f.breaks; none_lower = f.none_lower }

misshapen_by : (t : Table) (e : FormFault) (rule : Rule) (n : ℕ) → e ≡ Broken rule n → MisshapenAt t n → Deserved t (refusal_of e)
misshapen_by t e rule n q h = subst (λ x. Deserved t (refusal_of x)) (sym q) (misshapen h refl)

shallow_by : (t : Table) (n : ℕ) → too_deep t n ≡ None → level t n ≤ level_limit
shallow_by t n e = grind (arith, e)

judged-depth : (t : Table) → 0 < length t → length t ≤ node_limit → Obeys t
    → (o : Option FormFault) → lowest (too_deep t) (length t) ≡ o → Judged t o
judged-depth t s f w None e = record {
  some = s;
  few = f;
  obeys = w;
  shallow = λ n h. shallow_by t n (none_broken (too_deep t) (length t) e n h);
  tree = tree t w;
}
judged-depth t s f w (Some d) e =
    let x = lowest_found (too_deep t) (length t) d e in
    misshapen_by t d x.rule x.at x.told (by_depth w (found_lowest t (too_deep t) d x))

judged_rules : (t : Table) → 0 < length t → length t ≤ node_limit
    → (o : Option FormFault) → lowest (broken_rule t) (length t) ≡ o → Judged t (option_or o (lowest (too_deep t) (length t)))
judged_rules t s f None e =
    judged-depth t s f (none_broken (broken_rule t) (length t) e) (lowest (too_deep t) (length t)) refl
judged_rules t s f (Some d) e =
    let x = lowest_found (broken_rule t) (length t) d e in
    misshapen_by t d x.rule x.at x.told (by_rule (found_lowest t (broken_rule t) d x))

pub some_of : (t : Table) → is_bulky t ≡ false → (0 < length t) × (length t ≤ node_limit)
some_of t e = (grind (arith, e), grind (arith, e))

judged_size : (t : Table) (b : Bool) → is_bulky t ≡ b
    → Judged t (cond b (Some Bulky) (option_or (lowest (broken_rule t) (length t)) (lowest (too_deep t) (length t))))
judged_size t true e = bulky e refl
judged_size t false e = let s = some_of t e in judged_rules t s.0 s.1 (lowest (broken_rule t) (length t)) refl

-- The form test passes what has the form of a procedure, and its refusals are deserved.
pub judged : (t : Table) → MatchResult (tested t) (λ _. Formed t) (Deserved t)
judged t = judged_size t (is_bulky t) refl

-- the same of the fault that is found, if any
abbrev pub Meant : Table → Option FormFault → Type 0
Meant t fault = MatchOption fault (Formed t) (λ f. Deserved t (refusal_of f))

meant_by : (t : Table) (o : Option FormFault) → Judged t o → Meant t o
meant_by t None p = p
meant_by t (Some f) p = p

pub meant : (t : Table) (o : Option FormFault) → o ≡ form_fault t → Meant t o
meant t o e = subst (Meant t) (sym e) (meant_by t (form_fault t) (judged t))
