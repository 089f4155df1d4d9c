-- The lowest node at which a rule is broken.
use Rattle.std.proofs.Common.{◌≡◌, ℕ, zero, suc, ◌+◌, ◌<◌, Some, None, Option, sym, refl, ap, ◌∙◌, inl, inr, add-one, arith}
use Rattle.std.proofs.lemmas.Bool.{cases_eq}
use Rattle.std.proofs.lemmas.Option.{none-some}
use Rattle.std.specs.Option.{option_or}
use Rattle.procedure.specs.declared.form.FormFault.{FormFault}
use Rattle.procedure.specs.declared.form.FormFault.TheVariants.{Broken}
use Rattle.procedure.specs.declared.rules.Rule.{Rule}
use Rattle.procedure.specs.Form.{fault_at, lowest}

-- one node more
lowest-more : (broken : ℕ → Option Rule) (n : ℕ) → lowest broken (n + 1) ≡ option_or (lowest broken n) (fault_at n (broken n))
lowest-more broken n = ap (lowest broken) (add-one n)

-- the same, from what is found so far and the rule that the next node breaks
pub gathered : (broken : ℕ → Option Rule) (n : ℕ) (found next : Option FormFault) (o : Option Rule)
    → found ≡ lowest broken n → o ≡ broken n → next ≡ option_or found (fault_at n o) → next ≡ lowest broken (n + 1)
gathered broken n found next o p q e =
    e ∙ ap (λ x. option_or x (fault_at n o)) p ∙ ap (λ x. option_or (lowest broken n) (fault_at n x)) q ∙ sym (lowest-more broken n)

both_none : (n : ℕ) (found : Option FormFault) (o : Option Rule) → option_or found (fault_at n o) ≡ None → (found ≡ None) × (o ≡ None)
both_none n None None e = (refl, refl)
both_none n None (Some rule) e = absurd (none-some (Broken rule n) (sym e))
both_none n (Some f) o e = absurd (none-some f (sym e))

-- where no lowest is found, none is broken
pub none_broken : (broken : ℕ → Option Rule) (k : ℕ) → lowest broken k ≡ None → (i : ℕ) → i < k → broken i ≡ None
none_broken broken zero e i h = absurd (omega arith)
none_broken broken (suc k) e i h =
    let p = both_none k (lowest broken k) (broken k) e in
    elim (cases_eq i k) [ inl q ↦ ap broken q ∙ p.1 | inr d ↦ none_broken broken k p.0 i (omega (arith, d)) ]

-- what is found among the first k is the lowest
pub record Found (broken : ℕ → Option Rule) (k : ℕ) (e : FormFault) : Type 0 where
  pub rule : Rule
  pub at : ℕ
  pub told : e ≡ Broken rule at
  pub within : at < k
  pub breaks : broken at ≡ Some rule
  pub none_lower : (i : ℕ) → i < at → broken i ≡ None

found_longer : (broken : ℕ → Option Rule) (k : ℕ) (e : FormFault) → Found broken k e → Found broken (suc k) e
found_longer broken k e f = record {
  rule = f.rule;
  at = f.at;
  told = f.told;
  within = omega (arith, f.within);
  breaks = f.breaks;
  none_lower = f.none_lower;
}

found_by : (broken : ℕ → Option Rule) (k : ℕ) (e : FormFault) (found : Option FormFault) (o : Option Rule)
    → lowest broken k ≡ found → broken k ≡ o → ((d : FormFault) → lowest broken k ≡ Some d → Found broken k d)
    → option_or found (fault_at k o) ≡ Some e → Found broken (suc k) e
found_by broken k e (Some d) o p q before h =
    let s : d ≡ e = cc in
    found_longer broken k e (before e (p ∙ ap (λ x. Some x) s))
found_by broken k e None None p q before h = absurd (none-some e h)
found_by broken k e None (Some rule) p q before h = record {
  rule = rule;
  at = k;
  told = cc;
  within = omega arith;
  breaks = q;
  none_lower = none_broken broken k p;
}

pub lowest_found : (broken : ℕ → Option Rule) (k : ℕ) (e : FormFault) → lowest broken k ≡ Some e → Found broken k e
lowest_found broken zero e h = absurd (none-some e h)
lowest_found broken (suc k) e h = found_by broken k e (lowest broken k) (broken k) refl refl (lowest_found broken k) h
