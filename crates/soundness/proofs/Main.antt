-- The theorem: what passed the check and was begun stays sound.
use Rattle.std.proofs.Common.{◌≡◌, ℕ, ◌≤◌, false, length, Ok, Err, Result, sym, subst, MatchResult}
use Rattle.std.proofs.lemmas.Bool.{leb-true, not-true}
use Rattle.procedure.specs.declared.refusal.Refusal.{Refusal}
use Rattle.procedure.specs.Form.{is_bulky, tested}
use Rattle.procedure.specs.Formed.{Formed, Deserved}
use Rattle.procedure.specs.Table.{Table}
use Rattle.procedure.proofs.Verdicts.{judged as form_judged}
use Rattle.checker.specs.declared.answer.Sheet.{Sheet}
use Rattle.checker.specs.Cost.{exact}
use Rattle.checker.specs.Walk.{procedure, checked}
use Rattle.checker.proofs.Chains.{checked_chain, judged_chain}
use Rattle.soundness.specs.Sound.{starting, StaysSound}
use Rattle.soundness.proofs.Begins.{begun_good, begins_safe}
use Rattle.soundness.proofs.Ends.{safe_sound}
use Rattle.soundness.proofs.Good.{Passes, procedure_good}
use Rattle.soundness.proofs.Meets.{Meets, met, unmet, meets_then, met_by, wanted}
use Rattle.soundness.proofs.Safe.{calls_safe}

-- what a passed check says
record Checked (t : Table) (sheet : Sheet) : Type 0 where
  small : is_bulky t ≡ false
  formed : Formed t
  passes : Passes t sheet
  low : sheet.ceiling ≤ 1000000000

tested_good : (t : Table) → Meets (λ _. Formed t) (tested t)
tested_good t = go (tested t) (form_judged t)
  where
    go : (r : Result (Unit {0}) Refusal) → MatchResult r (λ _. Formed t) (Deserved t) → Meets (λ _. Formed t) r
    go (Ok u) h = met h
    go (Err e) h = unmet

checked_good : (t : Table) (w : ℕ) → Meets (Checked t) (checked t w)
checked_good t w =
    subst (Meets (Checked t)) (sym (checked_chain t w))
    (meets_then (wanted _ _ _) λ _ b. meets_then (wanted _ _ _) λ _ _. meets_then (tested_good t) λ _ f. meets_then (wanted _ _ _) λ _ _.
    subst (Meets (Checked t)) (sym (judged_chain (procedure exact (length t) t)))
    (meets_then (procedure_good (length t) t) λ s p. meets_then (wanted _ _ _) λ _ l.
    met (record { small = not-true (is_bulky t) b; formed = f; passes = p; low = leb-true _ _ l })))

pub stays_sound : StaysSound
stays_sound t w sheet values rows frames port b e q lr lf calls =
    let c = met_by e (checked_good t w) in
    let g = met_by q (begun_good t values rows) in
    let a = begins_safe t sheet values rows frames port b c.formed c.passes lr lf g in
    safe_sound _ c.formed c.small c.low (calls_safe calls (starting b frames port) c.formed a)
