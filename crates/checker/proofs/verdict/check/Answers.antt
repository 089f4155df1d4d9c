-- What the walk answers is what is allowed, and its refusals are right.
use Rattle.std.proofs.Common.{◌≡◌, ◌↔◌, ℕ, Ok, Err, rules, sym, ◌∙◌}
use Rattle.procedure.specs.declared.refusal.Refusal.{Refusal}
use Rattle.procedure.specs.Table.{Table}
use Rattle.checker.specs.declared.answer.Sheet.{Sheet}
use Rattle.procedure.specs.Sequence.{Answer}
use Rattle.checker.specs.Exactly.{Passes}
use Rattle.checker.specs.Rightly.{RefusedRightly}
use Rattle.checker.specs.Walk.{checked}
use Rattle.checker.proofs.Whole.{exactly, rightly}
use Rattle.checker.proofs.verdict.check.Goals as goal

allowed : (t : Table) (w : ℕ) (r : Answer Sheet) (s : Sheet) → r ≡ checked t w → (r ≡ Ok s) ↔ Passes t w s
allowed t w r s e = ((λ q. (exactly t w s).0 (sym e ∙ q)), (λ h. e ∙ (exactly t w s).1 h))

refused : (t : Table) (w : ℕ) (r : Answer Sheet) (f : Refusal) → r ≡ checked t w → (r ≡ Err f) ↔ RefusedRightly t w f
refused t w r f e = ((λ q. (rightly t w f).0 (sym e ∙ q)), (λ h. e ∙ (rightly t w f).1 h))

pub returns-in_err-demand-2-clause-refused_rightly : goal.returns-in_err-demand-2-clause-refused_rightly
returns-in_err-demand-2-clause-refused_rightly c = λ f. refused _ _ _ f (search rules)

pub returns-clause-exactly_allowed : goal.returns-clause-exactly_allowed
returns-clause-exactly_allowed c = λ s. allowed _ _ _ s (search rules)

pub returns-clause-refused_rightly : goal.returns-clause-refused_rightly
returns-clause-refused_rightly c = λ f. refused _ _ _ f (search rules)
