-- The verdict is the definition's, and means what every verdict of it means.
use Rattle.std.proofs.Common.{◌≡◌, Ok, Err, Result, sym, subst, rules, MatchResult}
use Rattle.procedure.specs.declared.refusal.Refusal.{Refusal}
use Rattle.procedure.specs.Form.{tested}
use Rattle.procedure.specs.Formed.{Formed, Deserved}
use Rattle.procedure.specs.Table.{Table}
use Rattle.procedure.proofs.Verdicts.{judged}
use Rattle.procedure.proofs.form.test_form.Goals as goal

meant : (t : Table) (r : Result (Unit {0}) Refusal) → r ≡ tested t → MatchResult r (λ _. Formed t) (Deserved t)
meant t r e = subst (λ x. MatchResult x (λ _. Formed t) (Deserved t)) (sym e) (judged t)

pub returns-in-None-clause-meaning : goal.returns-in-None-clause-meaning
returns-in-None-clause-meaning c = meant c.args.nodes.now (Ok tt) (search rules)

pub returns-in-Some-clause-meaning : goal.returns-in-Some-clause-meaning
returns-in-Some-clause-meaning c = meant c.args.nodes.now (Err c.into.result) (search rules)
