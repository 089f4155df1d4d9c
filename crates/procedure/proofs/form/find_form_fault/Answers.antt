-- Levels are measured only where no rule is broken; what is found means what the definition's fault means.
use Rattle.std.proofs.Common.{length, Some, sym, rules}
use Rattle.procedure.specs.Rules.{broken_rule}
use Rattle.procedure.proofs.Lowest.{none_broken}
use Rattle.procedure.proofs.Verdicts.{meant}
use Rattle.procedure.proofs.form.find_form_fault.Goals as goal

pub levels-requires : goal.levels-requires
levels-requires c = record {
  obeyed = none_broken (broken_rule c.of-table.result.nodes.now) (length c.of-table.result.nodes.now) (sym c.in_default.ensures.found);
}

pub returns-in-Some-clause-meaning : goal.returns-in-Some-clause-meaning
returns-in-Some-clause-meaning c = meant c.args.nodes.now (Some c.in-Some.fault) (search rules)

pub returns-clause-meaning : goal.returns-clause-meaning
returns-clause-meaning c = meant c.args.nodes.now c.lowest_too_deep.result (search rules)
