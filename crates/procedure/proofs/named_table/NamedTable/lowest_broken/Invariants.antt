-- What is found is the lowest so far that breaks a rule.
use Rattle.std.proofs.Common.{◌≡◌, length}
use Rattle.procedure.specs.Form.{lowest}
use Rattle.procedure.specs.Rules.{broken_rule}
use Rattle.procedure.proofs.named_table.NamedTable.lowest_broken.Given as goal

abbrev pub invariant-loop-n : goal.invariant-loop-n
invariant-loop-n l = l.found ≡ lowest (broken_rule l.self.nodes.now) (length l.yielded)
