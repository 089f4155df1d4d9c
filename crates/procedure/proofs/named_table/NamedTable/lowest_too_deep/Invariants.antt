-- What is found is the lowest so far that lies too deep.
use Rattle.std.proofs.Common.{◌≡◌}
use Rattle.procedure.specs.Form.{lowest, too_deep}
use Rattle.procedure.proofs.named_table.NamedTable.lowest_too_deep.Given as goal

abbrev pub invariant-loop-n : goal.invariant-loop-n
invariant-loop-n l = l.found ≡ lowest (too_deep l.self.nodes.now) l.n
