-- By computation.
use Rattle.std.proofs.Common.{refl}
use Rattle.checker.specs.Typing.{typed}
use Rattle.check_examples.proofs.shown.check_examples_stand.Goals as goal

pub returns : goal.returns
unfolding typed
returns c =
    record {
      shown = record {
        predefined_name_declared = refl;
        mark_inside_its_own_declaration = refl;
        name_inside_its_own_declaration = refl;
        ceiling_at_the_limit = refl;
        ceiling_above_the_limit = refl;
      };
    }
