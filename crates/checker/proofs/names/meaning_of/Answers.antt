-- The declaration at the place found tells the meaning; where there is none, what is predefined does.
use Rattle.std.proofs.Common.{Some, None, sym, ap, ◌∙◌}
use Rattle.checker.proofs.Named.{meant}
use Rattle.checker.proofs.names.meaning_of.Goals as goal

pub returns-in-Some : goal.returns-in-Some
returns-in-Some c =
    let found = meant c.args.name c.args.declared.now (Some c.in-Some.i) (sym c.in-Some.is ∙ c.newest_named.ensures.place) in
    record { innermost = ap Some c.meaning.ensures.meant ∙ sym (found _) }

pub returns-in-None : goal.returns-in-None
returns-in-None c =
    let none = meant c.args.name c.args.declared.now None (sym c.in-None.is ∙ c.newest_named.ensures.place) in
    record { innermost = c.predefined_meaning.ensures.predefined ∙ sym none }
