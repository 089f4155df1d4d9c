-- The front and the back, at the first separator and where there is none.
use Rattle.std.proofs.Common.{sym, ◌∙◌, rules, tests}
use Rattle.std.proofs.lemmas.List.{take_rest}
use Rattle.std.proofs.lemmas.Iterator.{YieldsList-from_slice}
use Rattle.std.proofs.lemmas.Iterator.Search.{position_from_yields_List}
use Rattle.files.specs.Scan.{cuts}
use Rattle.files.proofs.Cuts.{cut_here, cut_nowhere}
use Rattle.files.proofs.cut.cut_once.Goals as goal

pub returns-in-Some : goal.returns-in-Some
returns-in-Some c =
    let found = position_from_yields_List (cuts c.args.separator) _ _ c.position.result c.position.ensures.ran (YieldsList-from_slice c.args.text.now cc) (λ x b q k. search (rules, tests)) in
    search (rules, take_rest, cut_here c.args.separator c.args.text.now c.in-Some.i (sym c.in-Some.is ∙ found))

pub returns-in-None : goal.returns-in-None
returns-in-None c =
    let found = position_from_yields_List (cuts c.args.separator) _ _ c.position.result c.position.ensures.ran (YieldsList-from_slice c.args.text.now cc) (λ x b q k. search (rules, tests)) in
    search (rules, cut_nowhere c.args.separator c.args.text.now (sym c.in-None.is ∙ found))
