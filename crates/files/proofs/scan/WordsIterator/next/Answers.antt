-- The first piece that is not empty.
use Rattle.std.proofs.Common.{◌∙◌, rules, tests}
use Rattle.files.specs.Scan.{words_left}
use Rattle.files.proofs.Cuts.{finds_word_keeping_sign, goes_on}
use Rattle.files.proofs.scan.WordsIterator.next.Goals as goal

pub returns : goal.returns
returns c =
    let found = finds_word_keeping_sign _ _ (λ x b q k. search (rules, tests)) c.args.self.now.pieces c.find.new.self c.find.result c.find.ensures.ran in
    record { steps = found.0; goes = goes_on (λ x. x.now) words_left (λ _. tt) _ _ _ found.0 }

pub invariant_of-self : goal.invariant_of-self
invariant_of-self c =
    let found = finds_word_keeping_sign _ _ (λ x b q k. search (rules, tests)) c.args.self.now.pieces c.find.new.self c.find.result c.find.ensures.ran in
    record { by_words = found.1 ∙ c.args.self.now.by_words }
