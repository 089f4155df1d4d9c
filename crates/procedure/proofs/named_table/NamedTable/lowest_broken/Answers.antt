-- One node more.
use Rattle.std.proofs.Common.{sym, ap, ◌∙◌, arith, length}
use Rattle.std.specs.Option.{option_or}
use Rattle.std.proofs.lemmas.List.{length-append}
use Rattle.procedure.specs.declared.naming.Naming.TheVariants.{Never}
use Rattle.procedure.specs.Form.{fault_at, lowest}
use Rattle.procedure.specs.Rules.{broken_rule, broken_by}
use Rattle.procedure.specs.Table.{node, blank}
use Rattle.procedure.proofs.Lowest.{gathered}
use Rattle.procedure.proofs.Turns.{turn}
use Rattle.procedure.proofs.named_table.NamedTable.lowest_broken.Goals as goal

pub loop-n-preserved : goal.loop-n-preserved
loop-n-preserved c =
    let t = c.args.self.now in
    let k = length c.loop-n.yielded in
    let x = c.in-Some.node in
    let s = c.in-Some.naming in
    let w =
    turn t.nodes.now t.namings c.loop-n.yielded c.into_iter-n-iterator.result c.loop-n.n-iterator c.next.new.self c.in-Some.n (x, s) (cc) (cc) (cc)
    c.loop-n.yielded_by c.in-Some.ensures.steps in
    gathered (broken_rule t.nodes.now) k c.loop-n.found c.gather-found.result c.broken_rule.result c.loop-n.invariant
    (c.broken_rule.ensures.first ∙ ap (λ i. broken_by t.nodes.now i x.now s.now) w.0 ∙ ap (λ y. broken_by t.nodes.now k y s.now) (w.2 blank)
    ∙ ap (broken_by t.nodes.now k (node t.nodes.now k)) (w.3 Never ∙ t.named k (omega (arith, w.1, t.few))))
    (c.gather-found.ensures.lower ∙ ap (λ i. option_or c.loop-n.found (fault_at i c.broken_rule.result)) w.0)
    ∙ ap (lowest (broken_rule t.nodes.now)) (sym (length-append c.loop-n.yielded _))
