-- One node more.
use Rattle.std.proofs.Common.{◌∙◌, arith}
use Rattle.std.proofs.lemmas.List.{length-set}
use Rattle.procedure.proofs.Levels.{upward}
use Rattle.procedure.proofs.named_table.NamedTable.note_upward.Goals as goal

pub loop-n-preserved : goal.loop-n-preserved
loop-n-preserved c = (
  length-set _ _ _ ∙ c.loop-n.invariant.0,
  upward c.args.self.now.nodes.now c.requires.obeyed c.args.self.now.few c.loop-n.levels _ c.level_by.result c.loop-n.n c.loop-n-test.true
      c.loop-n.invariant.0 (c.args.self.now.named c.loop-n.n (omega arith)) c.level_by.ensures.exact c.loop-n.invariant.1,
)
