-- One node more.
use Rattle.std.proofs.Common.{◌-◌, sym, ◌∙◌, inl, inr, eq-or-lt_of_le, arith}
use Rattle.std.proofs.lemmas.List.{length-set}
use Rattle.procedure.proofs.Levels.{downward}
use Rattle.procedure.proofs.named_table.NamedTable.note_downward.Goals as goal

pub loop-n-preserved : goal.loop-n-preserved
loop-n-preserved c =
    let step =
    downward c.args.self.now.nodes.now c.requires.obeyed c.args.self.now.few c.loop-n.levels _ c.level_by.result (c.loop-n.n - 1) (omega arith)
    c.loop-n.invariant.0 (c.args.self.now.named (c.loop-n.n - 1) (omega arith)) c.level_by.ensures.exact
    c.loop-n.invariant.1 (λ k g i. c.loop-n.invariant.2 k (omega (arith, g)) i) in (
      length-set _ _ _ ∙ c.loop-n.invariant.0,
      λ k h f. step k h (inr (inr f)),
      λ k g h. step k h (elim (eq-or-lt_of_le g) [ inl e ↦ inr (inl (sym e)) | inr l ↦ inl l ]),
    )
