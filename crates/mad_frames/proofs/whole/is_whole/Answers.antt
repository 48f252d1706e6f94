use Rattle.std.proofs.Common.{◌≡◌, true, ap, sym, ◌∙◌, below_more}
use Rattle.mad_screen.specs.Pictures.{row_cells}
use Rattle.mad_frames.specs.Whole.{are_whole}
use Rattle.mad_frames.proofs.whole.is_whole.Goals as goal

pub loop-y-preserved : goal.loop-y-preserved
loop-y-preserved c =
    below_more (λ y. are_whole (row_cells c.args.screen.now y) ≡ true) _ c.loop-y.invariant
    (ap are_whole (sym c.row.ensures) ∙ sym c.are_whole.ensures ∙ c.if-not-are_whole.false)
