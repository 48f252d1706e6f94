use Rattle.std.proofs.Common.{refl}
use Rattle.std.proofs.Output.{has_written_of_eq, has_written_append}
use Rattle.mad_screen.specs.Pictures.{row_text}
use Rattle.mad_screen.proofs.Lines.{line_more}
use Rattle.mad_screen.proofs.pictures.ScreenDisplay.fmt.Goals as goal

pub loop-y-preserved : goal.loop-y-preserved
loop-y-preserved g c = λ plain.
    let lines = c.loop-y.invariant plain in
    has_written_of_eq _ _ _ _ _ (line_more row_text c.args.self.now c.loop-y.y c.row.result.now c.row.ensures)
    (has_written_append _ _ _ _ _ _ lines (c.in_ok-write.ensures.writes lines.plain refl))
