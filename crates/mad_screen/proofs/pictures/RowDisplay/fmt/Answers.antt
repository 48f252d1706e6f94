use Rattle.std.proofs.Common.{◌++◌, take, refl, ap, ◌∙◌}
use Rattle.std.specs.List.{flat_map}
use Rattle.std.proofs.Output.{has_written_of_eq, has_written_append}
use Rattle.mad_screen.specs.Glyph.{Glyph}
use Rattle.mad_screen.specs.Pictures.{cell_text}
use Rattle.mad_screen.proofs.Lines.{piece_more}
use Rattle.mad_screen.proofs.pictures.RowDisplay.fmt.Goals as goal

pub loop-cell-preserved : goal.loop-cell-preserved
loop-cell-preserved g c = λ plain.
    let cells = c.args.self.now.0.now in
    let i = c.loop-cell.cell-index in
    let one = c.cell-item.result in
    let before = c.loop-cell.invariant plain in
    has_written_of_eq _ _ _ _ _ (ap (λ (x : Glyph). flat_map cell_text (take i cells) ++ cell_text x) c.cell-item.is ∙ piece_more cell_text cells i one c.loop-cell-test.true)
    (has_written_append _ _ _ _ _ _ before (c.in_ok-write.ensures.writes before.plain refl))
