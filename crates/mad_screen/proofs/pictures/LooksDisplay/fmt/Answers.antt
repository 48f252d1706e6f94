use Rattle.std.proofs.Common.{map, List, ℕ, refl, ap, ◌∙◌}
use Rattle.std.proofs.Math.Utf8.{encode}
use Rattle.std.proofs.Output.{has_written_of_eq, has_written_append}
use Rattle.std.proofs.lemmas.List.{take_all}
use Rattle.mad_screen.specs.Glyph.{Glyph, look_of}
use Rattle.mad_screen.specs.Pictures.{letter_of, row_letters}
use Rattle.mad_screen.proofs.Lines.{line_more, piece_more}
use Rattle.mad_screen.proofs.pictures.LooksDisplay.fmt.Goals as goal

pub loop-y-preserved : goal.loop-y-preserved
loop-y-preserved g c = λ plain.
    let known = map look_of c.args.self.now.pens.items in
    let lines = c.loop-y.invariant plain in
    let line = c.loop-cell.invariant lines.plain in
    let end = c.in_ok-write-2.ensures.writes line.plain refl in
    let cells = c.row-cell-items.result.now in
    let all = take_all c.loop-cell.cell-index cells c.loop-cell-test.false in
    has_written_of_eq _ _ _ _ _ (line_more (row_letters known) c.args.self.now.screen.now c.loop-y.y _ (all ∙ c.row-cell-items.ensures))
    (has_written_append _ _ _ _ _ _ lines (has_written_append _ _ _ _ _ _ line end))

pub loop-cell-preserved : goal.loop-cell-preserved
loop-cell-preserved g c = λ plain.
    let known = map look_of c.args.self.now.pens.items in
    let part : Glyph → List ℕ = λ cell. encode (letter_of known cell.pen) in
    let line = c.loop-cell.invariant plain in
    let cells = c.row-cell-items.result.now in
    let letter = c.letter-letter.ensures ∙ ap (λ (cell : Glyph). letter_of known cell.pen) (c.cell.view_is ∙ c.cell-item.is) in
    has_written_of_eq _ _ _ _ _ (piece_more part cells c.loop-cell.cell-index c.cell-item.result c.loop-cell-test.true)
    (has_written_append _ _ _ _ _ _ line (has_written_of_eq _ _ _ _ _ (ap encode letter) (c.in_ok-write.ensures.writes line.plain refl)))
