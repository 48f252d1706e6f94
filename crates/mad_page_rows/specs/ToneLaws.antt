-- The law of tones: they change nothing of a row but pens.
use Rattle.std.specs.Prelude.{◌≡◌, ℕ, Bool, [], Option}
use Rattle.mad_screen.specs.Glyph.{Look}
use Rattle.mad_draw.specs.Pieces.{AreShownPieces}
use Rattle.mad_marked_rows.specs.Paints.{paint_by}
use Rattle.mad_marked_rows.specs.Told.{told_cells, TellsNothing}
use Rattle.mad_rows.specs.RowStyles.{tone_styles}
use Rattle.mad_rows.specs.declared.row_skin.RowSkin.{RowSkin}
use Rattle.mad_pages.specs.PageRows.{RowContent}
use Rattle.mad_page_rows.specs.Faces.{behind_pieces, page_row_pieces}

-- the row without marks
abbrev pub without_marks : RowContent → RowContent
without_marks row = record row { marks = [] }

-- THE LAW: the cells that a plain terminal shows of a row with marks, by what `tell` tells of their pens, are those of the row without, where these are
-- cells of its own. It is to tell nothing of what tones make of a style: nothing at all of pens, or all that tones don't set.
abbrev pub TonesChangeNothing : Type 0
TonesChangeNothing = (tell : Look → Look) (skin : RowSkin) (outer : Option ℕ) (filled : Bool) (row : RowContent)
    → TellsNothing tell (paint_by (tone_styles skin)) → AreShownPieces (behind_pieces skin outer filled (without_marks row))
    → told_cells tell (page_row_pieces skin outer filled row) ≡ told_cells tell (page_row_pieces skin outer filled (without_marks row))
