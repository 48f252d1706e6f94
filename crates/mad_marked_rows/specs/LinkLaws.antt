-- What callers rely on of links.
use Rattle.std.specs.Prelude.{◌≡◌, ℕ, Bool, List, [], Option, map}
use Rattle.mad_md.specs.Flagged.{Flags}
use Rattle.mad_term.specs.declared.styles.ContentStyle.{ContentStyle}
use Rattle.mad_term.specs.Styles.{IsStyle}
use Rattle.mad_screen.specs.Glyph.{Look}
use Rattle.mad_screen.specs.Grid.{Grid}
use Rattle.mad_screen.specs.Terminal.{after_bytes}
use Rattle.mad_style.specs.declared.kinds.CompositeKind.{CompositeKind}
use Rattle.mad_draw.specs.Pieces.{AreKnown, AreShownPieces, pieces_bytes}
use Rattle.mad_format.specs.declared.line.FmtLine.{FmtLine}
use Rattle.mad_rows.specs.Rows.{line_pieces}
use Rattle.mad_rows.specs.declared.row_skin.RowSkin.{RowSkin}
use Rattle.mad_links.specs.LinkRows.{AreAddresses, linked_bytes, row_cells}
use Rattle.mad_links.specs.LinkTerminal.{LinkPaints}
use Rattle.mad_links.specs.SkippingTerminal.{after_skipping}
use Rattle.mad_links.specs.LinkedAreas.{without_links}
use Rattle.mad_mark_runs.specs.declared.mark_runs.MarkRun.{MarkRun}
use Rattle.mad_marked_rows.specs.Told.{told_cell, told_cells, TellsNothing}
use Rattle.mad_marked_rows.specs.RowLaws.{AreTexts}
use Rattle.mad_marked_rows.specs.LinkedRows.{linked_line}
use Rattle.mad_marked_rows.specs.MarkedRows.{marked_line}

-- without its links a line is what it is with its tones alone
abbrev pub LinksAreOnMarks : Type 0
LinksAreOnMarks =
    (paint : ℕ → ContentStyle → ContentStyle) (has : CompositeKind → Flags → Bool) (runs : List MarkRun) (skin : RowSkin) (outer : Option ℕ) (filled : Bool) (numbers : List ℕ) (line : FmtLine)
    → without_links (linked_line paint has runs skin outer filled numbers line) ≡ marked_line paint has runs skin outer filled numbers line

-- without an address the bytes are those of the tones alone
abbrev pub NoAddressNoByte : Type 0
NoAddressNoByte =
    (paint : ℕ → ContentStyle → ContentStyle) (has : CompositeKind → Flags → Bool) (runs : List MarkRun) (skin : RowSkin) (outer : Option ℕ) (filled : Bool) (numbers : List ℕ) (line : FmtLine)
    → linked_bytes [] (linked_line paint has runs skin outer filled numbers line) ≡ pieces_bytes (marked_line paint has runs skin outer filled numbers line)

-- What is asked: the line shows cells of its own, and the numbers of its colors and of those that marks make are bytes; each address can be written. All of
-- it is asked of the line without marks.
pub record IsLinkableLine (paint : ℕ → ContentStyle → ContentStyle) (skin : RowSkin) (outer : Option ℕ) (filled : Bool) (line : FmtLine) (addresses : List (Option (List ℕ))) : Type 0 where
  pub shown : AreShownPieces (line_pieces skin outer filled line)
  pub known : AreKnown (line_pieces skin outer filled line)
  pub paint_known : (v : ℕ) (style : ContentStyle) → IsStyle style → IsStyle (paint v style)
  pub writable : AreAddresses addresses

-- THE LAW of what is shown: a terminal that passes over links ends as the plain one does that reads the line with its tones alone.
abbrev pub LinesAreTheSame : Type 0
LinesAreTheSame =
    (paint : ℕ → ContentStyle → ContentStyle) (has : CompositeKind → Flags → Bool) (runs : List MarkRun) (skin : RowSkin) (outer : Option ℕ) (filled : Bool) (numbers : List ℕ) (line : FmtLine) (addresses : List (Option (List ℕ)))
    → IsLinkableLine paint skin outer filled line addresses
    → (g : Grid) → after_skipping g (linked_bytes addresses (linked_line paint has runs skin outer filled numbers line)) ≡ after_bytes g (pieces_bytes (marked_line paint has runs skin outer filled numbers line))

-- THE LAW of links: the line writes its cells, each with the link of its part, and leaves none open.
abbrev pub LinksAreInTheirCells : Type 0
LinksAreInTheirCells =
    (paint : ℕ → ContentStyle → ContentStyle) (has : CompositeKind → Flags → Bool) (runs : List MarkRun) (skin : RowSkin) (outer : Option ℕ) (filled : Bool) (numbers : List ℕ) (line : FmtLine) (addresses : List (Option (List ℕ)))
    → IsLinkableLine paint skin outer filled line addresses
    → LinkPaints (linked_bytes addresses (linked_line paint has runs skin outer filled numbers line)) (row_cells addresses (linked_line paint has runs skin outer filled numbers line))

-- and these cells are those of the line without marks, by what `tell` tells of their pens, where it tells nothing of what marks make of a style
abbrev pub LinkedCellsAreTold : Type 0
LinkedCellsAreTold =
    (tell : Look → Look) (paint : ℕ → ContentStyle → ContentStyle) (has : CompositeKind → Flags → Bool) (runs : List MarkRun) (skin : RowSkin) (outer : Option ℕ) (filled : Bool) (numbers : List ℕ) (line : FmtLine) (addresses : List (Option (List ℕ)))
    → TellsNothing tell paint → AreTexts line → AreShownPieces (line_pieces skin outer filled line)
    → map (λ c. told_cell tell c.glyph) (row_cells addresses (linked_line paint has runs skin outer filled numbers line)) ≡ told_cells tell (line_pieces skin outer filled line)
