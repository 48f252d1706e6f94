-- Rows with marks, each part in the link of its mark: `marked_line` with links.
use Rattle.std.specs.Prelude.{ℕ, ◌+◌, Bool, true, List, [], ◌∷◌, ◌++◌, map, Option, None, chars, drop, slice_index, if◌then◌else◌}
use Rattle.mad_md.specs.Flagged.{Flags, flagged_of, flags_of, run_of}
use Rattle.mad_md.specs.declared.compound.Compound.{Compound}
use Rattle.mad_term.specs.declared.styles.ContentStyle.{ContentStyle}
use Rattle.mad_style.specs.declared.kinds.CompositeKind.{CompositeKind}
use Rattle.mad_style.specs.declared.line_styles.LineStyle.{LineStyle}
use Rattle.mad_draw.specs.Pieces.{spaces}
use Rattle.mad_format.specs.declared.composite.FmtComposite.{FmtComposite}
use Rattle.mad_format.specs.declared.line.FmtLine.{FmtLine}
use Rattle.mad_format.specs.declared.line.FmtLine.TheVariants.{Normal, TableRow}
use Rattle.mad_rows.specs.RowStyles.{compound_style, line_style}
use Rattle.mad_rows.specs.Rows.{cell_margins, compound_piece, left_of_place, line_pieces, margins_of, right_of_place, row_columns, vertical_piece}
use Rattle.mad_rows.specs.declared.row_skin.RowSkin.{RowSkin}
use Rattle.mad_links.specs.LinkRows.{LinkedPiece}
use Rattle.mad_links.specs.LinkedAreas.{in_no_link}
use Rattle.mad_links.specs.LinkedLines.{composite_links}
use Rattle.mad_mark_runs.specs.declared.mark_runs.MarkRun.{MarkRun}
use Rattle.mad_marks.specs.RowMarks.{counted}
use Rattle.mad_marked_rows.specs.LinkedTexts.{text_links}

-- a compound before which so many counted characters are: its parts in their links where it is counted, else its piece, in none
abbrev pub linked_compound : (ℕ → ContentStyle → ContentStyle) → (Flags → Bool) → List MarkRun → RowSkin → LineStyle → ℕ → Compound → List LinkedPiece
linked_compound paint has runs skin style n k =
    if has (flags_of k) then text_links paint runs (compound_style skin style (run_of k)).object_style n (chars k.src.now) else in_no_link (compound_piece skin style k) ∷ []

-- compounds in a row
abbrev pub linked_compounds : (ℕ → ContentStyle → ContentStyle) → (Flags → Bool) → List MarkRun → RowSkin → LineStyle → ℕ → List Compound → List LinkedPiece
linked_compounds paint has runs skin style n [] = []
linked_compounds paint has runs skin style n (k ∷ ks) = linked_compound paint has runs skin style n k ++ linked_compounds paint has runs skin style (n + counted has (flagged_of k)) ks

-- a composite at an outer width with these margins: its blanks and its prefix are in no link
abbrev pub linked_composite : (ℕ → ContentStyle → ContentStyle) → (CompositeKind → Flags → Bool) → List MarkRun → RowSkin → Option ℕ → ℕ × ℕ → Bool → ℕ → FmtComposite → List LinkedPiece
linked_composite paint has runs skin outer margins filled n l =
    composite_links skin outer margins filled l (linked_compounds paint (has l.kind) runs skin (line_style skin l.kind) n l.compounds.items)

-- cells, a border before each; a cell without a number has 0
abbrev pub linked_cells : (ℕ → ContentStyle → ContentStyle) → (CompositeKind → Flags → Bool) → List MarkRun → RowSkin → List ℕ → List FmtComposite → List LinkedPiece
linked_cells paint has runs skin ns [] = []
linked_cells paint has runs skin ns (c ∷ cs) =
    (in_no_link (vertical_piece skin) ∷ linked_composite paint has runs skin None (cell_margins skin) true (slice_index ns 0) c) ++ linked_cells paint has runs skin (drop 1 ns) cs

-- a row of a table: its cells, and a last border, between blanks
abbrev pub linked_table_row : (ℕ → ContentStyle → ContentStyle) → (CompositeKind → Flags → Bool) → List MarkRun → RowSkin → Option ℕ → Bool → List ℕ → List FmtComposite → List LinkedPiece
linked_table_row paint has runs skin outer filled ns cells =
    map in_no_link (spaces skin.paragraph.compound_style (left_of_place skin.table.align (row_columns skin cells) outer))
    ++ ((linked_cells paint has runs skin ns cells ++ in_no_link (vertical_piece skin) ∷ [])
    ++ map in_no_link (if filled then spaces skin.paragraph.compound_style (right_of_place skin.table.align (row_columns skin cells) outer) else []))

-- THE DEFINITION: a line at an outer width, with its margins
abbrev pub linked_line : (ℕ → ContentStyle → ContentStyle) → (CompositeKind → Flags → Bool) → List MarkRun → RowSkin → Option ℕ → Bool → List ℕ → FmtLine → List LinkedPiece
linked_line paint has runs skin outer filled ns (Normal l) = linked_composite paint has runs skin outer (margins_of skin outer l) filled (slice_index ns 0) l
linked_line paint has runs skin outer filled ns (TableRow row) = linked_table_row paint has runs skin outer filled ns row.cells.items
linked_line paint has runs skin outer filled ns line = map in_no_link (line_pieces skin outer filled line)
