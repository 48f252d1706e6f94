-- Rows with marks: the pieces of a line whose composites begin with these numbers.
use Rattle.std.specs.Prelude.{ℕ, ◌+◌, Bool, true, List, [], ◌∷◌, ◌++◌, Option, None, chars, drop, slice_index, if◌then◌else◌}
use Rattle.mad_md.specs.Flagged.{Flags, flagged_of, flags_of, run_of}
use Rattle.mad_md.specs.declared.compound.Compound.{Compound}
use Rattle.mad_term.specs.declared.styles.ContentStyle.{ContentStyle}
use Rattle.mad_style.specs.declared.kinds.CompositeKind.{CompositeKind}
use Rattle.mad_style.specs.declared.line_styles.LineStyle.{LineStyle}
use Rattle.mad_draw.specs.Pieces.{RowPiece, spaces}
use Rattle.mad_format.specs.declared.composite.FmtComposite.{FmtComposite}
use Rattle.mad_format.specs.declared.line.FmtLine.{FmtLine}
use Rattle.mad_format.specs.declared.line.FmtLine.TheVariants.{Normal, TableRow}
use Rattle.mad_rows.specs.RowStyles.{compound_style, line_style}
use Rattle.mad_rows.specs.Rows.{cell_margins, compound_piece, inner_blanks, line_pieces, margins_of, outer_blanks, placed_pieces, prefix_pieces, row_columns, vertical_piece}
use Rattle.mad_rows.specs.declared.row_skin.RowSkin.{RowSkin}
use Rattle.mad_mark_runs.specs.declared.mark_runs.MarkRun.{MarkRun}
use Rattle.mad_marks.specs.RowMarks.{counted}
use Rattle.mad_marked_rows.specs.MarkedTexts.{text_pieces}

-- a compound before which so many counted characters are: its parts where it is counted, else its piece
abbrev pub marked_compound : (ℕ → ContentStyle → ContentStyle) → (Flags → Bool) → List MarkRun → RowSkin → LineStyle → ℕ → Compound → List RowPiece
marked_compound paint has runs skin style n k =
    if has (flags_of k) then text_pieces paint runs (compound_style skin style (run_of k)).object_style n (chars k.src.now) else compound_piece skin style k ∷ []

-- compounds in a row
abbrev pub marked_compounds : (ℕ → ContentStyle → ContentStyle) → (Flags → Bool) → List MarkRun → RowSkin → LineStyle → ℕ → List Compound → List RowPiece
marked_compounds paint has runs skin style n [] = []
marked_compounds paint has runs skin style n (k ∷ ks) = marked_compound paint has runs skin style n k ++ marked_compounds paint has runs skin style (n + counted has (flagged_of k)) ks

-- a composite at an outer width with these margins, as `composite_pieces` has it
abbrev pub marked_composite : (ℕ → ContentStyle → ContentStyle) → (CompositeKind → Flags → Bool) → List MarkRun → RowSkin → Option ℕ → ℕ × ℕ → Bool → ℕ → FmtComposite → List RowPiece
marked_composite paint has runs skin outer margins filled n l =
    let style = line_style skin l.kind in
    let blanks = outer_blanks style.align outer margins l in
    spaces skin.paragraph.compound_style blanks.0
    ++ (spaces style.compound_style (inner_blanks l).0
    ++ (prefix_pieces skin l.kind
    ++ (marked_compounds paint (has l.kind) runs skin style n l.compounds.items
    ++ (spaces style.compound_style (inner_blanks l).1
    ++ (if filled then spaces skin.paragraph.compound_style blanks.1 else [])))))

-- cells, a border before each; a cell without a number has 0
abbrev pub marked_cells : (ℕ → ContentStyle → ContentStyle) → (CompositeKind → Flags → Bool) → List MarkRun → RowSkin → List ℕ → List FmtComposite → List RowPiece
marked_cells paint has runs skin ns [] = []
marked_cells paint has runs skin ns (c ∷ cs) =
    (vertical_piece skin ∷ marked_composite paint has runs skin None (cell_margins skin) true (slice_index ns 0) c) ++ marked_cells paint has runs skin (drop 1 ns) cs

-- a row of a table: its cells, and a last border
abbrev pub marked_table_row : (ℕ → ContentStyle → ContentStyle) → (CompositeKind → Flags → Bool) → List MarkRun → RowSkin → Option ℕ → Bool → List ℕ → List FmtComposite → List RowPiece
marked_table_row paint has runs skin outer filled ns cells =
    placed_pieces skin outer filled (row_columns skin cells) (marked_cells paint has runs skin ns cells ++ vertical_piece skin ∷ [])

-- THE DEFINITION: a line at an outer width, with its margins
abbrev pub marked_line : (ℕ → ContentStyle → ContentStyle) → (CompositeKind → Flags → Bool) → List MarkRun → RowSkin → Option ℕ → Bool → List ℕ → FmtLine → List RowPiece
marked_line paint has runs skin outer filled ns (Normal l) = marked_composite paint has runs skin outer (margins_of skin outer l) filled (slice_index ns 0) l
marked_line paint has runs skin outer filled ns (TableRow row) = marked_table_row paint has runs skin outer filled ns row.cells.items
marked_line paint has runs skin outer filled ns line = line_pieces skin outer filled line
