-- Rows of a page with links.
use Rattle.std.specs.Prelude.{ℕ, nat_lt, ◌||◌, Bool, false, List, [], ◌∷◌, ◌++◌, map, Option}
use Rattle.mad_format.specs.declared.line.FmtLine.{FmtLine}
use Rattle.mad_mark_runs.specs.declared.mark_runs.MarkRun.{MarkRun}
use Rattle.mad_marks.specs.LineMarks.{has_mark}
use Rattle.mad_marks.specs.RowNumbers.{cells_of, firsts_of}
use Rattle.mad_rows.specs.declared.row_skin.RowSkin.{RowSkin}
use Rattle.mad_links.specs.LinkRows.{LinkedPiece}
use Rattle.mad_links.specs.LinkedAreas.{in_no_link}
use Rattle.mad_marked_rows.specs.LinkedRows.{linked_line}
use Rattle.mad_marked_rows.specs.Paints.{paint_by}
use Rattle.mad_pages.specs.Fronts.{front_of}
use Rattle.mad_pages.specs.PageRows.{RowContent}
use Rattle.mad_page_rows.specs.Faces.{backs, columns_behind, faces, has_ascii_boxes, in_box, line_skin}

-- The marks of a row are those of links, where the first of them is: a section has tones, or links, and not both.
abbrev pub lead : List MarkRun → Bool
lead [] = false
lead (run ∷ runs) = nat_lt 8 run.value

-- A line with its links: a composite's text, or that of a cell, is cut where its link changes, and each part is in its link. So many counted characters stand
-- before the line, and before each cell those of the cells before it too. Links change no style.
abbrev pub linked_pieces : List MarkRun → ℕ → RowSkin → Option ℕ → Bool → FmtLine → List LinkedPiece
linked_pieces runs n skin outer filled line = linked_line (paint_by []) has_mark runs skin outer filled (firsts_of has_mark n (cells_of line)) line

-- the pieces of a row's line, in the columns that its gutters leave; in a box it fills them
abbrev pub linked_behind : RowSkin → Option ℕ → Bool → RowContent → List LinkedPiece
linked_behind skin outer filled row =
    linked_pieces row.marks row.number (line_skin skin (front_of row)) (columns_behind (has_ascii_boxes skin) outer row.gutters) (filled || in_box skin row.gutters) row.line

-- the pieces of a row at an outer width: its line in the columns that its gutters leave, between their faces and the other sides of boxes, which are in no
-- link
abbrev pub linked_row_pieces : RowSkin → Option ℕ → Bool → RowContent → List LinkedPiece
linked_row_pieces skin outer filled row = map in_no_link (faces skin row.gutters row.fresh) ++ (linked_behind skin outer filled row ++ map in_no_link (backs skin row.gutters))
