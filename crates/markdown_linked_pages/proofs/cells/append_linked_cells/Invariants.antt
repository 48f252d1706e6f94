use Rattle.std.proofs.Common.{◌≡◌, ◌++◌, drop}
use Rattle.std.specs.Prelude.{string_bytes}
use Rattle.mad_links.specs.LinkRows.{linked_bytes}
use Rattle.mad_marks.specs.LineMarks.{has_mark}
use Rattle.mad_marks.specs.RowNumbers.{firsts_of}
use Rattle.mad_marked_rows.specs.LinkedRows.{linked_cells}
use Rattle.mad_marked_rows.specs.MarkedTexts.{SameFrom}
use Rattle.mad_marked_rows.specs.Paints.{paint_by}
use Rattle.markdown_linked_pages.proofs.cells.append_linked_cells.Given as goal

abbrev pub invariant-loop-cell : goal.invariant-loop-cell
invariant-loop-cell l = record {
  so_far : string_bytes l.rows
      ++ linked_bytes l.skin.addresses.now (linked_cells (paint_by l.skin.paint.styles.now) has_mark l.skin.runs.now l.skin.skin.now (firsts_of has_mark l.cursor.number (drop l.cell-index l.cells)) (drop l.cell-index l.cells))
      ≡ string_bytes l.fn.rows ++ linked_bytes l.skin.addresses.now (linked_cells (paint_by l.skin.paint.styles.now) has_mark l.skin.runs.now l.skin.skin.now (firsts_of has_mark l.number l.cells) l.cells);
  same : SameFrom l.skin.runs.now l.cursor.runs.now l.cursor.number;
}
