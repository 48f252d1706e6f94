use Rattle.std.proofs.Common.{◌≡◌, ◌++◌, drop}
use Rattle.std.specs.Prelude.{string_bytes}
use Rattle.mad_links.specs.LinkRows.{linked_bytes}
use Rattle.mad_marks.specs.LineMarks.{has_mark}
use Rattle.mad_marked_rows.specs.Paints.{paint_by}
use Rattle.mad_marked_rows.specs.LinkedRows.{linked_cells}
use Rattle.mad_marked_rows.proofs.lines.append_cells.Given as goal

abbrev pub invariant-loop-cell : goal.invariant-loop-cell
invariant-loop-cell l = string_bytes l.rows ++ linked_bytes l.skin.addresses.now (linked_cells (paint_by l.skin.paint.styles.now) has_mark l.skin.runs.now l.skin.skin.now l.left (drop l.cell-index l.cells))
    ≡ string_bytes l.fn.rows ++ linked_bytes l.skin.addresses.now (linked_cells (paint_by l.skin.paint.styles.now) has_mark l.skin.runs.now l.skin.skin.now l.numbers l.cells)
