use Rattle.std.proofs.Common.{◌≡◌, ◌++◌, map}
use Rattle.std.specs.Vec.Iter.{into_iter_items}
use Rattle.mad_md.specs.Lines.{content_of, styled_runs}
use Rattle.mad_sections.specs.Items.{row_lines}
use Rattle.mad_sections.proofs.items.item_lines.Given as goal

abbrev pub invariant-loop-cell : goal.invariant-loop-cell
invariant-loop-cell l = map content_of l.lines.items ++ row_lines (map styled_runs l.left) (map styled_runs (into_iter_items l.cell-iterator)) ≡ row_lines (map styled_runs l.heads) (map styled_runs l.fn.row.cells.items)
