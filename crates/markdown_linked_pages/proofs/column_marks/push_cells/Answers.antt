use Rattle.std.proofs.Common.{◌≤◌, arith, map, refl}
use Rattle.mad_md.specs.Lines.{styled_runs}
use Rattle.mad_marked_rows.proofs.CursorLemmas.{same_joined}
use Rattle.markdown_linked_pages.specs.ColumnsKept.{column_values}
use Rattle.markdown_linked_pages.proofs.ColumnLemmas.{cell_at, cell_counted, cell_put, cells_said_long, nothing_on}
use Rattle.markdown_linked_pages.proofs.column_marks.push_cells.Goals as goal

pub loop-i-init : goal.loop-i-init
loop-i-init c = record { within = omega arith; columns = nothing_on (map column_values c.args.columns.now.items); number = refl; same = λ k le. refl }

pub loop-i-preserved : goal.loop-i-preserved
loop-i-preserved c =
    let before = c.loop-i in
    let held = before.invariant in
    let done = c.in_ok-push_cell.ensures in
    let cells = map styled_runs c.args.cells.now in
    let cell = styled_runs c.index-cells-i.result in
    let here = cell_at c.args.cells.now before.i c.index-cells-i.result c.index-cells-i.result c.index-cells-i.is in
    let up : before.cursor.number ≤ c.push_cell.new.cursor.number = omega (arith, done.number) in
    record {
      within = omega (arith, c.loop-i-test.true);
      columns = cell_put c.args.cursor.now.runs.now before.cursor.runs.now (map column_values c.args.columns.now.items) (map column_values before.columns.items) (map column_values c.push_cell.new.columns.items) c.args.cursor.now.number before.cursor.number cells before.i cell
          (omega (arith, c.loop-i-test.true, cells_said_long c.args.cells.now)) here held.number held.same held.columns done.columns;
      number = cell_counted c.args.cursor.now.number before.cursor.number c.push_cell.new.cursor.number cells before.i cell (omega (arith, c.loop-i-test.true, cells_said_long c.args.cells.now)) here held.number done.number;
      same = same_joined c.args.cursor.now.runs.now before.cursor.runs.now c.push_cell.new.cursor.runs.now before.cursor.number c.push_cell.new.cursor.number up held.same done.same;
    }
