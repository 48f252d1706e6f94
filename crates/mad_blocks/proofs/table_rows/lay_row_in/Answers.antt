use Rattle.std.proofs.Common.{◌≡◌, ◌+◌, List, ◌∙◌, sym, subst, arith}
use Rattle.mad_blocks.specs.TableRows.{TakesRow}
use Rattle.mad_blocks.specs.declared.table_rows.CellLines.{CellLines}
use Rattle.mad_blocks.proofs.TableLemmas.{RowsSoFar, rows_more, rows_all, taken_back}
use Rattle.mad_blocks.proofs.table_rows.lay_row_in.Goals as goal

pub loop-done-preserved : goal.loop-done-preserved
loop-done-preserved g c =
    let columns = c.args.columns.now in
    let all = c.in_ok-cells.cells.items in
    let old = c.loop-done.cells.items in
    let left = c.take_row.new.cells in
    let row = c.in_ok-take_row.field-0 in
    let taken : TakesRow old row.cells.items left = subst (λ (ps : List CellLines). TakesRow ps row.cells.items left) c.deref_mut.ensures.value c.in_ok-take_row.ensures in
    subst (λ (ps : List CellLines). RowsSoFar columns all ps c.push.new.self.items (c.loop-done._done + 1)) (sym (taken_back old row.cells.items left c.loop-done.cells.len taken (sym c.loop-done.cells.ok.0)))
    (rows_more columns all old left c.loop-done.rows.items c.push.new.self.items c.loop-done._done row c.loop-done.invariant taken c.in_ok-push.ensures.items)

pub returns : goal.returns
returns g c =
    let count : c.loop-done._done ≡ c.in_ok-cells.height = omega (arith, c.loop-done-test.false, c.loop-done.auto._done-end) in
    rows_all (g.S.LineSkin.rules c.args.skin.now) c.args.columns.now c.args.row.cells.items c.in_ok-cells.cells.items c.loop-done.cells.items c.loop-done.rows.items c.loop-done._done
    c.in_ok-cells.ensures.laid_out (count ∙ c.in_ok-cells.ensures.height) c.loop-done.invariant
