use Rattle.std.proofs.Common.{get_or, ap, refl, arith}
use Rattle.mad_blocks.proofs.TableLemmas.{taken_none, taken_next, taken_all}
use Rattle.mad_blocks.proofs.table_rows.take_row.Goals as goal

pub loop-cell-init : goal.loop-cell-init
loop-cell-init c = taken_none _ _ _ refl c.in_ok-row.ensures.items

pub loop-cell-preserved : goal.loop-cell-preserved
loop-cell-preserved c =
    taken_next c.args.cells.now c.loop-cell.cell-items c.loop-cell.cell-index c.loop-cell.row.items _ _ (get_or c.loop-cell.cell-items c.loop-cell.cell-index c.cell-item.result) _ (omega arith) c.loop-cell.invariant (ap (get_or c.loop-cell.cell-items c.loop-cell.cell-index) c.cell-item.is) c.next_cell.ensures.top refl c.next_cell.ensures.rest
    c.in_ok-push.ensures.items

pub returns : goal.returns
returns c = taken_all c.args.cells.now c.loop-cell.cell-items c.loop-cell.cell-index c.loop-cell.row.items (omega arith) c.loop-cell.invariant
