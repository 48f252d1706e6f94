use Rattle.std.proofs.Common.{◌≡◌, ◌*◌, ◌≤◌, take, map, sum_by}
use Rattle.mad_widths.specs.ColumnWidths.{spare}
use Rattle.mad_widths.specs.SeenCells.{needs_in}
use Rattle.mad_widths.proofs.sharing.spares_of.Given as goal

abbrev pub invariant-loop-column : goal.invariant-loop-column
invariant-loop-column l = record {
  so_far : l.spares ≡ sum_by spare (map needs_in (take l.column-index l.columns));
  bound : l.spares ≤ 4 * l.column-index;
}
