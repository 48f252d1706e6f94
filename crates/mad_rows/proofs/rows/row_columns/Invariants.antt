use Rattle.std.proofs.Common.{◌≡◌, ◌+◌, ◌<◌, ◌^◌, drop, map}
use Rattle.mad_format.specs.FmtLines.{bordered}
use Rattle.mad_rows.specs.Rows.{cell_columns}
use Rattle.mad_wrap.specs.WrapLines.{capped}
use Rattle.mad_rows.proofs.rows.row_columns.Given as goal

abbrev pub invariant-loop-cell : goal.invariant-loop-cell
invariant-loop-cell l = record {
  small : l.columns < 2 ^ 64;
  so_far : capped (l.columns + bordered (map (cell_columns l.skin) (drop l.cell-index l.cells))) ≡ capped (bordered (map (cell_columns l.skin) l.cells));
}
