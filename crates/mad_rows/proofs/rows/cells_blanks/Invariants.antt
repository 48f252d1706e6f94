use Rattle.std.proofs.Common.{◌≡◌, ◌+◌, ◌<◌, ◌^◌, drop}
use Rattle.std.specs.List.{sum_by}
use Rattle.mad_rows.specs.Rows.{cell_blanks}
use Rattle.mad_wrap.specs.WrapLines.{capped}
use Rattle.mad_rows.proofs.rows.cells_blanks.Given as goal

abbrev pub invariant-loop-cell : goal.invariant-loop-cell
invariant-loop-cell l = record {
  small : l.columns < 2 ^ 64;
  so_far : capped (l.columns + sum_by (cell_blanks l.skin) (drop l.cell-index l.cells)) ≡ capped (sum_by (cell_blanks l.skin) l.cells);
}
