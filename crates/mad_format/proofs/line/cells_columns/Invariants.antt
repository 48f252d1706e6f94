use Rattle.std.proofs.Common.{◌≡◌, ◌+◌, ◌<◌, ◌^◌, drop}
use Rattle.mad_format.specs.FmtLines.{cells_columns}
use Rattle.mad_wrap.specs.WrapLines.{capped}
use Rattle.mad_format.proofs.line.cells_columns.Given as goal

abbrev pub invariant-loop-cell : goal.invariant-loop-cell
invariant-loop-cell l = record {
  small : l.columns < 2 ^ 64;
  so_far : capped (l.columns + cells_columns (drop l.cell-index l.cells)) ≡ capped (cells_columns l.cells);
}
