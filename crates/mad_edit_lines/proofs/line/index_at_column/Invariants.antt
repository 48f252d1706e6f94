use Rattle.std.proofs.Common.{◌≡◌, ◌<◌, ℕ, take}
use Rattle.mad_edit_lines.specs.LineColumns.{columns}
use Rattle.mad_edit_lines.proofs.line.index_at_column.Given as goal

abbrev pub invariant-loop-index : goal.invariant-loop-index
invariant-loop-index l = record {
  so_far : l.total ≡ columns (take l.index l.chars);
  before : (k : ℕ) → k < l.index → columns (take k l.chars) < l.column;
}
