use Rattle.std.proofs.Common.{◌≡◌, take}
use Rattle.mad_edit_lines.specs.LineColumns.{columns}
use Rattle.mad_edit_lines.proofs.line.columns.Given as goal

abbrev pub invariant-loop-c : goal.invariant-loop-c
invariant-loop-c l = l.total ≡ columns (take l.c-index l.chars)
