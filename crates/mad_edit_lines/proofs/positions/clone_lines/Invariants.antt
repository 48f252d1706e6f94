use Rattle.std.proofs.Common.{◌≡◌, take}
use Rattle.mad_edit_lines.specs.TextLines.{lines_of}
use Rattle.mad_edit_lines.proofs.positions.clone_lines.Given as goal

abbrev pub invariant-loop-line : goal.invariant-loop-line
invariant-loop-line l = lines_of l.copy.items ≡ take l.line-index (lines_of l.lines)
