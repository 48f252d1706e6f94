use Rattle.std.proofs.Common.{◌≡◌, [], length, string_bytes}
use Rattle.mad_blocks.specs.PartCursors.{lines_left}
use Rattle.mad_layout.proofs.TakenParts.{RowsSoFar}
use Rattle.mad_layout.proofs.parts_writing.append_parts.Given as goal

abbrev pub invariant-loop-lines : goal.invariant-loop-lines
invariant-loop-lines l = record {
  so_far : RowsSoFar l.skin l.width (lines_left l.fn.parts) (lines_left l.parts) (string_bytes l.fn.rows) (string_bytes l.rows);
  none : l.lines.items ≡ [];
}

abbrev pub decreases-loop-lines : goal.decreases-loop-lines
decreases-loop-lines l = length (lines_left l.parts)
