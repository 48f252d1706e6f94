use Rattle.std.proofs.Common.{◌≡◌, [], length, string_bytes}
use Rattle.mad_blocks.specs.PartCursors.{lines_left}
use Rattle.mad_layout.proofs.WrittenLemmas.{WrittenSoFar}
use Rattle.mad_layout.proofs.parts_writing.write_parts.Given as goal

abbrev pub invariant-loop-lines : goal.invariant-loop-lines
invariant-loop-lines g l = record {
  so_far : WrittenSoFar l.skin l.width (lines_left l.fn.parts) (lines_left l.parts) (string_bytes l.rows) (g.O.Out.seen l.fn.out) (g.O.Out.seen l.out);
  none : l.lines.items ≡ [];
}

abbrev pub decreases-loop-lines : goal.decreases-loop-lines
decreases-loop-lines g l = length (lines_left l.parts)
