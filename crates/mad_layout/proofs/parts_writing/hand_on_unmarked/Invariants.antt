use Rattle.std.proofs.Common.{◌≡◌, ◌≤◌, ◌++◌, [], length, string_bytes}
use Rattle.mad_blocks.specs.PartCursors.{lines_left}
use Rattle.mad_rows.specs.Rows.{text_bytes}
use Rattle.mad_layout.proofs.UnmarkedLineLemmas.{UnmarkedSoFar}
use Rattle.mad_layout.proofs.parts_writing.hand_on_unmarked.Given as goal

abbrev pub invariant-loop-text : goal.invariant-loop-text
invariant-loop-text g l = record {
  so_far : UnmarkedSoFar l.skin l.fn.width (lines_left l.fn.parts) (lines_left l.parts) (string_bytes l.fn.rows ++ text_bytes l.skin l.fn.width l.fn.lines.items) (string_bytes l.rows) (g.O.Out.seen l.fn.out) (g.O.Out.seen l.out);
  none : l.lines.items ≡ [];
  shorter : length (lines_left l.parts) ≤ length (lines_left l.fn.parts);
}

abbrev pub decreases-loop-text : goal.decreases-loop-text
decreases-loop-text g l = length (lines_left l.parts)
