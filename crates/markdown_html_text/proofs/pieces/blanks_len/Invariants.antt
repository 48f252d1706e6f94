use Rattle.std.proofs.Common.{◌≡◌, ◌≤◌, ◌+◌, ◌-◌, length, drop}
use Rattle.std.specs.List.{prefix_len}
use Rattle.markdown_marks.specs.Definitions.{is_space_byte}
use Rattle.markdown_html_text.proofs.pieces.blanks_len.Given as goal

abbrev pub invariant-loop-i : goal.invariant-loop-i
invariant-loop-i l = record { so_far : l.i + prefix_len is_space_byte (drop l.i l.bytes) ≡ prefix_len is_space_byte l.bytes; within : l.i ≤ length l.bytes }

abbrev pub decreases-loop-i : goal.decreases-loop-i
decreases-loop-i l = length l.bytes - l.i
