use Rattle.std.proofs.Common.{◌≡◌, ◌≤◌, ◌+◌, ◌-◌, length, drop}
use Rattle.std.specs.List.{prefix_len}
use Rattle.markdown_link_parts.specs.Texts.{is_path_byte}
use Rattle.markdown_link_parts.proofs.texts.path_len.Given as goal

abbrev pub invariant-loop-i : goal.invariant-loop-i
invariant-loop-i l = record { so_far : l.i + prefix_len is_path_byte (drop l.i l.address) ≡ prefix_len is_path_byte l.address; within : l.i ≤ length l.address }

abbrev pub decreases-loop-i : goal.decreases-loop-i
decreases-loop-i l = length l.address - l.i
