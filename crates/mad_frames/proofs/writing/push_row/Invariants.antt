use Rattle.std.proofs.Common.{◌-◌, ◌≡◌, ◌<◌, ◌≤◌, ◌+◌, true, false, length, string_bytes, slice_index_or}
use Rattle.mad_screen.specs.Grid.{blank, is_tail}
use Rattle.mad_frames.specs.RunBytes.{most_to}
use Rattle.mad_frames.specs.Changes.{AddsCells}
use Rattle.mad_frames.specs.Whole.{are_whole}
use Rattle.mad_frames.proofs.writing.push_row.Given as goal

abbrev pub invariant-loop-x : goal.invariant-loop-x
invariant-loop-x l = record {
  within : l.x ≤ length l.new;
  head : l.x < length l.new → is_tail (slice_index_or l.new l.x blank) ≡ false;
  leads : AddsCells l.old l.new l.y l.x (string_bytes l.fn.out) (string_bytes l.out);
  bound : are_whole l.old ≡ true → length (string_bytes l.out) ≤ length (string_bytes l.fn.out) + most_to l.old l.new l.x;
  same : l.old ≡ l.new → string_bytes l.out ≡ string_bytes l.fn.out;
}

abbrev pub decreases-loop-x : goal.decreases-loop-x
decreases-loop-x l = length l.new - l.x
