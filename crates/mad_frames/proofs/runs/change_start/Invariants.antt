use Rattle.std.proofs.Common.{length, ◌-◌, ◌≡◌, ◌<◌, ◌≤◌, ℕ, false, slice_index_or}
use Rattle.mad_screen.specs.Grid.{blank, is_tail}
use Rattle.mad_frames.proofs.runs.change_start.Given as goal

abbrev pub invariant-loop-start : goal.invariant-loop-start
invariant-loop-start l = record {
  after : l.x ≤ l.start;
  within : l.start ≤ length l.new;
  head : l.start < length l.new → is_tail (slice_index_or l.new l.start blank) ≡ false;
  same : (i : ℕ) → l.x ≤ i → i < l.start → slice_index_or l.old i blank ≡ slice_index_or l.new i blank;
}

abbrev pub decreases-loop-start : goal.decreases-loop-start
decreases-loop-start l = length l.new - l.start
