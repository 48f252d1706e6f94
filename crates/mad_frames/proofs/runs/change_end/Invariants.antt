use Rattle.std.proofs.Common.{length, ◌-◌, ◌≡◌, ◌<◌, ◌≤◌, true, false, slice_index_or}
use Rattle.mad_screen.specs.Grid.{blank, is_tail}
use Rattle.mad_frames.specs.RunBytes.{IsPaid}
use Rattle.mad_frames.specs.Whole.{are_whole}
use Rattle.mad_frames.proofs.runs.change_end.Given as goal

abbrev pub invariant-loop-next : goal.invariant-loop-next
invariant-loop-next l = record {
  after : l.start < l.end;
  within : l.end ≤ length l.new;
  head : l.end < length l.new → is_tail (slice_index_or l.new l.end blank) ≡ false;
  paid : are_whole l.old ≡ true → are_whole l.new ≡ true → IsPaid l.old l.new l.start l.end;
}

abbrev pub decreases-loop-next : goal.decreases-loop-next
decreases-loop-next l = length l.new - l.end
