use Rattle.std.proofs.Common.{◌≡◌, ◌<◌, ℕ, true, slice_index_or}
use Rattle.mad_screen.specs.Grid.{blank, is_tail}
use Rattle.mad_frames.proofs.runs.character_end.Given as goal

abbrev pub invariant-loop-end : goal.invariant-loop-end
invariant-loop-end l = (i : ℕ) → l.x < i → i < l.end → is_tail (slice_index_or l.row i blank) ≡ true
