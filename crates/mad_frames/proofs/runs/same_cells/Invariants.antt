use Rattle.std.proofs.Common.{◌≡◌, ◌<◌, ◌≤◌, ℕ, slice_index_or}
use Rattle.mad_screen.specs.Grid.{blank}
use Rattle.mad_frames.proofs.runs.same_cells.Given as goal

abbrev pub invariant-loop-i : goal.invariant-loop-i
invariant-loop-i l = (j : ℕ) → l.x ≤ j → j < l.i → slice_index_or l.old j blank ≡ slice_index_or l.new j blank
