use Rattle.std.proofs.Common.{◌≡◌, ◌<◌, ℕ, true}
use Rattle.mad_screen.specs.Pictures.{row_cells}
use Rattle.mad_frames.specs.Whole.{are_whole}
use Rattle.mad_frames.proofs.whole.is_whole.Given as goal

abbrev pub invariant-loop-y : goal.invariant-loop-y
invariant-loop-y l = (y : ℕ) → y < l.y → are_whole (row_cells l.screen y) ≡ true
