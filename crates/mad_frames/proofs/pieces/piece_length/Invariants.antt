use Rattle.std.proofs.Common.{◌≡◌, ◌<◌, ◌⊎◌, ℕ, true, slice_index_or}
use Rattle.mad_screen.specs.Grid.{blank, is_tail}
use Rattle.mad_frames.proofs.pieces.piece_length.Given as goal

abbrev pub invariant-loop-end : goal.invariant-loop-end
invariant-loop-end l = (i : ℕ) → i < l.end → (is_tail (slice_index_or l.cells i blank) ≡ true) ⊎ ((slice_index_or l.cells i blank).pen ≡ (slice_index_or l.cells 0 blank).pen)
