use Rattle.std.proofs.Common.{◌≡◌, ℕ, ◌+◌, ◌<◌, length, get_or, take}
use Rattle.markdown_emphasis.specs.Left.{run_at, taken_at}
use Rattle.markdown_emphasis.proofs.left.left_marks.Given as goal

abbrev pub invariant-loop-pair : goal.invariant-loop-pair
invariant-loop-pair l = record {
  size : length l.left.items ≡ length l.runs;
  left : (k : ℕ) → k < length l.runs → get_or l.left.items k 0 + taken_at (take l.pair-index l.pairs) k ≡ (run_at l.runs k).count;
}
