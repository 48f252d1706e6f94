use Rattle.std.proofs.Common.{◌≡◌, ℕ, ◌<◌, length, get_or}
use Rattle.markdown_emphasis.specs.Left.{run_at}
use Rattle.markdown_emphasis.proofs.left.counts.Given as goal

abbrev pub invariant-loop-run : goal.invariant-loop-run
invariant-loop-run l = record {
  size : length l.counts.items ≡ l.run-index;
  counts : (k : ℕ) → k < l.run-index → get_or l.counts.items k 0 ≡ (run_at l.runs k).count;
}
