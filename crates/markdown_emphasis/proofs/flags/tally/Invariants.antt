use Rattle.std.proofs.Common.{◌≡◌, ℕ, ◌<◌, length, get_or, take}
use Rattle.markdown_emphasis.proofs.FlagLemmas.{at}
use Rattle.markdown_emphasis.proofs.flags.tally.Given as goal

abbrev pub invariant-loop-number : goal.invariant-loop-number
invariant-loop-number l = record {
  size : length l.counts.items ≡ l.bound;
  counts : (k : ℕ) → k < l.bound → get_or l.counts.items k 0 ≡ at k (take l.number-index l.numbers);
}
