use Rattle.std.proofs.Common.{◌≡◌, ℕ, ◌+◌, ◌<◌, false, length, get_or}
use Rattle.markdown_emphasis.specs.Flags.{is_covered, openers, closers}
use Rattle.markdown_emphasis.proofs.FlagLemmas.{before}
use Rattle.markdown_emphasis.proofs.flags.covered.Given as goal

abbrev pub invariant-loop-piece : goal.invariant-loop-piece
invariant-loop-piece l = record {
  size : length l.covered.items ≡ l.piece;
  covered : (k : ℕ) → k < l.piece → get_or l.covered.items k false ≡ is_covered l.pairs k;
  depth : l.depth + before l.piece (closers l.pairs) ≡ before l.piece (openers l.pairs);
}
