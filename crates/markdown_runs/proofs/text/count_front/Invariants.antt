use Rattle.std.proofs.Common.{◌≡◌, ◌<◌, ℕ, eqb, get_or, true}
use Rattle.markdown_runs.proofs.text.count_front.Given as goal

abbrev pub invariant-loop-index : goal.invariant-loop-index
invariant-loop-index l = (k : ℕ) → k < l.index → eqb (get_or l.chars k 0) l.c ≡ true
