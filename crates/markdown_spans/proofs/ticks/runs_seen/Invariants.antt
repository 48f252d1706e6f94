use Rattle.std.proofs.Common.{◌≡◌, ◌<◌, ◌+◌, ℕ, length, get_or}
use Rattle.markdown_spans.specs.Ticks.{last_run}
use Rattle.markdown_spans.proofs.ticks.runs_seen.Given as goal

abbrev pub invariant-loop-rest : goal.invariant-loop-rest
invariant-loop-rest l = record {
  left : (n : ℕ) → 0 < n → last_run n l.seen l.at (get_or l.lasts.items n 0) l.rest ≡ last_run n 0 0 0 l.text;
  few : l.at + l.seen + length l.rest ≡ length l.text;
}

abbrev pub decreases-loop-rest : goal.decreases-loop-rest
decreases-loop-rest l = length l.rest
