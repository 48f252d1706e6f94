use Rattle.std.proofs.Common.{◌≡◌, ◌+◌, ◌-◌, ℕ, length, get_or}
use Rattle.markdown_spans.proofs.ticks.note.Given as goal

abbrev pub invariant-loop-lasts : goal.invariant-loop-lasts
invariant-loop-lasts l = (n : ℕ) → get_or l.lasts.items n 0 ≡ get_or l.fn.lasts.items n 0

abbrev pub decreases-loop-lasts : goal.decreases-loop-lasts
decreases-loop-lasts l = l.length + 1 - length l.lasts.items
