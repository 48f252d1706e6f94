use Rattle.std.proofs.Common.{◌≡◌, ℕ, ◌<◌, ◌≤◌, length, drop}
use Rattle.markdown_inline_events.specs.Lists.{spans_at}
use Rattle.markdown_inline_events.specs.Spans.{begun}
use Rattle.markdown_inline_events.proofs.lists.begun_lists.Given as goal

abbrev pub invariant-loop-index : goal.invariant-loop-index
invariant-loop-index l = record {
  size : length l.lists.items ≡ l.count;
  within : l.index ≤ length l.spans;
  lists : (k : ℕ) → k < l.count → spans_at l.lists.items k ≡ begun (drop l.index l.spans) k;
}

abbrev pub decreases-loop-index : goal.decreases-loop-index
decreases-loop-index l = l.index
