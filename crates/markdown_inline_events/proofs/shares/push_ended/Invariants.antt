use Rattle.std.proofs.Common.{◌≡◌, ◌++◌, length, map, reverse}
use Rattle.markdown_inline_events.specs.Shares.{end_share, share_of}
use Rattle.markdown_inline_events.specs.Spans.{ended, still_open}
use Rattle.markdown_inline_events.proofs.shares.push_ended.Given as goal

abbrev pub invariant-loop-around : goal.invariant-loop-around
invariant-loop-around l = record {
  shares : map share_of l.shares.items ++ map end_share (ended l.index (reverse l.around.items)) ≡ map share_of l.fn.shares.items ++ map end_share (ended l.index (reverse l.fn.around.items));
  around : still_open l.index (reverse l.around.items) ≡ still_open l.index (reverse l.fn.around.items);
}

abbrev pub decreases-loop-around : goal.decreases-loop-around
decreases-loop-around l = length l.around.items
