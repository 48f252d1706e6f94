use Rattle.std.proofs.Common.{◌≡◌, ◌≤◌, ◌++◌, length, map}
use Rattle.markdown_inline_events.specs.Contents.{event_of}
use Rattle.markdown_inline_events.specs.Shares.{placed, share_of}
use Rattle.markdown_inline_events.proofs.read.push_placed.Given as goal

abbrev pub invariant-loop-rest : goal.invariant-loop-rest
invariant-loop-rest l = record {
  within : l.at ≤ l.stop;
  placed : map event_of l.events.items ++ placed l.at l.stop (map share_of l.rest) ≡ map event_of l.fn.events.items ++ placed l.fn.at l.stop (map share_of l.shares);
}

abbrev pub decreases-loop-rest : goal.decreases-loop-rest
decreases-loop-rest l = length l.rest
