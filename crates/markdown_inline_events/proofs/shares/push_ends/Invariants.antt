use Rattle.std.proofs.Common.{◌≡◌, ◌++◌, map, take}
use Rattle.markdown_inline_events.specs.Shares.{end_share, share_of}
use Rattle.markdown_inline_events.proofs.shares.push_ends.Given as goal

abbrev pub invariant-loop-span : goal.invariant-loop-span
invariant-loop-span l = map share_of l.shares.items ≡ map share_of l.fn.shares.items ++ map end_share (take l.span-index l.spans)
