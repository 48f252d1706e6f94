use Rattle.std.proofs.Common.{◌≡◌, ◌++◌, replicate}
use Rattle.markdown_writing.proofs.phrases.push_times.Given as goal

abbrev pub invariant-loop-more : goal.invariant-loop-more
invariant-loop-more l = l.out.items ++ replicate l.more l.byte ≡ l.fn.out.items ++ replicate l.count l.byte

abbrev pub decreases-loop-more : goal.decreases-loop-more
decreases-loop-more l = l.more
