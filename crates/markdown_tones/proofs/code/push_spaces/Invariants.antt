use Rattle.std.proofs.Common.{◌≡◌, ◌++◌}
use Rattle.std.specs.Prelude.{replicate}
use Rattle.markdown_tones.proofs.code.push_spaces.Given as goal

abbrev pub invariant-loop-more : goal.invariant-loop-more
invariant-loop-more l = l.source.items ++ replicate l.more 32 ≡ l.fn.source.items ++ replicate l.count 32

abbrev pub decreases-loop-more : goal.decreases-loop-more
decreases-loop-more l = l.more
