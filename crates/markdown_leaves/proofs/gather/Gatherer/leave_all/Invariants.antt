use Rattle.std.proofs.Common.{◌≡◌}
use Rattle.markdown_blocks.specs.Events.{leaves}
use Rattle.markdown_leaves.specs.Gather.{gathering_of}
use Rattle.markdown_leaves.specs.Told.{told}
use Rattle.markdown_leaves.proofs.gather.Gatherer.leave_all.Given as goal

abbrev pub invariant-loop-more : goal.invariant-loop-more
invariant-loop-more l = told (gathering_of l.self) (leaves l.more) ≡ told (gathering_of l.fn.self) (leaves l.count)

abbrev pub decreases-loop-more : goal.decreases-loop-more
decreases-loop-more l = l.more
