use Rattle.std.proofs.Common.{◌≡◌, map, length}
use Rattle.markdown_blocks.specs.Events.{enter}
use Rattle.markdown_leaves.specs.Gather.{gathering_of}
use Rattle.markdown_leaves.specs.Told.{told}
use Rattle.markdown_leaves.proofs.gather.Gatherer.enter_all.Given as goal

abbrev pub invariant-loop-rest : goal.invariant-loop-rest
invariant-loop-rest l = told (gathering_of l.self) (map enter l.rest) ≡ told (gathering_of l.fn.self) (map enter l.containers)

abbrev pub decreases-loop-rest : goal.decreases-loop-rest
decreases-loop-rest l = length l.rest
