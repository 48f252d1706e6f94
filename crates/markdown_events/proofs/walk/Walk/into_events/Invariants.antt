use Rattle.std.proofs.Common.{◌≡◌, length}
use Rattle.markdown_events.specs.Walks.{all_ended, walking_of}
use Rattle.markdown_events.proofs.walk.Walk.into_events.Given as goal

abbrev pub invariant-loop-walk : goal.invariant-loop-walk
invariant-loop-walk l = all_ended (walking_of l.walk) ≡ all_ended (walking_of l.fn.self)

abbrev pub decreases-loop-walk : goal.decreases-loop-walk
decreases-loop-walk l = length l.walk.around.items
