use Rattle.std.proofs.Common.{◌≡◌, length}
use Rattle.markdown_blocks.specs.Events.{unread, events_of}
use Rattle.markdown_leaves.specs.Gather.{gathering_of, nothing_told}
use Rattle.markdown_leaves.specs.Told.{told, unread_text}
use Rattle.markdown_leaves.proofs.read.read_parts.Given as goal

abbrev pub invariant-loop-gatherer : goal.invariant-loop-gatherer
invariant-loop-gatherer l = told (gathering_of l.gatherer) (events_of (unread l.cursor)) ≡ told nothing_told (events_of (unread_text l.text))

abbrev pub decreases-loop-gatherer : goal.decreases-loop-gatherer
decreases-loop-gatherer l = length (unread l.cursor).text
