use Rattle.std.proofs.Common.{◌≡◌, ◌≤◌, ◌++◌, drop}
use Rattle.markdown_inlines.specs.Tags.{tagged, tagged_from}
use Rattle.markdown_inlines.proofs.tags.tagged.Given as goal

abbrev pub invariant-loop-index : goal.invariant-loop-index
invariant-loop-index l = record { same : l.made.items ++ tagged_from l.index l.number l.tags (drop l.index l.pieces) (drop l.index l.overs) ≡ tagged l.pieces l.overs; few : l.number ≤ l.index }
