use Rattle.std.proofs.Common.{◌≡◌, ◌≤◌, ◌+◌, drop, reverse, length}
use Rattle.markdown_inlines.specs.Links.{link_count, overs_from}
use Rattle.markdown_inlines.proofs.links.overs_of.Given as goal

abbrev pub invariant-loop-index : goal.invariant-loop-index
invariant-loop-index l = record {
  within : l.index ≤ length l.pieces;
  number : l.number + link_count (drop l.index l.pieces) ≡ link_count l.pieces;
  so_far : record { overs = reverse l.overs.items; ahead = reverse l.ahead.items } ≡ overs_from l.index l.number (drop l.index l.pieces);
}

abbrev pub decreases-loop-index : goal.decreases-loop-index
decreases-loop-index l = l.index
