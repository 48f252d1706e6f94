use Rattle.std.proofs.Common.{◌≡◌, ◌≤◌, ◌+◌, drop}
use Rattle.markdown_inlines.specs.Links.{link_count}
use Rattle.markdown_inlines.proofs.links.link_count.Given as goal

abbrev pub invariant-loop-piece : goal.invariant-loop-piece
invariant-loop-piece l = record {
  so_far : l.count + link_count (drop l.piece-index l.pieces) ≡ link_count l.pieces;
  few : l.count ≤ l.piece-index;
}
