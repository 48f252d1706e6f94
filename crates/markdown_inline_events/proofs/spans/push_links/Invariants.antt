use Rattle.std.proofs.Common.{◌≡◌, ◌++◌, drop}
use Rattle.markdown_pieces.specs.Places.{AreCut}
use Rattle.markdown_inline_events.specs.Spans.{link_spans}
use Rattle.markdown_inline_events.proofs.spans.push_links.Given as goal

abbrev pub invariant-loop-index : goal.invariant-loop-index
invariant-loop-index l = record {
  cut : AreCut l.text l.at (drop l.index l.pieces);
  links : l.spans.items ++ link_spans l.index l.at (drop l.index l.pieces) ≡ l.fn.spans.items ++ link_spans 0 0 l.pieces;
}
