use Rattle.std.proofs.Common.{◌≡◌, ◌++◌, drop}
use Rattle.std.specs.Str.{IsCharBoundary}
use Rattle.markdown_pieces.specs.Places.{AreCut}
use Rattle.markdown_inlines.specs.Inlines.{links_from, shown_from}
use Rattle.markdown_inlines.specs.Styled.{spelled_of, IsStyled}
use Rattle.markdown_inlines.proofs.inlines.shown_pieces.Given as goal

abbrev pub invariant-loop-index : goal.invariant-loop-index
invariant-loop-index l = record {
  cut : AreCut l.text l.at (drop l.index l.pieces);
  begin : IsCharBoundary l.text l.at;
  shown : spelled_of l.styled ++ shown_from l.text l.at (drop l.index l.pieces) (drop l.index l.flags) (drop l.index l.left) (drop l.index l.overs) ≡ shown_from l.text 0 l.pieces l.flags l.left l.overs;
  styled : IsStyled l.styled;
  links : l.links.items ++ links_from l.at (drop l.index l.pieces) ≡ links_from 0 l.pieces;
}
