use Rattle.mad_screen.proofs.Paints.{paints_nothing, paints_plain, paints_piece, paints_both}
use Rattle.mad_screen.proofs.laws.pieces_paint.Goals as goal

pub returns : goal.returns
returns c = record {
  nothing = paints_nothing;
  plain = paints_plain;
  piece = paints_piece;
  both = paints_both;
}
