use Rattle.mad_draw.proofs.PlacedLemmas.{placed_shown}
use Rattle.mad_draw.proofs.laws.placed_pieces_are_shown.Goals as goal

pub returns : goal.returns
returns c = placed_shown
