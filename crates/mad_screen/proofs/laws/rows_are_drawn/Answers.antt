use Rattle.mad_screen.proofs.DrawingLemmas.{drawn}
use Rattle.mad_screen.proofs.laws.rows_are_drawn.Goals as goal

pub returns : goal.returns
returns c = drawn
