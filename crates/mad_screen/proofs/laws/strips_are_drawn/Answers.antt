use Rattle.mad_screen.proofs.Strips.{strips_drawn}
use Rattle.mad_screen.proofs.laws.strips_are_drawn.Goals as goal

pub returns : goal.returns
returns c = strips_drawn
