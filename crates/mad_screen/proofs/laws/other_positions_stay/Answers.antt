use Rattle.mad_screen.proofs.CommandsRead.{paints_positions}
use Rattle.mad_screen.proofs.laws.other_positions_stay.Goals as goal

pub returns : goal.returns
returns c = paints_positions
