use Rattle.mad_screen.proofs.CommandsRead.{erased_position}
use Rattle.mad_screen.proofs.laws.erased_positions_are_spaces.Goals as goal

pub returns : goal.returns
returns c = erased_position
