use Rattle.mad_screen.proofs.CommandsRead.{move_read}
use Rattle.mad_screen.proofs.laws.moves_set_the_cursor.Goals as goal

pub returns : goal.returns
returns c = move_read
