use Rattle.mad_screen.proofs.ReadingBack.{read_in_turn}
use Rattle.mad_screen.proofs.laws.texts_are_read_in_turn.Goals as goal

pub returns : goal.returns
returns c = read_in_turn
