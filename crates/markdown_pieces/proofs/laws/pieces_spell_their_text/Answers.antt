use Rattle.markdown_pieces.proofs.SpellLemmas.{spells}
use Rattle.markdown_pieces.proofs.laws.pieces_spell_their_text.Goals as goal

pub returns : goal.returns
returns c = spells
