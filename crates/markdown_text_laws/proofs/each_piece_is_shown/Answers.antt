use Rattle.markdown_text_laws.proofs.ShownLemmas.{each_shown}
use Rattle.markdown_text_laws.proofs.each_piece_is_shown.Goals as goal

pub returns : goal.returns
returns c = each_shown
