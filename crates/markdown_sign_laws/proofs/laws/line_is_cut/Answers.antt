use Rattle.markdown_sign_laws.proofs.laws.line_is_cut.Goals as goal
use Rattle.markdown_sign_laws.proofs.TextLemmas.{line_cut}

pub returns : goal.returns
returns c = line_cut
