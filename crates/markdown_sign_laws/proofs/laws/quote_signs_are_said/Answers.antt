use Rattle.markdown_sign_laws.proofs.SignLemmas.{quote_signs_said}
use Rattle.markdown_sign_laws.proofs.laws.quote_signs_are_said.Goals as goal

pub returns : goal.returns
returns c = quote_signs_said
