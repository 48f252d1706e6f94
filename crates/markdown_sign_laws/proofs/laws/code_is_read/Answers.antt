use Rattle.markdown_sign_laws.proofs.ReadLemmas.{code_read}
use Rattle.markdown_sign_laws.proofs.laws.code_is_read.Goals as goal

pub returns : goal.returns
returns c = code_read
