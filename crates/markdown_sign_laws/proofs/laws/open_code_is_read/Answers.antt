use Rattle.markdown_sign_laws.proofs.ReadLemmas.{open_code_read}
use Rattle.markdown_sign_laws.proofs.laws.open_code_is_read.Goals as goal

pub returns : goal.returns
returns c = open_code_read
