use Rattle.markdown_sign_laws.proofs.ReadLemmas.{break_read}
use Rattle.markdown_sign_laws.proofs.laws.break_is_read.Goals as goal

pub returns : goal.returns
returns c = break_read
