use Rattle.markdown_sign_laws.proofs.ReadLemmas.{heading_read}
use Rattle.markdown_sign_laws.proofs.laws.heading_is_read.Goals as goal

pub returns : goal.returns
returns c = heading_read
