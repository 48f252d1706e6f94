use Rattle.markdown_sign_laws.proofs.QuoteLemmas.{ends_behind_block}
use Rattle.markdown_sign_laws.proofs.laws.quote_ends_behind_block.Goals as goal

pub returns : goal.returns
returns c = ends_behind_block
