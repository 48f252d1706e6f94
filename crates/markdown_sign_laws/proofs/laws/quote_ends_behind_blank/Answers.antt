use Rattle.markdown_sign_laws.proofs.QuoteLemmas.{ends_behind_blank}
use Rattle.markdown_sign_laws.proofs.laws.quote_ends_behind_blank.Goals as goal

pub returns : goal.returns
returns c = ends_behind_blank
