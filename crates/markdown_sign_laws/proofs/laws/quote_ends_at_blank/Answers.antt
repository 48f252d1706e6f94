use Rattle.markdown_sign_laws.proofs.QuoteLemmas.{ends_at_blank}
use Rattle.markdown_sign_laws.proofs.laws.quote_ends_at_blank.Goals as goal

pub returns : goal.returns
returns c = ends_at_blank
