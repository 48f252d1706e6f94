use Rattle.markdown_sign_laws.proofs.ItemLemmas.{ends_at_less}
use Rattle.markdown_sign_laws.proofs.laws.item_ends_at_less.Goals as goal

pub returns : goal.returns
returns c = ends_at_less
