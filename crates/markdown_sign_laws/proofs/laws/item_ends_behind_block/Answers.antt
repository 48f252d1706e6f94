use Rattle.markdown_sign_laws.proofs.ItemLemmas.{item_behind_block}
use Rattle.markdown_sign_laws.proofs.laws.item_ends_behind_block.Goals as goal

pub returns : goal.returns
returns c = item_behind_block
