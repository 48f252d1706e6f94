use Rattle.markdown_laws.proofs.ItemLemmas.{fence_in_item}
use Rattle.markdown_laws.proofs.laws.fence_ends_with_its_item.Goals as goal

pub returns : goal.returns
returns c = fence_in_item
