use Rattle.markdown_laws.proofs.ItemLemmas.{item}
use Rattle.markdown_laws.proofs.laws.item_holds_its_lines.Goals as goal

pub returns : goal.returns
returns c = item
