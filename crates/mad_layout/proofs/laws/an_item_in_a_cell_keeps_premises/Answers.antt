use Rattle.mad_layout.proofs.ItemCellLemmas.{item_in_a_cell_keeps_premises}
use Rattle.mad_layout.proofs.laws.an_item_in_a_cell_keeps_premises.Goals as goal

pub returns : goal.returns
returns c = item_in_a_cell_keeps_premises
