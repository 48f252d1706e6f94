use Rattle.mad_links.proofs.LinkAreaLemmas.{linked_drawn}
use Rattle.mad_links.proofs.laws.linked_rows_are_drawn.Goals as goal

pub returns : goal.returns
returns c = linked_drawn
