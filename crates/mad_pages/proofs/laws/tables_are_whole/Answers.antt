use Rattle.mad_pages.proofs.WholeLemmas.{tables_are_whole}
use Rattle.mad_pages.proofs.laws.tables_are_whole.Goals as goal

pub returns : goal.returns
returns c = tables_are_whole
