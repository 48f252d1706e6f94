use Rattle.markdown_page_laws.proofs.CellLemmas as lemmas
use Rattle.markdown_page_laws.proofs.cells_have_blanks.Goals as goal

pub returns : goal.returns
returns c = lemmas.cells_have_blanks
