use Rattle.markdown_layout.proofs.CellLemmas as lemmas
use Rattle.markdown_layout.proofs.laws.table_words_stay_whole.Goals as goal

pub returns : goal.returns
returns c = record { cells = lemmas.cells_are_plain; words = lemmas.sections_keep_words }
