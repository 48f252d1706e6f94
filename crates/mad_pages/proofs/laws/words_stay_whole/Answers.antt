use Rattle.mad_pages.proofs.WordLemmas.{cells_keep_words, tables_keep_words}
use Rattle.mad_pages.proofs.laws.words_stay_whole.Goals as goal

pub returns-clause-cells : goal.returns-clause-cells
returns-clause-cells c = cells_keep_words

pub returns-clause-tables : goal.returns-clause-tables
returns-clause-tables c = tables_keep_words
