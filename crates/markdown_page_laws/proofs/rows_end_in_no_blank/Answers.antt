use Rattle.markdown_page_laws.proofs.PlainPageLemmas as lemmas
use Rattle.markdown_page_laws.proofs.rows_end_in_no_blank.Goals as goal

pub returns : goal.returns
returns c = lemmas.rows_end_in_no_blank
