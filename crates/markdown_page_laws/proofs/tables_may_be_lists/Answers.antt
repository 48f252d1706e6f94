use Rattle.markdown_page_laws.proofs.TableSectionLemmas as lemmas
use Rattle.markdown_page_laws.proofs.tables_may_be_lists.Goals as goal

pub returns : goal.returns
returns c = lemmas.tables_may_be_lists
