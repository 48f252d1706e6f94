use Rattle.markdown_page_laws.proofs.PageLemmas as lemmas
use Rattle.markdown_page_laws.proofs.pages_keep.Goals as goal

pub returns : goal.returns
returns c = lemmas.pages_keep
