use Rattle.markdown_page_laws.proofs.ShownPageLemmas as lemmas
use Rattle.markdown_page_laws.proofs.pages_show.Goals as goal

pub returns : goal.returns
returns c = lemmas.pages_show
