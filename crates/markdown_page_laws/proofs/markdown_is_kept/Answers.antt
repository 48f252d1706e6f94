use Rattle.markdown_page_laws.proofs.DressedLemmas as lemmas
use Rattle.markdown_page_laws.proofs.markdown_is_kept.Goals as goal

pub returns : goal.returns
returns c = lemmas.markdown_is_kept
