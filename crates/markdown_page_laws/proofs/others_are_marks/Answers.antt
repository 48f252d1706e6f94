use Rattle.markdown_page_laws.proofs.BetweenLemmas as lemmas
use Rattle.markdown_page_laws.proofs.others_are_marks.Goals as goal

pub returns : goal.returns
returns c = lemmas.others_are_marks
