use Rattle.markdown_layout.proofs.ShownLemmas as lemmas
use Rattle.markdown_layout.proofs.laws.lists_show_faces.Goals as goal

pub returns : goal.returns
returns c = lemmas.lists_show_faces
