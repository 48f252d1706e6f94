use Rattle.markdown_layout.proofs.NestedRowLemmas as lemmas
use Rattle.markdown_layout.proofs.laws.rows_nest.Goals as goal

pub returns : goal.returns
returns c = lemmas.rows_nest
