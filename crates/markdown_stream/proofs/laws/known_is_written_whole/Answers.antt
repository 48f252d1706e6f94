use Rattle.markdown_stream.proofs.RowLemmas as lemmas
use Rattle.markdown_stream.proofs.laws.known_is_written_whole.Goals as goal

pub returns : goal.returns
returns c = lemmas.known_is_written_whole
