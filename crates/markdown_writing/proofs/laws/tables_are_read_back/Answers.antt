use Rattle.markdown_writing.proofs.TableLemmas.{tables_read}
use Rattle.markdown_writing.proofs.laws.tables_are_read_back.Goals as goal

pub returns : goal.returns
returns c = tables_read
