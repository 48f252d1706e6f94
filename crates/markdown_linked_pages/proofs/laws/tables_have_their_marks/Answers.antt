use Rattle.markdown_linked_pages.proofs.TableColumnLemmas.{tables_have_marks}
use Rattle.markdown_linked_pages.proofs.laws.tables_have_their_marks.Goals as goal

pub returns : goal.returns
returns c = tables_have_marks
