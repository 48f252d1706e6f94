use Rattle.std.proofs.Common.{sym, ◌∙◌}
use Rattle.markdown_marks.proofs.TableLemmas.{none_delimited}
use Rattle.markdown_marks.proofs.tables.columns_from.Goals as goal

pub returns-then-is_nowhere : goal.returns-then-is_nowhere
returns-then-is_nowhere c =
    sym (none_delimited c.loop-rest.spot c.loop-rest.count c.loop-rest.rest.now (sym c.if-is_nowhere.ensures)) ∙ c.loop-rest.invariant.left
