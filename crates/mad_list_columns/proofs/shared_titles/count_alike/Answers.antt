use Rattle.std.proofs.Common.{◌∙◌, string_bytes, sym}
use Rattle.mad_list_columns.proofs.TitleLemmas.{alike_more, begins_another}
use Rattle.mad_list_columns.proofs.shared_titles.count_alike.Goals as goal

pub loop-i-preserved : goal.loop-i-preserved
loop-i-preserved g c =
    alike_more (string_bytes c.args.first.now.title) c.args.others.now c.loop-i.i c.index-others-i.result c.loop-i-test.true c.index-others-i.is (sym c.ne.ensures ∙ c.if-ne.false) c.loop-i.invariant

pub returns-then-ne-clause-next : goal.returns-then-ne-clause-next
returns-then-ne-clause-next g c =
    begins_another (string_bytes c.args.first.now.title) c.args.others.now c.loop-i.i c.index-others-i.result c.loop-i-test.true c.index-others-i.is (sym c.ne.ensures ∙ c.if-ne.true)
