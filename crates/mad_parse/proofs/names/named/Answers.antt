use Rattle.std.proofs.Common.{◌∙◌, true, false}
use Rattle.mad_parse.proofs.NameLemmas.{named_by, looked_up_next}
use Rattle.mad_parse.proofs.names.named.Goals as goal

pub returns-then-eq_ignore_ascii_case : goal.returns-then-eq_ignore_ascii_case
returns-then-eq_ignore_ascii_case g c =
    looked_up_next c.args.names.now c.args.text.now c.loop-name.name-index c.loop-name-item.result true c.loop-name-test.true c.loop-name-item.is
    (named_by _ _ _ c.eq_ignore_ascii_case.ensures.test ∙ c.if-eq_ignore_ascii_case.true)
    ∙ c.loop-name.invariant

pub loop-name-preserved : goal.loop-name-preserved
loop-name-preserved g c =
    looked_up_next c.args.names.now c.args.text.now c.loop-name.name-index c.loop-name-item.result false c.loop-name-test.true c.loop-name-item.is
    (named_by _ _ _ c.eq_ignore_ascii_case.ensures.test ∙ c.if-eq_ignore_ascii_case.false)
    ∙ c.loop-name.invariant
