use Rattle.std.proofs.Common.{◌∙◌, arith}
use Rattle.std.proofs.lemmas.Result.{IfOk-weaker}
use Rattle.markdown_events.specs.Walks.{walking_of}
use Rattle.markdown_events.proofs.WalkLemmas.{part_more, text_walked}
use Rattle.markdown_events.proofs.read.read_events.Goals as goal

pub loop-part-preserved : goal.loop-part-preserved
loop-part-preserved c =
    part_more c.deref-part-items.result.now c.loop-part.part-index c.part-item.result (walking_of c.loop-part.walk) (walking_of c.tell.new.self) c.loop-part-test.true c.part-item.is c.in_ok-tell.ensures
    ∙ c.loop-part.invariant

pub returns : goal.returns
returns c =
    IfOk-weaker c.into_events.result _ _
    (λ events h. h ∙ text_walked c.args.text.now c.in_ok-parts.parts.items c.deref-part-items.result.now c.loop-part.part-index (walking_of c.loop-part.walk) c.in_ok-parts.ensures c.deref-part-items.ensures.value (omega arith) c.loop-part.invariant)
    c.into_events.ensures
