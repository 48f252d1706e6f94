use Rattle.mad_marks.specs.LineMarks.{has_mark}
use Rattle.mad_marks.proofs.NumberLemmas.{count_at}
use Rattle.mad_marks.proofs.numbers.count_in.Goals as goal

pub loop-compound-preserved : goal.loop-compound-preserved
loop-compound-preserved c =
    count_at (has_mark c.args.composite.now.kind) c.deref-compound-items.result.now c.args.composite.now.compounds.items c.loop-compound.compound-index _ c.loop-compound.count c.count_in_compound.result _ _ c.deref-compound-items.ensures.value c.loop-compound-test.true c.count_in_compound.ensures c.in_ok-count.ensures c.loop-compound.invariant
