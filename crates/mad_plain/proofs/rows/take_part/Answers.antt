use Rattle.mad_plain.specs.Shown.{shown_so_far, rest_of}
use Rattle.mad_plain.proofs.RowLemmas.{taken_more, left_more}
use Rattle.mad_plain.proofs.rows.take_part.Goals as goal

pub loop-at-preserved : goal.loop-at-preserved
loop-at-preserved c = record {
  part = taken_more c.args.count c.loop-at.at _ (rest_of c.loop-at.rest) (rest_of c.next.new.self) _ (shown_so_far c.loop-at.shown) _ c.loop-at-test.true c.in-Some.ensures.cases c.in_ok-push.ensures c.loop-at.invariant.part;
  left = left_more c.args.count c.loop-at.at _ (rest_of c.loop-at.rest) (rest_of c.next.new.self) _ c.loop-at-test.true c.in-Some.ensures.cases c.loop-at.invariant.left;
}
