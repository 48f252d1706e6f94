use Rattle.std.proofs.Common.{arith}
use Rattle.mad_mark_runs.specs.Values.{end_from}
use Rattle.mad_link_marks.proofs.LinkMarkLemmas.{marks_next, marks_done, texts_done}
use Rattle.mad_link_marks.proofs.link_marks.text_marks.Goals as goal
use Rattle.mad_link_marks.proofs.link_marks.text_marks.Goals.{then-loop-index-test+else-index-texts, else-loop-index-test}

pub loop-index-preserved : goal.loop-index-preserved
loop-index-preserved c = record {
  rising = c.push_run.ensures.rising;
  so_far = marks_next (λ t. t.now) c.loop-index.marks.items c.push_run.new.runs.items _ c.args.numbers.now c.args.texts.now c.loop-index.index c.in_ok-mark.mark c.count_of.result _ _ (omega (arith, c.loop-index-test.true)) (omega (arith, c.if-index-texts.true))
      c.in_ok-mark.ensures c.count_of.ensures c.in_ok-push_run.ensures.runs c.loop-index.invariant.so_far;
}

pub returns-clause-marks : goal.returns-clause-marks
returns-clause-marks c =
    elim c.loop-index-test.branch [
      | then-loop-index-test+else-index-texts w ↦ texts_done (λ t. t.now) c.loop-index.marks.items _ (end_from 0 c.loop-index.marks.items) c.args.numbers.now c.args.texts.now c.loop-index.index (omega (arith, w.if-index-texts.false)) c.loop-index.invariant.so_far
      | else-loop-index-test w ↦ marks_done (λ t. t.now) c.loop-index.marks.items _ (end_from 0 c.loop-index.marks.items) c.args.numbers.now c.args.texts.now c.loop-index.index (omega (arith, w.loop-index-test.false)) c.loop-index.invariant.so_far
    ]
