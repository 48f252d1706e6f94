use Rattle.std.proofs.Common.{◌∙◌}
use Rattle.std.specs.Vec.Iter.{into_iter_items}
use Rattle.mad_pages.proofs.PageLemmas.{row_more}
use Rattle.mad_pages.proofs.page_rows.push_behind.Goals as goal

pub loop-line-preserved : goal.loop-line-preserved
loop-line-preserved c =
    let steps = c.in-Some.ensures.steps in
    row_more c.loop-line.rows.items c.push.new.self.items (record { gutters = c.args.gutters; fresh = c.loop-line.fresh; marks = c.loop-line.marks; number = c.loop-line.number; head = c.is_head.result; line = c.in-Some.line }) c.marks_from-marks.result.now c.in_ok-after.after c.loop-line.heads c.heads_behind-below.result
    (into_iter_items c.next.new.self) c.in_ok-push.ensures.items c.in_ok-after.ensures c.marks_from-marks.ensures c.is_head.ensures c.heads_behind-below.ensures
    ∙ (rw steps.0 at c.loop-line.invariant)
