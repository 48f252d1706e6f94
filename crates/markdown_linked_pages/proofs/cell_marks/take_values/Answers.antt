use Rattle.std.proofs.Common.{ℕ, ◌+◌, ◌-◌, ◌∙◌, ap, refl}
use Rattle.markdown_linked_pages.proofs.TakenLemmas.{value_left, value_taken}
use Rattle.markdown_linked_pages.proofs.cell_marks.take_values.Goals as goal

pub loop-wanted-preserved : goal.loop-wanted-preserved
loop-wanted-preserved c =
    let before = c.loop-wanted in
    record {
      marks = value_taken before.marks.items c.push.new.self.items _ before.left.now c.tail-left.result.now before.wanted (before.wanted - 1) c.first-value.result _ c.loop-wanted-test.true refl c.first-value.ensures
          (ap (λ (k : ℕ). k + 1) (c.len-end.ensures ∙ before.marks.ok.0)) c.tail-left.ensures c.in_ok-push.ensures.items before.invariant.marks;
      left = value_left before.left.now c.tail-left.result.now _ before.wanted (before.wanted - 1) c.loop-wanted-test.true refl c.tail-left.ensures before.invariant.left;
    }
