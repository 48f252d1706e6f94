use Rattle.std.proofs.Common.{◌-◌, ◌≤◌, arith, refl}
use Rattle.mad_marked_rows.proofs.CursorLemmas.{same_joined}
use Rattle.markdown_linked_pages.proofs.ColumnLemmas.{values_on}
use Rattle.markdown_linked_pages.proofs.column_marks.push_values.Goals as goal

pub loop-left-preserved : goal.loop-left-preserved
loop-left-preserved c =
    let before = c.loop-left in
    let done = c.in_ok-step.ensures in
    let up : before.cursor.number ≤ c.step.new.cursor.number = omega (arith, done.number) in
    record {
      values = values_on c.args.cursor.now.runs.now before.cursor.runs.now before.values.items c.push.new.self.items _ before.cursor.number c.step.new.cursor.number c.value_at.result before.left (before.left - 1) c.loop-left-test.true refl before.invariant.same c.value_at.ensures done.number
          c.in_ok-push.ensures.items before.invariant.values;
      number = omega (arith, before.invariant.number, done.number, c.loop-left-test.true);
      same = same_joined c.args.cursor.now.runs.now before.cursor.runs.now c.step.new.cursor.runs.now before.cursor.number c.step.new.cursor.number up before.invariant.same done.same;
    }
