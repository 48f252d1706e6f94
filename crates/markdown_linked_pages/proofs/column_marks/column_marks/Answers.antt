use Rattle.std.proofs.Common.{◌≤◌, ◌∙◌, arith, map}
use Rattle.std.proofs.lemmas.List.{drop_all}
use Rattle.mad_md.specs.Lines.{content_of}
use Rattle.mad_sections.specs.Sections.{section_content}
use Rattle.mad_marked_rows.proofs.CursorLemmas.{same_joined}
use Rattle.markdown_linked_pages.specs.ColumnsKept.{column_values}
use Rattle.markdown_linked_pages.proofs.ColumnLemmas.{are_marks, line_at, line_put, line_up, lines_long, lines_put}
use Rattle.markdown_linked_pages.proofs.column_marks.column_marks.Goals as goal

pub loop-line-preserved : goal.loop-line-preserved
loop-line-preserved c =
    let before = c.loop-line in
    let held = before.invariant in
    let done = c.in_ok-push_line.ensures in
    let items = c.args.section.now.text.lines.items in
    let found = c.deref-line-items.result.now in
    let same_items = c.deref-line-items.ensures.value in
    let line = c.line-item.result in
    let up : before.cursor.number ≤ c.push_line.new.cursor.number = omega (arith, done.number, line_up before.cursor.number (content_of line)) in
    record {
      so_far = line_put c.args.section.now.marks.now before.cursor.runs.now (map column_values before.columns.items) (map column_values c.push_line.new.columns.items) _ before.cursor.number c.push_line.new.cursor.number (map content_of items) before.line-index (content_of line)
          (omega (arith, c.loop-line-test.true, lines_long found items same_items)) (line_at found items before.line-index line same_items c.line-item.is) held.same done.columns done.number held.so_far;
      same = same_joined c.args.section.now.marks.now before.cursor.runs.now c.push_line.new.cursor.runs.now before.cursor.number c.push_line.new.cursor.number up held.same done.same;
    }

pub returns : goal.returns
returns c =
    let last = c.loop-line in
    let items = c.args.section.now.text.lines.items in
    let found = c.deref-line-items.result.now in
    let none = drop_all last.line-index (map content_of items) (omega (arith, c.loop-line-test.false, lines_long found items c.deref-line-items.ensures.value)) in
    are_marks c.lead.result (section_content c.args.section.now) (map column_values last.columns.items) c.lead.ensures c.if-not-lead.false (lines_put c.args.section.now.marks.now (map column_values last.columns.items) _ last.cursor.number _ none last.invariant.so_far)
