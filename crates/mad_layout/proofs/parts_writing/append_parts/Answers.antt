use Rattle.std.proofs.Common.{◌++◌, string_bytes, ap, ◌∙◌}
use Rattle.mad_blocks.specs.PartCursors.{lines_left}
use Rattle.mad_rows.specs.Rows.{text_bytes}
use Rattle.mad_layout.proofs.TakenParts.{rows_start, rows_more, rows_end, taken_shorter}
use Rattle.mad_layout.proofs.parts_writing.append_parts.Goals as goal

pub loop-lines-init : goal.loop-lines-init
loop-lines-init c = record {
  so_far = rows_start c.args.skin.now c.args.width (lines_left c.args.parts.now) (string_bytes c.args.rows.now);
  none = c.new-lines.ensures.items;
}

pub loop-lines-preserved : goal.loop-lines-preserved
loop-lines-preserved c = record {
  so_far = rows_more c.args.skin.now c.args.width _ _ (lines_left c.take_next.new.parts) c.take_next.new.lines.items _ _ (string_bytes c.take_next.new.rows) (string_bytes c.append_lines.new.rows) c.loop-lines.invariant.so_far (rw c.if-branch.true at c.in_ok-take_next.ensures)
      (c.in_ok-append_lines.ensures ∙ ap (λ ls. string_bytes c.take_next.new.rows ++ text_bytes c.args.skin.now c.args.width ls) c.as_slice.ensures.value);
  none = c.clear.ensures.items;
}

pub loop-lines-smaller : goal.loop-lines-smaller
loop-lines-smaller c = taken_shorter c.args.skin.now c.args.width (lines_left c.loop-lines.parts) (lines_left c.take_next.new.parts) _ _ _ (rw c.if-branch.true at c.in_ok-take_next.ensures)

pub returns : goal.returns
returns c =
    let end = rw c.if-branch.false at c.in_ok-take_next.ensures in
    rows_end c.args.skin.now c.args.width _ _ _ _ _ c.loop-lines.invariant.so_far end.0 end.2
