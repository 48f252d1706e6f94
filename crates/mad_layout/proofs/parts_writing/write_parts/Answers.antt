use Rattle.std.proofs.Common.{string_bytes, ap, ◌∙◌, subst, arith}
use Rattle.mad_blocks.specs.PartCursors.{lines_left}
use Rattle.mad_term.specs.Trace.{after, CutShort}
use Rattle.mad_layout.proofs.TakenParts.{taken_written, taken_refused, taken_shorter}
use Rattle.mad_layout.proofs.WrittenLemmas.{written_start, written_early, written_cut_short, written_whole}
use Rattle.mad_layout.proofs.parts_writing.write_parts.Goals as goal

pub loop-lines-init : goal.loop-lines-init
loop-lines-init g c = record {
  so_far = written_start c.args.skin.now c.args.width (lines_left c.args.parts.now) (string_bytes c.new-rows.result) (g.O.Out.seen c.args.out.now) c.new-rows.ensures.bytes;
  none = c.new-lines.ensures.items;
}

pub returns-in_err-take_next : goal.returns-in_err-take_next
returns-in_err-take_next g c = written_early c.args.skin.now c.args.width _ _ _ _ _ _ c.loop-lines.invariant.so_far c.from_residual.ensures.1

pub loop-lines-preserved : goal.loop-lines-preserved
loop-lines-preserved g c = record {
  so_far = taken_written c.args.skin.now c.args.width _ _ (lines_left c.take_next.new.parts) _ c.take_next.new.lines.items _ _ _ _ _ _ c.loop-lines.invariant.so_far (rw c.if-branch.true at c.in_ok-take_next.ensures)
      c.in_ok-hand_on_unmarked.ensures.handed;
  none = c.in_ok-hand_on_unmarked.ensures.dropped;
}

pub loop-lines-smaller : goal.loop-lines-smaller
loop-lines-smaller g c =
    let shorter = taken_shorter c.args.skin.now c.args.width (lines_left c.loop-lines.parts) (lines_left c.take_next.new.parts) _ _ _ (rw c.if-branch.true at c.in_ok-take_next.ensures) in
    omega (arith, shorter, c.in_ok-hand_on_unmarked.ensures.shorter)

pub returns-in_err-hand_on_unmarked : goal.returns-in_err-hand_on_unmarked
returns-in_err-hand_on_unmarked g c =
    taken_refused c.args.skin.now c.args.width _ _ (lines_left c.take_next.new.parts) _ c.take_next.new.lines.items _ _ _ _ _ _ _ _ c.loop-lines.invariant.so_far (rw c.if-branch.true at c.in_ok-take_next.ensures)
    c.in_err-hand_on_unmarked.ensures.handed c.from_residual-in_err-hand_on_unmarked.ensures.1

pub returns-in_err-put_all : goal.returns-in_err-put_all
returns-in_err-put_all g c =
    let end = rw c.if-branch.false at c.in_ok-take_next.ensures in
    written_cut_short c.args.skin.now c.args.width _ _ _ _ _ _ _ _ c.loop-lines.invariant.so_far c.from_residual-in_err-put_all.ensures.1
    (subst (λ b. CutShort (g.O.Out.seen c.loop-lines.out) b (g.O.Out.seen c.put_all.new.out)) (c.as_bytes.ensures.value ∙ end.2) c.in_err-put_all.ensures)

pub returns : goal.returns
returns g c =
    let end = rw c.if-branch.false at c.in_ok-take_next.ensures in
    written_whole c.args.skin.now c.args.width _ _ _ _ _ _ c.loop-lines.invariant.so_far end.0 (c.in_ok-put_all.ensures ∙ ap (after (g.O.Out.seen c.loop-lines.out)) (c.as_bytes.ensures.value ∙ end.2))
