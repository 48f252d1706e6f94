use Rattle.std.proofs.Common.{◌++◌, ◌∙◌, ap, map}
use Rattle.mad_pages.specs.Fronts.{front_content, front_of}
use Rattle.mad_pages.specs.PageRows.{behind, heads_behind, is_head, number_behind}
use Rattle.mad_pages.proofs.BesideLemmas.{front_more, fronts_whole}
use Rattle.mad_pages.proofs.fronts.push_fronts.Goals as goal

pub loop-line-preserved : goal.loop-line-preserved
loop-line-preserved c =
    front_more c.loop-line.fronts.items c.push.new.self.items (record { gutters = c.args.gutters; fresh = c.loop-line.here; marks = c.loop-line.left; number = c.loop-line.number; head = c.is_head.result }) _ c.marks_from-left.result.now c.in_ok-number.number c.loop-line.heads c.heads_behind-heads.result
    c.args.lines.now c.loop-line.line-index c.line-item.result c.loop-line-test.true c.in_ok-push.ensures.items
    (c.in_ok-number.ensures ∙ ap (number_behind c.loop-line.left.now c.loop-line.number) c.line-item.is) c.marks_from-left.ensures
    (c.is_head.ensures ∙ ap (is_head c.loop-line.heads) c.line-item.is) (c.heads_behind-heads.ensures ∙ ap (heads_behind c.loop-line.heads) c.line-item.is) c.loop-line.invariant

pub returns : goal.returns
returns c =
    fronts_whole (map front_content c.loop-line.fronts.items) _ c.args.gutters.now c.loop-line.here c.loop-line.left.now c.loop-line.number c.loop-line.heads c.args.lines.now c.loop-line.line-index c.loop-line-test.false c.loop-line.invariant
