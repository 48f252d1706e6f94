use Rattle.mad_blocks.specs.PartCursors.{lines_left}
use Rattle.mad_blocks.proofs.PartCursorLemmas.{laid_on}
use Rattle.mad_blocks.proofs.texts.lay_parts.Goals as goal

pub loop-lines-preserved : goal.loop-lines-preserved
loop-lines-preserved g c =
    laid_on (g.S.LineSkin.rules c.args.skin.now) c.args.width (lines_left c.args.parts.now) (lines_left c.loop-lines.parts) (lines_left c.lay_next.new.self) c.loop-lines.lines.items c.lay_next.new.lines.items c.loop-lines.invariant
    (rw c.if-branch.true at c.in_ok-lay_next.ensures)
