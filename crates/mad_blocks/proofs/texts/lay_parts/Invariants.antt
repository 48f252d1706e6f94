use Rattle.std.proofs.Common.{length}
use Rattle.mad_blocks.specs.PartCursors.{lines_left}
use Rattle.mad_blocks.proofs.PartCursorLemmas.{LaidSoFar}
use Rattle.mad_blocks.proofs.texts.lay_parts.Given as goal

abbrev pub invariant-loop-lines : goal.invariant-loop-lines
invariant-loop-lines g l = LaidSoFar (g.S.LineSkin.rules l.skin) l.width (lines_left l.fn.parts) (lines_left l.parts) l.lines.items

abbrev pub decreases-loop-lines : goal.decreases-loop-lines
decreases-loop-lines g l = length (lines_left l.parts)
