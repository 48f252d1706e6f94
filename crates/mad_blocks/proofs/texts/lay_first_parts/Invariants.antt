use Rattle.std.proofs.Common.{length}
use Rattle.mad_blocks.specs.PartCursors.{lines_left}
use Rattle.mad_blocks.proofs.PartCursorLemmas.{LaidSoFar}
use Rattle.mad_blocks.proofs.texts.lay_first_parts.Given as goal

abbrev pub invariant-loop-parts : goal.invariant-loop-parts
invariant-loop-parts g l = LaidSoFar (g.S.LineSkin.rules l.skin) l.width (lines_left l.fn.parts) (lines_left l.parts) l.lines.items

abbrev pub decreases-loop-parts : goal.decreases-loop-parts
decreases-loop-parts g l = length (lines_left l.parts)
