use Rattle.std.proofs.Common.{length}
use Rattle.mad_md.specs.Lines.{contents}
use Rattle.mad_blocks.specs.PartCursors.{lines_left}
use Rattle.mad_pages.proofs.BesideLemmas.{PartsSoFar}
use Rattle.mad_pages.proofs.paged.push_parts.Given as goal

abbrev pub invariant-parts : goal.invariant-parts
invariant-parts g l = PartsSoFar (g.S.LineSkin.rules l.skin) l.width (contents l.fn.text) (lines_left l.parts) l.fn.lines.items l.fn.starts.items l.lines.items l.starts.items

abbrev pub decreases-parts : goal.decreases-parts
decreases-parts g l = length (lines_left l.parts)
