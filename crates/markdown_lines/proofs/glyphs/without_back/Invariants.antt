use Rattle.std.proofs.Common.{◌≤◌, length}
use Rattle.markdown_lines.proofs.GlyphLemmas.{LeavesSame}
use Rattle.markdown_lines.proofs.glyphs.without_back.Given as goal

abbrev pub invariant-loop-len : goal.invariant-loop-len
invariant-loop-len l = record { same : LeavesSame l.glyphs l.len; within : l.len ≤ length l.glyphs }

abbrev pub decreases-loop-len : goal.decreases-loop-len
decreases-loop-len l = l.len
