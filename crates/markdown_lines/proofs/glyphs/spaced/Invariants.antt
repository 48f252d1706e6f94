use Rattle.std.proofs.Common.{◌≡◌, [], length}
use Rattle.markdown_lines.specs.Glyphs.{spaced_from}
use Rattle.markdown_lines.proofs.glyphs.spaced.Given as goal

abbrev pub invariant-loop-rest : goal.invariant-loop-rest
invariant-loop-rest l = spaced_from l.bold l.shown.items l.row.items l.rest ≡ spaced_from l.bold [] [] l.glyphs

abbrev pub decreases-loop-rest : goal.decreases-loop-rest
decreases-loop-rest l = length l.rest
