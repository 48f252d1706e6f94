use Rattle.std.proofs.Common.{◌≡◌, length}
use Rattle.markdown_lines.specs.Glyphs.{without_front}
use Rattle.markdown_lines.proofs.glyphs.without_front.Given as goal

abbrev pub invariant-loop-rest : goal.invariant-loop-rest
invariant-loop-rest l = without_front l.rest ≡ without_front l.glyphs

abbrev pub decreases-loop-rest : goal.decreases-loop-rest
decreases-loop-rest l = length l.rest
