use Rattle.std.proofs.Common.{◌≡◌, ◌≤◌, ◌++◌, map, reverse, take, length}
use denote.Text.{Utf8}
use denote.Shadow.{shadow}
use Rattle.markdown_inlines.specs.Styled.{spelled, spelled_of, AreRuns}
use Rattle.markdown_lines.specs.Glyphs.{glyph_of}
use Rattle.markdown_lines.proofs.glyphs.glyphs_of.Given as goal

abbrev pub invariant-loop-count : goal.invariant-loop-count
invariant-loop-count l = shadow (Utf8 l.text) × (l.count ≤ length l.styled.runs.items) × (AreRuns (reverse (take l.count l.styled.runs.items)) l.text)
    × (map (glyph_of l.bold) (spelled (reverse (take l.count l.styled.runs.items)) l.text) ++ reverse l.glyphs.items ≡ map (glyph_of l.bold) (spelled_of l.styled))

abbrev pub decreases-loop-count : goal.decreases-loop-count
decreases-loop-count l = l.count
