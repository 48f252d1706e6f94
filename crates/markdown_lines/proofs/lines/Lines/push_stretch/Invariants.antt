use Rattle.std.proofs.Common.{◌≡◌, ◌≤◌, ◌++◌, List, map, chars, drop, length}
use denote.Text.{Utf8}
use denote.Shadow.{shadow}
use Rattle.markdown_lines.specs.CutRows.{like, cut_rows, begun_rows, cut_numbers, BeginsApart}
use Rattle.markdown_lines.specs.Said.{said}
use Rattle.markdown_lines.specs.Shown.{shown}
use Rattle.markdown_lines.specs.declared.glyphs.Glyph.{Glyph}
use Rattle.markdown_lines.proofs.lines.Lines.push_stretch.Given as goal

abbrev pub invariant-loop-at : goal.invariant-loop-at
invariant-loop-at l = shadow (Utf8 l.rest) × (l.from ≤ length (said l.self.runs))
    × ((more : List Glyph) → BeginsApart l.glyph more → shown l.self ++ begun_rows (drop l.from (said l.self.runs)) (cut_rows (map (like l.glyph) (chars l.rest) ++ more)) ≡ shown l.fn.self ++ begun_rows (drop l.start (said l.fn.self.runs)) (cut_rows (map (like l.glyph) (chars l.text) ++ more)))
    × ((more : List Glyph) → BeginsApart l.glyph more → l.numbers.items ++ cut_numbers (cut_rows (map (like l.glyph) (chars l.rest) ++ more)) ≡ l.fn.numbers.items ++ cut_numbers (cut_rows (map (like l.glyph) (chars l.text) ++ more)))

abbrev pub decreases-loop-at : goal.decreases-loop-at
decreases-loop-at l = length l.rest
