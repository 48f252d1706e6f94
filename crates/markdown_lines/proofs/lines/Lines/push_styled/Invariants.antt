use Rattle.std.proofs.Common.{◌≡◌, ◌≤◌, ◌-◌, ◌++◌, map, drop, length, false, string_bytes}
use Rattle.markdown_inlines.specs.Styled.{spelled_of}
use Rattle.markdown_lines.specs.CutRows.{cut_rows, whole_row, begun_rows, cut_numbers, ahead}
use Rattle.markdown_lines.specs.Glyphs.{glyph_of}
use Rattle.markdown_lines.specs.Said.{said}
use Rattle.markdown_lines.specs.Shown.{shown}
use Rattle.markdown_lines.proofs.lines.Lines.push_styled.Given as goal

abbrev pub invariant-loop-index : goal.invariant-loop-index
invariant-loop-index l = record {
  from : l.start ≤ length (said l.self.runs);
  within : l.index ≤ length l.styled.runs.items;
  rows : shown l.self ++ begun_rows (drop l.start (said l.self.runs)) (cut_rows (map (glyph_of false) (ahead (drop l.index l.styled.runs.items) (string_bytes l.styled.text)))) ≡ shown l.fn.self ++ map whole_row (cut_rows (map (glyph_of false) (spelled_of l.styled)));
  numbers : l.numbers.items ++ cut_numbers (cut_rows (map (glyph_of false) (ahead (drop l.index l.styled.runs.items) (string_bytes l.styled.text)))) ≡ l.fn.numbers.items ++ cut_numbers (cut_rows (map (glyph_of false) (spelled_of l.styled)));
}

abbrev pub decreases-loop-index : goal.decreases-loop-index
decreases-loop-index l = length l.styled.runs.items - l.index
