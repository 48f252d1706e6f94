use Rattle.std.proofs.Common.{◌≡◌, ◌≤◌, ◌-◌, ◌++◌, map, drop, length, false, string_bytes}
use Rattle.markdown_inlines.specs.Styled.{spelled_of}
use Rattle.markdown_lines.specs.CutRows.{ahead}
use Rattle.markdown_lines.specs.Glyphs.{glyph_of, runs_of}
use Rattle.markdown_lines.specs.LinkNumbers.{after_links, numbers_of}
use Rattle.markdown_lines.specs.Said.{said}
use Rattle.markdown_lines.proofs.whole_cells.push_each.Given as goal

abbrev pub invariant-loop-index : goal.invariant-loop-index
invariant-loop-index l = record {
  within : l.index ≤ length l.styled.runs.items;
  grows : length (said l.fn.runs) ≤ length (said l.runs);
  runs : said l.runs ++ runs_of (map (glyph_of false) (ahead (drop l.index l.styled.runs.items) (string_bytes l.styled.text))) ≡ said l.fn.runs ++ runs_of (map (glyph_of false) (spelled_of l.styled));
  numbers : l.numbers.items ++ after_links l.before (numbers_of (map (glyph_of false) (ahead (drop l.index l.styled.runs.items) (string_bytes l.styled.text)))) ≡ l.fn.numbers.items ++ after_links l.before (numbers_of (map (glyph_of false) (spelled_of l.styled)));
}

abbrev pub decreases-loop-index : goal.decreases-loop-index
decreases-loop-index l = length l.styled.runs.items - l.index
