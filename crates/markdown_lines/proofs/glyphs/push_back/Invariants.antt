use Rattle.std.proofs.Common.{◌≡◌, ◌++◌, map, chars, reverse, length}
use Rattle.std.specs.Str.{IsUtf8}
use Rattle.std.specs.Str.Iter.{chars_rest}
use Rattle.markdown_inlines.specs.Styled.{shown_with}
use Rattle.markdown_lines.specs.Glyphs.{glyph_of}
use Rattle.markdown_lines.proofs.glyphs.push_back.Given as goal

abbrev pub invariant-loop-c : goal.invariant-loop-c
invariant-loop-c l = record {
  utf8 : IsUtf8 (chars_rest l.rest);
  so_far : map (glyph_of l.bold) (map (shown_with l.look) (chars (chars_rest l.rest))) ++ reverse l.glyphs.items ≡ map (glyph_of l.bold) (map (shown_with l.look) (chars l.text)) ++ reverse l.fn.glyphs.items;
}

abbrev pub decreases-loop-c : goal.decreases-loop-c
decreases-loop-c l = length (chars_rest l.rest)
