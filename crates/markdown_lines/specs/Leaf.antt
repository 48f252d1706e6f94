-- What is shown of a leaf's text.
use Rattle.std.specs.Prelude.{ℕ, Bool, false, ◌==◌, List, [], ◌∷◌, ◌++◌, map, length, chars, encode_utf8_all, if◌then◌else◌}
use Rattle.markdown_inlines.specs.Printable.{shown_char}
use Rattle.mad_md.specs.Flagged.{Run}
use Rattle.mad_md.specs.Lines.{LineContent, normal}
use Rattle.mad_md.specs.declared.composite.CompositeStyle.TheVariants.{Paragraph}
use Rattle.markdown_lines.specs.Glyphs.{leaf_glyphs, html_glyphs, trimmed, spaced_from, runs_of}
use Rattle.markdown_lines.specs.declared.glyphs.Glyph.{Glyph}

-- a text, each character as it is shown
unfoldable pub shown_text : List ℕ → List ℕ
shown_text text = encode_utf8_all (map shown_char (chars text))

-- a row of these characters
abbrev pub row_of : List Glyph → LineContent
row_of gs = normal (record { style = Paragraph; runs = runs_of (trimmed gs) })

-- the rows of a row that has begun, and then these characters: breaks cut them
unfoldable pub rows_from : List Glyph → List Glyph → List LineContent
rows_from row [] = row_of row ∷ []
rows_from row (g ∷ gs) = if g.c == 10 then row_of row ∷ rows_from [] gs else rows_from (row ++ g ∷ []) gs

-- the rows that breaks cut characters into; without characters there is none
abbrev pub rows_of : List Glyph → List LineContent
rows_of gs = if length gs == 0 then [] else rows_from [] gs

-- the rows of a leaf with this text, with links to definitions with these labels
unfoldable pub leaf_rows : List (List ℕ) → List ℕ → List LineContent
leaf_rows labels text = rows_of (trimmed (leaf_glyphs labels false text))

-- the runs of a cell with this text, in bold or as they are
unfoldable pub cell_runs : List (List ℕ) → Bool → List ℕ → List Run
cell_runs labels bold text = runs_of (spaced_from bold [] [] (trimmed (leaf_glyphs labels bold text)))

-- the rows of a leaf of html with this text
unfoldable pub html_lines : List ℕ → List LineContent
html_lines text = rows_of (trimmed (html_glyphs text))
