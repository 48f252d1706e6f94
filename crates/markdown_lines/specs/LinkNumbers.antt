-- Which links the runs of a leaf belong to: for each run that is of a link its number, in the order of the text. The links of a leaf are numbered from 0, in
-- the order of the pieces that make them.
use Rattle.std.specs.Prelude.{ℕ, ◌+◌, Bool, false, ◌==◌, List, [], ◌∷◌, ◌++◌, length, map, Option, Some, None, if◌then◌else◌}
use Rattle.markdown_lines.specs.Glyphs.{leaf_glyphs, html_glyphs, trimmed, spaced_from, is_same_run}
use Rattle.markdown_lines.specs.declared.glyphs.Glyph.{Glyph}

-- the number of a link, if there is one
abbrev pub one_number : Option ℕ → List ℕ
one_number None = []
one_number (Some number) = number ∷ []

-- of the run that has begun with a character, and of the runs of these characters
unfoldable pub numbers_from : Glyph → List Glyph → List ℕ
numbers_from first [] = one_number first.link
numbers_from first (g ∷ gs) = if is_same_run first g then numbers_from first gs else one_number first.link ++ numbers_from g gs

-- of the runs of characters
abbrev pub numbers_of : List Glyph → List ℕ
numbers_of [] = []
numbers_of (g ∷ gs) = numbers_from g gs

-- of a row of these characters
abbrev pub row_numbers : List Glyph → List ℕ
row_numbers gs = numbers_of (trimmed gs)

-- of the rows of a row that has begun, and then these characters: breaks cut them
unfoldable pub rows_numbers_from : List Glyph → List Glyph → List ℕ
rows_numbers_from row [] = row_numbers row
rows_numbers_from row (g ∷ gs) = if g.c == 10 then row_numbers row ++ rows_numbers_from [] gs else rows_numbers_from (row ++ g ∷ []) gs

-- of the rows that breaks cut characters into
abbrev pub rows_numbers : List Glyph → List ℕ
rows_numbers gs = if length gs == 0 then [] else rows_numbers_from [] gs

-- of the rows of a leaf with this text, with links to definitions with these labels
unfoldable pub leaf_numbers : List (List ℕ) → List ℕ → List ℕ
leaf_numbers labels text = rows_numbers (trimmed (leaf_glyphs labels false text))

-- of the rows of a leaf of html with this text
unfoldable pub html_numbers : List ℕ → List ℕ
html_numbers text = rows_numbers (trimmed (html_glyphs text))

-- of a cell with this text, in bold or as it is
unfoldable pub cell_numbers : List (List ℕ) → Bool → List ℕ → List ℕ
cell_numbers labels bold text = numbers_of (spaced_from bold [] [] (trimmed (leaf_glyphs labels bold text)))

-- numbers of links that come after so many others
abbrev pub after_links : ℕ → List ℕ → List ℕ
after_links before numbers = map (λ number. before + number) numbers
