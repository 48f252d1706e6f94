-- Tables: rows of cells between bars, and the row of delimiters below the head.
use Rattle.std.specs.Prelude.{ℕ, ◌==◌, List, [], ◌∷◌, ◌++◌, flat_map, map}
use Rattle.mad_md.specs.declared.alignment.Alignment.{Alignment}
use Rattle.mad_md.specs.declared.alignment.Alignment.TheVariants.{Unspecified, Left, Center, Right}
use Rattle.markdown_writing.specs.Phrases.{Phrase, line_text}
use Rattle.markdown_writing.specs.Words.{escaped_if}

-- a byte of a cell: a backslash stands before a bar, since a bar ends a cell
abbrev pub barred_byte : ℕ → List ℕ
barred_byte b = escaped_if (b == 124) b

-- a text with these backslashes
abbrev pub barred : List ℕ → List ℕ
barred text = flat_map barred_byte text

-- a cell: a blank at both sides of its text, and the bar behind it
abbrev pub cell_text : List Phrase → List ℕ
cell_text phrases = 32 ∷ (barred (line_text phrases) ++ 32 ∷ 124 ∷ [])

-- a row: a bar, and its cells
abbrev pub row_text : List (List Phrase) → List ℕ
row_text cells = 124 ∷ flat_map cell_text cells

-- What stands below the head of a column: three signs between blanks, and a bar. A colon is at each side to which the column is aligned.
abbrev pub delimiter : Alignment → List ℕ
delimiter Unspecified = 32 ∷ 45 ∷ 45 ∷ 45 ∷ 32 ∷ 124 ∷ []
delimiter Left = 32 ∷ 58 ∷ 45 ∷ 45 ∷ 32 ∷ 124 ∷ []
delimiter Center = 32 ∷ 58 ∷ 45 ∷ 58 ∷ 32 ∷ 124 ∷ []
delimiter Right = 32 ∷ 45 ∷ 45 ∷ 58 ∷ 32 ∷ 124 ∷ []

-- the row of delimiters
abbrev pub delimiters : List Alignment → List ℕ
delimiters rule = 124 ∷ flat_map delimiter rule

-- the lines of a table: its head, the delimiters, and its rows
abbrev pub table_lines : List Alignment → (head : List (List Phrase)) → (rows : List (List (List Phrase))) → List (List ℕ)
table_lines rule head rows = row_text head ∷ delimiters rule ∷ map row_text rows
