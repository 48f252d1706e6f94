-- What the items of a list say that stands for a table.
use Rattle.std.specs.Prelude.{ℕ, ◌+◌, ◌*◌, ◌==◌, max, nat_le, Bool, true, false, ◌&&◌, List, [], ◌∷◌, ◌++◌, length, drop, map, chars, if◌then◌else◌}
use Rattle.mad_characters.specs.Columns.{char_columns}
use Rattle.mad_md.specs.Flagged.{Run, unflagged}
use Rattle.mad_md.specs.Lines.{StyledRuns, LineContent, normal}
use Rattle.mad_md.specs.declared.composite.CompositeStyle.TheVariants.{Paragraph}

-- a paragraph of runs
abbrev pub paragraph : List Run → LineContent
paragraph runs = normal (record { style = Paragraph; runs = runs })

-- a colon and a blank
abbrev pub colon : Run
colon = record { flags = unflagged; text = 58 ∷ 32 ∷ [] }

-- what is said of a head in front of its cell; of an empty one, or where there is none, nothing
abbrev pub label : List StyledRuns → List Run
label [] = []
label (head ∷ heads) = if length head.runs == 0 then [] else head.runs ++ colon ∷ []

-- the paragraph of a cell behind its label; of an empty cell none
abbrev pub cell_lines : List Run → StyledRuns → List LineContent
cell_lines label cell = if length cell.runs == 0 then [] else paragraph (label ++ cell.runs) ∷ []

-- the paragraphs of a row's cells, each behind its head
abbrev pub row_lines : List StyledRuns → List StyledRuns → List LineContent
row_lines heads [] = []
row_lines heads (cell ∷ cells) = cell_lines (label heads) cell ++ row_lines (drop 1 heads) cells

-- these lines, or where there is none an empty paragraph
abbrev pub or_blank : List LineContent → List LineContent
or_blank [] = paragraph [] ∷ []
or_blank (line ∷ lines) = line ∷ lines

-- the item of a row
abbrev pub item_lines : List StyledRuns → List StyledRuns → List LineContent
item_lines heads cells = or_blank (row_lines heads cells)

-- how long a text is: its columns, where each character counts as one at least
abbrev pub text_length : List ℕ → ℕ
text_length [] = 0
text_length (c ∷ cs) = max (char_columns c) 1 + text_length cs

-- how long runs are
abbrev pub runs_length : List Run → ℕ
runs_length [] = 0
runs_length (run ∷ runs) = text_length (chars run.text) + runs_length runs

-- no head is longer than half of the room
abbrev pub are_short : ℕ → List StyledRuns → Bool
are_short room [] = true
are_short room (head ∷ heads) = nat_le (2 * runs_length head.runs) room && are_short room heads

-- heads are said in front of their cells where there are rows below them, and none is longer than half of the room
abbrev pub says_heads : ℕ → List StyledRuns → List (List StyledRuns) → Bool
says_heads room heads [] = false
says_heads room heads (row ∷ rows) = are_short room heads

-- the items of a table's rows, of which the first has the heads: one for each row below these; else one for each row, the heads among them, and
-- heads aren't said again
abbrev pub items_of : ℕ → List (List StyledRuns) → List (List LineContent)
items_of room [] = []
items_of room (heads ∷ rows) = if says_heads room heads rows then map (item_lines heads) rows else map (item_lines []) (heads ∷ rows)
