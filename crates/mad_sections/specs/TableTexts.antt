-- Tables, as they were read.
use Rattle.std.specs.Prelude.{ℕ, zero, suc, ◌+◌, max, nat_le, Bool, true, false, List, [], ◌∷◌, length, take, drop, map, sum, chars, if◌then◌else◌}
use Rattle.std.specs.List.{flat_map}
use Rattle.mad_md.specs.Flagged.{FlaggedChar, Run, flagged}
use Rattle.mad_md.specs.Lines.{StyledRuns, LineContent, table_row, table_rule}
use Rattle.mad_sections.specs.CellWords.{longest_word}
use Rattle.mad_sections.specs.declared.table_rooms.TableRules.{TableRules}

-- the flagged text of runs
abbrev pub runs_text : List Run → List FlaggedChar
runs_text runs = flat_map (λ (run : Run). flagged run.flags (chars run.text)) runs

-- the flagged text of a cell
abbrev pub cell_text : StyledRuns → List FlaggedChar
cell_text cell = runs_text cell.runs

-- all lines are of a table
abbrev pub are_table : List LineContent → Bool
are_table [] = true
are_table (table_row cells ∷ lines) = are_table lines
are_table (table_rule aligns ∷ lines) = are_table lines
are_table (_ ∷ lines) = false

-- the rows of a table, each by its cells, the head first
abbrev pub rows_in : List LineContent → List (List StyledRuns)
rows_in [] = []
rows_in (table_row cells ∷ lines) = cells ∷ rows_in lines
rows_in (_ ∷ lines) = rows_in lines

-- the count of a line's cells or alignments
abbrev pub columns_in : LineContent → ℕ
columns_in (table_row cells) = length cells
columns_in (table_rule aligns) = length aligns
columns_in _ = 0

-- the greatest of all lines
abbrev pub columns_count : List LineContent → ℕ
columns_count [] = 0
columns_count (line ∷ lines) = max (columns_in line) (columns_count lines)

-- ---- whether it has room

-- the columns of the longest word of cells
abbrev pub longest_in : List StyledRuns → ℕ
longest_in [] = 0
longest_in (cell ∷ cells) = max (longest_word (cell_text cell)) (longest_in cells)

-- the least width of the text of a column with these cells: three, or where words stay whole its longest word, if that has more
abbrev pub least_text : Bool → List StyledRuns → ℕ
least_text whole_words cells = if whole_words then max 3 (longest_in cells) else 3

-- the least width of such a column: that of its text, and its blanks
abbrev pub least_width : TableRules → List StyledRuns → ℕ
least_width rules cells = least_text rules.whole_words cells + (if rules.cell_blanks then 2 else 0)

-- the least widths of the first n columns of rows; a short row has no cell in the last ones
abbrev pub least_widths : TableRules → ℕ → List (List StyledRuns) → List ℕ
least_widths rules zero rows = []
least_widths rules (suc n) rows = least_width rules (flat_map (take 1) rows) ∷ least_widths rules n (map (drop 1) rows)

-- columns of these widths fit side by side, each with a border at its left, and one at the end
abbrev pub stand_in : ℕ → List ℕ → Bool
stand_in room widths = nat_le (sum widths + length widths + 1) room

-- a table has room: its columns at their least widths fit side by side
abbrev pub has_room : TableRules → ℕ → List LineContent → Bool
has_room rules room lines = stand_in room (least_widths rules (columns_count lines) (rows_in lines))
