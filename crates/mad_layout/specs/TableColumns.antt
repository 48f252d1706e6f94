-- The columns of a table, by its text.
use Rattle.std.specs.Prelude.{ℕ, ◌+◌, ◌-◌, nat_le, if◌then◌else◌, Bool, true, false, List, [], ◌∷◌, map, replicate, Option, Some, None}
use Rattle.mad_md.specs.Lines.{StyledRuns, LineContent, normal, table_row, table_rule, horizontal_rule}
use Rattle.mad_md.specs.declared.alignment.Alignment.{Alignment}
use Rattle.mad_style.specs.Kinds.{kind_of}
use Rattle.mad_measure.specs.TextColumns.{width_of}
use Rattle.mad_measure.specs.declared.spacing.Spacing.{Spacing}
use Rattle.mad_wrap.specs.WrapLines.{capped}
use Rattle.mad_format.specs.Indents.{indent}
use Rattle.mad_layout.specs.LineTexts.{runs_text}
use Rattle.mad_sections.specs.CellWords.{longest_word}
use Rattle.mad_blocks.specs.Tables.{columns_with, centered, first_columns, least_room, most_columns, widths_by, without_blanks}
use Rattle.mad_blocks.specs.TextParts.{columns_among}
use Rattle.mad_rows.specs.declared.row_skin.RowSkin.{RowSkin}

-- the columns of a cell with those in front of it, 2^64 - 1 at most
abbrev pub cell_columns : RowSkin → StyledRuns → ℕ
cell_columns skin cell = capped (indent skin.list_items_indentation_mode (kind_of cell.style) + width_of (runs_text cell.runs))

-- the columns of a cell's longest word, 2^64 - 1 at most
abbrev pub word_columns : StyledRuns → ℕ
word_columns cell = capped (longest_word (runs_text cell.runs))

-- a cell's columns, by its longest word or by all of it
abbrev pub measure_among : Bool → RowSkin → StyledRuns → ℕ
measure_among true skin cell = word_columns cell
measure_among false skin cell = cell_columns skin cell

-- those of the cells of each row
abbrev pub measures_among : Bool → RowSkin → List LineContent → List (List ℕ)
measures_among by_word skin [] = []
measures_among by_word skin (normal line ∷ ls) = measures_among by_word skin ls
measures_among by_word skin (table_row cells ∷ ls) = map (measure_among by_word skin) cells ∷ measures_among by_word skin ls
measures_among by_word skin (table_rule aligns ∷ ls) = measures_among by_word skin ls
measures_among by_word skin (horizontal_rule ∷ ls) = measures_among by_word skin ls

-- the columns of the cells of each row
abbrev pub cells_among : RowSkin → List LineContent → List (List ℕ)
cells_among skin ls = measures_among false skin ls

-- those of their longest words
abbrev pub words_among : RowSkin → List LineContent → List (List ℕ)
words_among skin ls = measures_among true skin ls

-- The widths of a table's kept columns: where there is room for three and its blanks in each, what their cells need or their share of what is
-- left beside the blanks; else as many columns are kept as have room, of three. Where words stay whole, no column is narrower than its longest
-- word if the longest words fit together.
abbrev pub kept_widths : RowSkin → ℕ → List LineContent → List ℕ
kept_widths skin width table =
    let n = columns_among table in
    let room = without_blanks skin.cell_blanks n width in
    if nat_le (least_room skin.cell_blanks n) width then widths_by skin.whole_words (room - 1 - n) (first_columns n (cells_among skin table)) (first_columns n (words_among skin table)) else replicate (most_columns skin.cell_blanks width) 3

-- columns of these widths below a rule with these alignments; centered ones where no rule is above
abbrev pub columns_below : List ℕ → Option (List Alignment) → List Spacing
columns_below widths None = centered widths
columns_below widths (Some aligns) = columns_with widths aligns
