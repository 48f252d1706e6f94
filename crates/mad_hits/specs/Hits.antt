-- What is drawn once more of a row where a hit is in it.
use Rattle.std.specs.Prelude.{ℕ, ◌+◌, ◌-◌, ◌==◌, List, [], ◌∷◌, length, map, take, drop, Option, Some, None, if◌then◌else◌}
use Rattle.mad_characters.specs.Columns.{char_columns}
use Rattle.mad_measure.specs.TextColumns.{columns}
use Rattle.mad_wrap.specs.WrapLines.{capped}
use Rattle.mad_style.specs.StyledChars.{char_alone}
use Rattle.mad_style.specs.declared.styled_chars.StyledChar.{StyledChar}
use Rattle.mad_format.specs.Indents.{indent}
use Rattle.mad_format.specs.declared.composite.FmtComposite.{FmtComposite}
use Rattle.mad_format.specs.declared.line.FmtLine.{FmtLine}
use Rattle.mad_format.specs.declared.line.FmtLine.TheVariants.{Normal, TableRow}
use Rattle.regex.specs.Patterns.{Re}
use Rattle.mad_patterns.specs.Breaks.{line_rows, line_start}
use Rattle.mad_patterns.specs.Searches.{composite_text, hits, hits_in_rows, place_in_rows}
use Rattle.mad_rows.specs.RowStyles.{line_style}
use Rattle.mad_rows.specs.Rows.{cell_margins, inner_blanks, cell_columns, left_of_place, margins_of, outer_blanks, row_columns}
use Rattle.mad_rows.specs.declared.row_skin.RowSkin.{RowSkin}
use Rattle.mad_hits.specs.declared.hits.Hit.{Hit}

-- ---- where a text is

-- the columns before the text of a composite in an outer width with these margins: blanks, and its prefix
abbrev pub text_column : RowSkin → Option ℕ → ℕ × ℕ → FmtComposite → ℕ
text_column skin outer margins l =
    (outer_blanks (line_style skin l.kind).align outer margins l).0 + (inner_blanks l).0 + indent skin.list_items_indentation_mode l.kind

-- A composite, and the column of a row in which its text begins. Then where its text stands in that in which is sought, by its first byte and the one
-- behind it, and the hits in that.
pub record PlacedText : Type 0 where
  pub column : ℕ
  pub text : FmtComposite
  pub own : ℕ × ℕ
  pub hits : List (ℕ × ℕ)

-- a cell from a column on, after a border; it is sought for itself
abbrev pub placed_cell : RowSkin → Re → ℕ → FmtComposite → PlacedText
placed_cell skin sought column cell =
    record { column = column + 1 + text_column skin None (cell_margins skin) cell; text = cell; own = (0, length (composite_text cell)); hits = hits sought (composite_text cell) }

-- cells from a column on
abbrev pub placed_cells : RowSkin → Re → ℕ → List FmtComposite → List PlacedText
placed_cells skin sought column [] = []
placed_cells skin sought column (cell ∷ cells) = placed_cell skin sought column cell ∷ placed_cells skin sought (column + 1 + cell_columns skin cell) cells

-- the cells of a row of `width` columns
abbrev pub placed_row : RowSkin → Re → ℕ → List FmtComposite → List PlacedText
placed_row skin sought width cells = placed_cells skin sought (left_of_place skin.table.align (row_columns skin cells) (Some width)) cells

-- a line of text that is one of these rows, in a row of `width` columns
abbrev pub placed_line : RowSkin → Re → ℕ → List FmtLine → ℕ → FmtComposite → PlacedText
placed_line skin sought width rows k l =
    record { column = text_column skin (Some width) (margins_of skin (Some width) l) l; text = l; own = place_in_rows rows k; hits = hits_in_rows sought rows }

-- the composites of the row of this index, which shows this line in `width` columns; a rule has none
abbrev pub placed_texts : RowSkin → Re → ℕ → List FmtLine → List ℕ → ℕ → FmtLine → List PlacedText
placed_texts skin sought width lines starts row (Normal l) = placed_line skin sought width (line_rows lines starts row) (row - line_start lines starts row) l ∷ []
placed_texts skin sought width lines starts row (TableRow table) = placed_row skin sought width table.cells.items
placed_texts skin sought width lines starts row line = []

-- ---- what is drawn

-- how many characters without columns come first
abbrev pub widthless : List ℕ → ℕ
widthless [] = 0
widthless (c ∷ cs) = if char_columns c == 0 then 1 + widthless cs else 0

-- how many characters a hit of `count` characters has that begins with these: those, and the ones without columns after them
abbrev pub span : ℕ → List ℕ → ℕ
span count cs = count + widthless (drop count cs)

-- a hit: the column of its first character, and its characters
pub record Marked : Type 0 where
  pub column : ℕ
  pub chars : List StyledChar

-- the column and the characters of a hit as it was found
abbrev pub marked_of : Hit → Marked
marked_of hit = record { column = hit.column; chars = hit.chars.items }

-- the hit that begins at an index of a text, which begins in that column: its characters as they stand there, and the columns before it
abbrev pub marked_at : ℕ → List StyledChar → ℕ → ℕ → Marked
marked_at column text count start = record {
  column = capped (column + columns (map char_alone (take start text)));
  chars = take (span count (map char_alone (drop start text))) (drop start text);
}
