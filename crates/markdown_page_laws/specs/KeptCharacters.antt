-- Rows that keep the characters of lines.
use Rattle.std.specs.Prelude.{◌≡◌, ℕ, ◌+◌, ◌≤◌, List, [], ◌∷◌, ◌++◌, length, map, take, drop}
use Rattle.std.specs.List.{AllByRecursion, flat_map}
use Rattle.mad_md.specs.Flagged.{FlaggedChar}
use Rattle.mad_md.specs.Lines.{StyledRuns, LineContent, normal, table_row, table_rule, horizontal_rule}
use Rattle.mad_style.specs.Kinds.{kind_of}
use Rattle.mad_style.specs.LineStyles.{width_inside}
use Rattle.mad_wrap.specs.declared.room.Room.{Room}
use Rattle.mad_format.specs.FmtLines.{bordered}
use Rattle.mad_format.specs.Indents.{room_of}
use Rattle.mad_format.specs.LineRules.{LineRules}
use Rattle.mad_format.specs.Wraps.{text_of}
use Rattle.mad_format.specs.declared.composite.FmtComposite.{FmtComposite}
use Rattle.mad_format.specs.declared.line.FmtLine.{FmtLine}
use Rattle.mad_format.specs.declared.line.FmtLine.TheVariants.{Normal, TableRow, TableRule, HorizontalRule}
use Rattle.mad_format.specs.declared.table.FmtTableRow.{FmtTableRow}
use Rattle.mad_format.specs.declared.table.FmtTableRule.{FmtTableRule}
use Rattle.mad_blocks.specs.Tables.{least_room, with_blanks}
use Rattle.mad_layout.specs.FlaggedLines.{marked_parts}
use Rattle.mad_layout.specs.FlaggedRows.{AreRowsOf}

-- the room of a composite at a width: what the margins of its kind leave, and the columns in front of it
abbrev pub room_at_width : LineRules → ℕ → StyledRuns → Room
room_at_width rules width said = room_of rules (kind_of said.style) (width_inside (rules.line_style (kind_of said.style)) width)

-- the texts of rows in their first column
abbrev pub first_texts : List (List FmtComposite) → List (List FlaggedChar)
first_texts rows = map text_of (flat_map (take 1) rows)

-- rows without their first column
abbrev pub other_columns : List (List FmtComposite) → List (List FmtComposite)
other_columns rows = map (drop 1) rows

-- no text has a character
abbrev pub AreEmpty : List (List FlaggedChar) → Type 0
AreEmpty texts = AllByRecursion (λ (text : List FlaggedChar). text ≡ []) texts

-- Rows keep cells in columns of these widths, from the left: in each column are the rows of its cell, and below these nothing. A column without a cell is empty.
abbrev pub KeepCells : LineRules → List ℕ → List StyledRuns → List (List FmtComposite) → Type 0
KeepCells rules [] cells rows = AllByRecursion (λ (row : List FmtComposite). row ≡ []) rows
KeepCells rules (w ∷ ws) [] rows = AreEmpty (first_texts rows) × KeepCells rules ws [] (other_columns rows)
KeepCells rules (w ∷ ws) (cell ∷ cells) rows =
    (own : List (List FlaggedChar)) × (below : List (List FlaggedChar)) × (first_texts rows ≡ own ++ below) × AreRowsOf (room_of rules (kind_of cell.style) w) (marked_parts cell) own
    × AreEmpty below × KeepCells rules ws cells (other_columns rows)

-- the cells of rows
abbrev pub cells_of_rows : List FmtTableRow → List (List FmtComposite)
cells_of_rows rows = map (λ (row : FmtTableRow). row.cells.items) rows

-- Rows keep a row of a table, in a room, in columns that fit in it side by side with their blanks. Where so many columns of three, their blanks and their borders
-- have room, each cell has one.
pub record KeepTableRow (rules : LineRules) (room count : ℕ) (cells : List StyledRuns) (rows : List FmtTableRow) : Type 0 where
  pub widths : List ℕ
  pub fit : bordered (with_blanks rules.cell_blanks widths) + 1 ≤ room
  pub all : least_room rules.cell_blanks count ≤ room → length cells ≤ length widths
  pub cells_kept : KeepCells rules widths cells (cells_of_rows rows)

-- What keeps a line in a room, where its table has at most so many columns. A composite and a row of a table are kept by their rows; a rule is one row.
abbrev pub IsLineKept : LineRules → ℕ → ℕ → LineContent → List FmtLine → Type 0
IsLineKept rules room count (normal said) own =
    (rows : List FmtComposite) × (own ≡ map Normal rows) × AreRowsOf (room_at_width rules room said) (marked_parts said) (map text_of rows)
IsLineKept rules room count (table_row cells) own = (rows : List FmtTableRow) × (own ≡ map TableRow rows) × KeepTableRow rules room count cells rows
IsLineKept rules room count (table_rule aligns) own = (rule : FmtTableRule) × (own ≡ TableRule rule ∷ [])
IsLineKept rules room count horizontal_rule own = own ≡ HorizontalRule ∷ []
