-- The rows of a table's lines, drawn across some columns.
use Rattle.std.specs.Prelude.{◌≡◌, ℕ, zero, suc, ◌+◌, ◌-◌, max, List, [], ◌∷◌, ◌++◌, map, length, replicate, drop, slice_get, unwrap_or}
use Rattle.std.specs.List.{flat_map, repeat}
use Rattle.mad_md.specs.Flagged.{FlaggedChar}
use Rattle.mad_md.specs.Lines.{StyledRuns}
use Rattle.mad_style.specs.Kinds.{kind_of}
use Rattle.mad_style.specs.declared.kinds.CompositeKind.{CompositeKind}
use Rattle.mad_measure.specs.TextColumns.{width_of}
use Rattle.mad_measure.specs.Completions.{left_completion}
use Rattle.mad_measure.specs.declared.spacing.Spacing.{Spacing}
use Rattle.mad_draw.specs.declared.table_rules.RuleChars.{RuleChars}
use Rattle.mad_layout.specs.FlaggedLines.{skin_char, front_of, marked_parts}
use Rattle.mad_layout.specs.FlaggedRows.{AreRowsOf}
use Rattle.mad_format.specs.Indents.{indent, follow_up, room_of}
use Rattle.mad_format.specs.FmtLines.{bordered, rule_columns}
use Rattle.mad_format.specs.LineRules.{beside_cell}
use Rattle.mad_format.specs.Lists.{most}
use Rattle.mad_rows.specs.Rows.{rule_chars}
use Rattle.mad_blocks.specs.Tables.{with_blanks}
pub use Rattle.mad_layout.specs.TableColumns.{cell_columns, cells_among, words_among, kept_widths, columns_below}
pub use Rattle.mad_blocks.specs.TextParts.{count_in, columns_among}
use Rattle.mad_rows.specs.declared.row_skin.RowSkin.{RowSkin}
use Rattle.mad_format.specs.declared.table.RelativePosition.{RelativePosition}
use Rattle.mad_rows.specs.RowStyles.{line_rules}

-- ---- cells in their columns

-- a row of a cell, between what its column's alignment leaves left and right of it
abbrev pub row_in_column : RowSkin → Spacing → CompositeKind → List FlaggedChar → List ℕ
row_in_column skin column kind row =
    let rest = column.width - (indent skin.list_items_indentation_mode kind + width_of row) in
    let left = left_completion column.align rest in
    replicate left 32 ++ (front_of skin kind ++ (map (λ x. x.char) row ++ replicate (rest - left) 32))

-- the rows of a cell; those after the first are of the kind that follows
abbrev pub rows_in_column : RowSkin → Spacing → CompositeKind → List (List FlaggedChar) → List (List ℕ)
rows_in_column skin column kind [] = []
rows_in_column skin column kind (row ∷ rows) = row_in_column skin column kind row ∷ map (row_in_column skin column (follow_up kind)) rows

-- a cell in a column of this width: its rows there
pub record CellInColumn : Type 0 where
  pub width : ℕ
  pub rows : List (List ℕ)

-- The cells of a row in its columns: a kept cell has its rows, a missing one none; cells past the last column are left out.
abbrev pub AreInColumns : RowSkin → List Spacing → List StyledRuns → List CellInColumn → Type 0
AreInColumns skin [] cells placed = placed ≡ []
AreInColumns skin (c ∷ cs) [] placed = (others : List CellInColumn) × (placed ≡ record { width = c.width; rows = [] } ∷ others) × AreInColumns skin cs [] others
AreInColumns skin (c ∷ cs) (cell ∷ cells) placed =
    (rows : List (List FlaggedChar)) × (others : List CellInColumn) × AreRowsOf (room_of (line_rules skin) (kind_of cell.style) c.width) (marked_parts cell) rows
    × (placed ≡ record { width = c.width; rows = rows_in_column skin c (kind_of cell.style) rows } ∷ others) × AreInColumns skin cs cells others

-- ---- across the table

-- the blanks at each side of a cell
abbrev pub cell_blank : RowSkin → List ℕ
cell_blank skin = replicate (beside_cell skin.cell_blanks) 32

-- a border, and the first row of a cell between its blanks: spaces where it has none
abbrev pub first_row : RowSkin → CellInColumn → List ℕ
first_row skin cell = skin_char skin.table_border_chars.vertical ++ (cell_blank skin ++ (unwrap_or (slice_get cell.rows 0) (replicate cell.width 32) ++ cell_blank skin))

-- the first row of each cell, and a last border
abbrev pub first_rows : RowSkin → List CellInColumn → List ℕ
first_rows skin cells = flat_map (first_row skin) cells ++ skin_char skin.table_border_chars.vertical

-- the first n rows, one below the other
abbrev pub rows_down : RowSkin → ℕ → List CellInColumn → List (List ℕ)
rows_down skin zero cells = []
rows_down skin (suc n) cells = first_rows skin cells ∷ rows_down skin n (map (λ (cell : CellInColumn). record cell { rows = drop 1 cell.rows }) cells)

-- the count of rows of the cell that has the most
abbrev pub most_rows : List CellInColumn → ℕ
most_rows = most (λ (cell : CellInColumn). length cell.rows)

-- a rule across columns of these widths: its left end, its horizontals with a junction between two columns, and its right end
abbrev pub rule_row : RuleChars → List ℕ → List ℕ
rule_row b [] = skin_char b.left ++ skin_char b.right
rule_row b (w ∷ ws) =
    skin_char b.left ++ (repeat w (skin_char b.horizontal) ++ (flat_map (λ v. skin_char b.between ++ repeat v (skin_char b.horizontal)) ws ++ skin_char b.right))

-- ---- across the columns that are drawn

-- a row of a table, as wide as `columns`, where the table's alignment puts it
abbrev pub table_across : RowSkin → ℕ → ℕ → List ℕ → List ℕ
table_across skin drawn columns row =
    let rest = drawn - columns in
    let left = left_completion skin.table.align rest in
    replicate left 32 ++ (row ++ replicate (rest - left) 32)

-- The rows of a table's row: as many as the cell has that has the most, and at least one.
abbrev pub IsRowAcross : RowSkin → ℕ → List Spacing → List StyledRuns → List (List ℕ) → Type 0
IsRowAcross skin drawn columns cells across =
    (placed : List CellInColumn) × AreInColumns skin columns cells placed
    × (across ≡ map (table_across skin drawn (1 + bordered (with_blanks skin.cell_blanks (map (λ c. c.width) columns)))) (rows_down skin (max (most_rows placed) 1) placed))

-- a rule's row across columns of these widths and their blanks, at its position in its table
abbrev pub rule_across : RowSkin → ℕ → RelativePosition → List ℕ → List ℕ
rule_across skin drawn position widths =
    let all = with_blanks skin.cell_blanks widths in
    table_across skin drawn (rule_columns all) (rule_row (rule_chars skin.table_border_chars position) all)
