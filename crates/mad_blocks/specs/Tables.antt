-- The layout of a table.
use Rattle.std.specs.Prelude.{◌≡◌, ℕ, zero, suc, ◌+◌, ◌-◌, ◌*◌, ◌/◌, ◌<◌, ◌≤◌, ◌==◌, ◌⊎◌, max, Bool, true, false, List, [], ◌∷◌, ◌++◌, map, length, take, drop, replicate, sum, Some, None}
use Rattle.std.specs.List.{AllByRecursion, AllZip, flat_map}
use Rattle.mad_md.specs.declared.alignment.Alignment.{Alignment}
use Rattle.mad_md.specs.declared.alignment.Alignment.TheVariants.{Unspecified, Center}
use Rattle.mad_style.specs.declared.kinds.CompositeKind.TheVariants.{Paragraph}
use Rattle.mad_widths.specs.ColumnWidths.{needs_of, natural_widths, column_widths, AreShared}
use Rattle.mad_widths.specs.WordWidths.{least_of, word_widths}
use Rattle.mad_measure.specs.declared.spacing.Spacing.{Spacing}
use Rattle.mad_format.specs.FmtLines.{bordered}
use Rattle.mad_format.specs.WrappedLines.{Wrap}
use Rattle.mad_format.specs.Wraps.{text_of}
use Rattle.mad_wrap.specs.WrapLines.{capped}
use Rattle.mad_sections.specs.CellWords.{longest_word}
use Rattle.mad_sections.specs.declared.table_rooms.TableRules.{TableRules}
use Rattle.mad_format.specs.LineRules.{LineRules}
use Rattle.mad_format.specs.Lists.{most}
use Rattle.mad_format.specs.declared.composite.FmtComposite.{FmtComposite}
use Rattle.mad_format.specs.declared.line.FmtLine.{FmtLine}
use Rattle.mad_format.specs.declared.line.FmtLine.TheVariants.{Normal, TableRow, TableRule, HorizontalRule}
use Rattle.mad_format.specs.declared.table.FmtTableRow.{FmtTableRow}
use Rattle.mad_format.specs.declared.table.FmtTableRule.{FmtTableRule}
use Rattle.mad_format.specs.declared.table.RelativePosition.{RelativePosition}
use Rattle.mad_format.specs.declared.table.RelativePosition.TheVariants.{Top, Other, Bottom}

-- ---- columns: each a width, and how cells are aligned in it

-- columns of these widths with these alignments; a column without one has none
abbrev pub columns_with : List ℕ → List Alignment → List Spacing
columns_with [] aligns = []
columns_with (w ∷ ws) [] = record { width = w; align = Unspecified } ∷ columns_with ws []
columns_with (w ∷ ws) (a ∷ aligns) = record { width = w; align = a } ∷ columns_with ws aligns

-- centered ones
abbrev pub centered : List ℕ → List Spacing
centered ws = map (λ w. record { width = w; align = Center }) ws

-- ---- one row

-- a line of a cell, at its place in a column
abbrev pub in_column : Spacing → FmtComposite → FmtComposite
in_column column l = record l { spacing = Some column }

-- an empty paragraph, at its place in a column
pub record IsBlankIn (column : Spacing) (l : FmtComposite) : Type 0 where
  pub kind : l.kind ≡ Paragraph
  pub empty : l.compounds.items ≡ []
  pub length_is : l.visible_length ≡ 0
  pub spacing : l.spacing ≡ Some column
  pub margins : l.margins ≡ None

-- the lines of a cell in a column of this width: the cell if it fits, else what it is wrapped into
abbrev pub IsCellLaidOut : Wrap → LineRules → ℕ → FmtComposite → List FmtComposite → Type 0
IsCellLaidOut wraps skin width cell lines =
    ((cell.visible_length ≤ width) × (lines ≡ cell ∷ [])) ⊎ ((width < cell.visible_length) × wraps skin width cell lines)

-- the lines of the first of these cells in a column of this width; of a missing cell none
abbrev pub IsNextLaidOut : Wrap → LineRules → ℕ → List FmtComposite → List FmtComposite → Type 0
IsNextLaidOut wraps skin width [] lines = lines ≡ []
IsNextLaidOut wraps skin width (cell ∷ cells) lines = IsCellLaidOut wraps skin width cell lines

-- what follows the first of lines or cells
abbrev pub below : List FmtComposite → List FmtComposite
below [] = []
below (l ∷ ls) = ls

-- the lines of each of the cells that are in columns, in order; cells past the last column are left out
abbrev pub AreCellsLaidOut : Wrap → LineRules → List Spacing → List FmtComposite → List (List FmtComposite) → Type 0
AreCellsLaidOut wraps skin [] cells [] = Unit {0}
AreCellsLaidOut wraps skin (c ∷ columns) cells (ls ∷ lines) = IsNextLaidOut wraps skin c.width cells ls × AreCellsLaidOut wraps skin columns (below cells) lines
AreCellsLaidOut wraps skin _ cells _ = ⊥

-- what is in a column on a row: the first of a cell's lines, or where there is none an empty paragraph
abbrev pub IsTop : Spacing → List FmtComposite → FmtComposite → Type 0
IsTop column [] x = IsBlankIn column x
IsTop column (l ∷ ls) x = x ≡ in_column column l

-- a row across the columns
abbrev pub IsLineAcross : List Spacing → List (List FmtComposite) → List FmtComposite → Type 0
IsLineAcross [] [] [] = Unit {0}
IsLineAcross (c ∷ cs) (ls ∷ lines) (x ∷ xs) = IsTop c ls x × IsLineAcross cs lines xs
IsLineAcross _ _ _ = ⊥

-- the rows, one below the other
abbrev pub AreDown : List Spacing → List (List FmtComposite) → List FmtTableRow → Type 0
AreDown columns lines [] = Unit {0}
AreDown columns lines (row ∷ rows) = IsLineAcross columns lines row.cells.items × AreDown columns (map below lines) rows

-- the count of lines of the cell that has the most
abbrev pub tallest : List (List FmtComposite) → ℕ
tallest = most length

-- The rows are a row of a table, laid out in columns: each kept cell is wrapped; there are as many rows as the tallest of
-- them has lines, and at least one; missing lines and cells are empty paragraphs.
pub record IsRowLaidOutBy (wraps : Wrap) (skin : LineRules) (columns : List Spacing) (cells : List FmtComposite) (rows : List FmtTableRow) : Type 0 where
  pub lines : List (List FmtComposite)
  pub laid_out : AreCellsLaidOut wraps skin columns cells lines
  pub count : length rows ≡ max (tallest lines) 1
  pub rows_are : AreDown columns lines rows

-- ---- the widths of columns

-- the rows among lines, each by its cells
abbrev pub rows_among : List FmtLine → List (List FmtComposite)
rows_among [] = []
rows_among (Normal l ∷ ls) = rows_among ls
rows_among (TableRow row ∷ ls) = row.cells.items ∷ rows_among ls
rows_among (TableRule rule ∷ ls) = rows_among ls
rows_among (HorizontalRule ∷ ls) = rows_among ls

-- the first n columns of rows; a short row has nothing in the last ones
abbrev pub first_columns : ℕ → List (List ℕ) → List (List ℕ)
first_columns zero rows = []
first_columns (suc n) rows = flat_map (take 1) rows ∷ first_columns n (map (drop 1) rows)

-- the columns of a cell, by its longest word or by its cached length
abbrev pub measure_of : Bool → FmtComposite → ℕ
measure_of true cell = capped (longest_word (text_of cell))
measure_of false cell = cell.visible_length

-- those of the cells in each of n columns
abbrev pub measures_in : Bool → ℕ → List (List FmtComposite) → List (List ℕ)
measures_in by_word n rows = first_columns n (map (λ cells. map (measure_of by_word) cells) rows)

-- by their cached lengths
abbrev pub lengths_in : ℕ → List (List FmtComposite) → List (List ℕ)
lengths_in n rows = measures_in false n rows

-- by their longest words
abbrev pub words_in : ℕ → List (List FmtComposite) → List (List ℕ)
words_in n rows = measures_in true n rows

-- the widths of columns with cells of these widths, with regard to their longest words or without
abbrev pub widths_by : Bool → ℕ → List (List ℕ) → List (List ℕ) → List ℕ
widths_by true available cells words = word_widths available (map needs_of cells) (least_of cells words)
widths_by false available cells words = column_widths available (map needs_of cells)

-- no column is narrower than its longest word where the longest words of all fit together
abbrev pub AreWhole : ℕ → List (List ℕ) → List (List ℕ) → List ℕ → Type 0
AreWhole available cells words widths = sum (least_of cells words) ≤ available → AllZip (λ w l. l ≤ w) widths (least_of cells words)

-- The widths of the kept columns of a table of n columns: at least three each, and with their borders they fit. Where there is room for
-- three in each of the n, all are kept, with the widths that their cells need, or that share what is available; else as many as
-- have room, of three. Where words stay whole, no column is narrower than its longest word if the longest words fit together.
pub record AreKeptWidths (whole_words : Bool) (n width : ℕ) (lines : List FmtLine) (widths : List ℕ) : Type 0 where
  pub least : AllByRecursion (λ w. 3 ≤ w) widths
  pub fit : bordered widths + 1 ≤ width
  pub kept : 4 * n + 1 ≤ width → length widths ≡ n
  pub are : 4 * n + 1 ≤ width → widths ≡ widths_by whole_words (width - 1 - n) (lengths_in n (rows_among lines)) (words_in n (rows_among lines))
  pub shared : 4 * n + 1 ≤ width → (reduced : Bool) × AreShared (width - 1 - n) (natural_widths (map needs_of (lengths_in n (rows_among lines)))) reduced widths
  pub whole : whole_words ≡ true → 4 * n + 1 ≤ width → AreWhole (width - 1 - n) (lengths_in n (rows_among lines)) (words_in n (rows_among lines)) widths
  pub narrow : width < 4 * n + 1 → widths ≡ replicate ((width - 1) / 4) 3

-- ---- blanks beside cells

-- what laying out a table asks of a skin
abbrev pub table_rules : LineRules → TableRules
table_rules skin = record { whole_words = skin.whole_words; cell_blanks = skin.cell_blanks }

-- the least width of n columns with their borders: three each, and their blanks
abbrev pub least_room : Bool → ℕ → ℕ
least_room true n = 6 * n + 1
least_room false n = 4 * n + 1

-- how many columns have such room at a width
abbrev pub most_columns : Bool → ℕ → ℕ
most_columns true width = (width - 1) / 6
most_columns false width = (width - 1) / 4

-- what is left of a width beside the blanks of n columns
abbrev pub without_blanks : Bool → ℕ → ℕ → ℕ
without_blanks true n width = width - 2 * n
without_blanks false n width = width

-- the widths of columns with their blanks
abbrev pub with_blanks : Bool → List ℕ → List ℕ
with_blanks true widths = map (λ w. w + 2) widths
with_blanks false widths = widths

-- The widths that a table of n columns has in a skin: at least three each, and with their blanks and borders they fit. Where each of the n
-- has room for three and its blanks, they are those that it keeps in what is left beside the blanks; else as many as have room, of three.
pub record AreSetWidths (whole_words cell_blanks : Bool) (n width : ℕ) (lines : List FmtLine) (widths : List ℕ) : Type 0 where
  pub least : AllByRecursion (λ w. 3 ≤ w) widths
  pub fit : bordered (with_blanks cell_blanks widths) + 1 ≤ width
  pub wide : least_room cell_blanks n ≤ width → AreKeptWidths whole_words n (without_blanks cell_blanks n width) lines widths
  pub narrow : width < least_room cell_blanks n → widths ≡ replicate (most_columns cell_blanks width) 3

-- ---- a table

-- the columns from a line on, where they were these above it: a rule says how cells are aligned below it
abbrev pub columns_from : List ℕ → List Spacing → FmtLine → List Spacing
columns_from widths columns (TableRule rule) = columns_with widths rule.aligns.items
columns_from widths columns _ = columns

-- where a rule is that is the first line of its table or not, the last one or not
abbrev pub position_at : Bool → Bool → RelativePosition
position_at true last = Top
position_at false true = Bottom
position_at false false = Other

-- the columns of a rule across a column of this width, and its blanks; a sum stays at the greatest number
abbrev pub rule_width : Bool → ℕ → ℕ
rule_width true w = capped (w + 2)
rule_width false w = w

-- a rule across columns, at its position in its table
pub record IsRuleLaidOut (cell_blanks : Bool) (position : RelativePosition) (columns : List Spacing) (rule : FmtTableRule) : Type 0 where
  pub position_is : rule.position ≡ position
  pub widths_are : rule.widths.items ≡ map (λ c. rule_width cell_blanks c.width) columns
  pub aligns_are : rule.aligns.items ≡ map (λ c. c.align) columns

-- What a line of a table becomes in columns at its position in the table: a row its rows, a rule a rule across the columns.
abbrev pub IsTableLineBy : Wrap → LineRules → List Spacing → RelativePosition → FmtLine → List FmtLine → Type 0
IsTableLineBy wraps skin columns position (Normal l) lines = lines ≡ Normal l ∷ []
IsTableLineBy wraps skin columns position (TableRow row) lines =
    (rows : List FmtTableRow) × (lines ≡ map TableRow rows) × IsRowLaidOutBy wraps skin columns row.cells.items rows
IsTableLineBy wraps skin columns position (TableRule source) lines =
    (rule : FmtTableRule) × (lines ≡ TableRule rule ∷ []) × IsRuleLaidOut skin.cell_blanks position columns rule
IsTableLineBy wraps skin columns position HorizontalRule lines = lines ≡ HorizontalRule ∷ []

-- What the lines of a table become, in order, at these widths, in these columns up to the first rule; `first` says whether no
-- line is above.
abbrev pub AreTableLinesBy : Wrap → LineRules → List ℕ → List Spacing → Bool → List FmtLine → List FmtLine → Type 0
AreTableLinesBy wraps skin widths columns first [] lines = lines ≡ []
AreTableLinesBy wraps skin widths columns first (l ∷ ls) lines =
    (own : List FmtLine) × (others : List FmtLine) × (lines ≡ own ++ others)
    × IsTableLineBy wraps skin (columns_from widths columns l) (position_at first (length ls == 0)) l own
    × AreTableLinesBy wraps skin widths (columns_from widths columns l) false ls others

-- What a table of n columns becomes at a width; without columns or without width it stays.
abbrev pub IsTableLaidOutBy : Wrap → LineRules → ℕ → ℕ → List FmtLine → List FmtLine → Type 0
IsTableLaidOutBy wraps skin n width table lines =
    (((n ≡ 0) ⊎ (width ≡ 0)) × (lines ≡ table))
    ⊎ ((0 < n) × (0 < width) × ((widths : List ℕ) × AreSetWidths skin.whole_words skin.cell_blanks n width table widths × AreTableLinesBy wraps skin widths (centered widths) true table lines))

-- the count of cells or alignments of a line of a table
abbrev pub columns_in : FmtLine → ℕ
columns_in (Normal l) = 0
columns_in (TableRow row) = length row.cells.items
columns_in (TableRule rule) = length rule.aligns.items
columns_in HorizontalRule = 0

-- the greatest of all lines
abbrev pub columns_count : List FmtLine → ℕ
columns_count = most columns_in
