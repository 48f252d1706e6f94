-- Which tables stay tables, and what these keep.
use Rattle.std.specs.Prelude.{◌≡◌, ◌≢◌, ◌⊎◌, ℕ, zero, suc, ◌+◌, ◌^◌, ◌<◌, ◌≤◌, Bool, true, false, List, [], ◌∷◌, length, take, drop, map, Some}
use Rattle.std.specs.List.{AllByRecursion, AllZip, flat_map}
use Rattle.mad_md.specs.Lines.{StyledRuns, LineContent}
use Rattle.mad_format.specs.CompositeWraps.{IsCompositeWrap}
use Rattle.mad_format.specs.FmtLines.{bordered}
use Rattle.mad_format.specs.LineRules.{LineRules}
use Rattle.mad_format.specs.declared.line.FmtLine.{FmtLine}
use Rattle.mad_blocks.specs.Layouts.{AreRead}
use Rattle.mad_blocks.specs.Tables.{centered, table_rules, with_blanks, AreSetWidths, AreTableLinesBy}
use Rattle.mad_sections.specs.Gutters.{room_at}
use Rattle.mad_sections.specs.Sections.{SectionContent}
use Rattle.mad_sections.specs.declared.gutters.Gutter.{Gutter}
use Rattle.mad_sections.specs.declared.table_rooms.TableRules.{TableRules}
use Rattle.mad_sections.specs.TableTexts.{are_table, columns_count, rows_in, longest_in, has_room}
use Rattle.mad_sections.specs.UnfoldLaws.{IsListOf}
use Rattle.mad_sections.specs.Unfolded.{unfolded}
use Rattle.mad_pages.specs.PageLayouts.{BecomesAt}
use Rattle.mad_pages.specs.PageRows.{RowContent}

-- the cells of the first n columns of rows; a short row has none in the last ones
abbrev pub columns_of : ℕ → List (List StyledRuns) → List (List StyledRuns)
columns_of zero rows = []
columns_of (suc n) rows = flat_map (take 1) rows ∷ columns_of n (map (drop 1) rows)

-- no width is less than the longest word of its column
abbrev pub KeepWords : List ℕ → List (List StyledRuns) → Type 0
KeepWords widths columns = AllZip (λ (width : ℕ) (cells : List StyledRuns). longest_in cells ≤ width) widths columns

-- Lines are a table in a room: each of its columns has a width of its own, and where words stay whole none is narrower than its longest word.
pub record IsWholeTable (rules : LineRules) (room : ℕ) (table : List LineContent) (lines : List FmtLine) : Type 0 where
  pub read : List FmtLine
  pub reads : AreRead rules table read
  pub widths : List ℕ
  pub kept : AreSetWidths rules.whole_words rules.cell_blanks (columns_count table) room read widths
  pub laid : AreTableLinesBy IsCompositeWrap rules widths (centered widths) true read lines
  pub all : length widths ≡ columns_count table
  pub words : rules.whole_words ≡ true → KeepWords widths (columns_of (columns_count table) (rows_in table))

-- A table with columns and rows, whose section tells the gutters of a list, is shown as that list, or as a whole table.
abbrev pub TablesAreWhole : Type 0
TablesAreWhole = (rules : LineRules) (ascii : Bool) (width : ℕ) (section : SectionContent) (gutters : List Gutter) (rows : List RowContent) → width < 2 ^ 64
    → are_table section.lines ≡ true → 0 < columns_count section.lines → rows_in section.lines ≢ [] → section.list ≡ Some gutters → BecomesAt rules ascii (Some width) section rows
    → IsListOf section (unfolded (table_rules rules) ascii (Some width) section) ⊎ IsWholeTable rules (room_at ascii width section.gutters) section.lines (map (λ (row : RowContent). row.line) rows)

-- Where a table has no room, no widths of three and more that fit side by side with their blanks are as many as its columns, and where words stay
-- whole keep them.
abbrev pub ListsAreNeeded : Type 0
ListsAreNeeded = (rules : TableRules) (room : ℕ) (table : List LineContent) (widths : List ℕ) → has_room rules room table ≡ false → AllByRecursion (λ (w : ℕ). 3 ≤ w) widths → bordered (with_blanks rules.cell_blanks widths) + 1 ≤ room
    → length widths ≡ columns_count table → (rules.whole_words ≡ true → KeepWords widths (columns_of (columns_count table) (rows_in table))) → ⊥
