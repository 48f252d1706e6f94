-- What the layout of given tables is, and what it isn't.
use Rattle.std.specs.Prelude.{◌≡◌, ◌≢◌, ℕ, ◌+◌, ◌*◌, ◌<◌, ◌≤◌, Bool, true, false, List, [], ◌∷◌, length, Some}
use Rattle.mad_measure.specs.declared.spacing.Spacing.{Spacing}
use Rattle.mad_blocks.specs.Tables.{AreDown, rows_among, lengths_in, words_in, AreKeptWidths, AreSetWidths, IsTableLaidOutBy}
use Rattle.mad_format.specs.WrappedLines.{Wrap}
use Rattle.mad_format.specs.LineRules.{LineRules}
use Rattle.mad_format.specs.declared.composite.FmtComposite.{FmtComposite}
use Rattle.mad_format.specs.declared.line.FmtLine.{FmtLine}
use Rattle.mad_format.specs.declared.line.FmtLine.TheVariants.{TableRule}
use Rattle.mad_format.specs.declared.table.FmtTableRow.{FmtTableRow}
use Rattle.mad_format.specs.declared.table.FmtTableRule.{FmtTableRule}
use Rattle.mad_format.specs.declared.table.RelativePosition.TheVariants.{Top, Other, Bottom}

-- the cells in the columns of these lines have these lengths
abbrev pub HaveLengths : List FmtLine → List (List ℕ) → Type 0
HaveLengths lines cells = lengths_in (length cells) (rows_among lines) ≡ cells

-- the cells have these longest words
abbrev pub HaveWords : List FmtLine → List (List ℕ) → Type 0
HaveWords lines words = words_in (length words) (rows_among lines) ≡ words

-- Worked tables: two columns with cells of 9 columns and of 1 at a width of 13, with cells of 3 and of 20, and nine columns at 11. Then two columns with cells
-- of 9 and of 20 at a width of 23: words of 9 and of 5 stay whole, and words of 9 and of 12 don't fit together. With blanks beside cells the first at 17,
-- and nine columns at 13.
pub record AreWorkedTables : Type 0 where
  pub reduced : (lines : List FmtLine) (widths : List ℕ) → HaveLengths lines ((9 ∷ []) ∷ (1 ∷ []) ∷ []) → AreKeptWidths false 2 13 lines widths → widths ≡ 7 ∷ 3 ∷ []
  pub shared : (lines : List FmtLine) (widths : List ℕ) → HaveLengths lines ((3 ∷ []) ∷ (20 ∷ []) ∷ []) → AreKeptWidths false 2 13 lines widths → widths ≡ 3 ∷ 7 ∷ []
  pub natural : (lines : List FmtLine) (widths : List ℕ) → HaveLengths lines ((3 ∷ []) ∷ (20 ∷ []) ∷ []) → AreKeptWidths false 2 26 lines widths → widths ≡ 3 ∷ 20 ∷ []
  pub narrow : (lines : List FmtLine) (widths : List ℕ) → AreKeptWidths false 9 11 lines widths → widths ≡ 3 ∷ 3 ∷ []
  pub parted : (lines : List FmtLine) (widths : List ℕ) → HaveLengths lines ((9 ∷ []) ∷ (20 ∷ []) ∷ []) → AreKeptWidths false 2 23 lines widths → widths ≡ 7 ∷ 13 ∷ []
  pub whole : (lines : List FmtLine) (widths : List ℕ) → HaveLengths lines ((9 ∷ []) ∷ (20 ∷ []) ∷ []) → HaveWords lines ((9 ∷ []) ∷ (5 ∷ []) ∷ []) → AreKeptWidths true 2 23 lines widths → widths ≡ 9 ∷ 11 ∷ []
  pub blanked : (lines : List FmtLine) (widths : List ℕ) → HaveLengths lines ((9 ∷ []) ∷ (1 ∷ []) ∷ []) → AreSetWidths false true 2 17 lines widths → widths ≡ 7 ∷ 3 ∷ []
  pub blanked_narrow : (lines : List FmtLine) (widths : List ℕ) → AreSetWidths false true 9 13 lines widths → widths ≡ 3 ∷ 3 ∷ []
  pub too_narrow : (lines : List FmtLine) (widths : List ℕ) → HaveLengths lines ((9 ∷ []) ∷ (20 ∷ []) ∷ []) → HaveWords lines ((9 ∷ []) ∷ (12 ∷ []) ∷ []) → AreKeptWidths true 2 23 lines widths → widths ≡ 7 ∷ 13 ∷ []

-- What is no layout of a table: a column narrower than its longest word beside one with room; widths whose sum is one too few; widths for fewer columns than have room; a row in which the second line of
-- the second cell is in the first column, whose cell has one line; a row that has another count of cells than there are columns;
-- a row whose first cell is in another place than its column.
pub record AreNoTables : Type 0 where
  pub word_parted : (lines : List FmtLine) → HaveLengths lines ((9 ∷ []) ∷ (20 ∷ []) ∷ []) → HaveWords lines ((9 ∷ []) ∷ (5 ∷ []) ∷ []) → ¬ (AreKeptWidths true 2 23 lines (7 ∷ 13 ∷ []))
  pub one_too_few : (lines : List FmtLine) → HaveLengths lines ((3 ∷ []) ∷ (20 ∷ []) ∷ []) → ¬ (AreKeptWidths false 2 13 lines (3 ∷ 6 ∷ []))
  pub column_dropped : (n width : ℕ) (lines : List FmtLine) (widths : List ℕ) (whole_words : Bool) → 4 * n + 1 ≤ width → length widths < n → ¬ (AreKeptWidths whole_words n width lines widths)
  pub shifted : (first second : Spacing) (x y z beside : FmtComposite) (row next : FmtTableRow) → z.compounds.items ≢ [] → next.cells.items ≡ record z { spacing = Some first } ∷ beside ∷ []
      → ¬ (AreDown (first ∷ second ∷ []) ((x ∷ []) ∷ (y ∷ z ∷ []) ∷ []) (row ∷ next ∷ []))
  pub other_count : (columns : List Spacing) (lines : List (List FmtComposite)) (row : FmtTableRow) (rows : List FmtTableRow) → length row.cells.items ≢ length columns → ¬ (AreDown columns lines (row ∷ rows))
  pub other_place : (column : Spacing) (columns : List Spacing) (lines : List (List FmtComposite)) (cell : FmtComposite) (others : List FmtComposite) (row : FmtTableRow) (rows : List FmtTableRow)
      → row.cells.items ≡ cell ∷ others → cell.spacing ≢ Some column → ¬ (AreDown (column ∷ columns) lines (row ∷ rows))

-- What is no layout of a table, by the positions of its rules: a rule that is the first line of a table is not on top; one that is the last of
-- two is not at the bottom; one between two others isn't just a rule among others.
pub record AreNoRules (wraps : Wrap) : Type 0 where
  pub first : (skin : LineRules) (n width : ℕ) (source rule : FmtTableRule) (table lines : List FmtLine) → 0 < n → 0 < width → rule.position ≢ Top
      → ¬ (IsTableLaidOutBy wraps skin n width (TableRule source ∷ table) (TableRule rule ∷ lines))
  pub last : (skin : LineRules) (n width : ℕ) (top source first rule : FmtTableRule) → 0 < n → 0 < width → rule.position ≢ Bottom
      → ¬ (IsTableLaidOutBy wraps skin n width (TableRule top ∷ TableRule source ∷ []) (TableRule first ∷ TableRule rule ∷ []))
  pub between : (skin : LineRules) (n width : ℕ) (top source bottom first rule last : FmtTableRule) → 0 < n → 0 < width → rule.position ≢ Other
      → ¬ (IsTableLaidOutBy wraps skin n width (TableRule top ∷ TableRule source ∷ TableRule bottom ∷ []) (TableRule first ∷ TableRule rule ∷ TableRule last ∷ []))
