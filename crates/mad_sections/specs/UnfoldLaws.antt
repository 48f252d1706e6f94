-- Laws of tables that are lists.
use Rattle.std.specs.Prelude.{◌≡◌, ◌≢◌, ◌⊎◌, ℕ, zero, suc, ◌+◌, ◌*◌, ◌≤◌, min, sum_by, ◌==◌, if◌then◌else◌, Bool, true, List, [], ◌∷◌, ◌++◌, length, drop, map, Option, Some, None}
use Rattle.std.specs.List.{AllByRecursion, AllZip, flat_map}
use Rattle.mad_characters.specs.Columns.{char_columns}
use Rattle.mad_md.specs.Flagged.{FlaggedChar}
use Rattle.mad_md.specs.Lines.{StyledRuns, LineContent, normal}
use Rattle.mad_sections.specs.Sections.{SectionContent}
use Rattle.mad_sections.specs.declared.gutters.Gutter.{Gutter}
use Rattle.mad_sections.specs.Items.{paragraph, label, item_lines, says_heads}
use Rattle.mad_sections.specs.TableTexts.{runs_text, cell_text, are_table, rows_in}
use Rattle.mad_sections.specs.declared.table_rooms.TableRules.{TableRules}
use Rattle.mad_sections.specs.Unfolded.{unfolded}

-- ---- what is said

-- the flagged text of a composite
abbrev pub line_text : LineContent → List FlaggedChar
line_text (normal said) = runs_text said.runs
line_text _ = []

-- the flagged text of lines
abbrev pub lines_text : List LineContent → List FlaggedChar
lines_text lines = flat_map line_text lines

-- the flagged text of a row's cells
abbrev pub row_text : List StyledRuns → List FlaggedChar
row_text cells = flat_map cell_text cells

-- the third text is made of two others: each of its characters is the next of the one or of the other, and none is left
abbrev pub IsMadeOfBoth : List FlaggedChar → List FlaggedChar → List FlaggedChar → Type 0
IsMadeOfBoth xs ys [] = (xs ≡ []) × (ys ≡ [])
IsMadeOfBoth xs ys (z ∷ zs) =
    ((rest : List FlaggedChar) × (xs ≡ z ∷ rest) × IsMadeOfBoth rest ys zs) ⊎ ((rest : List FlaggedChar) × (ys ≡ z ∷ rest) × IsMadeOfBoth xs rest zs)

-- the text of the labels of a row's cells, those of empty cells left out
abbrev pub labels_text : List StyledRuns → List StyledRuns → List FlaggedChar
labels_text heads [] = []
labels_text heads (cell ∷ cells) = (if length cell.runs == 0 then [] else runs_text (label heads)) ++ labels_text (drop 1 heads) cells

-- Lines are the item of a row below these heads. Its text is made of its cells' and of their labels', so each character of a cell is there
-- once, in order; without heads it is its cells' alone. Each cell that isn't empty is a paragraph behind the label of its own head.
pub record KeepsRow (heads cells : List StyledRuns) (lines : List LineContent) : Type 0 where
  pub text : IsMadeOfBoth (labels_text heads cells) (row_text cells) (lines_text lines)
  pub alone : heads ≡ [] → lines_text lines ≡ row_text cells
  pub behind : (front others : List StyledRuns) (cell : StyledRuns) → cells ≡ front ++ cell ∷ others → cell.runs ≢ []
      → (before after : List LineContent) × (lines ≡ before ++ paragraph (label (drop (length front) heads) ++ cell.runs) ∷ after)

-- ---- the list

-- how many gutters begin with each of so many items, where so many begin with the first
abbrev pub first_fresh : ℕ → ℕ → List ℕ
first_fresh fresh zero = []
first_fresh fresh (suc n) = fresh ∷ first_fresh 1 n

-- Sections are the list of a table. It is of rows and rules alone. Either the first row has the heads that are said, and each row below it is an item; or none
-- is said, and each row is an item. All are behind the gutters of the list, whose last begins with each; those of the table that begin with it begin with the first item.
pub record IsListOf (section : SectionContent) (items : List SectionContent) : Type 0 where
  pub table : are_table section.lines ≡ true
  pub gutters : List Gutter
  pub list : section.list ≡ Some gutters
  pub heads : List StyledRuns
  pub rows : List (List StyledRuns)
  pub whole : ((heads ≡ []) × (rows ≡ rows_in section.lines)) ⊎ ((rows_in section.lines ≡ heads ∷ rows) × (rows ≢ []))
  pub kept : AllZip (λ (cells : List StyledRuns) (item : SectionContent). KeepsRow heads cells item.lines) rows items
  pub front : AllByRecursion (λ (item : SectionContent). item.gutters ≡ gutters) items
  pub fresh : map (λ (item : SectionContent). item.fresh) items ≡ first_fresh (min section.fresh (length section.gutters) + 1) (length items)

-- A section is shown as it is, or as the list of its table.
abbrev pub NothingIsLost : Type 0
NothingIsLost = (rules : TableRules) (ascii : Bool) (width : Option ℕ) (section : SectionContent) → (unfolded rules ascii width section ≡ section ∷ []) ⊎ IsListOf section (unfolded rules ascii width section)

-- without a width, and where no gutters of a list are told, each section stays
pub record Stay : Type 0 where
  pub unlimited : (rules : TableRules) (ascii : Bool) (section : SectionContent) → unfolded rules ascii None section ≡ section ∷ []
  pub unlisted : (rules : TableRules) (ascii : Bool) (width : Option ℕ) (section : SectionContent) → section.list ≡ None → unfolded rules ascii width section ≡ section ∷ []
  pub items : (rules : TableRules) (ascii : Bool) (width : Option ℕ) (section : SectionContent) → (unfolded rules ascii width section ≡ section ∷ [])
      ⊎ (flat_map (unfolded rules ascii width) (unfolded rules ascii width section) ≡ unfolded rules ascii width section)

-- ---- how much is said

-- the columns of a text
abbrev pub columns_of : List FlaggedChar → ℕ
columns_of text = sum_by (λ (x : FlaggedChar). char_columns x.char) text

-- heads that are said have at most half of the room, in columns and in characters
abbrev pub LabelsAreShort : Type 0
LabelsAreShort = (room : ℕ) (heads : List StyledRuns) (rows : List (List StyledRuns)) → says_heads room heads rows ≡ true
    → AllByRecursion (λ (head : StyledRuns). (2 * columns_of (cell_text head) ≤ room) × (2 * length (cell_text head) ≤ room)) heads

-- so a row's item has at most half of the room and two characters more for each of its cells
abbrev pub ItemsAreShort : Type 0
ItemsAreShort = (room : ℕ) (heads cells : List StyledRuns) (rows : List (List StyledRuns)) → says_heads room heads rows ≡ true
    → 2 * length (lines_text (item_lines heads cells)) ≤ 2 * length (row_text cells) + length cells * (room + 4)
