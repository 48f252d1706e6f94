-- The rows of a page, and of Markdown, show each character of its sections once, in order.
use Rattle.std.specs.Prelude.{◌≡◌, ◌≢◌, ◌⊎◌, ℕ, zero, suc, ◌-◌, ◌^◌, ◌<◌, ◌≤◌, nat_lt, Bool, false, List, [], ◌∷◌, ◌++◌, map, Option, Some, None, if◌then◌else◌}
use Rattle.std.specs.Char.{is_whitespace}
use Rattle.std.specs.List.{flat_map}
use Rattle.mad_md.specs.Flagged.{FlaggedChar}
use Rattle.mad_md.specs.Lines.{StyledRuns, LineContent, normal, table_row}
use Rattle.mad_format.specs.LineRules.{LineRules}
use Rattle.mad_format.specs.Lists.{EachBecomes}
use Rattle.mad_format.specs.Wraps.{text_of}
use Rattle.mad_format.specs.declared.line.FmtLine.{FmtLine}
use Rattle.mad_format.specs.declared.line.FmtLine.TheVariants.{Normal, TableRow, HorizontalRule}
use Rattle.mad_sections.specs.Sections.{SectionContent}
use Rattle.mad_sections.specs.TableTexts.{cell_text, rows_in}
use Rattle.mad_sections.specs.UnfoldLaws.{IsMadeOfBoth, KeepsRow, labels_text, row_text}
use Rattle.mad_dressing.specs.DressLaws.{AreMarkedLines}
use Rattle.mad_dressing.specs.PictureSigns.{have_pictures}
use Rattle.mad_dressing.specs.Dressed.{dressed_page, filled, heading_level}
use Rattle.mad_dressing.specs.declared.heading_marks.HeadingMarks.{HeadingMarks}
use Rattle.mad_dressing.specs.declared.page_marks.PageMarks.{PageMarks}
use Rattle.mad_pages.specs.PageLayouts.{IsPageAt}
use Rattle.mad_pages.specs.PageRows.{RowContent}
use Rattle.markdown_page_laws.specs.KeptPages.{lines_of_rows}
use Rattle.markdown_page_laws.specs.TableSections.{IsTableOrNone}
use Rattle.markdown_reader.specs.Markdown.{markdown_sections}

-- ---- characters

-- the characters of a text that aren't whitespace
abbrev pub solid : List FlaggedChar → List FlaggedChar
solid [] = []
solid (x ∷ xs) = if is_whitespace x.char then solid xs else x ∷ solid xs

-- what the cells of a line say: a composite is one cell, and a rule has none
abbrev pub texts_said : LineContent → List (List FlaggedChar)
texts_said (normal said) = cell_text said ∷ []
texts_said (table_row cells) = map cell_text cells
texts_said _ = []

-- the texts of a row's cells, without borders
abbrev pub texts_in : FmtLine → List (List FlaggedChar)
texts_in (Normal l) = text_of l ∷ []
texts_in (TableRow row) = map text_of row.cells.items
texts_in _ = []

-- the text of a cell by its number, from the left; where none is, nothing
abbrev pub text_at : ℕ → List (List FlaggedChar) → List FlaggedChar
text_at i [] = []
text_at zero (text ∷ texts) = text
text_at (suc i) (text ∷ texts) = text_at i texts

-- what rows show in their cells of this number, from the top to the bottom
abbrev pub solid_at : ℕ → List FmtLine → List FlaggedChar
solid_at i rows = flat_map (λ (row : FmtLine). solid (text_at i (texts_in row))) rows

-- ---- lines

-- Rows show a line: each of its cells is in the cells of the same number of these rows, from the top to the bottom. Each character that isn't whitespace is there
-- once, in order, with its flags, and no other is.
abbrev pub IsShownBy : LineContent → List FmtLine → Type 0
IsShownBy line rows = (i : ℕ) → solid_at i rows ≡ solid (text_at i (texts_said line))

-- what rows show, from the first to the last
abbrev pub solid_in : List FmtLine → List FlaggedChar
solid_in rows = flat_map (λ (row : FmtLine). flat_map solid (texts_in row)) rows

-- Rows show the item of a table's row below these heads. They show its lines: a paragraph for each cell that isn't empty, behind the label of its own head. So their characters are those of the cells and of the labels, each once and in order.
pub record ShowItem (heads cells : List StyledRuns) (rows : List RowContent) : Type 0 where
  pub lines : List LineContent
  pub said : KeepsRow heads cells lines
  pub shown : EachBecomes IsShownBy lines (lines_of_rows rows)
  pub characters : IsMadeOfBoth (solid (labels_text heads cells)) (solid (row_text cells)) (solid_in (lines_of_rows rows))

-- Rows show a table as a list: an item for each row below the heads that are said, or where none is said for each row.
pub record ShowList (table : List LineContent) (rows : List RowContent) : Type 0 where
  pub heads : List StyledRuns
  pub items : List (List StyledRuns)
  pub whole : ((heads ≡ []) × (items ≡ rows_in table)) ⊎ ((rows_in table ≡ heads ∷ items) × (items ≢ []))
  pub shown : EachBecomes (ShowItem heads) items rows

-- rows show a section: each of its lines, or a list in the place of its table
abbrev pub ShowSection : SectionContent → List RowContent → Type 0
ShowSection section rows = EachBecomes IsShownBy section.lines (lines_of_rows rows) ⊎ ShowList section.lines rows

-- The rows of each page, from three columns on and at fewer than 2^64 - 1, fall into those of its sections, one after the other. They show each section without a
-- row of a table, and each table that may be shown as a list.
abbrev pub PagesShow : Type 0
PagesShow = (rules : LineRules) (ascii : Bool) (width : ℕ) (page : List SectionContent) (rows : List RowContent) → 3 ≤ width → width < 2 ^ 64 - 1
    → IsPageAt rules ascii (Some width) page rows → EachBecomes (λ (section : SectionContent) (own : List RowContent). IsTableOrNone section → ShowSection section own) page rows

-- ---- Markdown with the rules and signs of its headings, with marks at its words and signs in front of its pictures

-- the rule below a heading of this level, if it is one of the first levels
abbrev pub rule_at : HeadingMarks → Option ℕ → List FmtLine
rule_at marks None = []
rule_at marks (Some level) = if nat_lt level marks.rules then HorizontalRule ∷ [] else []

-- Rows show a section with what stands beside headings, at words and in front of pictures: first the section, and below it, if it is such a heading, its rule.
-- Each of its lines and cells has its text, with marks and signs of pictures alone between the characters. Where no marks stand at words, and it has no pictures, it
-- is shown as it is.
abbrev pub ShowDressed : PageMarks → SectionContent → List RowContent → Type 0
ShowDressed marks section rows =
    (own : List RowContent) × (below : List RowContent) × (rows ≡ own ++ below) × ShowSection (filled marks section) own
    × AreMarkedLines marks.sign section.lines (filled marks section).lines × (lines_of_rows below ≡ rule_at marks.headings (heading_level section.lines))
    × (marks.headings.words ≡ false → have_pictures section.lines ≡ false → filled marks section ≡ section)

-- rows show a text of Markdown: they fall into those of its sections, one after the other, and show these
abbrev pub ShowSource : PageMarks → List ℕ → List RowContent → Type 0
ShowSource marks source rows = EachBecomes (ShowDressed marks) (markdown_sections source) rows

-- So those of each text of Markdown show all of its sections, whatever stands beside headings, at words and in front of pictures.
abbrev pub MarkdownIsKept : Type 0
MarkdownIsKept = (marks : PageMarks) (source : List ℕ) (rules : LineRules) (ascii : Bool) (width : ℕ) (rows : List RowContent) → 3 ≤ width → width < 2 ^ 64 - 1
    → IsPageAt rules ascii (Some width) (dressed_page marks (markdown_sections source)) rows → ShowSource marks source rows
