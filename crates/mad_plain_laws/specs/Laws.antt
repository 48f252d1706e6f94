-- Laws of the page of a text that isn't Markdown.
use Rattle.std.specs.Prelude.{◌≡◌, ◌≤◌, ℕ, ◌+◌, Bool, List, [], ◌∷◌, ◌++◌, chars, encode_utf8_all, length, map, Some}
use Rattle.std.specs.List.{AllByRecursion, flat_map}
use Rattle.std.specs.Str.{IsUtf8}
use Rattle.mad_style.specs.LineStyles.{margins_at}
use Rattle.mad_style.specs.StyledChars.{char_alone}
use Rattle.mad_style.specs.declared.kinds.CompositeKind.TheVariants.{Code}
use Rattle.mad_style.specs.declared.styled_chars.StyledChar.{StyledChar as PaintedChar}
use Rattle.mad_format.specs.LineRules.{LineRules}
use Rattle.mad_format.specs.declared.composite.FmtComposite.{FmtComposite}
use Rattle.mad_format.specs.declared.line.FmtLine.{FmtLine}
use Rattle.mad_format.specs.declared.line.FmtLine.TheVariants.{Normal, TableRow}
use Rattle.mad_plain.specs.Rows.{wrapped}
use Rattle.mad_plain.specs.Runs.{StyledChar, said}
use Rattle.mad_plain_page.specs.PlainTexts.{painted_rows}
use Rattle.mad_search.specs.PagedTexts.{grouped, row_sections}
use Rattle.mad_patterns.specs.Searches.{composite_text}
use Rattle.mad_pages.specs.PagedPages.{IsPagedAt}
use Rattle.mad_pages.specs.declared.paged.PagedPage.{PagedPage}

-- the texts of cells, each with a newline after it
abbrev pub cells_text : List FmtComposite → List ℕ
cells_text cells = flat_map (λ (cell : FmtComposite). composite_text cell ++ 10 ∷ []) cells

-- what a line says: of a row of a table its cells, each with a newline after it; of a rule nothing
abbrev pub line_text : FmtLine → List ℕ
line_text (Normal l) = composite_text l
line_text (TableRow row) = cells_text row.cells.items
line_text _ = []

-- the characters of a row that is drawn, as a text
abbrev pub row_text : List PaintedChar → List ℕ
row_text row = encode_utf8_all (map char_alone row)

-- in which rows lines begin, the first of them in this one; last the row behind all
abbrev pub line_starts : ℕ → ℕ → List (List StyledChar) → List ℕ
line_starts width row [] = row ∷ []
line_starts width row (line ∷ lines) = row ∷ line_starts width (row + length (wrapped width line)) lines

-- the line's characters are those of a text
abbrev pub SaysText : List StyledChar → Type 0
SaysText line = (text : List ℕ) × IsUtf8 text × (said line ≡ chars text)

-- The page has a line for each row that is drawn of these lines, in order, and it says the row's characters. Its sections begin where the lines do.
pub record IsPageOfRows (is_styled : Bool) (width : ℕ) (lines : List (List StyledChar)) (paged : PagedPage) : Type 0 where
  pub text : map line_text paged.lines.items ≡ map row_text (painted_rows is_styled width lines)
  pub begin : paged.starts.items ≡ line_starts width 0 lines

-- The page of the rows of a text is so, from three columns on, where code has no margins.
abbrev pub PagesAreTheRows : Type 0
PagesAreTheRows = (rules : LineRules) (ascii is_styled : Bool) (width : ℕ) (lines : List (List StyledChar)) (paged : PagedPage)
    → 3 ≤ width → margins_at (rules.line_style Code) (Some width) ≡ (0, 0) → AllByRecursion SaysText lines
    → IsPagedAt rules ascii (Some width) (grouped [] (row_sections width lines)) paged → IsPageOfRows is_styled width lines paged
