-- Cells of tables of Markdown, and their words.
use Rattle.std.specs.Prelude.{◌≡◌, ℕ, true, List}
use Rattle.std.specs.List.{AllByRecursion}
use Rattle.mad_md.specs.Lines.{LineContent}
use Rattle.mad_format.specs.LineRules.{LineRules}
use Rattle.mad_format.specs.declared.line.FmtLine.{FmtLine}
use Rattle.mad_sections.specs.Sections.{SectionContent}
use Rattle.mad_blocks.specs.Tables.{centered, AreTableLinesBy}
use Rattle.mad_pages.specs.WholeTables.{IsWholeTable}
use Rattle.mad_pages.specs.WholeWords.{ArePlainCells, IsWholeWrap}
use Rattle.markdown_reader.specs.Markdown.{markdown_sections}

-- the cells of each table of each text are paragraphs
abbrev pub CellsArePlain : Type 0
CellsArePlain = (source : List ℕ) → AllByRecursion (λ (s : SectionContent). ArePlainCells s.lines) (markdown_sections source)

-- where words stay whole, no word is parted of a table that is shown as one
abbrev pub KeepsWords : LineRules → List LineContent → Type 0
KeepsWords rules table = (room : ℕ) (lines : List FmtLine) (whole : IsWholeTable rules room table lines) → AreTableLinesBy IsWholeWrap rules whole.widths (centered whole.widths) true whole.read lines

-- so it is with the sections of each text
abbrev pub SectionsKeepWords : Type 0
SectionsKeepWords = (source : List ℕ) (rules : LineRules) → rules.whole_words ≡ true → AllByRecursion (λ (s : SectionContent). KeepsWords rules s.lines) (markdown_sections source)
