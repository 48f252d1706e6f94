-- The cells of each table of Markdown are paragraphs, so no word of them is parted.
use Rattle.std.proofs.Common.{◌≡◌, true, List, [], ◌∷◌, ap}
use Rattle.std.specs.List.{AllByRecursion}
use Rattle.mad_md.specs.Lines.{StyledRuns, LineContent, normal, table_row, table_rule, horizontal_rule}
use Rattle.mad_md.specs.declared.composite.CompositeStyle.TheVariants.{Paragraph}
use Rattle.mad_style.specs.Kinds.{kind_of}
use Rattle.mad_style.specs.declared.kinds.CompositeKind.TheVariants as kind
use Rattle.mad_format.specs.LineRules.{LineRules}
use Rattle.mad_sections.specs.Sections.{SectionContent}
use Rattle.mad_pages.specs.WholeWords.{ArePlainCells}
use Rattle.mad_pages.proofs.WordLemmas.{tables_keep_words}
use Rattle.markdown_reader.specs.Markdown.{markdown_sections}
use Rattle.markdown_reader.specs.PlainLines.{ArePlainLines, ArePlainSections}
use Rattle.markdown_reader.proofs.PlainLemmas.{sections_are_plain}
use Rattle.markdown_layout.specs.TableCells.{CellsArePlain, KeepsWords, SectionsKeepWords}

row_plain : (cells : List StyledRuns) → AllByRecursion (λ (cell : StyledRuns). cell.style ≡ Paragraph) cells → AllByRecursion (λ (cell : StyledRuns). kind_of cell.style ≡ kind.Paragraph) cells
row_plain [] h = tt
row_plain (cell ∷ cells) h = (ap kind_of h.0, row_plain cells h.1)

plain_cells : (lines : List LineContent) → ArePlainLines lines → ArePlainCells lines
plain_cells [] h = tt
plain_cells (normal text ∷ lines) h = plain_cells lines h.1
plain_cells (table_row cells ∷ lines) h = (row_plain cells h.0, plain_cells lines h.1)
plain_cells (table_rule rule ∷ lines) h = plain_cells lines h.1
plain_cells (horizontal_rule ∷ lines) h = plain_cells lines h.1

all_plain : (sections : List SectionContent) → ArePlainSections sections → AllByRecursion (λ (s : SectionContent). ArePlainCells s.lines) sections
all_plain [] h = tt
all_plain (s ∷ sections) h = (plain_cells s.lines h.0, all_plain sections h.1)

all_keep : (rules : LineRules) (sections : List SectionContent) → rules.whole_words ≡ true → ArePlainSections sections → AllByRecursion (λ (s : SectionContent). KeepsWords rules s.lines) sections
all_keep rules [] words h = tt
all_keep rules (s ∷ sections) words h = ((λ room lines whole. tables_keep_words rules room s.lines lines words (plain_cells s.lines h.0) whole), all_keep rules sections words h.1)

-- the cells of each table of Markdown are paragraphs
pub cells_are_plain : CellsArePlain
cells_are_plain source = all_plain (markdown_sections source) (sections_are_plain source)

-- no word of them is parted
pub sections_keep_words : SectionsKeepWords
sections_keep_words source rules words = all_keep rules (markdown_sections source) words (sections_are_plain source)
