-- Lines without a sign of their own: what stands in front of them are the gutters of their section.
use Rattle.std.specs.Prelude.{◌≡◌, ℕ, List}
use Rattle.std.specs.List.{AllByRecursion}
use Rattle.mad_md.specs.Lines.{StyledRuns, LineContent, normal, table_row, table_rule, horizontal_rule}
use Rattle.mad_md.specs.declared.composite.CompositeStyle.{CompositeStyle}
use Rattle.mad_md.specs.declared.composite.CompositeStyle.TheVariants.{Paragraph, Header, Code}
use Rattle.mad_sections.specs.Sections.{SectionContent}
use Rattle.markdown_reader.specs.Markdown.{markdown_sections}

-- a paragraph, a heading or code
abbrev pub IsPlainStyle : CompositeStyle → Type 0
IsPlainStyle Paragraph = Unit {0}
IsPlainStyle (Header level) = Unit {0}
IsPlainStyle Code = Unit {0}
IsPlainStyle _ = ⊥

-- a line of such a style, a row of a table whose cells are paragraphs, or a rule
abbrev pub IsPlainLine : LineContent → Type 0
IsPlainLine (normal text) = IsPlainStyle text.style
IsPlainLine (table_row cells) = AllByRecursion (λ (cell : StyledRuns). cell.style ≡ Paragraph) cells
IsPlainLine (table_rule rule) = Unit {0}
IsPlainLine horizontal_rule = Unit {0}

-- all lines are so
abbrev pub ArePlainLines : List LineContent → Type 0
ArePlainLines lines = AllByRecursion IsPlainLine lines

-- all lines of these sections are
abbrev pub ArePlainSections : List SectionContent → Type 0
ArePlainSections sections = AllByRecursion (λ (s : SectionContent). ArePlainLines s.lines) sections

-- so it is with what each text is shown as
abbrev pub SectionsArePlain : Type 0
SectionsArePlain = (source : List ℕ) → ArePlainSections (markdown_sections source)
