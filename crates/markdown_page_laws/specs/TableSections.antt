-- Which sections of Markdown have tables.
use Rattle.std.specs.Prelude.{◌≡◌, ◌⊎◌, ℕ, true, List, is_some}
use Rattle.std.specs.List.{AllByRecursion}
use Rattle.mad_md.specs.Lines.{LineContent, table_row}
use Rattle.mad_sections.specs.Sections.{SectionContent}
use Rattle.mad_sections.specs.TableTexts.{are_table}
use Rattle.markdown_reader.specs.Markdown.{markdown_sections}

-- a line that is no row of a table
abbrev pub IsNoRow : LineContent → Type 0
IsNoRow (table_row cells) = ⊥
IsNoRow _ = Unit {0}

-- no line is a row of a table
abbrev pub HaveNoRow : List LineContent → Type 0
HaveNoRow lines = AllByRecursion IsNoRow lines

-- a section has no row of a table, or is one that may be shown as a list
abbrev pub IsTableOrNone : SectionContent → Type 0
IsTableOrNone section = HaveNoRow section.lines ⊎ ((are_table section.lines ≡ true) × (is_some section.list ≡ true))

-- so it is with the sections of each text
abbrev pub TablesMayBeLists : Type 0
TablesMayBeLists = (source : List ℕ) → AllByRecursion IsTableOrNone (markdown_sections source)
