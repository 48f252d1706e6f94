-- What headings show has no character that a terminal obeys, where what was read has none.
use Rattle.std.proofs.Common.{◌≡◌, ℕ, ◌+◌, true, List, [], ◌∷◌, ◌++◌, Option, Some, None, refl, sym, subst}
use Rattle.std.specs.List.{AllByRecursion}
use Rattle.std.specs.Str.{NoCharPasses}
use Rattle.std.proofs.lemmas.Str.{NoCharPasses-append, NoCharPasses-nil}
use Rattle.mad_md.specs.Flagged.{Run}
use Rattle.mad_md.specs.Lines.{LineContent, normal, table_row, table_rule, horizontal_rule}
use Rattle.mad_sections.specs.Sections.{SectionContent}
use Rattle.markdown_lines.specs.Printed.{ArePrinted, IsPrintedLine, IsPrintedRun, is_obeyed}
use Rattle.markdown_reader.specs.Printed.{ArePrintedSections}
use Rattle.markdown_headings.specs.Headings.{TitleSaid, first_level, others_text, row_text, rows_text, runs_text, titled, titles_from, titles_of}
use Rattle.markdown_headings.specs.Named.{HeadingSaid, headings_of, named_by, names_of}
use Rattle.markdown_headings.specs.Printed.{ArePrintedHeadings}

-- no character of the text is obeyed
abbrev IsPrintedText : List ℕ → Type 0
IsPrintedText text = NoCharPasses is_obeyed text

-- so it is with what each of these shows
abbrev ArePrintedTitles : List TitleSaid → Type 0
ArePrintedTitles titles = AllByRecursion (λ (title : TitleSaid). IsPrintedText title.text) titles

runs_printed : (runs : List Run) → AllByRecursion IsPrintedRun runs → IsPrintedText (runs_text true runs)
runs_printed [] h = NoCharPasses-nil is_obeyed
runs_printed (run ∷ runs) h = NoCharPasses-append is_obeyed run.text (runs_text true runs) h.0 (runs_printed runs h.1)

row_printed : (line : LineContent) → IsPrintedLine line → IsPrintedText (row_text true line)
row_printed (normal row) h = runs_printed row.runs h
row_printed (table_row cells) h = NoCharPasses-nil is_obeyed
row_printed (table_rule rule) h = NoCharPasses-nil is_obeyed
row_printed horizontal_rule h = NoCharPasses-nil is_obeyed

-- a space isn't obeyed
space_printed : IsPrintedText (32 ∷ [])
unfolding lib.Utf8.encode
space_printed = (32 ∷ [], refl, (refl, tt))

others_printed : (lines : List LineContent) → AllByRecursion IsPrintedLine lines → IsPrintedText (others_text true lines)
others_printed [] h = NoCharPasses-nil is_obeyed
others_printed (line ∷ lines) h =
    NoCharPasses-append is_obeyed (32 ∷ row_text true line) (others_text true lines) (NoCharPasses-append is_obeyed (32 ∷ []) (row_text true line) space_printed (row_printed line h.0)) (others_printed lines h.1)

rows_printed : (lines : List LineContent) → ArePrinted lines → IsPrintedText (rows_text true lines)
unfolding ArePrinted
rows_printed [] h = NoCharPasses-nil is_obeyed
rows_printed (line ∷ lines) h = NoCharPasses-append is_obeyed (row_text true line) (others_text true lines) (row_printed line h.0) (others_printed lines h.1)

titled_printed : (level : Option ℕ) (number : ℕ) (lines : List LineContent) (more : List TitleSaid) → ArePrinted lines → ArePrintedTitles more → ArePrintedTitles (titled level number lines ++ more)
titled_printed None number lines more h k = k
titled_printed (Some level) number lines more h k = (rows_printed lines h, k)

titles_printed : (number : ℕ) (sections : List SectionContent) → ArePrintedSections sections → ArePrintedTitles (titles_from number sections)
unfolding ArePrintedSections
titles_printed number [] h = tt
titles_printed number (section ∷ sections) h =
    titled_printed (first_level section.lines) number section.lines (titles_from (number + 1) sections) h.0 (titles_printed (number + 1) sections h.1)

named_printed : (titles : List TitleSaid) (names : List (List ℕ)) → ArePrintedTitles titles → ArePrintedHeadings (named_by titles names)
named_printed [] names h = tt
named_printed (title ∷ titles) [] h = tt
named_printed (title ∷ titles) (name ∷ names) h = (h.0, named_printed titles names h.1)

-- the headings of what was read
pub headings_printed : (sections : List SectionContent) → ArePrintedSections sections → ArePrintedHeadings (headings_of sections)
headings_printed sections h = named_printed (titles_of sections) (names_of (titles_of sections)) (titles_printed 0 sections h)

-- so it is with all that say the same
pub said_printed : (sections : List SectionContent) (said : List HeadingSaid) → said ≡ headings_of sections → ArePrintedSections sections → ArePrintedHeadings said
said_printed sections said is h = subst ArePrintedHeadings (sym is) (headings_printed sections h)
