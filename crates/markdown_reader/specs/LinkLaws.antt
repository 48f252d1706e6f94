-- What is right of the marks of links.
use Rattle.std.specs.Prelude.{◌≡◌, ℕ, ◌+◌, ◌<◌, ◌≤◌, ◌==◌, ◌&&◌, Bool, not, List, [], ◌∷◌, length, chars}
use Rattle.std.specs.List.{AllByRecursion, filter, flat_map}
use Rattle.std.specs.Char.{is_whitespace}
use Rattle.mad_mark_runs.specs.Values.{AreRising, values_of}
use Rattle.mad_mark_runs.specs.declared.mark_runs.MarkRun.{MarkRun}
use Rattle.mad_md.specs.Flagged.{FlaggedChar, Run, flagged}
use Rattle.mad_md.specs.Lines.{StyledRuns, LineContent, normal, table_row, table_rule, horizontal_rule}
use Rattle.mad_sections.specs.Sections.{SectionContent}
use Rattle.mad_link_marks.specs.LinkMarks.{first_link}
use Rattle.markdown_reader.specs.LinkMarks.{markdown_link_marks}
use Rattle.markdown_reader.specs.Mapping.{LinkSaid}
use Rattle.markdown_reader.specs.Markdown.{markdown_links, markdown_sections}

-- the characters of a row or a cell, each with its flags
abbrev pub row_chars : StyledRuns → List FlaggedChar
row_chars row = flat_map (λ (r : Run). flagged r.flags (chars r.text)) row.runs

-- of a line, cell by cell in a table
abbrev pub line_chars : LineContent → List FlaggedChar
line_chars (normal row) = row_chars row
line_chars (table_row cells) = flat_map row_chars cells
line_chars (table_rule rule) = []
line_chars horizontal_rule = []

-- the character belongs to a link, and is no whitespace
abbrev pub is_of_link : FlaggedChar → Bool
is_of_link c = c.flags.link && not (is_whitespace c.char)

-- the characters of lines that do
abbrev pub link_chars : List LineContent → List FlaggedChar
link_chars lines = filter is_of_link (flat_map line_chars lines)

-- how many links the section of an index has
abbrev pub links_in : ℕ → List LinkSaid → ℕ
links_in section links = length (filter (λ (l : LinkSaid). l.section == section) links)

-- The mark is that of one of so many links.
abbrev pub IsMarkOf : (links mark : ℕ) → Type 0
IsMarkOf links mark = (first_link ≤ mark) × (mark < first_link + links)

-- A section has marks for its links, which are so many: their numbers rise, each character that belongs to a link has one, and each is of one of these links.
pub record HasLinkMarks (links : ℕ) (s : SectionContent) (marks : List MarkRun) : Type 0 where
  pub rising : AreRising 0 marks
  pub each : length (values_of marks) ≡ length (link_chars s.lines)
  pub own : AllByRecursion (IsMarkOf links) (values_of marks)

-- So has each of these sections, the first of which has this index.
abbrev pub HaveLinkMarks : ℕ → List LinkSaid → List SectionContent → List (List MarkRun) → Type 0
HaveLinkMarks index links [] [] = Unit {0}
HaveLinkMarks index links (s ∷ sections) (marks ∷ others) = HasLinkMarks (links_in index links) s marks × HaveLinkMarks (index + 1) links sections others
HaveLinkMarks index links _ _ = ⊥

-- so it is with what each text is shown as
abbrev pub LinksHaveMarks : Type 0
LinksHaveMarks = (source : List ℕ) → HaveLinkMarks 0 (markdown_links source) (markdown_sections source) (markdown_link_marks source)
