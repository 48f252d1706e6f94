-- Links in lines: each with its number, its text and its address.
use Rattle.std.specs.Prelude.{ℕ, ◌+◌, ◌-◌, ◌^◌, ◌==◌, ◌&&◌, nat_le, nat_lt, min, Bool, List, [], ◌∷◌, ◌++◌, chars, codes, count_by, drop, length, Option, Some, None, slice_get, slice_index_or, take, if◌then◌else◌}
use Rattle.std.specs.List.{flat_map, range_with_len}
use Rattle.mad_link_marks.specs.LinkMarks.{first_link}
use Rattle.mad_mark_runs.specs.Marks.{count_of}
use Rattle.mad_mark_runs.specs.declared.mark_runs.MarkRun.{MarkRun}
use Rattle.mad_md.specs.Flagged.{Run}
use Rattle.mad_md.specs.Lines.{LineContent, StyledRuns, normal, table_row}
use Rattle.mad_md.specs.ReadRaw.{raw_runs}
use Rattle.mad_md.specs.declared.composite.CompositeStyle.{CompositeStyle}
use Rattle.mad_md.specs.declared.composite.CompositeStyle.TheVariants.{Paragraph, OrderedListItem}
use Rattle.mad_sections.specs.Sections.{SectionContent}
use Rattle.markdown_reader.specs.Anchors.{AnchorSaid}
use Rattle.markdown_reader.specs.MarkdownSays.{LinkSaid}

-- a line of this kind that has a text without flags, or none where it is empty
abbrev pub raw_line : CompositeStyle → List ℕ → LineContent
raw_line style text = normal (record { style = style; runs = raw_runs text })

-- what is said of each of these, one after the other, by how many lines come before
abbrev pub items_by : {A : Type 0} → (ℕ → A → List LineContent) → ℕ → List A → List LineContent
items_by said n [] = []
items_by said n (x ∷ xs) = said n x ++ items_by said (n + length (said n x)) xs

-- these lines, or one that says that there are none
abbrev pub or_said : List ℕ → List LineContent → List LineContent
or_said none [] = raw_line Paragraph none ∷ []
or_said none (l ∷ ls) = l ∷ ls

-- ---- links

-- what a text that can have links says of them: its links, the marks of the characters that belong to them, by sections, and the names in it to which
-- links go
pub record TextLinks : Type 0 where
  pub links : List LinkSaid
  pub marks : List (List MarkRun)
  pub names : List AnchorSaid

-- the links of a text that its sections from one on up to another have; these have numbers, from 1 on
pub record LinksIn : Type 0 where
  pub page : List SectionContent
  pub of : TextLinks
  pub from : ℕ
  pub to : ℕ

-- the section of a link is one of those from one on up to another
abbrev pub is_in : ℕ → ℕ → LinkSaid → Bool
is_in from to link = nat_le from link.section && nat_lt link.section to

-- the index of the link that has this number among those from one index on
abbrev pub nth_from : ℕ → ℕ → ℕ → ℕ → List LinkSaid → Option ℕ
nth_from from to number index [] = None
nth_from from to number index (link ∷ links) =
    if is_in from to link then (if number == 1 then Some index else nth_from from to (number - 1) (index + 1) links) else nth_from from to number (index + 1) links

-- the index, among all of the text, of the link that has this number
abbrev pub nth_link : LinksIn → ℕ → Option ℕ
nth_link l number = nth_from l.from l.to number 0 l.of.links

-- how many links with numbers come before those of a section
abbrev pub links_before : ℕ → ℕ → List LinkSaid → ℕ
links_before from section links = count_by (is_in from section) links

-- the links of a section
abbrev pub section_links : ℕ → List LinkSaid → List LinkSaid
section_links section links = flat_map (λ (link : LinkSaid). if link.section == section then link ∷ [] else []) links

-- the number, in 32 bits, of an item after so many others
abbrev pub number_after : ℕ → ℕ
number_after n = min (n + 1) (2 ^ 32 - 1)

-- a run that belongs to a link and isn't blank
abbrev pub is_link_text : Run → Bool
is_link_text run = run.flags.link && nat_lt 0 (count_of (chars run.text))

-- such runs of a row or a cell
abbrev pub row_runs : StyledRuns → List Run
row_runs row = flat_map (λ (run : Run). if is_link_text run then run ∷ [] else []) row.runs

-- those of a line, cell by cell in a table
abbrev pub line_runs : LineContent → List Run
line_runs (normal row) = row_runs row
line_runs (table_row cells) = flat_map row_runs cells
line_runs line = []

-- those of lines: each has a mark of its own
abbrev pub link_runs : List LineContent → List Run
link_runs lines = flat_map line_runs lines

-- how many marks come before one that is larger than this
abbrev pub marks_up_to : ℕ → List MarkRun → ℕ
marks_up_to mark [] = 0
marks_up_to mark (m ∷ ms) = if nat_le m.value mark then marks_up_to mark ms + 1 else 0

-- of runs, each with the mark of the same place, those that have this one
abbrev pub runs_with : ℕ → List MarkRun → List Run → List Run
runs_with mark [] runs = []
runs_with mark (m ∷ ms) [] = []
runs_with mark (m ∷ ms) (run ∷ runs) = (if m.value == mark then run ∷ [] else []) ++ runs_with mark ms runs

-- A link as two lines: its text as an item with its number, and its address, which begins in the first column and goes on there.
abbrev pub link_lines : ℕ → List Run → List ℕ → List LineContent
link_lines n text address = normal (record { style = OrderedListItem 0 (number_after n); runs = text }) ∷ raw_line Paragraph address ∷ []

-- so are links of a section, the first of which has this mark, behind so many others, by the marks and runs that are left
abbrev pub links_lines : ℕ → ℕ → List MarkRun → List Run → List LinkSaid → List LineContent
links_lines n mark marks runs [] = []
links_lines n mark marks runs (link ∷ links) =
    let passed = marks_up_to mark marks in
    link_lines n (runs_with mark (take passed marks) runs) link.address ++ links_lines (n + 1) (mark + 1) (drop passed marks) (drop passed runs) links

-- the lines of a section that may be there
abbrev pub lines_if : Option SectionContent → List LineContent
lines_if None = []
lines_if (Some section) = section.lines

-- the lines of the section of this number
abbrev pub lines_at : List SectionContent → ℕ → List LineContent
lines_at page section = lines_if (slice_get page section)

-- the links of a section of this number
abbrev pub section_listed : LinksIn → ℕ → List LineContent
section_listed l section =
    links_lines (links_before l.from section l.of.links) first_link (slice_index_or l.of.marks section []) (link_runs (lines_at l.page section)) (section_links section l.of.links)

-- these links in lines, or a line that says that there are none
abbrev pub links_listed : LinksIn → List LineContent
links_listed l = or_said (codes "No link is on the screen.") (flat_map (section_listed l) (range_with_len l.from (l.to - l.from)))
