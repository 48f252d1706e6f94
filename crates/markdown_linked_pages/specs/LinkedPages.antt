-- Pages written with links.
use Rattle.std.specs.Prelude.{◌≡◌, ℕ, ◌+◌, Bool, nat_lt, if◌then◌else◌, Result, List, [], ◌∷◌, ◌++◌, map, slice_index_or, Option, None, false}
use Rattle.std.specs.List.{flat_map}
use Rattle.mad_mark_runs.specs.declared.mark_runs.MarkRun.{MarkRun}
use Rattle.mad_rows.specs.declared.row_skin.RowSkin.{RowSkin}
use Rattle.mad_sections.specs.Sections.{SectionContent}
use Rattle.mad_pages.specs.PageLayouts.{BecomesAt}
use Rattle.mad_pages.specs.PageRows.{RowContent}
use Rattle.mad_dressing.specs.Dressed.{dressed_page}
use Rattle.mad_format.specs.LineRules.{LineRules}
use Rattle.mad_format.specs.Lists.{EachBecomes}
use Rattle.mad_page_rows.specs.Faces.{has_ascii_boxes}
use Rattle.mad_rows.specs.RowStyles.{line_rules}
use Rattle.markdown_linked_pages.specs.CellMarks.{column_marks, with_cell_marks}
use Rattle.mad_links.specs.Addresses.{link_address}
use Rattle.mad_links.specs.LinkRows.{LinkedPiece, begun_bytes, change_bytes}
use Rattle.markdown_linked_pages.specs.LinkedPageRows.{lead, linked_row_pieces}
use Rattle.mad_page_skin.specs.PageSkins.{page_marks, page_row_skin}
use Rattle.mad_page_skin.specs.declared.page_skin.PageSkin.{PageSkin}
use Rattle.mad_term.specs.Draws.{DrawsSome}
use Rattle.mad_term.specs.Trace.{Trace}
use Rattle.mad_term.specs.declared.errors.Error.{Error}
use Rattle.markdown_reader.specs.Mapping.{LinkSaid}
use Rattle.markdown_layout.specs.RowEnds.{without_end}
use Rattle.markdown_layout.specs.WrittenPages.{row_bytes}

-- ---- rows

-- What is written of a row, by its bytes up to the end of its last link, and that link if it is open there: no blank at their end, which no style
-- shows. Then the link is closed. A newline is last.
abbrev pub closed_end : List (Option (List ℕ)) → List ℕ × Option ℕ → List ℕ
closed_end addresses begun = without_end begun.0 ++ (change_bytes addresses begun.1 None ++ 10 ∷ [])

-- pieces with their links, as a row
abbrev pub ended_pieces : List (Option (List ℕ)) → List LinkedPiece → List ℕ
ended_pieces addresses ps = closed_end addresses (begun_bytes addresses None ps)

-- a row of a page: with its links, where its marks are those of links; any other as it is written without
abbrev pub linked_row_bytes : List (Option (List ℕ)) → RowSkin → Option ℕ → RowContent → List ℕ
linked_row_bytes addresses skin width row = if lead row.marks then ended_pieces addresses (linked_row_pieces skin width false row) else row_bytes skin width row

-- rows of a page, one after another
abbrev pub linked_rows_bytes : List (Option (List ℕ)) → RowSkin → Option ℕ → List RowContent → List ℕ
linked_rows_bytes addresses skin width rows = flat_map (linked_row_bytes addresses skin width) rows

-- ---- the links of a text

-- the addresses of links, as they are written; none where it is refused
abbrev pub addresses_of : List LinkSaid → List (Option (List ℕ))
addresses_of links = map (λ (l : LinkSaid). link_address l.address) links

-- the mark of a link, where so many links stand before those of its section; a tone stays
abbrev pub numbered_value : ℕ → ℕ → ℕ
numbered_value first value = if nat_lt 8 value then value + first else value

-- the marks of a section's links, so
abbrev pub numbered : ℕ → List MarkRun → List MarkRun
numbered first runs = map (λ (run : MarkRun). record { value = numbered_value first run.value; end = run.end }) runs

-- how many links stand before those of the section of this number: those in front of the first that is of this section or of a later one
abbrev pub links_before : ℕ → List LinkSaid → ℕ
links_before section [] = 0
links_before section (l ∷ ls) = if nat_lt l.section section then links_before section ls + 1 else 0

-- a section with the marks of its links, if it has any
abbrev pub with_link_marks : List MarkRun → SectionContent → SectionContent
with_link_marks [] section = section
with_link_marks (run ∷ runs) section = record section { marks = run ∷ runs }

-- The sections of a text from the one of this number on, each with the marks of its links. Links are numbered through the text, so each has a number of its own.
abbrev pub linked_from : List LinkSaid → List (List MarkRun) → ℕ → List SectionContent → List SectionContent
linked_from links marks i [] = []
linked_from links marks i (s ∷ ss) = with_link_marks (numbered (links_before i links) (slice_index_or marks i [])) s ∷ linked_from links marks (i + 1) ss

-- all of its sections
abbrev pub linked_page : List LinkSaid → List (List MarkRun) → List SectionContent → List SectionContent
linked_page links marks page = linked_from links marks 0 page

-- ---- texts

-- the bytes of rows of a text in its skin
abbrev pub linked_text_bytes : List LinkSaid → PageSkin → Option ℕ → List RowContent → List ℕ
linked_text_bytes links skin width rows = linked_rows_bytes (addresses_of links) (page_row_skin skin) width rows

-- The rows are those of a section with links at a width, if there is one: those that become of it, and of these each of a table has the marks of its own cells.
abbrev pub IsLinkedAt : LineRules → Bool → Option ℕ → SectionContent → List RowContent → Type 0
IsLinkedAt rules ascii width section rows = (own : List RowContent) × BecomesAt rules ascii width section own × (rows ≡ with_cell_marks (column_marks section) own)

-- they are those of a page with links: those of its sections, in order
abbrev pub IsLinkedPageAt : LineRules → Bool → Option ℕ → List SectionContent → List RowContent → Type 0
IsLinkedPageAt rules ascii width page rows = EachBecomes (IsLinkedAt rules ascii width) page rows

-- they are those of a page of a text in its skin: of these sections, with what stands in such a page and isn't their own
abbrev pub IsLinkedTextAt : PageSkin → Option ℕ → List SectionContent → List RowContent → Type 0
IsLinkedTextAt skin width page rows = IsLinkedPageAt (line_rules (page_row_skin skin)) (has_ascii_boxes (page_row_skin skin)) width (dressed_page (page_marks skin) page) rows

-- What a call does that writes a text which says these sections, with these links, and marks of them for each section. It draws the rows of a page of its
-- sections, with the rules and signs of headings, each in its links; or memory for the rows was refused, and nothing went out.
abbrev pub WritesLinked : {T : Type 0} → PageSkin → Option ℕ → List SectionContent → List LinkSaid → List (List MarkRun) → Trace → Result T Error → Trace → Type 0
WritesLinked skin width page links marks old r new = DrawsSome (IsLinkedTextAt skin width (linked_page links marks page)) (linked_text_bytes links skin width) old r new
