-- The rows of each text fit a terminal in which the skin and the width have room.
use Rattle.std.proofs.Common.{ℕ, List, [], ◌∷◌, take, Some, refl, sym, subst}
use Rattle.std.specs.List.{AllByRecursion}
use Rattle.mad_dressing.specs.Dressed.{dressed_page}
use Rattle.mad_dressing.specs.declared.page_marks.PageMarks.{PageMarks}
use Rattle.mad_live.specs.LiveRows.{AreRows, AreWhole}
use Rattle.mad_measure.proofs.AllLemmas.{all_joined}
use Rattle.mad_page_rows.specs.PageFits.{AllFill, KeepsRoom, sections_at}
use Rattle.mad_page_rows.proofs.FitLemmas.{pages_fill}
use Rattle.mad_page_skin.specs.PageSkins.{page_marks, page_row_skin}
use Rattle.mad_page_skin.specs.declared.page_skin.PageSkin.{PageSkin}
use Rattle.mad_rows.specs.declared.row_skin.RowSkin.{RowSkin}
use Rattle.mad_sections.specs.Sections.{SectionContent}
use Rattle.mad_stream.specs.LiveTexts.{joined_pieces}
use Rattle.markdown_blocks.specs.Lines.{text_lines}
use Rattle.markdown_definitions.specs.Definitions.{part_defined}
use Rattle.markdown_lines.specs.Links.{Defined}
use Rattle.markdown_leaves.specs.Parts.{PartContent}
use Rattle.markdown_leaves.specs.Told.{parts_of}
use Rattle.markdown_lines.specs.Texts.{behind_mark}
use Rattle.markdown_layout.proofs.KeptLemmas.{keep}
use Rattle.markdown_live.specs.LiveMarkdowns.{ArePageRows, Fit, FitsSoFar}
use Rattle.markdown_live.specs.ShownLines.{shown_line}
use Rattle.markdown_live.proofs.PageRowLemmas.{rows_whole}
use Rattle.markdown_reader.specs.Mapping.{Mapping, leaves_in, shown_parts}
use Rattle.markdown_reader.specs.Steady.{steady_section, steady_sections}
use Rattle.markdown_stream.specs.Come.{lines_streamed}
use Rattle.markdown_stream.specs.OpenSections.{after_lines, open_sections}
use Rattle.markdown_stream.specs.Readings.{handed_on, lines_read, nothing_read, parts_at_end, parts_read}
use Rattle.markdown_stream.specs.Provisional.{part_provided}
use Rattle.markdown_stream.specs.Streamed.{Streamed, nothing_streamed, part_streamed, parts_provided, parts_streamed, streamed_sections}
use Rattle.markdown_stream.specs.Streaming.{Streaming, taken}
use Rattle.markdown_stream.specs.Streams.{streamed_page}
use Rattle.markdown_stream.proofs.ReadingLemmas.{parts_come_in_turn}
use Rattle.markdown_live_laws.specs.Fitting.{HasRoom, IsShownSkin, PiecesAreShown, TextsFit}
use Rattle.markdown_live_laws.proofs.DressLemmas.{dressed_typed}
use Rattle.markdown_live_laws.proofs.NumberLemmas.{AreSmallParts}
use Rattle.markdown_live_laws.proofs.ReadingLemmas.{IsSmallReading, end_small, handed_small, lines_small, nothing_small}
use Rattle.markdown_live_laws.proofs.RowLemmas.{rows_fit}
use Rattle.markdown_live_laws.proofs.SectionLemmas.{AreSoundSections, IsSound, leaves_small, nothing_is, parts_are, plain_are, printed_are, sections_are}

-- ---- sections that are sound fit

section_fits : (columns width : ℕ) (skin : PageSkin) (section : SectionContent) (rows : List ℕ) → IsShownSkin skin → HasRoom columns width → AreSoundSections (section ∷ []) → ArePageRows skin (Some width) (steady_section section ∷ []) rows → AreRows columns rows
section_fits columns width skin section rows shown room sound h =
    let row_skin : RowSkin = page_row_skin skin in
    let marks : PageMarks = page_marks skin in
    let page : List SectionContent = steady_sections (section ∷ []) in
    let steady = sections_are (section ∷ []) sound in
    let keeps : AllByRecursion (KeepsRoom row_skin width) (sections_at row_skin width (dressed_page marks page)) =
    keep marks page shown.sign (printed_are page steady.0) steady.1 (plain_are page steady.0) (dressed_typed marks page shown.sign steady.0) row_skin width room.wide shown.marks in
    let fills : AllFill row_skin width h.0 = pages_fill row_skin width (dressed_page marks page) h.0 room.wide room.small shown.marks.faces keeps h.1 in
    subst (λ (l : List ℕ). AreRows columns l) (sym h.2)
    (rows_fit columns width row_skin h.0 shown.known room.narrower fills (subst (λ (l : List ℕ). AreWhole l) h.2 (rows_whole skin (Some width) page rows h)))

sections_fit : (columns width : ℕ) (skin : PageSkin) (sections : List SectionContent) → IsShownSkin skin → HasRoom columns width → AreSoundSections sections → Fit columns skin (Some width) (steady_sections sections)
sections_fit columns width skin [] shown room sound = tt
sections_fit columns width skin (section ∷ sections) shown room sound =
    ((λ rows h. section_fits columns width skin section rows shown room (sound.0, tt) h), sections_fit columns width skin sections shown room sound.1)

-- ---- what a text shows in pieces is sound

streamed_are : (parts : List PartContent) (s : Streamed) → AreSmallParts parts → IsSound s.mapping → IsSound (parts_streamed parts s).mapping
unfolding parts_streamed
streamed_are [] s k h = h
streamed_are (part ∷ parts) s k h = streamed_are parts (part_streamed part s) k.1 (parts_are (part_provided (part_defined s.defined part) part) (leaves_in part) s.mapping (leaves_small part k.0) h)

provided_are : (defined : Defined) (parts : List PartContent) (m : Mapping) → AreSmallParts parts → IsSound m → IsSound (parts_provided defined parts m)
unfolding parts_provided
provided_are defined [] m k h = h
provided_are defined (part ∷ parts) m k h =
    let own : Defined = part_provided defined part in
    provided_are defined parts (shown_parts own (leaves_in part) m) k.1 (parts_are own (leaves_in part) m (leaves_small part k.0) h)

read_small : (lines : List (List ℕ)) → IsSmallReading (lines_read nothing_read lines)
read_small lines = lines_small nothing_read lines nothing_small

complete_are : (lines : List (List ℕ)) → IsSound (lines_streamed lines).mapping
complete_are lines = streamed_are (parts_read (lines_read nothing_read lines)) nothing_streamed (read_small lines).parts nothing_is

taken_is : (m : Mapping) → IsSound m → IsSound (taken m)
taken_is m h = record { sections = tt; gutters = h.gutters; lists = h.lists }

open_are : (end : List ℕ) (lines : List (List ℕ)) → AreSoundSections (open_sections end (after_lines lines))
open_are end lines =
    let s : Streaming = after_lines lines in
    let rest : IsSmallReading (lines_read s.reading (text_lines end)) = lines_small s.reading (text_lines end) (handed_small (lines_read nothing_read lines) (read_small lines)) in
    let parts : List PartContent = parts_at_end (lines_read s.reading (text_lines end)) in
    (provided_are s.streamed.defined parts (taken s.streamed.mapping) (end_small (lines_read s.reading (text_lines end)) rest) (taken_is s.streamed.mapping (complete_are lines))).sections

parts_small : (text : List ℕ) → AreSmallParts (parts_of text)
unfolding lines_read
parts_small text =
    let rest : IsSmallReading (lines_read (handed_on nothing_read) (text_lines text)) = lines_small (handed_on nothing_read) (text_lines text) (handed_small nothing_read nothing_small) in
    subst AreSmallParts (sym (parts_come_in_turn text [] (text_lines text) refl)) (end_small (lines_read (handed_on nothing_read) (text_lines text)) rest)

whole_are : (text : List ℕ) → AreSoundSections (streamed_sections text)
unfolding streamed_sections
whole_are text = (streamed_are (parts_of text) nothing_streamed (parts_small text) nothing_is).sections

-- ---- texts

page_fits : (columns width : ℕ) (skin : PageSkin) (text : List ℕ) → IsShownSkin skin → HasRoom columns width → Fit columns skin (Some width) (streamed_page text)
page_fits columns width skin text shown room = sections_fit columns width skin (streamed_sections (behind_mark text)) shown room (whole_are (behind_mark text))

so_far_fits : (columns width : ℕ) (skin : PageSkin) (text : List ℕ) → IsShownSkin skin → HasRoom columns width → FitsSoFar columns skin (Some width) text
so_far_fits columns width skin text shown room = λ complete growing h.
    let end : List ℕ = shown_line (after_lines h.lines).reading.gathering.kind h.begun in
    let first : Fit columns skin (Some width) complete =
    subst (λ (page : List SectionContent). Fit columns skin (Some width) page) (sym h.complete_are) (sections_fit columns width skin (lines_streamed h.lines).mapping.sections shown room (complete_are h.lines).sections) in
    let rest : Fit columns skin (Some width) growing =
    subst (λ (page : List SectionContent). Fit columns skin (Some width) page) (sym h.growing_are) (sections_fit columns width skin (open_sections end (after_lines h.lines)) shown room (open_are end h.lines)) in
    all_joined (λ (section : SectionContent). (rows : List ℕ) → ArePageRows skin (Some width) (section ∷ []) rows → AreRows columns rows) complete growing first rest

-- the rows of each text fit, as far as it has come, and as a whole
pub texts_fit : TextsFit
texts_fit columns width skin shown room text = (
  so_far_fits columns width skin text shown room,
  record { comes = λ front later utf8 joins. so_far_fits columns width skin front shown room; whole = page_fits columns width skin text shown room },
)

-- so a text in pieces is shown on each such terminal
pub pieces_are_shown : PiecesAreShown
pieces_are_shown columns width height skin pieces before now shown room h p line clear enough =
    h.shows columns p line clear enough (λ n. so_far_fits columns width skin (joined_pieces (take n pieces)) shown room) (page_fits columns width skin (joined_pieces pieces) shown room)
