-- Laws of live Markdown.
use Rattle.std.proofs.Common.{◌≡◌, ℕ, ◌-◌, Bool, true, false, List, [], ◌++◌, length, take, drop, if◌then◌else◌, cond, refl, sym, ap, ◌∙◌, ◌==◌}
use Rattle.std.specs.List.{list_all, suffix_len}
use Rattle.std.proofs.lemmas.List.{append-nil, map-append, take-append-drop}
use Rattle.mad_sections.specs.Sections.{SectionContent}
use Rattle.markdown_blocks.specs.Lines.{text_lines}
use Rattle.markdown_leaves.specs.Parts.{PartContent}
use Rattle.markdown_leaves.specs.declared.parts.Kind.{Kind}
use Rattle.markdown_leaves.specs.declared.parts.Kind.TheVariants.{Nothing, Paragraph, Heading, Indented, Fenced, Html, Table, Rule, Definitions}
use Rattle.markdown_live.specs.Growing.{ShowsSoFar}
use Rattle.markdown_live.specs.Laws.{ShownIsAFront, CompleteStays, GrowingIsStreamed, RowsGoOn}
use Rattle.markdown_live.specs.ShownLines.{is_sign, may_begin, shown_behind, shown_line, shown_words}
use Rattle.markdown_live.proofs.PageRowLemmas.{rows_joined}
use Rattle.markdown_marks.specs.Bytes.{first, without_blanks}
use Rattle.markdown_reader.specs.Mapping.{Mapping}
use Rattle.markdown_reader.specs.Steady.{steady_section, steady_sections}
use Rattle.markdown_stream.specs.Come.{lines_streamed}
use Rattle.markdown_stream.specs.OpenSections.{after_lines, open_sections}
use Rattle.markdown_stream.specs.Readings.{nothing_read, lines_read, parts_read, parts_at_end, handed_on}
use Rattle.markdown_stream.specs.Streamed.{Streamed, nothing_streamed, parts_streamed, streamed_sections}
use Rattle.markdown_stream.specs.Streaming.{taken_from}
use Rattle.markdown_stream.proofs.MappingLemmas.{kept}
use Rattle.markdown_stream.proofs.OpenLemmas.{open_is_streamed}
use Rattle.markdown_stream.proofs.ReadingLemmas.{parts_come_in_turn}
use Rattle.markdown_stream.proofs.StreamingLemmas.{parts_behind, streamed_joined}

-- ---- lines that have begun

nothing_or : (test : Bool) (line front : List ℕ) → (kept : List ℕ) × (line ≡ front ++ kept) → (kept : List ℕ) × (line ≡ (if test then [] else front) ++ kept)
nothing_or true line front h = (line, refl)
nothing_or false line front h = h

words_front : (line : List ℕ) → (kept : List ℕ) × (line ≡ shown_words line ++ kept)
words_front line =
    let n : ℕ = length line - suffix_len is_sign line in
    nothing_or (first (without_blanks line) == 124) line (take n line) (drop n line, sym (take-append-drop n line))

all_front : (line : List ℕ) → (kept : List ℕ) × (line ≡ line ++ kept)
all_front line = ([], sym (append-nil line))

behind_front : (open_leaf : Kind) (line : List ℕ) → (kept : List ℕ) × (line ≡ shown_behind open_leaf line ++ kept)
behind_front (Table columns) line = (line, refl)
behind_front Indented line = all_front line
behind_front Fenced line = all_front line
behind_front Html line = all_front line
behind_front Nothing line = words_front line
behind_front Paragraph line = words_front line
behind_front (Heading level) line = words_front line
behind_front Rule line = words_front line
behind_front Definitions line = words_front line

-- what is shown of a line is a front of it
pub shown_is_a_front : ShownIsAFront
shown_is_a_front open_leaf line = nothing_or (list_all may_begin line) line (shown_behind open_leaf line) (behind_front open_leaf line)

-- ---- sections

-- what comes changes nothing of the sections that are complete
pub complete_stays : CompleteStays
unfolding streamed_sections
complete_stays text later complete growing h =
    let s : Streamed = lines_streamed h.lines in
    let r = lines_read nothing_read h.lines in
    let parts : List PartContent = parts_at_end (lines_read (handed_on r) (text_lines (h.begun ++ later))) in
    let rest : List SectionContent = (parts_streamed parts (taken_from s)).mapping.sections in
    let all : streamed_sections (text ++ later) ≡ s.mapping.sections ++ rest =
    ap (λ (t : Streamed). t.mapping.sections) (
    ap (λ (ps : List PartContent). parts_streamed ps nothing_streamed) (parts_come_in_turn (text ++ later) h.lines (text_lines (h.begun ++ later)) (h.joins later))
    ∙ streamed_joined (parts_read r) parts nothing_streamed
    ∙ ap (λ (m : Mapping). parts_streamed parts (record { defined = s.defined; mapping = m })) (kept s.mapping)
    ∙ parts_behind parts s.mapping.sections s.mapping.links (taken_from s)
    ) in
    (steady_sections rest, ap steady_sections all ∙ map-append steady_section s.mapping.sections rest ∙ ap (λ (l : List SectionContent). l ++ steady_sections rest) (sym h.complete_are))

-- what is shown is the page of a text that ends there
pub growing_is_streamed : GrowingIsStreamed
growing_is_streamed text shown complete growing h joins defines =
    let s : Streamed = lines_streamed h.lines in
    let end : List ℕ = shown_line (after_lines h.lines).reading.gathering.kind h.begun in
    ap steady_sections (open_is_streamed shown end h.lines joins defines)
    ∙ map-append steady_section s.mapping.sections (open_sections end (after_lines h.lines))
    ∙ ap (λ (l : List SectionContent). l ++ steady_sections (open_sections end (after_lines h.lines))) (sym h.complete_are) ∙ ap (λ (l : List SectionContent). complete ++ l) (sym h.growing_are)

-- rows that are done and those below them are rows of one page
pub rows_go_on : RowsGoOn
rows_go_on skin width first next done rows h k = rows_joined skin width first next done rows h k
