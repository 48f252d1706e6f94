-- What is open, while the text goes on.
use Rattle.std.proofs.Common.{◌≡◌, ℕ, List, [], ◌∷◌, ◌++◌, length, sym, ap, ◌∙◌, arith}
use Rattle.mad_sections.specs.Sections.{SectionContent}
use Rattle.markdown_blocks.specs.Lines.{text_lines}
use Rattle.markdown_blocks.specs.Steps.{Step, step}
use Rattle.markdown_blocks.specs.declared.containers.Container.{Container}
use Rattle.markdown_leaves.specs.Parts.{PartContent}
use Rattle.markdown_leaves.specs.Told.{told, events_between}
use Rattle.markdown_reader.specs.Mapping.{LinkSaid, Mapping}
use Rattle.markdown_stream.specs.Come.{HasCome, lines_streamed, streamed_after}
use Rattle.markdown_stream.specs.Held.{streaming_of}
use Rattle.markdown_stream.specs.Laws.{OpenIsStreamed}
use Rattle.markdown_stream.specs.OpenSections.{after_lines, open_sections}
use Rattle.markdown_stream.specs.Readings.{Reading, nothing_read, step_read, line_read, lines_read, parts_read, parts_at_end, handed_on}
use Rattle.markdown_stream.specs.Streamed.{Streamed, nothing_streamed, parts_provided, parts_streamed, streamed_sections}
use Rattle.markdown_stream.specs.Streaming.{Streaming, taken}
use Rattle.markdown_stream.specs.declared.section_stream.SectionStream.{SectionStream}
use Rattle.markdown_stream.proofs.KnownLemmas.{all_provided}
use Rattle.markdown_stream.proofs.MappingLemmas.{kept, provided_behind}
use Rattle.markdown_stream.proofs.ReadingLemmas.{parts_come_in_turn}
use Rattle.markdown_stream.proofs.StreamingLemmas.{streamed_joined}

-- a line that was read ahead
pub line_ahead : (r now : Reading) (text : List ℕ) (done : Step) (before : ℕ) (containers : List Container) → done ≡ step r.state text → before ≡ length r.state.containers → containers ≡ done.state.containers
    → now ≡ record { state = done.state; gathering = told r.gathering (events_between before done.line containers) } → now ≡ line_read r text
line_ahead r now text done before containers done_is before_is containers_is now_is =
    now_is
    ∙ ap (λ (cs : List Container). let n : Reading = record { state = done.state; gathering = told r.gathering (events_between before done.line cs) } in n) containers_is
    ∙ ap (λ (k : ℕ). let n : Reading = record { state = done.state; gathering = told r.gathering (events_between k done.line done.state.containers) } in n) before_is
    ∙ ap (λ (d : Step). step_read r d) done_is

-- one more line was read ahead
pub one_more_ahead : (rest line after_ : List ℕ) (now next all : Reading) → text_lines rest ≡ line ∷ text_lines after_ → next ≡ line_read now line → lines_read now (text_lines rest) ≡ all → lines_read next (text_lines after_) ≡ all
unfolding lines_read
one_more_ahead rest line after_ now next all cut next_is is =
    ap (λ (r : Reading). lines_read r (text_lines after_)) next_is ∙ ap (lines_read now) (sym cut) ∙ is

-- where no text is left, all lines were read ahead
pub none_left_ahead : (rest : List ℕ) (now all : Reading) → length rest ≡ 0 → lines_read now (text_lines rest) ≡ all → now ≡ all
unfolding lines_read text_lines
none_left_ahead [] now all none is = is
none_left_ahead (b ∷ rest) now all none is = absurd (omega arith)

-- what is shown of what is open depends on the whole lines alone
pub open_of : (end read : List ℕ) (sections : List SectionContent) (links : List LinkSaid) (s : SectionStream) → (h : HasCome read sections links s) → open_sections end (streaming_of s) ≡ open_sections end (after_lines h.done)
open_of end read sections links s h =
    ap (λ (r : Reading). open_sections end (record { reading = r; streamed = (streaming_of s).streamed })) h.reading
    ∙ sym (ap (λ (t : Streamed). open_sections end (record { reading = (after_lines h.done).reading; streamed = t })) h.shown)

-- what is open is shown as at the end, where it defines nothing
pub open_is_streamed : OpenIsStreamed
unfolding streamed_sections
open_is_streamed text end lines joins defines =
    let r = lines_read nothing_read lines in
    let later = parts_at_end (lines_read (handed_on r) (text_lines end)) in
    let s = lines_streamed lines in
    ap (λ (ps : List PartContent). (parts_streamed ps nothing_streamed).mapping.sections) (parts_come_in_turn text lines (text_lines end) joins)
    ∙ ap (λ (t : Streamed). t.mapping.sections) (streamed_joined (parts_read r) later nothing_streamed)
    ∙ ap (λ (m : Mapping). m.sections) (all_provided later s defines ∙ ap (parts_provided s.defined later) (kept s.mapping))
    ∙ ap (λ (m : Mapping). m.sections) (provided_behind s.defined later s.mapping.sections s.mapping.links (taken s.mapping))
