-- What a live text has read, and what it shows so far.
use Rattle.std.proofs.Common.{◌≡◌, ℕ, Bool, List, [], ◌∷◌, ◌++◌, Option, refl, sym, ap, ◌∙◌, subst, append_assoc, append-nil, string_bytes, true}
use Rattle.std.specs.List.{flat_map}
use Rattle.std.specs.Str.{IsUtf8}
use Rattle.std.proofs.lemmas.List.{map-append}
use Rattle.std.proofs.lemmas.Grind.{flat_map-append}
use Rattle.mad_sections.specs.Sections.{SectionContent}
use Rattle.markdown_lines.specs.Texts.{behind_mark}
use Rattle.markdown_live.specs.Growing.{ShowsSoFar, growing_sections}
use Rattle.markdown_live.specs.LiveMarkdowns.{ArePageRows, HasLastRows, HasRead, TakesPiece, growing_now, unshown}
use Rattle.markdown_live.proofs.PageRowLemmas.{kept_more}
use Rattle.markdown_live.specs.ShownLines.{shown_line}
use Rattle.markdown_live.specs.declared.live_markdown.LiveMarkdown.{LiveMarkdown}
use Rattle.markdown_reader.specs.Mapping.{LinkSaid}
use Rattle.markdown_reader.specs.MarkdownSays.{markdown_says}
use Rattle.markdown_reader.specs.Steady.{steady_section, steady_sections}
use Rattle.markdown_reader.specs.declared.markdown.Markdown.{Markdown}
use Rattle.markdown_stream.specs.Come.{Comes, Ends, HasCome, Takes, lines_streamed, sections_there, streamed_after}
use Rattle.markdown_stream.specs.Held.{streaming_of}
use Rattle.markdown_stream.specs.OpenSections.{after_lines, open_sections}
use Rattle.markdown_stream.specs.Readings.{Reading}
use Rattle.markdown_stream.specs.Streamed.{streamed_sections}
use Rattle.markdown_stream.specs.Streams.{coming, still_fresh, streamed_page}
use Rattle.markdown_stream.specs.declared.section_stream.SectionStream.{SectionStream}
use Rattle.markdown_stream.proofs.ComeLemmas.{all_taken}
use Rattle.markdown_stream.proofs.OpenLemmas.{open_of}
use Rattle.markdown_stream.proofs.StreamLemmas.{coming_on}

-- what is growing depends on the whole lines and the line that has begun alone
growing_of : (read : List ℕ) (s : LiveMarkdown) (sections : List SectionContent) (links : List LinkSaid) → (h : HasCome read sections links s.sections) → growing_now s ≡ growing_sections (string_bytes s.sections.line) (after_lines h.done)
growing_of read s sections links h =
    let begun : List ℕ = string_bytes s.sections.line in
    ap steady_sections (
    ap (λ (r : Reading). open_sections (shown_line r.gathering.kind begun) (streaming_of s.sections)) h.reading
    ∙ open_of (shown_line (after_lines h.done).reading.gathering.kind begun) read sections links s.sections h
    )

-- what a live text that has read this shows so far: the sections that were shown, those that are kept, and what is growing
pub shows_so_far : (read : List ℕ) (shown : List SectionContent) (s : LiveMarkdown) → HasRead read shown s → ShowsSoFar (behind_mark read) (shown ++ unshown s) (growing_now s)
shows_so_far read shown s h = record {
  lines = h.come.done;
  begun = string_bytes s.sections.line;
  joins = h.come.joins;
  line = h.come.begun;
  complete_are = sym h.joins ∙ ap steady_sections (sym (all_taken h.come.done h.sections h.links s.sections h.come.shown h.taken));
  growing_are = growing_of (behind_mark read) s h.sections h.links h.come;
}

-- what came was read, taken and kept
pub takes_piece : (old new : LiveMarkdown) (mid : SectionStream) (piece text : List ℕ) (read_ : Markdown) → IsUtf8 piece → text ≡ coming old.fresh piece → new.fresh ≡ still_fresh old.fresh piece
    → Comes old.sections text mid → Takes mid new.sections → sections_there new.sections ≡ [] → markdown_says read_ ≡ steady_sections (sections_there mid) → new.unshown.items ≡ old.unshown.items ++ read_ ∷ [] → TakesPiece old piece new
takes_piece old new mid piece text read_ u is still comes takes empty says pushed read shown h =
    let there : List SectionContent = sections_there mid in
    let links : List LinkSaid = (streamed_after h.sections h.links (streaming_of mid).streamed).mapping.links in
    let whole : behind_mark (read ++ piece) ≡ behind_mark read ++ text = h.goes_on piece ∙ ap (λ (l : List ℕ). behind_mark read ++ l) (sym is) in
    let kept : unshown new ≡ unshown old ++ steady_sections there = ap (flat_map markdown_says) pushed ∙ kept_more old.unshown.items read_ ∙ ap (λ (l : List SectionContent). unshown old ++ l) says in
    record {
      goes_on = λ later.
          ap behind_mark (append_assoc read piece later) ∙ h.goes_on (piece ++ later) ∙ ap (λ (l : List ℕ). behind_mark read ++ l) (coming_on piece later old.fresh u)
          ∙ sym (append_assoc (behind_mark read) (coming old.fresh piece) (coming (still_fresh old.fresh piece) later))
          ∙ ap (λ (l : List ℕ). l ++ coming (still_fresh old.fresh piece) later) (sym (h.goes_on piece)) ∙ ap (λ (f : Bool). behind_mark (read ++ piece) ++ coming f later) (sym still);
      sections = h.sections ++ there;
      links = links;
      come = subst (λ (r : List ℕ). HasCome r (h.sections ++ there) links new.sections) (sym whole) (takes (behind_mark read ++ text) h.sections h.links (comes (behind_mark read) h.sections h.links h.come));
      taken = empty;
      joins = map-append steady_section h.sections there ∙ ap (λ (l : List SectionContent). l ++ steady_sections there) h.joins ∙ append_assoc shown (unshown old) (steady_sections there) ∙ ap (λ (l : List SectionContent). shown ++ l) (sym kept);
    }

-- at the end the page of the text is what was shown, what was kept, and the rest
page_at_end : (read : List ℕ) (shown : List SectionContent) (s : LiveMarkdown) (ended : SectionStream) (last : Markdown) → HasRead read shown s → Ends s.sections ended → markdown_says last ≡ steady_sections (sections_there ended) → streamed_page read ≡ shown ++ (unshown s ++ markdown_says last)
page_at_end read shown s ended last h ends says =
    ap steady_sections (ends (behind_mark read) h.sections h.links h.come) ∙ map-append steady_section h.sections (sections_there ended)
    ∙ ap (λ (l : List SectionContent). l ++ steady_sections (sections_there ended)) h.joins ∙ ap (λ (l : List SectionContent). (shown ++ unshown s) ++ l) (sym says)
    ∙ append_assoc shown (unshown s) (markdown_says last)

-- so the rows of what was kept and of the rest are all that are left
pub has_last_rows : (s : LiveMarkdown) (ended : SectionStream) (last : Markdown) (kept : List Markdown) (rows : List ℕ) → Ends s.sections ended → markdown_says last ≡ steady_sections (sections_there ended) → kept ≡ s.unshown.items ++ last ∷ [] → ArePageRows s.skin s.width (flat_map markdown_says kept) rows → HasLastRows s rows
has_last_rows s ended last kept rows ends says pushed made = record {
  kept = unshown s ++ markdown_says last;
  page = λ read shown h. page_at_end read shown s ended last h ends says;
  rows_are = subst (λ (page : List SectionContent). ArePageRows s.skin s.width page rows) (ap (flat_map markdown_says) pushed ∙ kept_more s.unshown.items last) made;
}

-- before the first piece
pub starts_reading : (s : LiveMarkdown) → HasCome [] [] [] s.sections → sections_there s.sections ≡ [] → s.fresh ≡ true → s.unshown.items ≡ [] → HasRead [] [] s
starts_reading s come none fresh empty = record {
  goes_on = λ later. sym (ap (λ (f : Bool). coming f later) fresh);
  sections = [];
  links = [];
  come = come;
  taken = none;
  joins = sym (ap (flat_map markdown_says) empty);
}
