-- How the steps of a source join that is written as it comes.
use Rattle.std.proofs.Common.{◌≡◌, ℕ, suc, ◌+◌, ◌<◌, ◌≤◌, Bool, true, false, List, [], ◌∷◌, ◌++◌, length, take, drop, Option, Some, None, Result, Ok, Err, inl, refl, sym, ap, ◌∙◌, subst, arith, string_bytes}
use Rattle.std.specs.Result.{IsErrAnd}
use Rattle.std.specs.declared.io.Error.{Error as IoError}
use Rattle.std.proofs.lemmas.List.{append-nil, length-append, take-append-drop}
use Rattle.std.proofs.lemmas.Result.{err_from_is_err_and}
use Rattle.mad_page_skin.specs.declared.page_skin.PageSkin.{PageSkin}
use Rattle.mad_stream.specs.Sources.{IsNoText, IsReadOut, Streamed}
use Rattle.mad_stream.specs.SourceErrors.{refusal_of}
use Rattle.mad_stream.specs.SourceSteps.{FlushesOut}
use Rattle.mad_stream.specs.TextFronts.{BeginNoText, IsTextFront}
use Rattle.mad_stream.specs.declared.source_error.SourceError.{SourceError}
use Rattle.mad_stream.specs.declared.source_error.SourceError.TheVariants.{Source, Device, NotUtf8, Memory}
use Rattle.mad_stream.proofs.SourceLemmas.{ahead_more, ahead_none, front_none, front_partly, front_whole, fronts_joined, more_went, no_text_joined}
use Rattle.mad_term.specs.Trace.{Trace, after, failed, flushed, ahead_all}
use Rattle.mad_term.specs.declared.errors.Error.{Error}
use Rattle.mad_term.specs.declared.errors.Error.TheVariants as writing
use Rattle.mad_term.proofs.Traces.{after-nil}
use Rattle.mad_md.specs.Parts.{HasNoNewline}
use Rattle.mad_pages.specs.PageRows.{RowContent}
use Rattle.mad_sections.specs.Sections.{SectionContent}
use Rattle.markdown_blocks.specs.Lines.{text_lines}
use Rattle.markdown_layout.specs.WrittenPages.{IsDressedAt, dressed_bytes}
use Rattle.markdown_lines.specs.Texts.{behind_mark}
use Rattle.markdown_reader.specs.Mapping.{LinkSaid}
use Rattle.markdown_reader.specs.Steady.{steady_sections}
use Rattle.markdown_stream.specs.Come.{lines_streamed}
use Rattle.markdown_stream.specs.Readings.{lines_read}
use Rattle.markdown_stream.specs.Streamed.{parts_streamed}
use Rattle.markdown_stream.specs.declared.section_stream.SectionStream.{SectionStream}
use Rattle.markdown_stream.proofs.ComeLemmas.{all_taken}
use Rattle.markdown_stream.specs.Sources.{AreCompleteRows, StreamsMarkdown}
use Rattle.markdown_stream.specs.SourceSteps.{FeedsBlock, StopsInBlock, EndsFlushed, EndsSource}
use Rattle.markdown_stream.specs.Streams.{HasBegun, IsInStep, IsPrompt, IsStreamed, BeginsStreamed, Fed, Feeds, Finishes, streamed_page}
use Rattle.markdown_stream.specs.declared.stream.MarkdownStream.{MarkdownStream}
use Rattle.markdown_stream.proofs.StreamLemmas.{begins_streamed}

-- ---- the end of a text

-- the stream ends so, whatever was read and went out
abbrev pub Ends : {T : Type 0} → MarkdownStream → Trace → Result T Error → Trace → Type 0
Ends s before r now = (read sent : List ℕ) → IsInStep read s sent → Finishes s.skin s.width read sent before r now

-- a refused end of the stream is a refused end of the source
pub end_refused : (T U : Type 0) (e : Error) (s : MarkdownStream) (is_whole : Bool) (before now : Trace) → Ends {T = T} s before (Err e) now → EndsSource {T = U} s is_whole before (Err (refusal_of e)) now
end_refused T U (writing.IO e) s is_whole before now ends = ends
end_refused T U (writing.InsufficientWidth e) s is_whole before now ends = λ read sent h. absurd (ends read sent h)
end_refused T U writing.Memory s is_whole before now ends = ends

all_front : (s : MarkdownStream) (read bytes : List ℕ) → IsStreamed s.skin s.width read bytes → BeginsStreamed s.skin s.width read bytes
all_front s read bytes h = record { front = streamed_page read; rest = []; joins = sym (append-nil (streamed_page read)); rows = h.rows; page = h.page; left = []; written = sym h.written ∙ sym (append-nil bytes) }

-- the flush was refused
pub end_unflushed : (T U V : Type 0) (x : T) (e : SourceError) (r : Result V SourceError) (s : MarkdownStream) (is_whole : Bool) (before written now : Trace) → Ends {T = T} s before (Ok x) written → FlushesOut {T = U} written (Err e) now → IsErrAnd r (λ d. d ≡ e)
    → EndsSource s is_whole before r now
end_unflushed T U V x (Source e) r s is_whole before written now ends h is = absurd h
end_unflushed T U V x (Device e) r s is_whole before written now ends h is =
    let p = err_from_is_err_and r is in
    subst (λ (q : Result V SourceError). EndsSource s is_whole before q now) (sym (p.1 ∙ ap Err p.2)) (λ read sent step.
    let f = ends read sent step in
    (f.0, all_front s read (sent ++ f.0) f.1, h ∙ ap failed f.2))
end_unflushed T U V x NotUtf8 r s is_whole before written now ends h is = absurd h
end_unflushed T U V x Memory r s is_whole before written now ends h is = absurd h

-- an end whose rows went out and were flushed is a whole one
pub ends_whole : {T : Type 0} (x : T) (s : MarkdownStream) (before written now : Trace) → Ends {T = T} s before (Ok x) written → now ≡ flushed written → EndsFlushed s before now
ends_whole {T} x s before written now ends flush = record { written = written; whole = ends; went = flush }

-- ---- a block

-- where rows are refused, the source stops in this block
pub stops_at_rows : (T : Type 0) (old new : MarkdownStream) (block text : List ℕ) (before : Trace) (cause : Error) (now : Trace) → IsTextFront block text → Feeds {T = T} old text new before (Err cause) now
    → StopsInBlock old block before (refusal_of cause) now
stops_at_rows T old new block text before (writing.IO e) now front fed = record {
  text = text;
  front = front;
  bytes = fed.bytes;
  went = fed.went;
  begins = λ read sent h. begins_same new old (read ++ text) (sent ++ fed.bytes) fed.skin fed.width (begins_streamed (read ++ text) [] (read ++ text) (sent ++ fed.bytes) new (sym (append-nil (read ++ text))) (fed.keeps read sent h));
}
  where
    begins_same : (a b : MarkdownStream) (text bytes : List ℕ) → a.skin ≡ b.skin → a.width ≡ b.width → BeginsStreamed a.skin a.width text bytes → BeginsStreamed b.skin b.width text bytes
    begins_same a b text bytes p q h = subst (λ (k : PageSkin). BeginsStreamed k b.width text bytes) p (subst (λ (w : Option ℕ). BeginsStreamed a.skin w text bytes) q h)
stops_at_rows T old new block text before (writing.InsufficientWidth e) now front fed = absurd fed
stops_at_rows T old new block text before writing.Memory now front fed = record {
  text = text;
  front = front;
  bytes = [];
  went = fed ∙ sym (after-nil before);
  begins = λ read sent h. subst (λ (b : List ℕ). BeginsStreamed old.skin old.width (read ++ text) b) (sym (append-nil sent)) (begins_streamed read text (read ++ text) sent old refl h);
}

begins_fed : (old new : MarkdownStream) (read sent text bytes : List ℕ) → new.skin ≡ old.skin → new.width ≡ old.width → IsInStep (read ++ text) new (sent ++ bytes) → BeginsStreamed old.skin old.width (read ++ text) (sent ++ bytes)
begins_fed old new read sent text bytes skin width h =
    subst (λ (k : PageSkin). BeginsStreamed k old.width (read ++ text) (sent ++ bytes)) skin
    (subst (λ (w : Option ℕ). BeginsStreamed new.skin w (read ++ text) (sent ++ bytes)) width (begins_streamed (read ++ text) [] (read ++ text) (sent ++ bytes) new (sym (append-nil (read ++ text))) h))

-- where a flush is refused, the source stops in this block
pub stops_at_flush : (U : Type 0) (old new : MarkdownStream) (block text : List ℕ) (before between : Trace) (e : SourceError) (now : Trace) → IsTextFront block text → Fed old text new before (λ t. t) between → FlushesOut {T = U} between (Err e) now → StopsInBlock old block before e now
stops_at_flush U old new block text before between (Source e) now front fed h = absurd h
stops_at_flush U old new block text before between (Device e) now front fed h = record {
  text = text;
  front = front;
  bytes = fed.bytes;
  went = h ∙ ap failed fed.went;
  begins = λ read sent s. begins_fed old new read sent text fed.bytes fed.skin fed.width (fed.keeps read sent s);
}
stops_at_flush U old new block text before between NotUtf8 now front fed h = absurd h
stops_at_flush U old new block text before between Memory now front fed h = absurd h

-- ---- block by block

-- what was read so far, of which this waits, and what went out
pub record SourceSoFar (skin : PageSkin) (width : Option ℕ) (source out : Trace) (s : MarkdownStream) (waiting : List ℕ) (blocks : ℕ) (source_now out_now : Trace) : Type 0 where
  pub streamed : Streamed source out source_now out_now
  pub rest : streamed.front.rest ≡ waiting
  pub counted : blocks ≤ length streamed.read
  pub step : IsInStep streamed.text s streamed.bytes
  pub prompt : IsPrompt s
  pub some : 0 < length streamed.read → 0 < streamed.flushes
  pub skin_is : s.skin ≡ skin
  pub width_is : s.width ≡ width

-- before the first block nothing was read, and nothing went out
pub source_start : (skin : PageSkin) (width : Option ℕ) (source out : Trace) (s : MarkdownStream) (waiting : List ℕ) → waiting ≡ [] → IsInStep [] s [] → IsPrompt s → s.skin ≡ skin → s.width ≡ width → SourceSoFar skin width source out s waiting 0 source out
source_start skin width source out s waiting none step prompt skin_is width_is = record {
  streamed = record { read = []; handed_out = ahead_none source; text = []; front = record { rest = []; joins = refl; utf8 = front_none.utf8; longest = front_none.longest }; bytes = []; flushes = 0; went = sym (after-nil out) };
  rest = sym none;
  counted = omega arith;
  step = step;
  prompt = prompt;
  some = λ h. absurd (omega arith);
  skin_is = skin_is;
  width_is = width_is;
}

-- a block without bytes
pub source_ended : (skin : PageSkin) (width : Option ℕ) (source out : Trace) (s : MarkdownStream) (waiting : List ℕ) (blocks : ℕ) (source_now source_next out_now : Trace) (buffer : List ℕ) (count : ℕ) → SourceSoFar skin width source out s waiting blocks source_now out_now
    → source_now ≡ ahead_all (take count buffer) source_next → count ≡ 0 → SourceSoFar skin width source out s waiting blocks source_next out_now
source_ended skin width source out s waiting blocks source_now source_next out_now buffer count h handed none =
    let same : source_now ≡ source_next = handed ∙ ap (λ n. ahead_all (take n buffer) source_next) none ∙ sym (ahead_none source_next) in
    subst (λ (t : Trace). SourceSoFar skin width source out s waiting blocks t out_now) same h

-- a block more
pub source_more : (skin : PageSkin) (width : Option ℕ) (source out : Trace) (old new : MarkdownStream) (waiting got block left : List ℕ) (used blocks : ℕ) (is_wrong : Bool) (source_now source_next out_now out_next : Trace) → SourceSoFar skin width source out old waiting blocks source_now out_now
    → source_now ≡ ahead_all got source_next → 0 < length got → block ≡ waiting ++ got → FeedsBlock old block used is_wrong new out_now out_next → left ≡ drop used block
    → (k : SourceSoFar skin width source out new left (blocks + 1) source_next out_next) × (is_wrong ≡ true → BeginNoText k.streamed.read)
source_more skin width source out old new waiting got block left used blocks is_wrong source_now source_next out_now out_next h handed came is f left_is =
    let s : Streamed source out source_now out_now = h.streamed in
    let unfed : block ≡ s.front.rest ++ got = is ∙ ap (λ (l : List ℕ). l ++ got) (sym h.rest) in
    let front : IsTextFront block (take used block) = record { rest = drop used block; joins = sym (take-append-drop used block); utf8 = f.front.utf8; longest = f.front.longest } in
    let both = fronts_joined s.read got s.text (take used block) block s.front unfed front in (
      record {
        streamed = record {
          read = s.read ++ got;
          handed_out = ahead_more source source_now source_next s.read got s.handed_out handed;
          text = s.text ++ take used block;
          front = both.0;
          bytes = s.bytes ++ f.fed.bytes;
          flushes = suc s.flushes;
          went = f.went ∙ ap flushed (more_went s.flushes out out_now f.between s.bytes f.fed.bytes s.went f.fed.went);
        };
        rest = both.1 ∙ sym left_is;
        counted = omega (arith, h.counted, length-append s.read got);
        step = f.fed.keeps s.text s.bytes h.step;
        prompt = f.prompt;
        some = λ _. omega arith;
        skin_is = f.fed.skin ∙ h.skin_is;
        width_is = f.fed.width ∙ h.width_is;
      },
      λ wrong. no_text_joined s.read got s.text block s.front unfed (f.wrong wrong),
    )

-- ---- exits

complete_if : (read sent bytes : List ℕ) (s : MarkdownStream) (sections : List SectionContent) (links : List LinkSaid) (o : Option SectionStream) (rows : List RowContent) → HasBegun read sections links o
    → IsDressedAt s.skin s.width (steady_sections sections) rows → bytes ≡ dressed_bytes s.skin s.width rows
    → (done : List (List ℕ)) × (begun : List ℕ) × (text_lines read ≡ done ++ text_lines begun) × HasNoNewline begun × IsDressedAt s.skin s.width (steady_sections (lines_streamed done).mapping.sections) rows
unfolding lines_read parts_streamed text_lines
complete_if read sent bytes s sections links None rows h page written = (
  [],
  [],
  ap text_lines h.0,
  tt,
  subst (λ (ss : List SectionContent). IsDressedAt s.skin s.width (steady_sections ss) rows) h.1 page,
)
complete_if read sent bytes s sections links (Some t) rows h page written = (
  h.0.done,
  string_bytes t.line,
  ap text_lines (sym (append-nil read)) ∙ h.0.joins [] ∙ ap (λ (l : List ℕ). h.0.done ++ text_lines l) (append-nil (string_bytes t.line)),
  h.0.begun,
  subst (λ (ss : List SectionContent). IsDressedAt s.skin s.width (steady_sections ss) rows) (sym (all_taken h.0.done sections links t h.0.shown h.1)) page,
)

complete_rows : (read sent : List ℕ) (s : MarkdownStream) → IsInStep read s sent → IsPrompt s → AreCompleteRows s.skin s.width read sent
complete_rows read sent s h prompt =
    let b = h.behind in
    let written : sent ≡ dressed_bytes s.skin s.width b.rows = sym (b.written ∙ ap (λ (x : List ℕ). sent ++ x) prompt ∙ append-nil sent) in
    let c = complete_if (behind_mark read) sent sent s b.sections b.links s.sections b.rows b.come b.page written in
    record { done = c.0; begun = c.1; joins = c.2; line = c.3; rows = b.rows; page = c.4; written = written }

-- where the source fails, the answer says so
pub source_failed : (T : Type 0) (e : IoError) (skin : PageSkin) (width : Option ℕ) (source out : Trace) (s : MarkdownStream) (waiting : List ℕ) (blocks : ℕ) (source_now source_next out_now : Trace) → SourceSoFar skin width source out s waiting blocks source_now out_now
    → source_next ≡ failed source_now → StreamsMarkdown {T = T} skin width source out (Err (Source e)) source_next out_now
source_failed T e skin width source out s waiting blocks source_now source_next out_now h fault = record {
  last = source_now;
  fault = fault;
  streamed = h.streamed;
  rows = subst (λ (k : PageSkin). AreCompleteRows k width h.streamed.text h.streamed.bytes) h.skin_is (subst (λ (w : Option ℕ). AreCompleteRows s.skin w h.streamed.text h.streamed.bytes) h.width_is (complete_rows h.streamed.text h.streamed.bytes s h.step h.prompt));
  some = h.some;
}

-- the same rows in the same skin
begins_in : (skin : PageSkin) (width : Option ℕ) (s : MarkdownStream) (text bytes : List ℕ) → s.skin ≡ skin → s.width ≡ width → BeginsStreamed s.skin s.width text bytes → BeginsStreamed skin width text bytes
begins_in skin width s text bytes p q h = subst (λ (k : PageSkin). BeginsStreamed k width text bytes) p (subst (λ (w : Option ℕ). BeginsStreamed s.skin w text bytes) q h)

streamed_in : (skin : PageSkin) (width : Option ℕ) (s : MarkdownStream) (text bytes : List ℕ) → s.skin ≡ skin → s.width ≡ width → IsStreamed s.skin s.width text bytes → IsStreamed skin width text bytes
streamed_in skin width s text bytes p q h = subst (λ (k : PageSkin). IsStreamed k width text bytes) p (subst (λ (w : Option ℕ). IsStreamed s.skin w text bytes) q h)

-- what was read, and what went out of it, in the middle of a block
stopped_streamed : (skin : PageSkin) (width : Option ℕ) (source out : Trace) (old : MarkdownStream) (waiting got block text bytes : List ℕ) (blocks : ℕ) (source_now source_next out_now : Trace) → (h : SourceSoFar skin width source out old waiting blocks source_now out_now)
    → source_now ≡ ahead_all got source_next → block ≡ waiting ++ got → IsTextFront block text → (k : Streamed source out source_next (after out_now bytes)) × (k.text ≡ h.streamed.text ++ text) × (k.bytes ≡ h.streamed.bytes ++ bytes)
stopped_streamed skin width source out old waiting got block text bytes blocks source_now source_next out_now h handed is front =
    let s : Streamed source out source_now out_now = h.streamed in
    let unfed : block ≡ s.front.rest ++ got = is ∙ ap (λ (l : List ℕ). l ++ got) (sym h.rest) in (
      record {
        read = s.read ++ got;
        handed_out = ahead_more source source_now source_next s.read got s.handed_out handed;
        text = s.text ++ text;
        front = (fronts_joined s.read got s.text text block s.front unfed front).0;
        bytes = s.bytes ++ bytes;
        flushes = s.flushes;
        went = more_went s.flushes out out_now (after out_now bytes) s.bytes bytes s.went refl;
      },
      refl,
      refl,
    )

stopped_rows : (skin : PageSkin) (width : Option ℕ) (text bytes other_text other_bytes : List ℕ) → other_text ≡ text → other_bytes ≡ bytes → BeginsStreamed skin width text bytes → BeginsStreamed skin width other_text other_bytes
stopped_rows skin width text bytes other_text other_bytes p q h = subst (λ (t : List ℕ). BeginsStreamed skin width t other_bytes) (sym p) (subst (λ (b : List ℕ). BeginsStreamed skin width text b) (sym q) h)

stopped_by : (T : Type 0) (e : SourceError) (skin : PageSkin) (width : Option ℕ) (source out : Trace) (old : MarkdownStream) (waiting got block : List ℕ) (blocks : ℕ) (source_now source_next out_now out_next : Trace) → SourceSoFar skin width source out old waiting blocks source_now out_now
    → source_now ≡ ahead_all got source_next → block ≡ waiting ++ got → StopsInBlock old block out_now e out_next → StreamsMarkdown {T = T} skin width source out (Err e) source_next out_next
stopped_by T (Source e) skin width source out old waiting got block blocks source_now source_next out_now out_next h handed is stop = absurd stop
stopped_by T (Device e) skin width source out old waiting got block blocks source_now source_next out_now out_next h handed is stop =
    let s = stopped_streamed skin width source out old waiting got block stop.text stop.bytes blocks source_now source_next out_now h handed is stop.front in
    record {
      last = after out_now stop.bytes;
      fault = stop.went;
      streamed = s.0;
      rows = stopped_rows skin width (h.streamed.text ++ stop.text) (h.streamed.bytes ++ stop.bytes) s.0.text s.0.bytes s.1 s.2
          (begins_in skin width old (h.streamed.text ++ stop.text) (h.streamed.bytes ++ stop.bytes) h.skin_is h.width_is (stop.begins h.streamed.text h.streamed.bytes h.step));
    }
stopped_by T NotUtf8 skin width source out old waiting got block blocks source_now source_next out_now out_next h handed is stop = absurd stop
stopped_by T Memory skin width source out old waiting got block blocks source_now source_next out_now out_next h handed is stop =
    let s = stopped_streamed skin width source out old waiting got block stop.text stop.bytes blocks source_now source_next out_now h handed is stop.front in
    subst (λ (t : Trace). StreamsMarkdown {T = T} skin width source out (Err Memory) source_next t) (sym stop.went) (record {
      streamed = s.0;
      rows = stopped_rows skin width (h.streamed.text ++ stop.text) (h.streamed.bytes ++ stop.bytes) s.0.text s.0.bytes s.1 s.2
          (begins_in skin width old (h.streamed.text ++ stop.text) (h.streamed.bytes ++ stop.bytes) h.skin_is h.width_is (stop.begins h.streamed.text h.streamed.bytes h.step));
    })

-- where a block stops the source, the answer says why
pub block_stopped : {T : Type 0} (r : Result T SourceError) (e : SourceError) (skin : PageSkin) (width : Option ℕ) (source out : Trace) (old : MarkdownStream) (waiting got block : List ℕ) (blocks : ℕ) (source_now source_next out_now out_next : Trace)
    → SourceSoFar skin width source out old waiting blocks source_now out_now → source_now ≡ ahead_all got source_next → block ≡ waiting ++ got → StopsInBlock old block out_now e out_next → IsErrAnd r (λ d. d ≡ e) → StreamsMarkdown skin width source out r source_next out_next
block_stopped {T} r e skin width source out old waiting got block blocks source_now source_next out_now out_next h handed is stop refused =
    let p = err_from_is_err_and r refused in
    subst (λ (q : Result T SourceError). StreamsMarkdown skin width source out q source_next out_next) (sym (p.1 ∙ ap Err p.2))
    (stopped_by T e skin width source out old waiting got block blocks source_now source_next out_now out_next h handed is stop)

-- at the end
all_streamed : (source out source_now out_now written out_next : Trace) (bytes : List ℕ) → (s : Streamed source out source_now out_now) → written ≡ after out_now bytes → out_next ≡ flushed written → (k : Streamed source out source_now out_next) × (k.read ≡ s.read) × (k.text ≡ s.text) × (k.bytes ≡ s.bytes ++ bytes) × (0 < k.flushes)
all_streamed source out source_now out_now written out_next bytes s went flush = (
  record {
    read = s.read;
    handed_out = s.handed_out;
    text = s.text;
    front = s.front;
    bytes = s.bytes ++ bytes;
    flushes = suc s.flushes;
    went = flush ∙ ap flushed (more_went s.flushes out out_now written s.bytes bytes s.went went);
  },
  refl,
  refl,
  refl,
  omega arith,
)

laid_same : (skin : PageSkin) (width : Option ℕ) (text same bytes rows : List ℕ) → same ≡ text → rows ≡ bytes → IsStreamed skin width text bytes → IsStreamed skin width same rows
laid_same skin width text same bytes rows r t h = subst (λ (l : List ℕ). IsStreamed skin width l rows) (sym r) (subst (λ (l : List ℕ). IsStreamed skin width text l) (sym t) h)

-- whatever the end answers
pub text_ended : {T : Type 0} (r : Result T SourceError) (is_whole : Bool) (skin : PageSkin) (width : Option ℕ) (source out : Trace) (s : MarkdownStream) (waiting : List ℕ) (blocks : ℕ) (source_now out_now out_next : Trace) → (h : SourceSoFar skin width source out s waiting blocks source_now out_now)
    → (is_whole ≡ true → (h.streamed.text ≡ h.streamed.read) × IsReadOut h.streamed.read source_now) → (is_whole ≡ false → IsNoText h.streamed.read source_now) → EndsSource s is_whole out_now r out_next → StreamsMarkdown skin width source out r source_now out_next
text_ended {T} (Ok x) is_whole skin width source out s waiting blocks source_now out_now out_next h good bad e =
    let w = e.1.whole h.streamed.text h.streamed.bytes h.step in
    let k = all_streamed source out source_now out_now e.1.written out_next w.0 h.streamed w.2 e.1.went in
    let g = good e.0 in
    record {
      streamed = k.0;
      whole = k.2 ∙ g.0 ∙ sym k.1;
      over = subst (λ (l : List ℕ). IsReadOut l source_now) (sym k.1) g.1;
      writes = record { rows = laid_same skin width h.streamed.text k.0.text (h.streamed.bytes ++ w.0) k.0.bytes k.2 k.3 (streamed_in skin width s h.streamed.text (h.streamed.bytes ++ w.0) h.skin_is h.width_is w.1); some = k.4 };
    }
text_ended {T} (Err (Source f)) is_whole skin width source out s waiting blocks source_now out_now out_next h good bad e = absurd e
text_ended {T} (Err (Device f)) is_whole skin width source out s waiting blocks source_now out_now out_next h good bad e =
    let w = e h.streamed.text h.streamed.bytes h.step in
    record {
      last = after out_now w.0;
      fault = w.2;
      streamed = record { read = h.streamed.read; handed_out = h.streamed.handed_out; text = h.streamed.text; front = h.streamed.front; bytes = h.streamed.bytes ++ w.0; flushes = h.streamed.flushes; went = more_went h.streamed.flushes out out_now (after out_now w.0) h.streamed.bytes w.0 h.streamed.went refl };
      rows = begins_in skin width s h.streamed.text (h.streamed.bytes ++ w.0) h.skin_is h.width_is w.1;
    }
text_ended {T} (Err NotUtf8) is_whole skin width source out s waiting blocks source_now out_now out_next h good bad e =
    let w = e.1.whole h.streamed.text h.streamed.bytes h.step in
    let k = all_streamed source out source_now out_now e.1.written out_next w.0 h.streamed w.2 e.1.went in
    record {
      streamed = k.0;
      wrong = subst (λ (l : List ℕ). IsNoText l source_now) (sym k.1) (bad e.0);
      writes = record { rows = laid_same skin width h.streamed.text k.0.text (h.streamed.bytes ++ w.0) k.0.bytes k.2 k.3 (streamed_in skin width s h.streamed.text (h.streamed.bytes ++ w.0) h.skin_is h.width_is w.1); some = k.4 };
    }
text_ended {T} (Err Memory) is_whole skin width source out s waiting blocks source_now out_now out_next h good bad e =
    let w = e h.streamed.text h.streamed.bytes h.step in
    record {
      streamed = record { read = h.streamed.read; handed_out = h.streamed.handed_out; text = h.streamed.text; front = h.streamed.front; bytes = h.streamed.bytes ++ w.0; flushes = h.streamed.flushes; went = more_went h.streamed.flushes out out_now out_next h.streamed.bytes w.0 h.streamed.went w.2 };
      rows = begins_in skin width s h.streamed.text (h.streamed.bytes ++ w.0) h.skin_is h.width_is w.1;
    }

-- nothing more is read
pub read_out : {T : Type 0} (r : Result T SourceError) (is_whole : Bool) (skin : PageSkin) (width : Option ℕ) (source out : Trace) (s : MarkdownStream) (waiting : List ℕ) (blocks : ℕ) (source_now out_now out_next : Trace) → (h : SourceSoFar skin width source out s waiting blocks source_now out_now) → IsReadOut h.streamed.read source_now
    → (is_whole ≡ true → length waiting ≡ 0) → (is_whole ≡ false → 0 < length waiting) → EndsSource s is_whole out_now r out_next → StreamsMarkdown skin width source out r source_now out_next
read_out {T} r is_whole skin width source out s waiting blocks source_now out_now out_next h over good bad e =
    text_ended r is_whole skin width source out s waiting blocks source_now out_now out_next h
    (λ is. (front_whole h.streamed.read h.streamed.text h.streamed.front (h.rest ∙ empty waiting (good is)), over))
    (λ is. inl (over, front_partly h.streamed.read h.streamed.text h.streamed.front (omega (arith, bad is, ap length h.rest)))) e
  where
    empty : (l : List ℕ) → length l ≡ 0 → l ≡ []
    empty [] none = refl
    empty (x ∷ l) none = absurd (omega arith)
