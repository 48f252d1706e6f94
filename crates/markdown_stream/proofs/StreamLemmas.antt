-- How the steps of a stream join.
use Rattle.std.proofs.Common.{◌≡◌, ℕ, ◌<◌, ◌==◌, Bool, true, false, List, [], ◌∷◌, ◌++◌, map, length, Option, Some, None, Result, Ok, Err, OnOk, refl, sym, ap, ◌∙◌, subst, arith, append_assoc}
use Rattle.std.proofs.lemmas.List.{append-nil, map-append}
use Rattle.std.proofs.lemmas.Grind.{flat_map-append}
use Rattle.std.specs.Result.{IsErrAnd}
use Rattle.std.specs.Str.{IsUtf8}
use Rattle.mad_format.proofs.ListLemmas.{both_become}
use Rattle.mad_md.proofs.PartsLemmas.{true_test}
use Rattle.mad_page_rows.specs.Faces.{has_ascii_boxes}
use Rattle.mad_pages.specs.PageLayouts.{BecomesAt, IsPageAt}
use Rattle.mad_pages.specs.PageRows.{RowContent}
use Rattle.mad_rows.specs.RowStyles.{line_rules}
use Rattle.mad_rows.specs.RowStyles.{line_rules}
use Rattle.mad_rows.specs.declared.row_skin.RowSkin.{RowSkin}
use Rattle.mad_dressing.specs.Dressed.{dressed_page}
use Rattle.mad_dressing.specs.declared.page_marks.PageMarks.{PageMarks}
use Rattle.mad_dressing.proofs.DressLemmas.{pages_dressed}
use Rattle.mad_page_skin.specs.PageSkins.{page_marks, page_row_skin}
use Rattle.mad_page_skin.specs.declared.page_skin.PageSkin.{PageSkin}
use Rattle.mad_sections.specs.Sections.{SectionContent}
use Rattle.mad_term.specs.Trace.{Trace, failed}
use Rattle.mad_term.specs.declared.errors.Error.{Error}
use Rattle.mad_term.specs.declared.errors.Error.TheVariants.{IO, InsufficientWidth, Memory}
use Rattle.mad_term.proofs.Traces.{after-nil}
use Rattle.markdown_layout.specs.WrittenPages.{IsDressedAt, dressed_bytes, row_bytes}
use Rattle.markdown_lines.specs.Texts.{behind_mark}
use Rattle.markdown_lines.proofs.MarkLemmas.{behind_more}
use Rattle.markdown_reader.specs.Mapping.{LinkSaid}
use Rattle.markdown_reader.specs.Steady.{steady_section, steady_sections}
use Rattle.markdown_stream.specs.Come.{HasCome, Comes, Takes, Ends, sections_there}
use Rattle.markdown_stream.specs.Streamed.{streamed_sections}
use Rattle.markdown_stream.specs.Streams.{IsStreamed, BeginsStreamed, Finishes, HasBegun, HasLaid, coming, still_fresh, IsInStep, IsPrompt, Fed, Feeds, TakesPiece, EndsText, Begins, LaysRows, Sent, Sends, streamed_page}
use Rattle.markdown_stream.specs.declared.section_stream.SectionStream.{SectionStream}
use Rattle.markdown_stream.specs.declared.stream.MarkdownStream.{MarkdownStream}
use Rattle.markdown_stream.proofs.ComeLemmas.{shown_on}

-- ---- before the first piece

-- a new stream is in step with an empty text
pub starts : (s : MarkdownStream) → s.fresh ≡ true → s.sections ≡ None → s.rows.items ≡ [] → IsInStep [] s []
starts s fresh none rows = record {
  goes_on = λ later. sym (ap (λ t. coming t later) fresh);
  behind = record {
    sections = [];
    links = [];
    come = subst (λ (o : Option SectionStream). HasBegun [] [] [] o) (sym none) (refl, refl, refl);
    rows = [];
    page = refl;
    written = sym rows;
  };
}

-- ---- rows

-- the pages of two groups of sections, one after the other, are that of both
page_joined : (marks : PageMarks) (first next : List SectionContent) → dressed_page marks (steady_sections (first ++ next)) ≡ dressed_page marks (steady_sections first) ++ dressed_page marks (steady_sections next)
page_joined marks first next = ap (dressed_page marks) (map-append steady_section first next) ∙ pages_dressed marks (steady_sections first) (steady_sections next)

-- rows of these sections stand below those that were
pub more_laid : (skin : PageSkin) (width : Option ℕ) (first next : List SectionContent) (rows own : List RowContent) (sent before now : List ℕ)
    → IsDressedAt skin width (steady_sections first) rows → dressed_bytes skin width rows ≡ sent ++ before
    → IsDressedAt skin width (steady_sections next) own → now ≡ before ++ dressed_bytes skin width own
    → IsDressedAt skin width (steady_sections (first ++ next)) (rows ++ own) × (dressed_bytes skin width (rows ++ own) ≡ sent ++ now)
more_laid skin width first next rows own sent before now page written page2 now_is =
    let row_skin : RowSkin = page_row_skin skin in
    let marks : PageMarks = page_marks skin in (
      subst (λ (ss : List SectionContent). IsPageAt (line_rules row_skin) (has_ascii_boxes row_skin) width ss (rows ++ own)) (sym (page_joined marks first next))
          (both_become (BecomesAt (line_rules row_skin) (has_ascii_boxes row_skin) width) (dressed_page marks (steady_sections first)) (dressed_page marks (steady_sections next)) rows own page page2),
      flat_map-append (row_bytes row_skin width) rows own ∙ ap (λ (b : List ℕ). b ++ dressed_bytes skin width own) written
          ∙ append_assoc sent before (dressed_bytes skin width own) ∙ ap (λ (b : List ℕ). sent ++ b) (sym now_is),
    )

-- ---- a piece

-- a text whose first piece came
nothing_behind : (piece later : List ℕ) → length piece ≡ 0 → behind_mark (piece ++ later) ≡ behind_mark piece ++ behind_mark later
nothing_behind [] later none = refl
nothing_behind (b ∷ piece) later none = absurd (omega arith)

some_of : (piece : List ℕ) → (length piece == 0) ≡ false → 0 < length piece
some_of [] some = absurd (let e : true ≡ false = some in cc)
some_of (b ∷ piece) some = omega arith

pub coming_on : (piece later : List ℕ) (fresh : Bool) → IsUtf8 piece → coming fresh (piece ++ later) ≡ coming fresh piece ++ coming (still_fresh fresh piece) later
coming_on piece later false u = refl
coming_on piece later true u = by (length piece == 0) refl
  where
    by : (t : Bool) → (length piece == 0) ≡ t → behind_mark (piece ++ later) ≡ behind_mark piece ++ coming t later
    by true none = nothing_behind piece later (true_test (length piece) 0 none)
    by false some = behind_more piece later u (some_of piece some)

-- where what comes of a piece behind the text's mark is read, and what it completes is laid out, the piece is taken
pub takes_piece : (old mid new : MarkdownStream) (before read_ after_ : SectionStream) (piece text : List ℕ) (fresh : Bool) → IsUtf8 piece → text ≡ coming mid.fresh piece → fresh ≡ still_fresh new.fresh piece
    → Begins old before → mid ≡ record old { sections = None } → Comes before text read_ → LaysRows (sections_there read_) mid new → Takes read_ after_ → sections_there after_ ≡ [] → new ≡ record mid { rows = new.rows }
    → TakesPiece old piece (record new { fresh = fresh; sections = Some after_ })
takes_piece old mid new before read_ after_ piece text fresh u is still begins same comes lays takes empty same2 =
    subst (λ (m : MarkdownStream). TakesPiece old piece m) (sym whole) (record { keeps = keeps; skin = refl; width = refl })
  where
    final : MarkdownStream
    final = record old { fresh = fresh; sections = Some after_; rows = new.rows }

    laid : new ≡ record old { sections = None; rows = new.rows }
    laid = same2 ∙ ap (λ (m : MarkdownStream). let n : MarkdownStream = record m { rows = new.rows } in n) same

    whole : record new { fresh = fresh; sections = Some after_ } ≡ final
    whole = ap (λ (m : MarkdownStream). let n : MarkdownStream = record m { fresh = fresh; sections = Some after_ } in n) laid

    text_is : text ≡ coming old.fresh piece
    text_is = is ∙ ap (λ (m : MarkdownStream). coming m.fresh piece) same

    fresh_is : fresh ≡ still_fresh old.fresh piece
    fresh_is = still ∙ ap (λ (m : MarkdownStream). still_fresh m.fresh piece) laid

    keeps : (read sent : List ℕ) → IsInStep read old sent → IsInStep (read ++ piece) final sent
    keeps read sent h =
        let b = h.behind in
        let there = sections_there read_ in
        let k = begins (behind_mark read) b.sections b.links b.come in
        let own : LaysRows there (record old { sections = None }) new = subst (λ (m : MarkdownStream). LaysRows there m new) same lays in
        let more = more_laid old.skin old.width b.sections there b.rows own.own sent old.rows.items new.rows.items b.page b.written own.page own.rows in
        let now : HasLaid (behind_mark read ++ text) final sent = record {
          sections = b.sections ++ there;
          links = _;
          come = (takes (behind_mark read ++ text) b.sections b.links (comes (behind_mark read) b.sections b.links k.0), empty);
          rows = b.rows ++ own.own;
          page = more.0;
          written = more.1;
        } in
        record {
          goes_on = λ later.
              ap behind_mark (append_assoc read piece later) ∙ h.goes_on (piece ++ later) ∙ ap (λ (l : List ℕ). behind_mark read ++ l) (coming_on piece later old.fresh u)
              ∙ sym (append_assoc (behind_mark read) (coming old.fresh piece) (coming (still_fresh old.fresh piece) later))
              ∙ ap (λ (l : List ℕ). l ++ coming (still_fresh old.fresh piece) later) (sym (h.goes_on piece)) ∙ ap (λ (f : Bool). behind_mark (read ++ piece) ++ coming f later) (sym fresh_is);
          behind = subst (λ (r : List ℕ). HasLaid r final sent) (ap (λ (l : List ℕ). behind_mark read ++ l) text_is ∙ sym (h.goes_on piece)) now;
        }

-- ---- the end

-- where the rest of what a text shows is laid out, the rows that are kept are all that are left
pub ends_laid : (old mid new : MarkdownStream) (before ended : SectionStream) → Begins old before → mid ≡ record old { sections = None } → Ends before ended → LaysRows (sections_there ended) mid new → EndsText old new
ends_laid old mid new before ended begins same ends lays = record {
  whole = λ read sent h.
      let b = h.behind in
      let there = sections_there ended in
      let k = begins (behind_mark read) b.sections b.links b.come in
      let own : LaysRows there (record old { sections = None }) new = subst (λ (m : MarkdownStream). LaysRows there m new) same lays in
      let more = more_laid old.skin old.width b.sections there b.rows own.own sent old.rows.items new.rows.items b.page b.written own.page own.rows in
      record {
        rows = b.rows ++ own.own;
        page = subst (λ (ss : List SectionContent). IsDressedAt old.skin old.width (steady_sections ss) (b.rows ++ own.own)) (sym (ends (behind_mark read) b.sections b.links k.0)) more.0;
        written = sym more.1;
      };
}

-- ---- what went out

begun_on : (read next : List ℕ) (sections : List SectionContent) (links : List LinkSaid) (o : Option SectionStream) → HasBegun read sections links o → (rest : List SectionContent) × (streamed_sections (read ++ next) ≡ sections ++ rest)
begun_on read next sections links None h = (streamed_sections (read ++ next), sym (ap (λ (ss : List SectionContent). ss ++ streamed_sections (read ++ next)) h.1))
begun_on read next sections links (Some s) h = shown_on read next sections links s h.0

-- whatever comes, what went out is a front of the rows
pub begins_streamed : (read later whole sent : List ℕ) (s : MarkdownStream) → whole ≡ read ++ later → IsInStep read s sent → BeginsStreamed s.skin s.width whole sent
begins_streamed read later whole sent s is h =
    let b = h.behind in
    let on = begun_on (behind_mark read) (coming s.fresh later) b.sections b.links s.sections b.come in
    record {
      front = steady_sections b.sections;
      rest = steady_sections on.0;
      joins = ap steady_sections (ap streamed_sections (ap behind_mark is ∙ h.goes_on later) ∙ on.1) ∙ map-append steady_section b.sections on.0;
      rows = b.rows;
      page = b.page;
      left = s.rows.items;
      written = b.written;
    }

-- the same stream, some of whose rows went out
in_step_sent : (read sent bytes : List ℕ) (old new : MarkdownStream) → old.rows.items ≡ bytes ++ new.rows.items → new ≡ record old { rows = new.rows } → IsInStep read old sent → IsInStep read new (sent ++ bytes)
in_step_sent read sent bytes old new rows same h =
    let b = h.behind in
    subst (λ (m : MarkdownStream). IsInStep read m (sent ++ bytes)) (sym same) (record {
      goes_on = h.goes_on;
      behind = record {
        sections = b.sections;
        links = b.links;
        come = b.come;
        rows = b.rows;
        page = b.page;
        written = b.written ∙ ap (λ (x : List ℕ). sent ++ x) rows ∙ sym (append_assoc sent bytes new.rows.items);
      };
    })

fed_by : (old mid new : MarkdownStream) (piece : List ℕ) (before : Trace) (fault : Trace → Trace) (now : Trace) → TakesPiece old piece mid → Sent mid new before fault now → Fed old piece new before fault now
fed_by old mid new piece before fault now t s = record {
  bytes = s.bytes;
  went = s.went;
  keeps = λ read sent h. in_step_sent (read ++ piece) sent s.bytes mid new s.rows s.same (t.keeps read sent h);
  skin = ap (λ (k : MarkdownStream). k.skin) s.same ∙ t.skin;
  width = ap (λ (k : MarkdownStream). k.width) s.same ∙ t.width;
}

-- a piece that is taken, and whose rows go out, is fed
pub feeds : {T : Type 0} (r : Result T Error) (old mid new : MarkdownStream) (piece : List ℕ) (before now : Trace) → TakesPiece old piece mid → Sends mid new before r now → Feeds old piece new before r now
feeds {T} (Ok x) old mid new piece before now t s = fed_by old mid new piece before (λ t. t) now t s
feeds {T} (Err (IO e)) old mid new piece before now t s = fed_by old mid new piece before failed now t s
feeds {T} (Err (InsufficientWidth e)) old mid new piece before now t s = absurd s
feeds {T} (Err Memory) old mid new piece before now t s = absurd s

all_front : (skin : PageSkin) (width : Option ℕ) (text bytes rest : List ℕ) → IsStreamed skin width text (bytes ++ rest) → BeginsStreamed skin width text bytes
all_front skin width text bytes rest h = record { front = streamed_page text; rest = []; joins = sym (append-nil (streamed_page text)); rows = h.rows; page = h.page; left = rest; written = sym h.written }

-- the end of a text, once the rows that are left are sent
pub finishes : {T : Type 0} (r : Result T Error) (read sent : List ℕ) (old mid new : MarkdownStream) (before now : Trace) → EndsText old mid → Sends mid new before r now → OnOk r (IsPrompt new) → IsInStep read old sent → Finishes old.skin old.width read sent before r now
finishes {T} (Ok x) read sent old mid new before now e s none h = (
  s.bytes,
  subst (λ (b : List ℕ). IsStreamed old.skin old.width read (sent ++ b)) (s.rows ∙ ap (λ (b : List ℕ). s.bytes ++ b) none ∙ append-nil s.bytes) (e.whole read sent h),
  s.went,
)
finishes {T} (Err (IO e2)) read sent old mid new before now e s none h = (
  s.bytes,
  all_front old.skin old.width read (sent ++ s.bytes) new.rows.items
      (subst (λ (b : List ℕ). IsStreamed old.skin old.width read b) (ap (λ (b : List ℕ). sent ++ b) s.rows ∙ sym (append_assoc sent s.bytes new.rows.items)) (e.whole read sent h)),
  s.went,
)
finishes {T} (Err (InsufficientWidth e2)) read sent old mid new before now e s none h = absurd s
finishes {T} (Err Memory) read sent old mid new before now e s none h = absurd s

-- memory was refused before anything went out
pub finish_refused : {T : Type 0} (r : Result T Error) (read sent : List ℕ) (old : MarkdownStream) (before : Trace) → IsErrAnd r (λ e. e ≡ Memory) → IsInStep read old sent → Finishes old.skin old.width read sent before r before
finish_refused {T} (Ok x) read sent old before is h = absurd is
finish_refused {T} (Err e) read sent old before is h = subst (λ (d : Error). Finishes {T = T} old.skin old.width read sent before (Err d) before) (sym is) (
  [],
  subst (λ (b : List ℕ). BeginsStreamed old.skin old.width read b) (sym (append-nil sent)) (begins_streamed read [] read sent old (sym (append-nil read)) h),
  sym (after-nil before),
)
