-- How the steps of a source of Markdown join that is shown as it comes.
use Rattle.std.proofs.Common.{◌≡◌, ◌⊎◌, inl, inr, ℕ, suc, ◌+◌, ◌<◌, ◌≤◌, Bool, true, false, List, [], ◌∷◌, ◌++◌, length, take, drop, Option, Result, Ok, Err, refl, sym, ap, ◌∙◌, subst, arith, append_assoc}
use Rattle.std.specs.Prelude.{IsErrOf, IsUtf8, MatchResult}
use Rattle.std.specs.declared.io.Error.{Error as IoError}
use Rattle.std.specs.Result.{IsErrAnd}
use Rattle.std.proofs.lemmas.List.{append-nil, length-append, take-append-drop}
use Rattle.std.proofs.lemmas.Result.{err_from_is_err_and}
use Rattle.std.proofs.lemmas.Str.{IsUtf8-nil}
use Rattle.std.proofs.Math.Seq.{take-append_seam}
use Rattle.mad_live.specs.LiveRows.{Shows}
use Rattle.mad_live.specs.Papers.{Paper}
use Rattle.mad_live.proofs.PaperLemmas.{then_reads}
use Rattle.mad_page_skin.specs.declared.page_skin.PageSkin.{PageSkin}
use Rattle.mad_screen.specs.Glyph.{Glyph}
use Rattle.mad_stream.specs.LiveSteps.{StopsAt, StopsInBlock}
use Rattle.mad_stream.specs.SourceErrors.{refusal_of}
use Rattle.mad_stream.specs.SourceSteps.{FlushesOut}
use Rattle.mad_stream.specs.Sources.{IsNoText, IsReadOut, Streamed}
use Rattle.mad_stream.specs.TextFronts.{BeginNoText, IsTextFront}
use Rattle.mad_stream.specs.declared.source_error.SourceError.{SourceError}
use Rattle.mad_stream.specs.declared.source_error.SourceError.TheVariants.{Source, Device, NotUtf8, Memory}
use Rattle.mad_stream.proofs.LiveSourceLemmas.{flush_stops, stops_at_once}
use Rattle.mad_stream.proofs.PiecesShown.{nothing_reads}
use Rattle.mad_stream.proofs.SourceLemmas.{ahead_more, ahead_none, front_none, fronts_joined, more_went, no_text_joined}
use Rattle.mad_term.specs.Draws.{Draws}
use Rattle.mad_term.specs.Trace.{Trace, after, failed, flushed, ahead_all}
use Rattle.mad_term.specs.declared.errors.Error.{Error}
use Rattle.mad_term.specs.declared.errors.Error.TheVariants as writing
use Rattle.mad_term.proofs.Traces.{after-nil}
use Rattle.markdown_live.specs.LiveMarkdowns.{EndsLive, FeedsLive, Fit, FitsSoFar, IsLive, ShowsNow, ShowsRows, StartsLive}
use Rattle.markdown_live.specs.Sources.{FitsAsItComes, HasSoFar, LeadsTo, ShowsAll, ShowsSource, StopsShowing}
use Rattle.markdown_live.specs.SourceSteps.{EndsShown, EndsWith, ShowsBlock, ShowsPiece}
use Rattle.markdown_live.specs.declared.live_markdown.LiveMarkdown.{LiveMarkdown}
use Rattle.markdown_live.proofs.LiveLemmas.{fit_same, fits_same, none_memory, streamed_rows}
use Rattle.markdown_stream.specs.Streams.{IsStreamed, streamed_page}

-- ---- so far

-- the terminal shows the text so far, or nothing was read yet
abbrev pub LiveNow : PageSkin → Option ℕ → ℕ → List ℕ → List ℕ → LiveMarkdown → ℕ → Paper → Paper → Type 0
LiveNow skin width height text bytes live columns p q =
    (done : List ℕ) × IsLive columns (p.reach + length p.below + 1) p.above [] text done live q × ((bytes ≡ []) ⊎ HasSoFar skin width height text columns p q)

-- What was read of a source so far and shown, of which these bytes wait.
pub record LiveSoFar (skin : PageSkin) (width : Option ℕ) (height : ℕ) (source out : Trace) (live : LiveMarkdown) (waiting : List ℕ) (blocks : ℕ) (source_now out_now : Trace) : Type 0 where
  pub streamed : Streamed source out source_now out_now
  pub rest : streamed.front.rest ≡ waiting
  pub counted : blocks ≤ length streamed.read
  pub skin_is : live.skin ≡ skin
  pub width_is : live.width ≡ width
  pub height_is : live.rows.height ≡ height
  pub shows : LeadsTo (FitsAsItComes skin width streamed.text) height streamed.bytes (LiveNow skin width height streamed.text streamed.bytes live)

-- nothing was read yet
abbrev nothing_streamed : (source out : Trace) → Streamed source out source out
nothing_streamed source out = record { read = []; handed_out = ahead_none source; text = []; front = record { rest = []; joins = refl; utf8 = IsUtf8-nil; longest = front_none.longest }; bytes = []; flushes = 0; went = sym (after-nil out) }

pub live_start : (skin : PageSkin) (width : Option ℕ) (height : ℕ) (source out : Trace) (live : LiveMarkdown) (waiting : List ℕ) → waiting ≡ [] → StartsLive live → live.skin ≡ skin → live.width ≡ width → live.rows.height ≡ height
    → LiveSoFar skin width height source out live waiting 0 source out
live_start skin width height source out live waiting none start skin_is width_is height_is = record {
  streamed = nothing_streamed source out;
  rest = sym none;
  counted = omega arith;
  skin_is = skin_is;
  width_is = width_is;
  height_is = height_is;
  shows = λ columns p here clear enough fits. (p, nothing_reads p, ([], start columns (p.reach + length p.below + 1) p here clear refl, inl refl));
}

-- no memory for the beginning
pub none_started : (skin : PageSkin) (width : Option ℕ) (height : ℕ) (source out : Trace) → StopsShowing skin width height source out source out
none_started skin width height source out = record {
  source_then = source;
  reached = inl refl;
  streamed = nothing_streamed source out;
  shows = record { text = []; later = []; front = refl; before = []; cut = []; bytes = refl; shows = λ columns p here clear enough fits. (p, nothing_reads p, inl refl) };
}

-- ---- a block more

-- a text that goes on fits as far as it has come
fits_before : (columns : ℕ) (skin : PageSkin) (width : Option ℕ) (text piece : List ℕ) → FitsAsItComes skin width (text ++ piece) columns → FitsAsItComes skin width text columns
fits_before columns skin width text piece fits front later utf8 cut = fits front (later ++ piece) utf8 (ap (λ (l : List ℕ). l ++ piece) cut ∙ append_assoc front later piece)

fits_all : (columns : ℕ) (skin : PageSkin) (width : Option ℕ) (text : List ℕ) → IsUtf8 text → FitsAsItComes skin width text columns → FitsSoFar columns skin width text
fits_all columns skin width text utf8 fits = fits text [] utf8 (sym (append-nil text))

rows_same : (columns rows : ℕ) (above : List (List Glyph)) (text : List ℕ) (skin skin' : PageSkin) (width width' : Option ℕ) (height height' : ℕ) (done tail : List ℕ) (q : Paper) → skin ≡ skin' → width ≡ width' → height ≡ height'
    → ShowsRows columns rows above [] text skin width height done tail q → ShowsRows columns rows above [] text skin' width' height' done tail q
rows_same columns rows above text skin skin' width width' height height' done tail q e f g h =
    subst (λ (k : PageSkin). ShowsRows columns rows above [] text k width' height' done tail q) e
    (subst (λ (k : Option ℕ). ShowsRows columns rows above [] text skin k height' done tail q) f (subst (λ (k : ℕ). ShowsRows columns rows above [] text skin width k done tail q) g h))

shows_more : (skin : PageSkin) (width : Option ℕ) (height : ℕ) (text piece bytes : List ℕ) (old new : LiveMarkdown) (before now : Trace) → old.skin ≡ skin → old.width ≡ width → old.rows.height ≡ height → IsUtf8 (text ++ piece)
    → (f : ShowsPiece old piece new before now) → LeadsTo (FitsAsItComes skin width text) height bytes (LiveNow skin width height text bytes old)
    → LeadsTo (FitsAsItComes skin width (text ++ piece)) height (bytes ++ f.fed.bytes) (LiveNow skin width height (text ++ piece) (bytes ++ f.fed.bytes) new)
shows_more skin width height text piece bytes old new before now skin_is width_is height_is utf8 f shows columns p here clear enough fits =
    let rows : ℕ = p.reach + length p.below + 1 in
    let next : List ℕ = text ++ piece in
    let so_far = shows columns p here clear enough (fits_before columns skin width text piece fits) in
    let fits_now : FitsSoFar columns old.skin old.width next = fits_same columns skin old.skin width old.width next skin_is width_is (fits_all columns skin width next utf8 fits) in
    let n : ShowsNow {T = Unit {0}} columns rows p.above [] next so_far.2.0 f.fed.wanted old new (Ok (tt {0})) so_far.0 f.fed.bytes = f.fed.shows columns rows p.above [] text so_far.2.0 so_far.0 so_far.2.1 (omega (arith, height_is, enough)) fits_now in (
      n.paper,
      then_reads p so_far.0 n.paper bytes f.fed.bytes so_far.1 n.reads,
      (
        so_far.2.0 ++ n.more,
        n.shows.2,
        inr (so_far.2.0 ++ n.more, n.tail, rows_same columns rows p.above next old.skin skin old.width width old.rows.height height (so_far.2.0 ++ n.more) n.tail n.paper skin_is width_is height_is n.rows),
      ),
    )

-- one more block was read and shown
pub live_more : (skin : PageSkin) (width : Option ℕ) (height : ℕ) (source out : Trace) (old new : LiveMarkdown) (waiting got block left : List ℕ) (used : ℕ) (is_wrong : Bool) (blocks : ℕ) (source_now source_next out_now out_next : Trace)
    → LiveSoFar skin width height source out old waiting blocks source_now out_now → source_now ≡ ahead_all got source_next → 0 < length got → block ≡ waiting ++ got → ShowsBlock old block used is_wrong new out_now out_next → left ≡ drop used block
    → (k : LiveSoFar skin width height source out new left (blocks + 1) source_next out_next) × (is_wrong ≡ true → BeginNoText k.streamed.read)
live_more skin width height source out old new waiting got block left used is_wrong blocks source_now source_next out_now out_next h handed came is f left_is =
    let s : Streamed source out source_now out_now = h.streamed in
    let taken : List ℕ = take used block in
    let unfed : block ≡ s.front.rest ++ got = is ∙ ap (λ (l : List ℕ). l ++ got) (sym h.rest) in
    let front : IsTextFront block taken = record { rest = drop used block; joins = sym (take-append-drop used block); utf8 = f.front.utf8; longest = f.front.longest } in
    let both = fronts_joined s.read got s.text taken block s.front unfed front in
    let bytes : List ℕ = f.piece.fed.bytes in (
      record {
        streamed = record {
          read = s.read ++ got;
          handed_out = ahead_more source source_now source_next s.read got s.handed_out handed;
          text = s.text ++ taken;
          front = both.0;
          bytes = s.bytes ++ bytes;
          flushes = suc s.flushes;
          went = f.went ∙ ap flushed (more_went s.flushes out out_now f.between s.bytes bytes s.went f.piece.fed.wrote);
        };
        rest = both.1 ∙ sym left_is;
        counted = omega (arith, h.counted, length-append s.read got);
        skin_is = f.piece.skin ∙ h.skin_is;
        width_is = f.piece.width ∙ h.width_is;
        height_is = f.piece.height ∙ h.height_is;
        shows = shows_more skin width height s.text taken s.bytes old new out_now f.between h.skin_is h.width_is h.height_is both.0.utf8 f.piece h.shows;
      },
      λ wrong. no_text_joined s.read got s.text block s.front unfed (f.wrong wrong),
    )

-- a block without bytes
pub live_ended : (skin : PageSkin) (width : Option ℕ) (height : ℕ) (source out : Trace) (live : LiveMarkdown) (waiting : List ℕ) (blocks : ℕ) (source_now source_next out_now : Trace) (buffer : List ℕ) (count : ℕ)
    → LiveSoFar skin width height source out live waiting blocks source_now out_now → source_now ≡ ahead_all (take count buffer) source_next → count ≡ 0 → LiveSoFar skin width height source out live waiting blocks source_next out_now
live_ended skin width height source out live waiting blocks source_now source_next out_now buffer count h handed none =
    let same : source_now ≡ source_next = handed ∙ ap (λ n. ahead_all (take n buffer) source_next) none ∙ sym (ahead_none source_next) in
    subst (λ (t : Trace). LiveSoFar skin width height source out live waiting blocks t out_now) same h

-- ---- how it ends

-- all rows of the text were shown
pub shown_all : (skin : PageSkin) (width : Option ℕ) (height : ℕ) (source out : Trace) (live : LiveMarkdown) (waiting : List ℕ) (blocks : ℕ) (source_now out_now out_next : Trace) → (h : LiveSoFar skin width height source out live waiting blocks source_now out_now)
    → EndsShown live out_now out_next → (k : Streamed source out source_now out_next) × (k.read ≡ h.streamed.read) × (k.text ≡ h.streamed.text) × ShowsAll skin width height source out source_now out_next k
shown_all skin width height source out live waiting blocks source_now out_now out_next h f =
    let s : Streamed source out source_now out_now = h.streamed in (
      record {
        read = s.read;
        handed_out = s.handed_out;
        text = s.text;
        front = s.front;
        bytes = s.bytes ++ f.bytes;
        flushes = suc s.flushes;
        went = f.went ∙ ap flushed (more_went s.flushes out out_now (after out_now f.bytes) s.bytes f.bytes s.went refl);
      },
      refl,
      refl,
      record {
        some = omega arith;
        shows = λ columns p here clear enough fits.
            let rows : ℕ = p.reach + length p.below + 1 in
            let so_far = h.shows columns p here clear enough fits.comes in
            let fit : Fit columns live.skin live.width (streamed_page s.text) = fit_same columns skin live.skin width live.width (streamed_page s.text) h.skin_is h.width_is fits.whole in
            let ended = f.shows columns rows p.above s.text so_far.2.0 so_far.0 so_far.2.1 (omega (arith, h.height_is, enough)) fit in (
              ended.0,
              then_reads p so_far.0 ended.0 s.bytes f.bytes so_far.1 ended.2,
              (ended.1, streamed_same live.skin skin live.width width s.text ended.1 h.skin_is h.width_is ended.3, ended.4),
            );
      },
    )
  where
    streamed_same : (skin skin' : PageSkin) (width width' : Option ℕ) (text rows : List ℕ) → skin ≡ skin' → width ≡ width' → IsStreamed skin width text rows → IsStreamed skin' width' text rows
    streamed_same skin skin' width width' text rows e f h = subst (λ (k : PageSkin). IsStreamed k width' text rows) e (subst (λ (k : Option ℕ). IsStreamed skin k text rows) f h)

-- it stopped after some bytes more
stopped : (skin : PageSkin) (width : Option ℕ) (height : ℕ) (source out : Trace) (live : LiveMarkdown) (waiting : List ℕ) (blocks : ℕ) (source_now out_now out_next source_last : Trace) (bytes : List ℕ)
    → LiveSoFar skin width height source out live waiting blocks source_now out_now → out_next ≡ after out_now bytes → (source_last ≡ source_now) ⊎ (source_last ≡ failed source_now) → StopsShowing skin width height source out source_last out_next
stopped skin width height source out live waiting blocks source_now out_now out_next source_last bytes h went reached =
    let s : Streamed source out source_now out_now = h.streamed in
    record {
      source_then = source_now;
      reached = reached;
      streamed = record { read = s.read; handed_out = s.handed_out; text = s.text; front = s.front; bytes = s.bytes ++ bytes; flushes = s.flushes; went = more_went s.flushes out out_now out_next s.bytes bytes s.went went };
      shows = record {
        text = s.text;
        later = [];
        front = sym (append-nil s.text);
        before = s.bytes;
        cut = bytes;
        bytes = refl;
        shows = λ columns p here clear enough fits. let so_far = h.shows columns p here clear enough fits in (so_far.0, so_far.1, so_far.2.2);
      };
    }

-- it stopped after some bytes more, as the call answers
pub stops : (T : Type 0) (e : SourceError) (skin : PageSkin) (width : Option ℕ) (height : ℕ) (source out : Trace) (live : LiveMarkdown) (waiting : List ℕ) (blocks : ℕ) (source_now out_now out_next source_last : Trace)
    → LiveSoFar skin width height source out live waiting blocks source_now out_now → StopsAt out_now e out_next → (source_last ≡ source_now) ⊎ (source_last ≡ failed source_now) → ShowsSource {T = T} skin width height source out (Err e) source_last out_next
stops T (Device f) skin width height source out live waiting blocks source_now out_now out_next source_last h (bytes, went) reached =
    (after out_now bytes, went, stopped skin width height source out live waiting blocks source_now out_now (after out_now bytes) source_last bytes h refl reached)
stops T Memory skin width height source out live waiting blocks source_now out_now out_next source_last h (bytes, went) reached =
    stopped skin width height source out live waiting blocks source_now out_now out_next source_last bytes h went reached
stops T (Source f) skin width height source out live waiting blocks source_now out_now out_next source_last h at reached = absurd at
stops T NotUtf8 skin width height source out live waiting blocks source_now out_now out_next source_last h at reached = absurd at

-- it stopped in the middle of a block
stopped_in_block : (skin : PageSkin) (width : Option ℕ) (height : ℕ) (source out : Trace) (live : LiveMarkdown) (waiting got block text bytes : List ℕ) (blocks : ℕ) (source_now source_next out_now out_next : Trace)
    → LiveSoFar skin width height source out live waiting blocks source_now out_now → source_now ≡ ahead_all got source_next → block ≡ waiting ++ got → IsTextFront block text → out_next ≡ after out_now bytes → StopsShowing skin width height source out source_next out_next
stopped_in_block skin width height source out live waiting got block text bytes blocks source_now source_next out_now out_next h handed is front went =
    let s : Streamed source out source_now out_now = h.streamed in
    let unfed : block ≡ s.front.rest ++ got = is ∙ ap (λ (l : List ℕ). l ++ got) (sym h.rest) in
    record {
      source_then = source_next;
      reached = inl refl;
      streamed = record {
        read = s.read ++ got;
        handed_out = ahead_more source source_now source_next s.read got s.handed_out handed;
        text = s.text ++ text;
        front = (fronts_joined s.read got s.text text block s.front unfed front).0;
        bytes = s.bytes ++ bytes;
        flushes = s.flushes;
        went = more_went s.flushes out out_now out_next s.bytes bytes s.went went;
      };
      shows = record {
        text = s.text;
        later = text;
        front = refl;
        before = s.bytes;
        cut = bytes;
        bytes = refl;
        shows = λ columns p here clear enough fits. let so_far = h.shows columns p here clear enough fits in (so_far.0, so_far.1, so_far.2.2);
      };
    }

block_stops : (T : Type 0) (e : SourceError) (skin : PageSkin) (width : Option ℕ) (height : ℕ) (source out : Trace) (live : LiveMarkdown) (waiting got block text : List ℕ) (blocks : ℕ) (source_now source_next out_now out_next : Trace)
    → LiveSoFar skin width height source out live waiting blocks source_now out_now → source_now ≡ ahead_all got source_next → block ≡ waiting ++ got → IsTextFront block text → StopsAt out_now e out_next → ShowsSource {T = T} skin width height source out (Err e) source_next out_next
block_stops T (Device f) skin width height source out live waiting got block text blocks source_now source_next out_now out_next h handed is front (bytes, went) =
    (after out_now bytes, went, stopped_in_block skin width height source out live waiting got block text bytes blocks source_now source_next out_now (after out_now bytes) h handed is front refl)
block_stops T Memory skin width height source out live waiting got block text blocks source_now source_next out_now out_next h handed is front (bytes, went) =
    stopped_in_block skin width height source out live waiting got block text bytes blocks source_now source_next out_now out_next h handed is front went
block_stops T (Source f) skin width height source out live waiting got block text blocks source_now source_next out_now out_next h handed is front at = absurd at
block_stops T NotUtf8 skin width height source out live waiting got block text blocks source_now source_next out_now out_next h handed is front at = absurd at

-- it stopped in the middle of a block, as the call answers
pub block_exit : {T : Type 0} (r : Result T SourceError) (e : SourceError) (skin : PageSkin) (width : Option ℕ) (height : ℕ) (source out : Trace) (live : LiveMarkdown) (waiting got block : List ℕ) (blocks : ℕ) (source_now source_next out_now out_next : Trace)
    → LiveSoFar skin width height source out live waiting blocks source_now out_now → source_now ≡ ahead_all got source_next → block ≡ waiting ++ got → StopsInBlock block out_now e out_next → IsErrAnd r (λ d. d ≡ e) → ShowsSource skin width height source out r source_next out_next
block_exit {T} r e skin width height source out live waiting got block blocks source_now source_next out_now out_next h handed is stop refused =
    let p = err_from_is_err_and r refused in
    subst (λ (q : Result T SourceError). ShowsSource skin width height source out q source_next out_next) (sym (p.1 ∙ ap Err p.2)) (block_stops T e skin width height source out live waiting got block stop.text blocks source_now source_next out_now out_next h handed is stop.front stop.stops)

-- whatever the end answers, where the source had failed
pub fault_exit : (r : Result (Unit {0}) SourceError) (e : IoError) (skin : PageSkin) (width : Option ℕ) (height : ℕ) (source out : Trace) (live : LiveMarkdown) (waiting : List ℕ) (blocks : ℕ) (source_now source_next out_now out_next : Trace)
    → LiveSoFar skin width height source out live waiting blocks source_now out_now → source_next ≡ failed source_now → EndsWith live (Err (Source e)) out_now r out_next → ShowsSource skin width height source out r source_next out_next
fault_exit (Ok x) e skin width height source out live waiting blocks source_now source_next out_now out_next h fault ends = absurd (clash ends.0)
  where
    clash : Err (Source e) ≡ Ok x → ⊥
    clash is = cc
fault_exit (Err f) e skin width height source out live waiting blocks source_now source_next out_now out_next h fault (inr at) = stops (Unit {0}) f skin width height source out live waiting blocks source_now out_now out_next source_next h at (inr fault)
fault_exit (Err f) e skin width height source out live waiting blocks source_now source_next out_now out_next h fault (inl (same, all)) =
    let k = shown_all skin width height source out live waiting blocks source_now out_now out_next h all in
    subst (λ (q : Result (Unit {0}) SourceError). ShowsSource skin width height source out q source_next out_next) same (record { last = source_now; fault = fault; streamed = k.0; shows = k.3 })

-- or all bytes were read, or some that are no text
pub text_exit : (r ended : Result (Unit {0}) SourceError) (skin : PageSkin) (width : Option ℕ) (height : ℕ) (source out : Trace) (live : LiveMarkdown) (waiting : List ℕ) (blocks : ℕ) (source_now out_now out_next : Trace)
    → (h : LiveSoFar skin width height source out live waiting blocks source_now out_now) → MatchResult ended (λ _. (h.streamed.text ≡ h.streamed.read) × IsReadOut h.streamed.read source_now) (λ e. (e ≡ NotUtf8) × IsNoText h.streamed.read source_now)
    → EndsWith live ended out_now r out_next → ShowsSource skin width height source out r source_now out_next
text_exit (Ok x) ended skin width height source out live waiting blocks source_now out_now out_next h why (same, all) =
    let k = shown_all skin width height source out live waiting blocks source_now out_now out_next h all in
    let good : (h.streamed.text ≡ h.streamed.read) × IsReadOut h.streamed.read source_now =
    subst (λ (q : Result (Unit {0}) SourceError). MatchResult q (λ _. (h.streamed.text ≡ h.streamed.read) × IsReadOut h.streamed.read source_now) (λ e. (e ≡ NotUtf8) × IsNoText h.streamed.read source_now)) same why in
    record { streamed = k.0; whole = k.2 ∙ good.0 ∙ sym k.1; over = subst (λ (l : List ℕ). IsReadOut l source_now) (sym k.1) good.1; shows = k.3 }
text_exit (Err f) ended skin width height source out live waiting blocks source_now out_now out_next h why (inr at) = stops (Unit {0}) f skin width height source out live waiting blocks source_now out_now out_next source_now h at (inl refl)
text_exit (Err f) ended skin width height source out live waiting blocks source_now out_now out_next h why (inl (same, all)) =
    let k = shown_all skin width height source out live waiting blocks source_now out_now out_next h all in
    let bad : (f ≡ NotUtf8) × IsNoText h.streamed.read source_now =
    subst (λ (q : Result (Unit {0}) SourceError). MatchResult q (λ _. (h.streamed.text ≡ h.streamed.read) × IsReadOut h.streamed.read source_now) (λ e. (e ≡ NotUtf8) × IsNoText h.streamed.read source_now)) same why in
    subst (λ (e : SourceError). ShowsSource {T = Unit {0}} skin width height source out (Err e) source_now out_next) (sym bad.0) (record { streamed = k.0; wrong = subst (λ (l : List ℕ). IsNoText l source_now) (sym k.1) bad.1; shows = k.3 })

-- ---- the steps

drawn_stops : (T : Type 0) (e : Error) (bytes : List ℕ) (before now : Trace) → Draws {T = T} before bytes (Err e) now → StopsAt before (refusal_of e) now
drawn_stops T (writing.IO e) bytes before now d = (d.front, d.went)
drawn_stops T (writing.InsufficientWidth e) bytes before now d = absurd d
drawn_stops T writing.Memory bytes before now d = (d.front, d.went)

io_no_memory : (T : Type 0) (e : IoError) → IsErrOf {T = T} (Err (writing.IO e)) writing.Memory → ⊥
io_no_memory T e is = cc

none_stops : (T : Type 0) (e : Error) (before now : Trace) → IsErrOf {T = T} (Err e) writing.Memory → now ≡ before → StopsAt before (refusal_of e) now
none_stops T (writing.IO e) before now is same = absurd (io_no_memory T e is)
none_stops T (writing.InsufficientWidth e) before now is same = ([], same ∙ sym (after-nil before))
none_stops T writing.Memory before now is same = ([], same ∙ sym (after-nil before))

-- a piece was fed
pub piece_fed : (x : Unit {0}) (old new : LiveMarkdown) (piece : List ℕ) (r : Result (Unit {0}) Error) (before now : Trace) → IsUtf8 piece → r ≡ Ok x
    → FeedsLive {T = Unit {0}} old piece new before r now ⊎ IsErrOf r writing.Memory → new.skin ≡ old.skin → new.width ≡ old.width → new.rows.height ≡ old.rows.height → ShowsPiece old piece new before now
piece_fed x old new piece r before now utf8 is fed skin width height = record {
  utf8 = utf8;
  fed = none_memory x (subst (λ (q : Result (Unit {0}) Error). FeedsLive {T = Unit {0}} old piece new before q now ⊎ IsErrOf q writing.Memory) is fed);
  skin = skin;
  width = width;
  height = height;
}

piece_stops : (T : Type 0) (e : Error) (old new : LiveMarkdown) (piece : List ℕ) (before now : Trace) → FeedsLive {T = T} old piece new before (Err e) now ⊎ IsErrOf {T = T} (Err e) writing.Memory → (IsErrOf {T = T} (Err e) writing.Memory → now ≡ before) → StopsAt before (refusal_of e) now
piece_stops T e old new piece before now (inl f) early = drawn_stops T e f.bytes before now f.wrote
piece_stops T e old new piece before now (inr is) early = none_stops T e before now is (early is)

-- a piece that was fed was refused
pub piece_refused : (e : Error) (f : SourceError) (old new : LiveMarkdown) (piece : List ℕ) (r : Result (Unit {0}) Error) (before now : Trace) → r ≡ Err e → f ≡ refusal_of e
    → FeedsLive {T = Unit {0}} old piece new before r now ⊎ IsErrOf r writing.Memory → (IsErrOf r writing.Memory → now ≡ before) → StopsAt before f now
piece_refused e f old new piece r before now is told fed early =
    subst (λ (d : SourceError). StopsAt before d now) (sym told)
    (piece_stops (Unit {0}) e old new piece before now (subst (λ (q : Result (Unit {0}) Error). FeedsLive {T = Unit {0}} old piece new before q now ⊎ IsErrOf q writing.Memory) is fed)
    (subst (λ (q : Result (Unit {0}) Error). IsErrOf q writing.Memory → now ≡ before) is early))

-- a block was shown
pub block_shown : (old new : LiveMarkdown) (block text : List ℕ) (is_wrong : Bool) (before between now : Trace) → IsTextFront block text → (is_wrong ≡ false → length block ≤ length text + 3) → (is_wrong ≡ true → BeginNoText block)
    → ShowsPiece old text new before between → now ≡ flushed between → ShowsBlock old block (length text) is_wrong new before now
block_shown old new block text is_wrong before between now front short wrong f went =
    let taken : take (length text) block ≡ text = ap (take (length text)) front.joins ∙ take-append_seam text front.rest in
    record {
      within = omega (arith, ap length front.joins, length-append text front.rest);
      front = subst (λ (t : List ℕ). IsTextFront block t) (sym taken) front;
      short = short;
      wrong = wrong;
      between = between;
      piece = subst (λ (l : List ℕ). ShowsPiece old l new before between) (sym taken) f;
      went = went;
    }

-- ---- the end of a text

end_stops : (T : Type 0) (e : Error) (live : LiveMarkdown) (before now : Trace) → EndsLive {T = T} live before (Err e) now ⊎ IsErrOf {T = T} (Err e) writing.Memory → (IsErrOf {T = T} (Err e) writing.Memory → now ≡ before) → StopsAt before (refusal_of e) now
end_stops T e live before now (inl f) early = drawn_stops T e f.bytes before now f.wrote
end_stops T e live before now (inr is) early = none_stops T e before now is (early is)

-- the end was refused
pub end_refused : (e : Error) (f : SourceError) (live : LiveMarkdown) (r : Result (Unit {0}) Error) (before now : Trace) → r ≡ Err e → f ≡ refusal_of e → EndsLive live before r now ⊎ IsErrOf r writing.Memory → (IsErrOf r writing.Memory → now ≡ before) → StopsAt before f now
end_refused e f live r before now is told ends early =
    subst (λ (d : SourceError). StopsAt before d now) (sym told)
    (end_stops (Unit {0}) e live before now (subst (λ (q : Result (Unit {0}) Error). EndsLive live before q now ⊎ IsErrOf q writing.Memory) is ends) (subst (λ (q : Result (Unit {0}) Error). IsErrOf q writing.Memory → now ≡ before) is early))

-- the end was shown, and flushed
end_shown_now : (x : Unit {0}) (live : LiveMarkdown) (before between now : Trace) → EndsLive {T = Unit {0}} live before (Ok x) between ⊎ IsErrOf {T = Unit {0}} (Ok x) writing.Memory → now ≡ flushed between → EndsShown live before now
end_shown_now x live before between now h flush =
    let f : EndsLive {T = Unit {0}} live before (Ok x) between = none_memory x h in
    record {
      bytes = f.bytes;
      went = flush ∙ ap flushed f.wrote;
      shows = λ columns height above read done p live_now enough fit.
          let ended = f.shows columns height above [] read done p live_now enough fit in (
            ended.0,
            done ++ f.wanted,
            ended.2,
            streamed_rows live.skin live.skin live.width live.width read ended.1 (done ++ f.wanted) refl refl ended.3 ended.4,
            ended.5,
          );
    }

-- the same of what a call answered
pub end_shown : (x : Unit {0}) (live : LiveMarkdown) (r : Result (Unit {0}) Error) (before between now : Trace) → r ≡ Ok x → EndsLive live before r between ⊎ IsErrOf r writing.Memory → now ≡ flushed between → EndsShown live before now
end_shown x live r before between now is ends flush = end_shown_now x live before between now (subst (λ (q : Result (Unit {0}) Error). EndsLive live before q between ⊎ IsErrOf q writing.Memory) is ends) flush

end_went : (x : Unit {0}) (live : LiveMarkdown) (before between : Trace) → EndsLive {T = Unit {0}} live before (Ok x) between ⊎ IsErrOf {T = Unit {0}} (Ok x) writing.Memory → (bytes : List ℕ) × (between ≡ after before bytes)
end_went x live before between h = let f : EndsLive {T = Unit {0}} live before (Ok x) between = none_memory x h in (f.bytes, f.wrote)

-- the flush at a text's end was refused
pub end_flush_exit : (r ended : Result (Unit {0}) SourceError) (e : SourceError) (x : Unit {0}) (live : LiveMarkdown) (s : Result (Unit {0}) Error) (before between now : Trace) → s ≡ Ok x → EndsLive live before s between ⊎ IsErrOf s writing.Memory
    → FlushesOut {T = Unit {0}} between (Err e) now → IsErrAnd r (λ d. d ≡ e) → EndsWith live ended before r now
end_flush_exit r ended e x live s before between now is ends flush refused =
    let p = err_from_is_err_and r refused in
    let went = end_went x live before between (subst (λ (q : Result (Unit {0}) Error). EndsLive live before q between ⊎ IsErrOf q writing.Memory) is ends) in
    subst (λ (q : Result (Unit {0}) SourceError). EndsWith live ended before q now) (sym (p.1 ∙ ap Err p.2)) (inr (flush_stops (Unit {0}) e went.0 before between now flush went.1))

-- the end of a text answers what it is to, once all is shown
pub ends_as : (r : Result (Unit {0}) SourceError) (live : LiveMarkdown) (before now : Trace) → EndsShown live before now → EndsWith live r before r now
ends_as (Ok x) live before now e = (refl, e)
ends_as (Err d) live before now e = inl (refl, e)
