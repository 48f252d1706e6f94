-- How the steps of a source join that is shown as it comes.
use Rattle.std.proofs.Common.{◌≡◌, ◌⊎◌, ◌≢◌, inl, inr, ℕ, zero, suc, ◌+◌, ◌<◌, ◌≤◌, Bool, true, false, List, [], ◌∷◌, ◌++◌, length, take, drop, get_or, chars, Option, Result, Ok, Err, OnOk, refl, sym, ap, ◌∙◌, subst, arith, append_assoc, encode_utf8_all}
use Rattle.std.specs.Prelude.{IsErrOf, IsUtf8, MatchResult}
use Rattle.std.specs.declared.io.Error.{Error as IoError}
use Rattle.std.specs.Result.{IsErrAnd}
use Rattle.std.proofs.lemmas.List.{append-nil, length-append, take-append-drop, take_all}
use Rattle.std.proofs.lemmas.Result.{err_from_is_err_and}
use Rattle.std.proofs.lemmas.Str.{IsUtf8-append, IsUtf8-from_ascii, IsUtf8-nil, chars-append, chars-nil}
use Rattle.std.proofs.Math.Seq.{take-append_seam}
use Rattle.mad_term.specs.Draws.{Draws}
use Rattle.mad_term.specs.Trace.{Trace, after, failed, flushed, ahead_all}
use Rattle.mad_term.specs.declared.errors.Error.{Error}
use Rattle.mad_term.specs.declared.errors.Error.TheVariants as writing
use Rattle.mad_term.proofs.Traces.{after-append, after-nil}
use Rattle.mad_screen.specs.Glyph.{Glyph}
use Rattle.mad_live.specs.Papers.{Paper}
use Rattle.mad_live.specs.LiveRows.{AreLast}
use Rattle.mad_live.proofs.PaperLemmas.{then_reads}
use Rattle.mad_rows.specs.declared.row_skin.RowSkin.{RowSkin}
use Rattle.mad_stream.specs.LiveSources.{FitsAsItGrows, LeadsTo, ShowsAll, ShowsSoFar, ShowsSource, StopsShowing}
use Rattle.mad_stream.specs.LiveSteps.{EndsShown, EndsWith, ShowsBlock, ShowsPiece, StopsAt, StopsInBlock}
use Rattle.mad_stream.specs.LiveTexts.{EndsLive, FeedsLive, FitsRows, IsLaidOut, IsLive, ShowsNow, StartsLive, without_last}
use Rattle.mad_stream.specs.SteadyPieces.{end_piece, growing, spot_after, start_spot, steadied, steady_piece}
use Rattle.mad_stream.specs.SourceErrors.{refusal_of}
use Rattle.mad_stream.specs.SourceSteps.{FlushesOut}
use Rattle.mad_stream.specs.Sources.{IsNoText, IsReadOut, Streamed}
use Rattle.mad_stream.specs.TextFronts.{BeginNoText, IsTextFront}
use Rattle.mad_stream.specs.declared.live_sources.Shown.{Shown}
use Rattle.mad_stream.specs.declared.live_text.LiveText.{LiveText}
use Rattle.mad_stream.specs.declared.steadied.Spot.{Spot}
use Rattle.mad_stream.specs.declared.source_error.SourceError.{SourceError}
use Rattle.mad_stream.specs.declared.source_error.SourceError.TheVariants.{Source, Device, NotUtf8, Memory}
use Rattle.mad_stream.proofs.LiveTextLemmas.{fed_ok, fits_same}
use Rattle.mad_stream.proofs.PiecesShown.{nothing_reads}
use Rattle.mad_stream.proofs.SteadyPieceLemmas.{growing_more, growing_none, spot_more, spot_none, steadied_all}
use Rattle.mad_stream.proofs.SourceLemmas.{ahead_more, ahead_none, front_none, front_partly, front_whole, fronts_joined, more_went, no_text_joined}

-- ---- so far

-- the terminal shows the text so far, or nothing was read yet
abbrev pub LiveNow : RowSkin → Option ℕ → ℕ → List ℕ → List ℕ → LiveText → ℕ → Paper → Paper → Type 0
LiveNow skin width height text bytes live columns p q =
    (done : List ℕ) × IsLive columns (p.reach + length p.below + 1) p.above text done live q × ((bytes ≡ []) ⊎ ShowsSoFar columns height p.above skin width text q)

-- What was read of a source so far and shown, of which these bytes wait.
pub record LiveSoFar (skin : RowSkin) (width : Option ℕ) (height : ℕ) (source out : Trace) (live : LiveText) (spot : Spot) (waiting : List ℕ) (blocks : ℕ) (source_now out_now : Trace) : Type 0 where
  pub streamed : Streamed source out source_now out_now
  pub rest : streamed.front.rest ≡ waiting
  pub counted : blocks ≤ length streamed.read
  pub spot_is : spot ≡ spot_after start_spot (chars streamed.text)
  pub utf8 : IsUtf8 (growing streamed.text)
  pub skin_is : live.stream.skin ≡ skin
  pub width_is : live.stream.width ≡ width
  pub height_is : live.rows.height ≡ height
  pub shows : LeadsTo skin width height (growing streamed.text) streamed.bytes (LiveNow skin width height (growing streamed.text) streamed.bytes live)

-- nothing was read yet
pub live_start : (skin : RowSkin) (width : Option ℕ) (height : ℕ) (source out : Trace) (live : LiveText) (waiting : List ℕ) → waiting ≡ [] → StartsLive live → live.stream.skin ≡ skin → live.stream.width ≡ width → live.rows.height ≡ height
    → LiveSoFar skin width height source out live start_spot waiting 0 source out
live_start skin width height source out live waiting none start skin_is width_is height_is = record {
  streamed = record { read = []; handed_out = ahead_none source; text = []; front = record { rest = []; joins = refl; utf8 = IsUtf8-nil; longest = front_none.longest }; bytes = []; flushes = 0; went = sym (after-nil out) };
  rest = sym none;
  counted = omega arith;
  spot_is = sym spot_none;
  utf8 = subst IsUtf8 (sym growing_none) IsUtf8-nil;
  skin_is = skin_is;
  width_is = width_is;
  height_is = height_is;
  shows = λ columns p here clear enough fits.
      (p, nothing_reads p, ([], subst (λ (t : List ℕ). IsLive columns (p.reach + length p.below + 1) p.above t [] live p) (sym growing_none) (start columns (p.reach + length p.below + 1) p here clear refl), inl refl));
}

-- ---- a block more

laid_same : (skin other : RowSkin) (width else : Option ℕ) (text same rows : List ℕ) → skin ≡ other → width ≡ else → same ≡ text → IsLaidOut skin width text rows → IsLaidOut other else same rows
laid_same skin other width else text same rows p q r h = subst (λ (k : RowSkin). IsLaidOut k else same rows) p (subst (λ (w : Option ℕ). IsLaidOut skin w same rows) q (subst (λ (l : List ℕ). IsLaidOut skin width l rows) (sym r) h))

-- a text that goes on fits as far as it has come
fits_before : (columns : ℕ) (skin : RowSkin) (width : Option ℕ) (text piece whole : List ℕ) → whole ≡ text ++ piece → FitsAsItGrows columns skin width whole → FitsAsItGrows columns skin width text
fits_before columns skin width text piece whole is fits front later utf8 cut = fits front (later ++ piece) utf8 (is ∙ ap (λ (l : List ℕ). l ++ piece) cut ∙ append_assoc front later piece)

fits_whole : (columns : ℕ) (skin : RowSkin) (width : Option ℕ) (text : List ℕ) → IsUtf8 text → FitsAsItGrows columns skin width text → FitsRows columns skin width text
fits_whole columns skin width text utf8 fits = fits text [] utf8 (sym (append-nil text))

shown_so_far : (columns height rows_height : ℕ) (above : List (List Glyph)) (skin : RowSkin) (width : Option ℕ) (text same done wanted bytes : List ℕ) (live : LiveText) (p : Paper) → live.stream.skin ≡ skin → live.stream.width ≡ width → live.rows.height ≡ height → same ≡ text
    → (n : ShowsNow {T = Unit {0}} columns rows_height above text done wanted live (Ok (tt {0})) p bytes) → ShowsSoFar columns height above skin width same n.paper
shown_so_far columns height rows_height above skin width text same done wanted bytes live p skin_is width_is height_is is n = record {
  done = done ++ n.more;
  left = n.rows.left;
  rows = laid_same live.stream.skin skin live.stream.width width text same ((done ++ n.more) ++ n.rows.left) skin_is width_is is n.rows.rows;
  tail = n.tail;
  last = subst (λ h. AreLast h (without_last n.rows.left) n.tail) height_is n.rows.last;
  shows = n.rows.stands.shows;
}

shows_more : (skin : RowSkin) (width : Option ℕ) (height : ℕ) (text next piece bytes : List ℕ) (old new : LiveText) (before now : Trace) → old.stream.skin ≡ skin → old.stream.width ≡ width → old.rows.height ≡ height → next ≡ text ++ piece → IsUtf8 next
    → (f : ShowsPiece old piece new before now) → LeadsTo skin width height text bytes (LiveNow skin width height text bytes old)
    → LeadsTo skin width height next (bytes ++ f.fed.bytes) (LiveNow skin width height next (bytes ++ f.fed.bytes) new)
shows_more skin width height text next piece bytes old new before now skin_is width_is height_is is utf8 f shows columns p here clear enough fits =
    let rows : ℕ = p.reach + length p.below + 1 in
    let so_far = shows columns p here clear enough (fits_before columns skin width text piece next is fits) in
    let fits_now : FitsRows columns old.stream.skin old.stream.width (text ++ piece) =
    fits_same columns skin old.stream.skin width old.stream.width (text ++ piece) skin_is width_is (subst (λ (l : List ℕ). FitsRows columns skin width l) is (fits_whole columns skin width next utf8 fits)) in
    let n : ShowsNow {T = Unit {0}} columns rows p.above (text ++ piece) so_far.2.0 f.fed.wanted new (Ok (tt {0})) so_far.0 f.fed.bytes = f.fed.shows columns rows p.above text so_far.2.0 so_far.0 so_far.2.1 (omega (arith, height_is, enough)) fits_now in (
      n.paper,
      then_reads p so_far.0 n.paper bytes f.fed.bytes so_far.1 n.reads,
      (
        so_far.2.0 ++ n.more,
        subst (λ (l : List ℕ). IsLive columns rows p.above l (so_far.2.0 ++ n.more) new n.paper) (sym is) n.shows.1.live,
        inr (shown_so_far columns height rows p.above skin width (text ++ piece) next so_far.2.0 f.fed.wanted f.fed.bytes new so_far.0 (f.skin ∙ skin_is) (f.width ∙ width_is) (f.height ∙ height_is) is n),
      ),
    )

-- one more block was read and shown
pub live_more : (skin : RowSkin) (width : Option ℕ) (height : ℕ) (source out : Trace) (old new : LiveText) (spot : Spot) (waiting got block left : List ℕ) (shown : Shown) (blocks : ℕ) (source_now source_next out_now out_next : Trace)
    → LiveSoFar skin width height source out old spot waiting blocks source_now out_now → source_now ≡ ahead_all got source_next → 0 < length got → block ≡ waiting ++ got → ShowsBlock old spot block shown new out_now out_next → left ≡ drop shown.used block
    → (k : LiveSoFar skin width height source out new shown.spot left (blocks + 1) source_next out_next) × (shown.is_wrong ≡ true → BeginNoText k.streamed.read)
live_more skin width height source out old new spot waiting got block left shown blocks source_now source_next out_now out_next h handed came is f left_is =
    let s : Streamed source out source_now out_now = h.streamed in
    let taken : List ℕ = take shown.used block in
    let unfed : block ≡ s.front.rest ++ got = is ∙ ap (λ (l : List ℕ). l ++ got) (sym h.rest) in
    let front : IsTextFront block taken = record { rest = drop shown.used block; joins = sym (take-append-drop shown.used block); utf8 = f.front.utf8; longest = f.front.longest } in
    let both = fronts_joined s.read got s.text taken block s.front unfed front in
    let made : List ℕ = encode_utf8_all (steady_piece spot (chars taken)) in
    let grown : growing (s.text ++ taken) ≡ growing s.text ++ made = growing_more s.text taken s.front.utf8 ∙ ap (λ (p : Spot). growing s.text ++ encode_utf8_all (steady_piece p (chars taken))) (sym h.spot_is) in
    let utf8 : IsUtf8 (growing (s.text ++ taken)) = subst IsUtf8 (sym grown) (IsUtf8-append (growing s.text) made h.utf8 f.piece.utf8) in
    let bytes : List ℕ = f.piece.fed.bytes in (
      record {
        streamed = record {
          read = s.read ++ got;
          handed_out = ahead_more source source_now source_next s.read got s.handed_out handed;
          text = s.text ++ taken;
          front = both.0;
          bytes = s.bytes ++ bytes;
          flushes = suc s.flushes;
          went = f.went ∙ ap flushed (more_went s.flushes out out_now f.between s.bytes bytes s.went f.piece.fed.wrote);
        };
        rest = both.1 ∙ sym left_is;
        counted = omega (arith, h.counted, length-append s.read got);
        spot_is = f.spot_is ∙ ap (λ (p : Spot). spot_after p (chars taken)) h.spot_is ∙ sym (spot_more s.text taken s.front.utf8);
        utf8 = utf8;
        skin_is = f.piece.skin ∙ h.skin_is;
        width_is = f.piece.width ∙ h.width_is;
        height_is = f.piece.height ∙ h.height_is;
        shows = shows_more skin width height (growing s.text) (growing (s.text ++ taken)) made s.bytes old new out_now f.between h.skin_is h.width_is h.height_is grown utf8 f.piece h.shows;
      },
      λ wrong. no_text_joined s.read got s.text block s.front unfed (f.wrong wrong),
    )

-- a block without bytes
pub live_ended : (skin : RowSkin) (width : Option ℕ) (height : ℕ) (source out : Trace) (live : LiveText) (spot : Spot) (waiting : List ℕ) (blocks : ℕ) (source_now source_next out_now : Trace) (buffer : List ℕ) (count : ℕ)
    → LiveSoFar skin width height source out live spot waiting blocks source_now out_now → source_now ≡ ahead_all (take count buffer) source_next → count ≡ 0 → LiveSoFar skin width height source out live spot waiting blocks source_next out_now
live_ended skin width height source out live spot waiting blocks source_now source_next out_now buffer count h handed none =
    let same : source_now ≡ source_next = handed ∙ ap (λ n. ahead_all (take n buffer) source_next) none ∙ sym (ahead_none source_next) in
    subst (λ (t : Trace). LiveSoFar skin width height source out live spot waiting blocks t out_now) same h

-- ---- how it ends

-- all rows of the text were shown
pub shown_all : (skin : RowSkin) (width : Option ℕ) (height : ℕ) (source out : Trace) (live : LiveText) (spot : Spot) (waiting : List ℕ) (blocks : ℕ) (source_now out_now out_next : Trace) → (h : LiveSoFar skin width height source out live spot waiting blocks source_now out_now)
    → EndsShown live (encode_utf8_all (end_piece spot)) out_now out_next → (k : Streamed source out source_now out_next) × (k.read ≡ h.streamed.read) × (k.text ≡ h.streamed.text) × ShowsAll skin width height source out source_now out_next k
shown_all skin width height source out live spot waiting blocks source_now out_now out_next h f =
    let s : Streamed source out source_now out_now = h.streamed in
    let last : List ℕ = encode_utf8_all (end_piece spot) in
    let whole : steadied s.text ≡ growing s.text ++ last = steadied_all s.text ∙ ap (λ (p : Spot). growing s.text ++ encode_utf8_all (end_piece p)) (sym h.spot_is) in (
      record {
        read = s.read;
        handed_out = s.handed_out;
        text = s.text;
        front = s.front;
        bytes = s.bytes ++ f.bytes;
        flushes = suc s.flushes;
        went = f.went ∙ ap flushed (more_went s.flushes out out_now (after out_now f.bytes) s.bytes f.bytes s.went refl);
      },
      refl,
      refl,
      record {
        some = omega arith;
        shows = λ columns p here clear enough fits.
            let rows : ℕ = p.reach + length p.below + 1 in
            let so_far = h.shows columns p here clear enough (fits_before columns skin width (growing s.text) last (steadied s.text) whole fits) in
            let now : FitsRows columns live.stream.skin live.stream.width (growing s.text) =
            fits_same columns skin live.stream.skin width live.stream.width (growing s.text) h.skin_is h.width_is (fits_whole columns skin width (growing s.text) h.utf8 (fits_before columns skin width (growing s.text) last (steadied s.text) whole fits)) in
            let all : FitsRows columns live.stream.skin live.stream.width (growing s.text ++ last) =
            fits_same columns skin live.stream.skin width live.stream.width (growing s.text ++ last) h.skin_is h.width_is (subst (λ (l : List ℕ). FitsRows columns skin width l) whole (fits_whole columns skin width (steadied s.text) (subst IsUtf8 (sym whole) (IsUtf8-append (growing s.text) last h.utf8 f.utf8)) fits)) in
            let ended = f.shows columns rows p.above (growing s.text) so_far.2.0 so_far.0 so_far.2.1 (omega (arith, h.height_is, enough)) now all in (
              ended.0,
              then_reads p so_far.0 ended.0 s.bytes f.bytes so_far.1 ended.2,
              (
                ended.1,
                laid_same live.stream.skin skin live.stream.width width (growing s.text ++ last) (steadied s.text) ended.1 h.skin_is h.width_is whole ended.3,
                ended.4,
              ),
            );
      },
    )

-- it stopped after some bytes more
stopped : (skin : RowSkin) (width : Option ℕ) (height : ℕ) (source out : Trace) (live : LiveText) (spot : Spot) (waiting : List ℕ) (blocks : ℕ) (source_now out_now out_next source_last : Trace) (bytes : List ℕ)
    → LiveSoFar skin width height source out live spot waiting blocks source_now out_now → out_next ≡ after out_now bytes → (source_last ≡ source_now) ⊎ (source_last ≡ failed source_now) → StopsShowing skin width height source out source_last out_next
stopped skin width height source out live spot waiting blocks source_now out_now out_next source_last bytes h went reached =
    let s : Streamed source out source_now out_now = h.streamed in
    record {
      source_then = source_now;
      reached = reached;
      streamed = record { read = s.read; handed_out = s.handed_out; text = s.text; front = s.front; bytes = s.bytes ++ bytes; flushes = s.flushes; went = more_went s.flushes out out_now out_next s.bytes bytes s.went went };
      shows = record {
        text = s.text;
        later = [];
        front = sym (append-nil s.text);
        before = s.bytes;
        cut = bytes;
        bytes = refl;
        shows = λ columns p here clear enough fits. let so_far = h.shows columns p here clear enough fits in (so_far.0, so_far.1, so_far.2.2);
      };
    }

-- it stopped after some bytes more, as the call answers
pub stops : (T : Type 0) (e : SourceError) (skin : RowSkin) (width : Option ℕ) (height : ℕ) (source out : Trace) (live : LiveText) (spot : Spot) (waiting : List ℕ) (blocks : ℕ) (source_now out_now out_next source_last : Trace)
    → LiveSoFar skin width height source out live spot waiting blocks source_now out_now → StopsAt out_now e out_next → (source_last ≡ source_now) ⊎ (source_last ≡ failed source_now) → ShowsSource {T = T} skin width height source out (Err e) source_last out_next
stops T (Device f) skin width height source out live spot waiting blocks source_now out_now out_next source_last h (bytes, went) reached =
    (after out_now bytes, went, stopped skin width height source out live spot waiting blocks source_now out_now (after out_now bytes) source_last bytes h refl reached)
stops T Memory skin width height source out live spot waiting blocks source_now out_now out_next source_last h (bytes, went) reached =
    stopped skin width height source out live spot waiting blocks source_now out_now out_next source_last bytes h went reached
stops T (Source f) skin width height source out live spot waiting blocks source_now out_now out_next source_last h at reached = absurd at
stops T NotUtf8 skin width height source out live spot waiting blocks source_now out_now out_next source_last h at reached = absurd at

-- it stopped in the middle of a block
stopped_in_block : (skin : RowSkin) (width : Option ℕ) (height : ℕ) (source out : Trace) (live : LiveText) (spot : Spot) (waiting got block text bytes : List ℕ) (blocks : ℕ) (source_now source_next out_now out_next : Trace)
    → LiveSoFar skin width height source out live spot waiting blocks source_now out_now → source_now ≡ ahead_all got source_next → block ≡ waiting ++ got → IsTextFront block text → out_next ≡ after out_now bytes → StopsShowing skin width height source out source_next out_next
stopped_in_block skin width height source out live spot waiting got block text bytes blocks source_now source_next out_now out_next h handed is front went =
    let s : Streamed source out source_now out_now = h.streamed in
    let unfed : block ≡ s.front.rest ++ got = is ∙ ap (λ (l : List ℕ). l ++ got) (sym h.rest) in
    record {
      source_then = source_next;
      reached = inl refl;
      streamed = record {
        read = s.read ++ got;
        handed_out = ahead_more source source_now source_next s.read got s.handed_out handed;
        text = s.text ++ text;
        front = (fronts_joined s.read got s.text text block s.front unfed front).0;
        bytes = s.bytes ++ bytes;
        flushes = s.flushes;
        went = more_went s.flushes out out_now out_next s.bytes bytes s.went went;
      };
      shows = record {
        text = s.text;
        later = text;
        front = refl;
        before = s.bytes;
        cut = bytes;
        bytes = refl;
        shows = λ columns p here clear enough fits. let so_far = h.shows columns p here clear enough fits in (so_far.0, so_far.1, so_far.2.2);
      };
    }

block_stops : (T : Type 0) (e : SourceError) (skin : RowSkin) (width : Option ℕ) (height : ℕ) (source out : Trace) (live : LiveText) (spot : Spot) (waiting got block text : List ℕ) (blocks : ℕ) (source_now source_next out_now out_next : Trace)
    → LiveSoFar skin width height source out live spot waiting blocks source_now out_now → source_now ≡ ahead_all got source_next → block ≡ waiting ++ got → IsTextFront block text → StopsAt out_now e out_next → ShowsSource {T = T} skin width height source out (Err e) source_next out_next
block_stops T (Device f) skin width height source out live spot waiting got block text blocks source_now source_next out_now out_next h handed is front (bytes, went) =
    (after out_now bytes, went, stopped_in_block skin width height source out live spot waiting got block text bytes blocks source_now source_next out_now (after out_now bytes) h handed is front refl)
block_stops T Memory skin width height source out live spot waiting got block text blocks source_now source_next out_now out_next h handed is front (bytes, went) =
    stopped_in_block skin width height source out live spot waiting got block text bytes blocks source_now source_next out_now out_next h handed is front went
block_stops T (Source f) skin width height source out live spot waiting got block text blocks source_now source_next out_now out_next h handed is front at = absurd at
block_stops T NotUtf8 skin width height source out live spot waiting got block text blocks source_now source_next out_now out_next h handed is front at = absurd at

-- it stopped in the middle of a block, as the call answers
pub block_exit : {T : Type 0} (r : Result T SourceError) (e : SourceError) (skin : RowSkin) (width : Option ℕ) (height : ℕ) (source out : Trace) (live : LiveText) (spot : Spot) (waiting got block : List ℕ) (blocks : ℕ) (source_now source_next out_now out_next : Trace)
    → LiveSoFar skin width height source out live spot waiting blocks source_now out_now → source_now ≡ ahead_all got source_next → block ≡ waiting ++ got → StopsInBlock block out_now e out_next → IsErrAnd r (λ d. d ≡ e) → ShowsSource skin width height source out r source_next out_next
block_exit {T} r e skin width height source out live spot waiting got block blocks source_now source_next out_now out_next h handed is stop refused =
    let p = err_from_is_err_and r refused in
    subst (λ (q : Result T SourceError). ShowsSource skin width height source out q source_next out_next) (sym (p.1 ∙ ap Err p.2)) (block_stops T e skin width height source out live spot waiting got block stop.text blocks source_now source_next out_now out_next h handed is stop.front stop.stops)

-- whatever the end answers, where the source had failed
pub fault_exit : (r : Result (Unit {0}) SourceError) (e : IoError) (skin : RowSkin) (width : Option ℕ) (height : ℕ) (source out : Trace) (live : LiveText) (spot : Spot) (waiting : List ℕ) (blocks : ℕ) (source_now source_next out_now out_next : Trace)
    → LiveSoFar skin width height source out live spot waiting blocks source_now out_now → source_next ≡ failed source_now → EndsWith live (encode_utf8_all (end_piece spot)) (Err (Source e)) out_now r out_next → ShowsSource skin width height source out r source_next out_next
fault_exit (Ok x) e skin width height source out live spot waiting blocks source_now source_next out_now out_next h fault ends = absurd (clash ends.0)
  where
    clash : Err (Source e) ≡ Ok x → ⊥
    clash is = cc
fault_exit (Err f) e skin width height source out live spot waiting blocks source_now source_next out_now out_next h fault (inr at) = stops (Unit {0}) f skin width height source out live spot waiting blocks source_now out_now out_next source_next h at (inr fault)
fault_exit (Err f) e skin width height source out live spot waiting blocks source_now source_next out_now out_next h fault (inl (same, all)) =
    let k = shown_all skin width height source out live spot waiting blocks source_now out_now out_next h all in
    subst (λ (q : Result (Unit {0}) SourceError). ShowsSource skin width height source out q source_next out_next) same (record { last = source_now; fault = fault; streamed = k.0; shows = k.3 })

-- or all bytes were read, or some that are no text
pub text_exit : (r ended : Result (Unit {0}) SourceError) (skin : RowSkin) (width : Option ℕ) (height : ℕ) (source out : Trace) (live : LiveText) (spot : Spot) (waiting : List ℕ) (blocks : ℕ) (source_now out_now out_next : Trace)
    → (h : LiveSoFar skin width height source out live spot waiting blocks source_now out_now) → MatchResult ended (λ _. (h.streamed.text ≡ h.streamed.read) × IsReadOut h.streamed.read source_now) (λ e. (e ≡ NotUtf8) × IsNoText h.streamed.read source_now)
    → EndsWith live (encode_utf8_all (end_piece spot)) ended out_now r out_next → ShowsSource skin width height source out r source_now out_next
text_exit (Ok x) ended skin width height source out live spot waiting blocks source_now out_now out_next h why (same, all) =
    let k = shown_all skin width height source out live spot waiting blocks source_now out_now out_next h all in
    let good : (h.streamed.text ≡ h.streamed.read) × IsReadOut h.streamed.read source_now =
    subst (λ (q : Result (Unit {0}) SourceError). MatchResult q (λ _. (h.streamed.text ≡ h.streamed.read) × IsReadOut h.streamed.read source_now) (λ e. (e ≡ NotUtf8) × IsNoText h.streamed.read source_now)) same why in
    record { streamed = k.0; whole = k.2 ∙ good.0 ∙ sym k.1; over = subst (λ (l : List ℕ). IsReadOut l source_now) (sym k.1) good.1; shows = k.3 }
text_exit (Err f) ended skin width height source out live spot waiting blocks source_now out_now out_next h why (inr at) = stops (Unit {0}) f skin width height source out live spot waiting blocks source_now out_now out_next source_now h at (inl refl)
text_exit (Err f) ended skin width height source out live spot waiting blocks source_now out_now out_next h why (inl (same, all)) =
    let k = shown_all skin width height source out live spot waiting blocks source_now out_now out_next h all in
    let bad : (f ≡ NotUtf8) × IsNoText h.streamed.read source_now =
    subst (λ (q : Result (Unit {0}) SourceError). MatchResult q (λ _. (h.streamed.text ≡ h.streamed.read) × IsReadOut h.streamed.read source_now) (λ e. (e ≡ NotUtf8) × IsNoText h.streamed.read source_now)) same why in
    subst (λ (e : SourceError). ShowsSource {T = Unit {0}} skin width height source out (Err e) source_now out_next) (sym bad.0) (record { streamed = k.0; wrong = subst (λ (l : List ℕ). IsNoText l source_now) (sym k.1) bad.1; shows = k.3 })

-- whether the text is whole, where no more is read
pub read_out_end : (ended : Result (Unit {0}) SourceError) (read text waiting : List ℕ) (source_now : Trace) (count : ℕ) → (f : IsTextFront read text) → f.rest ≡ waiting → length waiting ≡ count → IsReadOut read source_now → MatchResult ended (λ _. count ≡ 0) (λ e. (e ≡ NotUtf8) × (count ≢ 0))
    → MatchResult ended (λ _. (text ≡ read) × IsReadOut read source_now) (λ e. (e ≡ NotUtf8) × IsNoText read source_now)
read_out_end (Ok x) read text waiting source_now count f is size over none = (front_whole read text f (is ∙ empty waiting (size ∙ none)), over)
  where
    empty : (l : List ℕ) → length l ≡ 0 → l ≡ []
    empty [] none = refl
    empty (x ∷ l) none = absurd (omega arith)
read_out_end (Err e) read text waiting source_now count f is size over some = (some.0, inl (over, front_partly read text f (positive (length f.rest) (λ none. some.1 (sym size ∙ sym (ap length is) ∙ none)))))
  where
    positive : (n : ℕ) → (n ≡ 0 → ⊥) → 0 < n
    positive zero some = absurd (some refl)
    positive (suc n) some = omega arith

-- ---- the steps

-- nothing went out
pub stops_at_once : (before : Trace) → StopsAt before Memory before
stops_at_once before = ([], sym (after-nil before))

-- the flush was refused
pub flush_stops : (T : Type 0) (e : SourceError) (bytes : List ℕ) (before between now : Trace) → FlushesOut {T = T} between (Err e) now → between ≡ after before bytes → StopsAt before e now
flush_stops T (Device e) bytes before between now h went = (bytes, h ∙ ap failed went)
flush_stops T (Source e) bytes before between now h went = absurd h
flush_stops T NotUtf8 bytes before between now h went = absurd h
flush_stops T Memory bytes before between now h went = absurd h

drawn_stops : (T : Type 0) (e : Error) (bytes : List ℕ) (before now : Trace) → Draws {T = T} before bytes (Err e) now → StopsAt before (refusal_of e) now
drawn_stops T (writing.IO e) bytes before now d = (d.front, d.went)
drawn_stops T (writing.InsufficientWidth e) bytes before now d = absurd d
drawn_stops T writing.Memory bytes before now d = (d.front, d.went)

io_no_memory : (T : Type 0) (e : IoError) → IsErrOf {T = T} (Err (writing.IO e)) writing.Memory → ⊥
io_no_memory T e is = cc

none_stops : (T : Type 0) (e : Error) (before now : Trace) → IsErrOf {T = T} (Err e) writing.Memory → now ≡ before → StopsAt before (refusal_of e) now
none_stops T (writing.IO e) before now is same = absurd (io_no_memory T e is)
none_stops T (writing.InsufficientWidth e) before now is same = ([], same ∙ sym (after-nil before))
none_stops T writing.Memory before now is same = ([], same ∙ sym (after-nil before))

-- a piece was refused
pub piece_stops : (T : Type 0) (e : Error) (old new : LiveText) (taken : List ℕ) (before now : Trace) → FeedsLive {T = T} old taken new before (Err e) now ⊎ IsErrOf {T = T} (Err e) writing.Memory → (IsErrOf {T = T} (Err e) writing.Memory → now ≡ before) → StopsAt before (refusal_of e) now
piece_stops T e old new taken before now (inl f) early = drawn_stops T e f.bytes before now f.wrote
piece_stops T e old new taken before now (inr is) early = none_stops T e before now is (early is)

-- and so was the end
pub end_stops : (T : Type 0) (e : Error) (live : LiveText) (before now : Trace) → EndsLive {T = T} live before (Err e) now ⊎ IsErrOf {T = T} (Err e) writing.Memory → (IsErrOf {T = T} (Err e) writing.Memory → now ≡ before) → StopsAt before (refusal_of e) now
end_stops T e live before now (inl f) early = drawn_stops T e f.bytes before now f.wrote
end_stops T e live before now (inr is) early = none_stops T e before now is (early is)

-- the end was shown, and flushed
pub end_shown_now : (x : Unit {0}) (live : LiveText) (before between now : Trace) → EndsLive {T = Unit {0}} live before (Ok x) between ⊎ IsErrOf {T = Unit {0}} (Ok x) writing.Memory → now ≡ flushed between → EndsShown live [] before now
end_shown_now x live before between now (inr is) flush = absurd (clash is)
  where
    clash : Ok x ≡ Err writing.Memory → ⊥
    clash is = cc
end_shown_now x live before between now (inl f) flush = record {
  bytes = f.bytes;
  utf8 = IsUtf8-nil;
  went = flush ∙ ap flushed f.wrote;
  shows = λ columns height above read done p live_now enough fits all.
      let ended = f.shows columns height above read done p live_now enough fits in
      (ended.0, done ++ f.wanted, ended.1, subst (λ (l : List ℕ). IsLaidOut live.stream.skin live.stream.width l (done ++ f.wanted)) (sym (append-nil read)) ended.2, ended.3);
}

-- after a piece more
pub end_after_piece : (old new : LiveText) (piece : List ℕ) (before between now : Trace) → ShowsPiece old piece new before between → EndsShown new [] between now → EndsShown old piece before now
end_after_piece old new piece before between now f e = record {
  bytes = f.fed.bytes ++ e.bytes;
  utf8 = f.utf8;
  went = e.went ∙ ap flushed (ap (λ t. after t e.bytes) f.fed.wrote ∙ after-append before f.fed.bytes e.bytes);
  shows = λ columns height above read done p live_now enough fits all.
      let n : ShowsNow {T = Unit {0}} columns height above (read ++ piece) done f.fed.wanted new (Ok (tt {0})) p f.fed.bytes = f.fed.shows columns height above read done p live_now enough all in
      let again : FitsRows columns new.stream.skin new.stream.width (read ++ piece) = fits_same columns old.stream.skin new.stream.skin old.stream.width new.stream.width (read ++ piece) f.skin f.width all in
      let more : FitsRows columns new.stream.skin new.stream.width ((read ++ piece) ++ []) = subst (λ (l : List ℕ). FitsRows columns new.stream.skin new.stream.width l) (sym (append-nil (read ++ piece))) again in
      let ended = e.shows columns height above (read ++ piece) (done ++ n.more) n.paper n.shows.1.live (omega (arith, f.height, enough)) again more in (
        ended.0,
        ended.1,
        then_reads p n.paper ended.0 f.fed.bytes e.bytes n.reads ended.2,
        laid_same new.stream.skin old.stream.skin new.stream.width old.stream.width ((read ++ piece) ++ []) (read ++ piece) ended.1 f.skin f.width (sym (append-nil (read ++ piece))) ended.3,
        ended.4,
      );
}

-- whatever the end of it answers
pub ends_after_piece : (r ended : Result (Unit {0}) SourceError) (old new : LiveText) (piece : List ℕ) (before between now : Trace) → ShowsPiece old piece new before between → EndsWith new [] ended between r now → EndsWith old piece ended before r now
ends_after_piece (Ok x) ended old new piece before between now f (same, e) = (same, end_after_piece old new piece before between now f e)
ends_after_piece (Err d) ended old new piece before between now f (inl (same, e)) = inl (same, end_after_piece old new piece before between now f e)
ends_after_piece (Err d) ended old new piece before between now f (inr at) = inr (later d at)
  where
    later : (d : SourceError) → StopsAt between d now → StopsAt before d now
    later (Device g) at = (f.fed.bytes ++ at.0, at.1 ∙ ap failed (ap (λ t. after t at.0) f.fed.wrote ∙ after-append before f.fed.bytes at.0))
    later Memory at = (f.fed.bytes ++ at.0, at.1 ∙ ap (λ t. after t at.0) f.fed.wrote ∙ after-append before f.fed.bytes at.0)
    later (Source g) at = absurd at
    later NotUtf8 at = absurd at

-- the end of a text answers what it is to, once all is shown
pub ends_as : (r : Result (Unit {0}) SourceError) (live : LiveText) (last : List ℕ) (before now : Trace) → EndsShown live last before now → EndsWith live last r before r now
ends_as (Ok x) live last before now e = (refl, e)
ends_as (Err d) live last before now e = inl (refl, e)

-- a piece was fed
pub piece_fed : (x : Unit {0}) (old new : LiveText) (piece : List ℕ) (n : ℕ) (r : Result (Unit {0}) Error) (before now : Trace) → IsUtf8 piece → r ≡ Ok x → OnOk r (n ≡ length piece)
    → FeedsLive {T = Unit {0}} old (take n piece) new before r now ⊎ IsErrOf r writing.Memory → new.stream.skin ≡ old.stream.skin → new.stream.width ≡ old.stream.width → new.rows.height ≡ old.rows.height
    → ShowsPiece old piece new before now
piece_fed x old new piece n r before now utf8 is all fed skin width height =
    let whole : n ≡ length piece = subst (λ (q : Result (Unit {0}) Error). OnOk q (n ≡ length piece)) is all in
    record {
      utf8 = utf8;
      fed = subst (λ (l : List ℕ). FeedsLive {T = Unit {0}} old l new before (Ok (tt {0})) now) (take_all n piece (omega (arith, whole))) (fed_ok old new (take n piece) before now r x is fed);
      skin = skin;
      width = width;
      height = height;
    }

-- a piece that was fed was refused
pub piece_refused : (e : Error) (f : SourceError) (old new : LiveText) (piece : List ℕ) (n : ℕ) (r : Result (Unit {0}) Error) (before now : Trace) → r ≡ Err e → f ≡ refusal_of e
    → FeedsLive {T = Unit {0}} old (take n piece) new before r now ⊎ IsErrOf r writing.Memory → (IsErrOf r writing.Memory → now ≡ before) → StopsAt before f now
piece_refused e f old new piece n r before now is told fed early =
    subst (λ (d : SourceError). StopsAt before d now) (sym told)
    (piece_stops (Unit {0}) e old new (take n piece) before now (subst (λ (q : Result (Unit {0}) Error). FeedsLive {T = Unit {0}} old (take n piece) new before q now ⊎ IsErrOf q writing.Memory) is fed)
    (subst (λ (q : Result (Unit {0}) Error). IsErrOf q writing.Memory → now ≡ before) is early))

-- a block was shown
pub block_shown : (old new : LiveText) (spot next : Spot) (block text piece : List ℕ) (is_wrong : Bool) (before between now : Trace) → IsTextFront block text → (is_wrong ≡ false → length block ≤ length text + 3) → (is_wrong ≡ true → BeginNoText block)
    → next ≡ spot_after spot (chars text) → piece ≡ encode_utf8_all (steady_piece spot (chars text)) → ShowsPiece old piece new before between → now ≡ flushed between → ShowsBlock old spot block (record { used = length text; is_wrong = is_wrong; spot = next }) new before now
block_shown old new spot next block text piece is_wrong before between now front short wrong spot_is made f went =
    let taken : take (length text) block ≡ text = ap (take (length text)) front.joins ∙ take-append_seam text front.rest in
    record {
      within = omega (arith, ap length front.joins, length-append text front.rest);
      front = subst (λ (t : List ℕ). IsTextFront block t) (sym taken) front;
      short = short;
      wrong = wrong;
      spot_is = spot_is ∙ ap (λ (t : List ℕ). spot_after spot (chars t)) (sym taken);
      between = between;
      piece = subst (λ (l : List ℕ). ShowsPiece old l new before between) (made ∙ ap (λ (t : List ℕ). encode_utf8_all (steady_piece spot (chars t))) (sym taken)) f;
      went = went;
    }

-- what was fed is at its end
pub finish_refused : (e : Error) (f : SourceError) (live : LiveText) (r : Result (Unit {0}) Error) (before now : Trace) → r ≡ Err e → f ≡ refusal_of e → EndsLive live before r now ⊎ IsErrOf r writing.Memory → (IsErrOf r writing.Memory → now ≡ before) → StopsAt before f now
finish_refused e f live r before now is told ends early =
    subst (λ (d : SourceError). StopsAt before d now) (sym told)
    (end_stops (Unit {0}) e live before now (subst (λ (q : Result (Unit {0}) Error). EndsLive live before q now ⊎ IsErrOf q writing.Memory) is ends) (subst (λ (q : Result (Unit {0}) Error). IsErrOf q writing.Memory → now ≡ before) is early))

-- the end of what was fed was shown, and flushed
pub finish_shown : (x : Unit {0}) (live : LiveText) (r : Result (Unit {0}) Error) (before between now : Trace) → r ≡ Ok x → EndsLive live before r between ⊎ IsErrOf r writing.Memory → now ≡ flushed between → EndsShown live [] before now
finish_shown x live r before between now is ends flush = end_shown_now x live before between now (subst (λ (q : Result (Unit {0}) Error). EndsLive live before q between ⊎ IsErrOf q writing.Memory) is ends) flush

finish_went : (x : Unit {0}) (live : LiveText) (before between : Trace) → EndsLive {T = Unit {0}} live before (Ok x) between ⊎ IsErrOf {T = Unit {0}} (Ok x) writing.Memory → (bytes : List ℕ) × (between ≡ after before bytes)
finish_went x live before between (inl f) = (f.bytes, f.wrote)
finish_went x live before between (inr is) = absurd (clash is)
  where
    clash : Ok x ≡ Err writing.Memory → ⊥
    clash is = cc

-- the flush at a text's end was refused
pub end_flush_exit : (r ended : Result (Unit {0}) SourceError) (e : SourceError) (x : Unit {0}) (live : LiveText) (s : Result (Unit {0}) Error) (before between now : Trace) → s ≡ Ok x → EndsLive live before s between ⊎ IsErrOf s writing.Memory
    → FlushesOut {T = Unit {0}} between (Err e) now → IsErrAnd r (λ d. d ≡ e) → EndsWith live [] ended before r now
end_flush_exit r ended e x live s before between now is ends flush refused =
    let p = err_from_is_err_and r refused in
    let went = finish_went x live before between (subst (λ (q : Result (Unit {0}) Error). EndsLive live before q between ⊎ IsErrOf q writing.Memory) is ends) in
    subst (λ (q : Result (Unit {0}) SourceError). EndsWith live [] ended before q now) (sym (p.1 ∙ ap Err p.2)) (inr (flush_stops (Unit {0}) e went.0 before between now flush went.1))

-- a carriage return at a text's end
pub end_stop_exit : (r ended : Result (Unit {0}) SourceError) (e : SourceError) (live : LiveText) (last : List ℕ) (before now : Trace) → StopsAt before e now → IsErrAnd r (λ d. d ≡ e) → EndsWith live last ended before r now
end_stop_exit r ended e live last before now at refused =
    let p = err_from_is_err_and r refused in
    subst (λ (q : Result (Unit {0}) SourceError). EndsWith live last ended before q now) (sym (p.1 ∙ ap Err p.2)) (inr at)

-- what has no byte is nothing
pub no_bytes : (l : List ℕ) → length l ≡ 0 → l ≡ []
no_bytes [] none = refl
no_bytes (x ∷ l) none = absurd (omega arith)
