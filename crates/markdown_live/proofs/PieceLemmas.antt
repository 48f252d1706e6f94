-- Pieces that are shown one after another.
use Rattle.std.proofs.Common.{◌≡◌, ◌⊎◌, ℕ, zero, suc, ◌+◌, ◌≤◌, List, [], ◌∷◌, ◌++◌, map, length, take, Bor, Option, Result, Ok, Err, OnOk, refl, sym, ap, ◌∙◌, subst, arith}
use Rattle.std.specs.Prelude.{IsErrOf}
use Rattle.std.proofs.lemmas.List.{take_all}
use Rattle.mad_live.specs.LiveRows.{AreBlank, Shows}
use Rattle.mad_live.specs.Papers.{Paper, Reads, blank_line}
use Rattle.mad_live.proofs.PaperLemmas.{then_reads}
use Rattle.mad_page_skin.specs.declared.page_skin.PageSkin.{PageSkin}
use Rattle.mad_sections.specs.Sections.{SectionContent}
use Rattle.mad_stream.specs.LiveTexts.{joined_pieces}
use Rattle.mad_stream.proofs.PiecesShown.{nothing_reads}
use Rattle.mad_stream.proofs.StreamLemmas.{joined_text}
use Rattle.mad_term.specs.Trace.{Trace, after}
use Rattle.mad_term.specs.declared.errors.Error.{Error}
use Rattle.mad_term.specs.declared.errors.Error.TheVariants.{Memory}
use Rattle.mad_term.proofs.Traces.{after-nil, took_both}
use Rattle.markdown_live.specs.LiveMarkdowns.{ArePageRows, EndsLive, FeedsLive, Fit, FitsSoFar, IsLive, ShowsNow, ShowsPieces, StartsLive}
use Rattle.markdown_live.specs.declared.live_markdown.LiveMarkdown.{LiveMarkdown}
use Rattle.markdown_live.proofs.LiveLemmas.{fit_same, fits_same, none_memory, streamed_rows}
use Rattle.markdown_stream.specs.Streams.{IsStreamed, streamed_page}

-- the same pieces, behind references or not
same_pieces : (n : ℕ) (xs : List (Bor (List ℕ))) → joined_pieces (take n (map (λ (x : Bor (List ℕ)). x.now) xs)) ≡ joined_text (take n xs)
same_pieces zero xs = refl
same_pieces (suc n) [] = refl
same_pieces (suc n) (x ∷ xs) = ap (λ (l : List ℕ). x.now ++ l) (same_pieces n xs)

same_whole : (xs : List (Bor (List ℕ))) → joined_pieces (map (λ (x : Bor (List ℕ)). x.now) xs) ≡ joined_text xs
same_whole [] = refl
same_whole (x ∷ xs) = ap (λ (l : List ℕ). x.now ++ l) (same_whole xs)

-- some pieces were shown
pub record LiveSoFar (skin : PageSkin) (width : Option ℕ) (height : ℕ) (pieces : List (Bor (List ℕ))) (count : ℕ) (live : LiveMarkdown) (before now : Trace) : Type 0 where
  pub bytes : List ℕ
  pub went : now ≡ after before bytes
  pub skin_is : live.skin ≡ skin
  pub width_is : live.width ≡ width
  pub height_is : live.rows.height ≡ height
  pub shows : (columns : ℕ) (p : Paper) → p.line ≡ blank_line columns → AreBlank columns p.below → height ≤ p.reach + length p.below + 1 → ((n : ℕ) → FitsSoFar columns skin width (joined_text (take n pieces)))
      → (q : Paper) × (done : List ℕ) × Reads p bytes q × IsLive columns (p.reach + length p.below + 1) p.above [] (joined_text (take count pieces)) done live q

-- no piece was shown yet
pub live_start : (skin : PageSkin) (width : Option ℕ) (height : ℕ) (pieces : List (Bor (List ℕ))) (live : LiveMarkdown) (out : Trace) → StartsLive live → live.skin ≡ skin → live.width ≡ width → live.rows.height ≡ height → LiveSoFar skin width height pieces 0 live out out
live_start skin width height pieces live out start skin_is width_is height_is = record {
  bytes = [];
  went = sym (after-nil out);
  skin_is = skin_is;
  width_is = width_is;
  height_is = height_is;
  shows = λ columns p here clear enough fits. (p, [], nothing_reads p, start columns (p.reach + length p.below + 1) p here clear refl);
}

-- one more piece was shown
pub live_more : (skin : PageSkin) (width : Option ℕ) (height : ℕ) (pieces : List (Bor (List ℕ))) (count : ℕ) (piece : List ℕ) (old new : LiveMarkdown) (before mid now : Trace) → LiveSoFar skin width height pieces count old before mid → FeedsLive {T = Unit {0}} old piece new mid (Ok (tt {0})) now
    → new.skin ≡ old.skin → new.width ≡ old.width → new.rows.height ≡ old.rows.height → joined_text (take (count + 1) pieces) ≡ joined_text (take count pieces) ++ piece → LiveSoFar skin width height pieces (count + 1) new before now
live_more skin width height pieces count piece old new before mid now s f skin_is width_is height_is more = record {
  bytes = s.bytes ++ f.bytes;
  went = took_both before mid now s.bytes f.bytes s.went f.wrote;
  skin_is = skin_is ∙ s.skin_is;
  width_is = width_is ∙ s.width_is;
  height_is = height_is ∙ s.height_is;
  shows = λ columns p here clear enough fits.
      let so_far = s.shows columns p here clear enough fits in
      let read : List ℕ = joined_text (take count pieces) in
      let now_shown : ShowsNow {T = Unit {0}} columns (p.reach + length p.below + 1) p.above [] (read ++ piece) so_far.1 f.wanted old new (Ok (tt {0})) so_far.0 f.bytes =
      f.shows columns (p.reach + length p.below + 1) p.above [] read so_far.1 so_far.0 so_far.3 (omega (arith, s.height_is, enough))
      (fits_same columns skin old.skin width old.width (read ++ piece) s.skin_is s.width_is (subst (λ (l : List ℕ). FitsSoFar columns skin width l) more (fits (count + 1)))) in (
        now_shown.paper,
        so_far.1 ++ now_shown.more,
        then_reads p so_far.0 now_shown.paper s.bytes f.bytes so_far.2 now_shown.reads,
        subst (λ (l : List ℕ). IsLive columns (p.reach + length p.below + 1) p.above [] l (so_far.1 ++ now_shown.more) new now_shown.paper) (sym more) now_shown.shows.2,
      );
}

-- after the last piece the end was shown
pub live_end : (skin : PageSkin) (width : Option ℕ) (height : ℕ) (pieces : List (Bor (List ℕ))) (count : ℕ) (live : LiveMarkdown) (before mid now : Trace) (r : Result (Unit {0}) Error) → length pieces ≤ count → LiveSoFar skin width height pieces count live before mid → EndsLive live mid r now ⊎ IsErrOf r Memory
    → OnOk r (ShowsPieces skin width height (map (λ (x : Bor (List ℕ)). x.now) pieces) before now)
live_end skin width height pieces count live before mid now (Err e) all s h = tt
live_end skin width height pieces count live before mid now (Ok x) all s h =
    let f : EndsLive live mid (Ok x) now = none_memory x h in
    let read : List ℕ = joined_text (take count pieces) in
    let whole : read ≡ joined_pieces (map (λ (y : Bor (List ℕ)). y.now) pieces) = ap joined_text (take_all count pieces all) ∙ sym (same_whole pieces) in
    record {
      bytes = s.bytes ++ f.bytes;
      went = took_both before mid now s.bytes f.bytes s.went f.wrote;
      shows = λ columns p here clear enough fits fit.
          let fits_each : (n : ℕ) → FitsSoFar columns skin width (joined_text (take n pieces)) = λ n. subst (λ (l : List ℕ). FitsSoFar columns skin width l) (same_pieces n pieces) (fits n) in
          let so_far = s.shows columns p here clear enough fits_each in
          let fit_read : Fit columns skin width (streamed_page read) = subst (λ (l : List ℕ). Fit columns skin width (streamed_page l)) (sym whole) fit in
          let ended = f.shows columns (p.reach + length p.below + 1) p.above [] read so_far.1 so_far.0 so_far.3 (omega (arith, s.height_is, enough)) (fit_same columns skin live.skin width live.width (streamed_page read) s.skin_is s.width_is fit_read) in (
            ended.0,
            so_far.1 ++ f.wanted,
            then_reads p so_far.0 ended.0 s.bytes f.bytes so_far.2 ended.2,
            subst (λ (l : List ℕ). IsStreamed skin width l (so_far.1 ++ f.wanted)) whole (streamed_rows live.skin skin live.width width read ended.1 (so_far.1 ++ f.wanted) s.skin_is s.width_is ended.3 ended.4),
            ended.5,
          );
    }
