-- How pieces join that are fed one after the other.
use Rattle.std.proofs.Common.{◌≡◌, ℕ, List, [], ◌++◌, Option, Result, Ok, Err, sym, ap, ◌∙◌, subst, append_assoc}
use Rattle.std.specs.Result.{IsErrAnd}
use Rattle.mad_page_skin.specs.declared.page_skin.PageSkin.{PageSkin}
use Rattle.mad_term.specs.Trace.{Trace, after, failed}
use Rattle.mad_term.specs.declared.errors.Error.{Error}
use Rattle.mad_term.specs.declared.errors.Error.TheVariants.{IO, InsufficientWidth, Memory}
use Rattle.mad_term.proofs.Traces.{after-append, after-nil}
use Rattle.markdown_stream.specs.Streams.{BeginsStreamed, Fed, Feeds, Finishes, IsInStep, IsStreamed}
use Rattle.markdown_stream.specs.declared.stream.MarkdownStream.{MarkdownStream}
use Rattle.markdown_stream.proofs.StreamLemmas.{begins_streamed}

-- these pieces were fed, and what went out
pub record PiecesFed (skin : PageSkin) (width : Option ℕ) (read : List ℕ) (s : MarkdownStream) (before now : Trace) : Type 0 where
  pub sent : List ℕ
  pub went : now ≡ after before sent
  pub step : IsInStep read s sent
  pub skin_is : s.skin ≡ skin
  pub width_is : s.width ≡ width

-- before the first piece nothing was fed
pub pieces_start : (skin : PageSkin) (width : Option ℕ) (s : MarkdownStream) (out : Trace) → IsInStep [] s [] → s.skin ≡ skin → s.width ≡ width → PiecesFed skin width [] s out out
pieces_start skin width s out h skin_is width_is = record { sent = []; went = sym (after-nil out); step = h; skin_is = skin_is; width_is = width_is }

-- one more piece was fed
pub pieces_more : (skin : PageSkin) (width : Option ℕ) (read next piece : List ℕ) (old new : MarkdownStream) (before between now : Trace) → PiecesFed skin width read old before between → Fed old piece new between (λ t. t) now → next ≡ read ++ piece → PiecesFed skin width next new before now
pieces_more skin width read next piece old new before between now f fed more = record {
  sent = f.sent ++ fed.bytes;
  went = fed.went ∙ ap (λ t. after t fed.bytes) f.went ∙ after-append before f.sent fed.bytes;
  step = subst (λ (t : List ℕ). IsInStep t new (f.sent ++ fed.bytes)) (sym more) (fed.keeps read f.sent f.step);
  skin_is = fed.skin ∙ f.skin_is;
  width_is = fed.width ∙ f.width_is;
}

begins_in : (skin : PageSkin) (width : Option ℕ) (s : MarkdownStream) (text bytes : List ℕ) → s.skin ≡ skin → s.width ≡ width → BeginsStreamed s.skin s.width text bytes → BeginsStreamed skin width text bytes
begins_in skin width s text bytes p q h = subst (λ (k : PageSkin). BeginsStreamed k width text bytes) p (subst (λ (w : Option ℕ). BeginsStreamed s.skin w text bytes) q h)

refused_by : (T U : Type 0) (skin : PageSkin) (width : Option ℕ) (read piece whole later : List ℕ) (old new : MarkdownStream) (before between : Trace) (e : Error) (now : Trace) → PiecesFed skin width read old before between → Feeds {T = U} old piece new between (Err e) now → whole ≡ (read ++ piece) ++ later → Finishes {T = T} skin width whole [] before (Err e) now
refused_by T U skin width read piece whole later old new before between (IO e) now f fed is = (
  f.sent ++ fed.bytes,
  begins_in skin width new whole (f.sent ++ fed.bytes) (fed.skin ∙ f.skin_is) (fed.width ∙ f.width_is) (begins_streamed (read ++ piece) later whole (f.sent ++ fed.bytes) new is (fed.keeps read f.sent f.step)),
  fed.went ∙ ap failed (ap (λ t. after t fed.bytes) f.went ∙ after-append before f.sent fed.bytes),
)
refused_by T U skin width read piece whole later old new before between (InsufficientWidth e) now f fed is = absurd fed
refused_by T U skin width read piece whole later old new before between Memory now f fed is = (
  f.sent,
  begins_in skin width old whole f.sent f.skin_is f.width_is (begins_streamed read (piece ++ later) whole f.sent old (is ∙ append_assoc read piece later) f.step),
  fed ∙ f.went,
)

-- where a piece is refused, so is the text that it is a part of
pub pieces_refused : {T : Type 0} (U : Type 0) (r : Result T Error) (e : Error) (skin : PageSkin) (width : Option ℕ) (read piece whole later : List ℕ) (old new : MarkdownStream) (before between now : Trace) → PiecesFed skin width read old before between → Feeds {T = U} old piece new between (Err e) now → whole ≡ (read ++ piece) ++ later → IsErrAnd r (λ d. d ≡ e) → Finishes skin width whole [] before r now
pieces_refused {T} U (Ok x) e skin width read piece whole later old new before between now f fed is refused = absurd refused
pieces_refused {T} U (Err d) e skin width read piece whole later old new before between now f fed is refused =
    subst (λ (g : Error). Finishes {T = T} skin width whole [] before (Err g) now) (sym refused) (refused_by T U skin width read piece whole later old new before between e now f fed is)

streamed_in : (skin : PageSkin) (width : Option ℕ) (s : MarkdownStream) (text bytes : List ℕ) → s.skin ≡ skin → s.width ≡ width → IsStreamed s.skin s.width text bytes → IsStreamed skin width text bytes
streamed_in skin width s text bytes p q h = subst (λ (k : PageSkin). IsStreamed k width text bytes) p (subst (λ (w : Option ℕ). IsStreamed s.skin w text bytes) q h)

went_on : (before between : Trace) (sent bytes : List ℕ) → between ≡ after before sent → after between bytes ≡ after before (sent ++ bytes)
went_on before between sent bytes is = ap (λ t. after t bytes) is ∙ after-append before sent bytes

-- where all pieces were fed, the stream's end is the text's
pub pieces_done : {T : Type 0} (r : Result T Error) (skin : PageSkin) (width : Option ℕ) (read : List ℕ) (s : MarkdownStream) (before between now : Trace) → (f : PiecesFed skin width read s before between) → Finishes s.skin s.width read f.sent between r now → Finishes skin width read [] before r now
pieces_done {T} (Ok x) skin width read s before between now f h = (f.sent ++ h.0, streamed_in skin width s read (f.sent ++ h.0) f.skin_is f.width_is h.1, h.2 ∙ went_on before between f.sent h.0 f.went)
pieces_done {T} (Err (IO e)) skin width read s before between now f h = (f.sent ++ h.0, begins_in skin width s read (f.sent ++ h.0) f.skin_is f.width_is h.1, h.2 ∙ ap failed (went_on before between f.sent h.0 f.went))
pieces_done {T} (Err (InsufficientWidth e)) skin width read s before between now f h = absurd h
pieces_done {T} (Err Memory) skin width read s before between now f h = (f.sent ++ h.0, begins_in skin width s read (f.sent ++ h.0) f.skin_is f.width_is h.1, h.2 ∙ went_on before between f.sent h.0 f.went)
