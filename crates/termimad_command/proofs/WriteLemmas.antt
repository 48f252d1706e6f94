-- What is written, from what its parts do.
use Rattle.std.proofs.Common.{◌≡◌, ℕ, true, List, Result, Ok, Err, Option, Some, None, MatchOption, ap, sym, subst, inl, inr}
use Rattle.mad_page_skin.specs.declared.page_skin.PageSkin.{PageSkin}
use Rattle.mad_stream.specs.declared.source_error.SourceError.{SourceError}
use Rattle.mad_term.specs.Draws.{Refused}
use Rattle.mad_term.specs.Trace.{Trace, after}
use Rattle.mad_term.specs.declared.errors.Error.{Error}
use Rattle.markdown_live.specs.Sources.{ShowsSource}
use Rattle.markdown_stream.specs.Sources.{StreamsMarkdown}
use Rattle.termimad_options.specs.Calls.{Reading}
use Rattle.termimad_options.specs.declared.plans.Screen.{Screen}
use Rattle.termimad_command.specs.Refusals.{refusal_of}
use Rattle.termimad_command.specs.Written.{FlushesOut, RefusesWriting, StreamsText, WritesBytes, WritesOrRefuses, WritesOut, WritesText, columns_on, streams, text_of, with_words}
use Rattle.termimad_command.specs.declared.refusals.Refusal.{Refusal}
use Rattle.termimad_command.specs.declared.writing.Look.{Look}

-- the text of bytes is written
pub bytes_through : (look : Look) (reading : Reading) (bytes text : List ℕ) (old new : Trace) (r : Result (Unit {0}) Refusal) → text ≡ text_of bytes
    → WritesOrRefuses look reading text old r new → WritesBytes look reading bytes old r new
bytes_through look reading bytes text old new (Ok x) e h = subst (λ (text : List ℕ). WritesText {T = Unit {0}} look reading text old (Ok (tt {0})) new) e h
bytes_through look reading bytes text old new (Err refusal) e h = inr (subst (λ (text : List ℕ). RefusesWriting look reading text old refusal new) e h)

-- a text that went out is flushed
pub out_flushed : (text : List ℕ) (old mid new : Trace) (r : Result (Unit {0}) Refusal) → mid ≡ after old text → FlushesOut mid r new → WritesOut text old r new
out_flushed text old mid new r e h = inl (subst (λ (mid : Trace). FlushesOut mid r new) e h)

-- it is refused
pub out_refused : (text : List ℕ) (old new : Trace) (e : Error) (refusal : Refusal) → refusal ≡ refusal_of e → Refused old text e new
    → WritesOut text old (Err refusal) new
out_refused text old new e refusal p h = inr (e, ap Err p, h)

-- what is written of the input by a screen, if there is one
abbrev comes_on : Look → Trace → Trace → Result (Unit {0}) SourceError → Trace → Trace → Option Screen → Type 0
comes_on look input out r input_now out_now screen = MatchOption screen
    (StreamsMarkdown (with_words look.skin true) (Some look.columns) input out r input_now out_now)
    (λ its. ShowsSource (with_words look.skin true) (Some (columns_on look.columns its)) its.rows input out r input_now out_now)

-- the input is written as it comes, in the skin and the columns of a look without a screen
pub text_streamed : (look : Look) (skin : PageSkin) (columns : ℕ) (r : Result (Unit {0}) SourceError) (input out input_now out_now : Trace) → look.screen ≡ None → skin ≡ with_words look.skin true
    → columns ≡ look.columns → StreamsMarkdown skin (Some columns) input out r input_now out_now → StreamsText look (streams input out) r (streams input_now out_now)
text_streamed look skin columns r input out input_now out_now e s n h =
    subst (comes_on look input out r input_now out_now) (sym e)
    (subst (λ (n : ℕ). StreamsMarkdown (with_words look.skin true) (Some n) input out r input_now out_now) n
    (subst (λ (skin : PageSkin). StreamsMarkdown skin (Some columns) input out r input_now out_now) s h))

-- it is shown on a screen
pub text_shown : (look : Look) (screen : Screen) (skin : PageSkin) (columns rows : ℕ) (r : Result (Unit {0}) SourceError) (input out input_now out_now : Trace) → look.screen ≡ Some screen
    → skin ≡ with_words look.skin true → columns ≡ columns_on look.columns screen → rows ≡ screen.rows → ShowsSource skin (Some columns) rows input out r input_now out_now
    → StreamsText look (streams input out) r (streams input_now out_now)
text_shown look screen skin columns rows r input out input_now out_now e s n m h =
    subst (comes_on look input out r input_now out_now) (sym e)
    (subst (λ (m : ℕ). ShowsSource (with_words look.skin true) (Some (columns_on look.columns screen)) m input out r input_now out_now) m
    (subst (λ (n : ℕ). ShowsSource (with_words look.skin true) (Some n) rows input out r input_now out_now) n
    (subst (λ (skin : PageSkin). ShowsSource skin (Some columns) rows input out r input_now out_now) s h)))
