-- What is written of a text.
use Rattle.std.specs.Prelude.{◌≡◌, ◌⊎◌, ◌-◌, ℕ, min, Bool, true, false, List, Some, Result, Ok, Err, MatchOption, MatchResult, IsErrOf, chars, encode_utf8_all}
use Rattle.std.specs.Bool.{MatchBool}
use Rattle.std.specs.Borrow.{Bor}
use Rattle.std.specs.Str.Lossy.{utf8_lossy}
use Rattle.mad_layout.specs.RowSkins.{row_skin}
use Rattle.mad_layout.specs.WrittenParts.{WritesParts}
use Rattle.mad_measure.specs.KeptCells.{shown_bytes}
use Rattle.mad_page_skin.specs.declared.page_skin.PageSkin.{PageSkin}
use Rattle.mad_plain_rows.specs.PlainRows.{WritesPlain}
use Rattle.mad_steady.specs.Steady.{steady_text}
use Rattle.mad_stream.specs.declared.source_error.SourceError.{SourceError}
use Rattle.mad_term.specs.Draws.{Refused}
use Rattle.mad_term.specs.Trace.{Trace, after, failed, flushed}
use Rattle.mad_term.specs.declared.errors.Error.{Error}
use Rattle.mad_term.specs.declared.errors.Error.TheVariants.{Memory as NoMemory}
use Rattle.markdown_code.specs.CodeTexts.{code_sections}
use Rattle.markdown_layout.specs.WrittenPages.{WritesDressed}
use Rattle.markdown_lines.specs.Texts.{behind_mark}
use Rattle.markdown_reader.specs.LinkMarks.{markdown_link_marks}
use Rattle.markdown_linked_pages.specs.LinkedPages.{WritesLinked}
use Rattle.markdown_reader.specs.Markdown.{markdown_links, markdown_sections}
use Rattle.markdown_live.specs.Sources.{ShowsSource}
use Rattle.markdown_stream.specs.Sources.{StreamsMarkdown}
use Rattle.termimad_options.specs.Calls.{Reading, as_code, as_markdown, as_plain, by_lines}
use Rattle.termimad_options.specs.declared.plans.Screen.{Screen}
use Rattle.termimad_command.specs.Refusals.{refusal_of, stream_refusal}
use Rattle.termimad_command.specs.declared.refusals.Refusal.{Refusal}
use Rattle.termimad_command.specs.declared.refusals.Refusal.TheVariants.{Memory}
use Rattle.termimad_command.specs.declared.writing.Look.{Look}

-- ---- a text in a look

-- the skin in which words stay whole, or may be parted
abbrev pub with_words : PageSkin → Bool → PageSkin
with_words skin are_whole = record skin { text = record skin.text { whole_words = are_whole } }

-- what is printable of a text, such that terminals count its columns as this project does
abbrev pub steady_text_of : List ℕ → List ℕ
steady_text_of text = encode_utf8_all (steady_text (chars (shown_bytes text)))

-- what is written of a text whose lines stand for themselves: the parts of what is printable of it; or there was no memory for that, and nothing went out
abbrev pub WritesLines : {T : Type 0} → PageSkin → ℕ → List ℕ → Trace → Result T Error → Trace → Type 0
WritesLines skin width text old r new = WritesParts (row_skin skin.text) (Some width) (steady_text_of text) old r new ⊎ (IsErrOf r NoMemory × (new ≡ old))

-- what is written of the page that a text is as Markdown: its rows, with its links, if they are written
abbrev pub WritesPage : {T : Type 0} → Look → List ℕ → Trace → Result T Error → Trace → Type 0
WritesPage look text old r new = MatchBool look.says_links
    (WritesLinked (with_words look.skin true) (Some look.columns) (markdown_sections text) (markdown_links text) (markdown_link_marks text) old r new)
    (WritesDressed (with_words look.skin true) (Some look.columns) (markdown_sections text) old r new)

-- What is written of a text that is read so. Markdown is a page in which words stay whole, in the skin, with what stands beside headings, and code is
-- that of a fence around it. A text that isn't Markdown is its lines, wrapped.
abbrev pub WritesText : {T : Type 0} → Look → Reading → List ℕ → Trace → Result T Error → Trace → Type 0
WritesText look as_markdown text old r new = WritesPage look text old r new
WritesText look by_lines text old r new = WritesLines (with_words look.skin false) look.columns text old r new
WritesText look as_plain text old r new = WritesPlain look.columns look.is_styled text old r new
WritesText look (as_code word) text old r new = WritesDressed (with_words look.skin true) (Some look.columns) (code_sections word text) old r new

-- the text that bytes are: U+FFFD stands for what is none, and a byte order mark at the front is dropped
abbrev pub text_of : List ℕ → List ℕ
text_of bytes = behind_mark (utf8_lossy bytes)

-- why a text that is read so isn't written, or not all of it
abbrev pub RefusesWriting : Look → Reading → List ℕ → Trace → Refusal → Trace → Type 0
RefusesWriting look reading text old refusal new = (e : Error) × (refusal ≡ refusal_of e) × WritesText {T = Unit {0}} look reading text old (Err e) new

-- a text that is read so is written, or that is refused
abbrev pub WritesOrRefuses : Look → Reading → List ℕ → Trace → Result (Unit {0}) Refusal → Trace → Type 0
WritesOrRefuses look reading text old r new = MatchResult r
    (λ _. WritesText {T = Unit {0}} look reading text old (Ok (tt {0})) new)
    (λ refusal. RefusesWriting look reading text old refusal new)

-- why bytes aren't written: there is no memory for their text, or its writing is refused
abbrev pub RefusesBytes : Look → Reading → List ℕ → Trace → Refusal → Trace → Type 0
RefusesBytes look reading bytes old refusal new = ((refusal ≡ Memory) × (new ≡ old)) ⊎ RefusesWriting look reading (text_of bytes) old refusal new

-- bytes are written as the text that they are
abbrev pub WritesBytes : Look → Reading → List ℕ → Trace → Result (Unit {0}) Refusal → Trace → Type 0
WritesBytes look reading bytes old r new = MatchResult r
    (λ _. WritesText {T = Unit {0}} look reading (text_of bytes) old (Ok (tt {0})) new)
    (λ refusal. RefusesBytes look reading bytes old refusal new)

-- ---- a text that comes

-- the input and the output of a call
pub record Streams : Type 0 where
  pub input : Trace
  pub out : Trace

abbrev pub streams : Trace → Trace → Streams
streams input out = record { input = input; out = out }

-- so many columns, but one less than a screen's at most: what fills a terminal's last column isn't redrawn the same everywhere
abbrev pub columns_on : ℕ → Screen → ℕ
columns_on columns screen = min columns (screen.columns - 1)

-- the input is written as it comes: Markdown in which words stay whole, each leaf once it is complete; on a screen what is growing is shown too, redrawn in place
abbrev pub StreamsText : Look → Streams → Result (Unit {0}) SourceError → Streams → Type 0
StreamsText look old r new = MatchOption look.screen
    (StreamsMarkdown (with_words look.skin true) (Some look.columns) old.input old.out r new.input new.out)
    (λ screen. ShowsSource (with_words look.skin true) (Some (columns_on look.columns screen)) screen.rows old.input old.out r new.input new.out)

-- it is so, to its end
abbrev pub IsStreamed : Look → Streams → Streams → Type 0
IsStreamed look old new = StreamsText look old (Ok (tt {0})) new

-- the input, which has that name, isn't written whole, for this reason
abbrev pub FailsInStream : Look → List ℕ → Refusal → Streams → Streams → Type 0
FailsInStream look name refusal old new =
    (e : SourceError) × (given : Bor (List ℕ)) × (given.now ≡ name) × (refusal ≡ stream_refusal given e) × StreamsText look old (Err e) new

-- ---- a text as it is

-- what the flush of the output does
abbrev pub FlushesOut : Trace → Result (Unit {0}) Refusal → Trace → Type 0
FlushesOut old r new = MatchResult r (λ _. new ≡ flushed old) (λ refusal. ((e : Error) × (refusal ≡ refusal_of e)) × (new ≡ failed old))

-- a text goes out, and then the output is flushed; or the text was refused
abbrev pub WritesOut : List ℕ → Trace → Result (Unit {0}) Refusal → Trace → Type 0
WritesOut text old r new = FlushesOut (after old text) r new ⊎ ((e : Error) × (r ≡ Err (refusal_of e)) × Refused old text e new)
