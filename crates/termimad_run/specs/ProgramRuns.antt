-- The headline of the program: what a run does to its devices, and how it ends.
use Rattle.std.specs.Prelude.{◌≡◌, ◌⊎◌, ℕ, List, [], ◌∷◌, ◌++◌, Some, Result, Ok, Err, IsUtf8, ⊤}
use Rattle.mad_md.specs.Inline.{IsInlineReading}
use Rattle.mad_term.specs.Draws.{DrawsSome}
use Rattle.mad_term.specs.Trace.{Trace, failed, flushed}
use Rattle.mad_term.specs.Stream.{untold}
use Rattle.mad_term.specs.declared.Error.{Error}
use Rattle.mad_layout.specs.Headline.{ShowsHeadline}
use Rattle.mad_layout.specs.InArea.{WritesInArea, ShowsText}
use Rattle.mad_layout.specs.Inlines.{inline_bytes}
use Rattle.markdown_reader.specs.Markdown.{markdown_sections}
use Rattle.markdown_stream.specs.Sources.{StreamsMarkdown}
use Rattle.markdown_live.specs.Sources.{ShowsSource as ShowsMarkdownSource}
use Rattle.mad_layout.specs.RowSkins.{row_skin}
use Rattle.mad_stream.specs.LiveSources.{ShowsSource}
use Rattle.mad_stream.specs.Sources.{StreamsSource}
use Rattle.markdown_code.specs.CodeTexts.{code_sections}
use Rattle.markdown_layout.specs.WrittenPages.{WritesDressed}
use Rattle.mad_layout.specs.WrittenParts.{WritesParts}
use Rattle.mad_layout.specs.declared.MadSkin.{MadSkin}
use Rattle.mad_page_skin.specs.declared.page_skin.PageSkin.{PageSkin}
use Rattle.mad_stream.specs.declared.SourceError.{SourceError}
use Rattle.termimad_run.specs.declared.call.Command.{Command}
use Rattle.termimad_run.specs.declared.call.Command.TheVariants.{InArea, AtWidth, AsMarkdown, AsCode, AsItComes, MarkdownAsItComes, Live, LiveMarkdown, Inline}
use Rattle.termimad_words.specs.declared.failure.Failure.{Failure}
use Rattle.termimad_words.specs.declared.failure.Failure.TheVariants.{Io, Usage, NotUtf8, Skin, Memory}
use Rattle.termimad_run.specs.Calls.{IsCall, IsWhole, IsNoCall, AsksRefusedSkin, AsksJson, RefusesWords}
use Rattle.termimad_run.specs.StreamFailures.{streamed_failure}
use Rattle.termimad_run.specs.UnknownKeys.{SaysKeys}
use Rattle.termimad_words.specs.Failures.{failure_of, status_of, failure_line, SaysOnce}
use Rattle.termimad_run.specs.Reading.{ReadsWhole, ReadingFails}
use Rattle.termimad_run.specs.LineEnds.{IsWithoutLineEnd}

-- the input, the output and the standard error of a run
pub record Devices : Type 0 where
  pub input : Trace
  pub out : Trace
  pub err : Trace

-- The words are a call, and standard error was told which keys of its skin name no part of one.
pub record Starts (words : List (List ℕ)) (old : Trace) (command : Command) (skin : PageSkin) (unknown : List (List ℕ)) (new : Trace) : Type 0 where
  pub asked : IsCall words command skin unknown
  pub said : SaysKeys old unknown new

-- the words are no call, or there is no memory for their skin or for the lines of its unknown keys; nothing was said
abbrev pub FailsToStart : List (List ℕ) → Trace → Failure → Trace → Type 0
FailsToStart words old failure new = RefusesWords words failure × (new ≡ old)

-- What a run was asked for, once its skin is read and the unknown keys are said. All that comes later, the first byte of the input
-- too, comes after it.
pub record Started (words : List (List ℕ)) (old new : Trace) : Type 0 where
  pub command : Command
  pub skin : PageSkin
  pub unknown : List (List ℕ)
  pub asked : Starts words old command skin unknown new

-- What `inline` writes of a line: the bytes of its reading, of which there is exactly one, and a newline. Or memory for it was
-- refused, and nothing went out.
abbrev pub WritesLine : {T : Type 0} → MadSkin → List ℕ → Trace → Result T Error → Trace → Type 0
WritesLine skin line old r new = DrawsSome (IsInlineReading line) (λ items. inline_bytes (row_skin skin) line items ++ (10 ∷ [])) old r new

-- What the output is asked to take of a text. It is the text in its area, or its lines, laid out at a width part by part. Of `markdown`
-- it is the page that the text is read as, with what stands beside headings, and of `code` that of a fence around it; of `inline` the line without its end, and a newline.
abbrev pub WritesCall : {T : Type 0} → PageSkin → Command → List ℕ → Trace → Result T Error → Trace → Type 0
WritesCall skin (InArea area) text old r new = WritesInArea (row_skin skin.text) text area old r new
WritesCall skin (AtWidth width) text old r new = WritesParts (row_skin skin.text) (Some width) text old r new
WritesCall skin (AsMarkdown width) text old r new = WritesDressed skin (Some width) (markdown_sections text) old r new
WritesCall skin (AsCode language width) text old r new = WritesDressed skin (Some width) (code_sections language.now text) old r new
WritesCall skin (AsItComes width) text old r new = WritesParts (row_skin skin.text) (Some width) text old r new
WritesCall skin (MarkdownAsItComes width) text old r new = WritesDressed skin (Some width) (markdown_sections text) old r new
WritesCall skin (Live width height) text old r new = WritesParts (row_skin skin.text) (Some width) text old r new
WritesCall skin (LiveMarkdown width height) text old r new = WritesDressed skin (Some width) (markdown_sections text) old r new
WritesCall skin Inline text old r new = (line : List ℕ) × IsWithoutLineEnd text line × WritesLine skin.text line old r new

-- What a plain terminal shows that reads what was written. It is the first rows of the text in its area, by its characters and by a
-- layout. Of the others nothing is said.
abbrev pub ShowsCall : PageSkin → Command → List ℕ → Trace → Trace → Type 0
ShowsCall skin (InArea area) text old new =
    ShowsHeadline (row_skin skin.text) text area old new × ShowsText (row_skin skin.text) text area old new
ShowsCall skin (AtWidth width) text old new = ⊤
ShowsCall skin (AsMarkdown width) text old new = ⊤
ShowsCall skin (AsCode language width) text old new = ⊤
ShowsCall skin (AsItComes width) text old new = ⊤
ShowsCall skin (MarkdownAsItComes width) text old new = ⊤
ShowsCall skin (Live width height) text old new = ⊤
ShowsCall skin (LiveMarkdown width height) text old new = ⊤
ShowsCall skin Inline text old new = ⊤

-- The input was read whole and is a text.
pub record HasRead (old : Trace) (text : List ℕ) (new : Trace) : Type 0 where
  pub whole : ReadsWhole old text new
  pub decoded : IsUtf8 text

-- The whole input is a text, and the output was asked to take what the call writes of it; this is how that ended, and the output then.
pub record HasWritten (words : List (List ℕ)) (old new : Devices) (r : Result (Unit {0}) Error) (written : Trace) : Type 0 where
  pub call : Started words old.err new.err
  pub is_whole : IsWhole call.command
  pub text : List ℕ
  pub read : HasRead old.input text new.input
  pub writes : WritesCall call.skin call.command text old.out r written

-- status 0: the output took everything and was then flushed, once
pub record IsDone (words : List (List ℕ)) (old new : Devices) : Type 0 where
  pub written : Trace
  pub wrote : HasWritten words old new (Ok (tt {0})) written
  pub flushed : new.out ≡ flushed written
  pub shown : ShowsCall wrote.call.skin wrote.call.command wrote.text old.out new.out

-- the input failed, or there was no memory for it; nothing was written
pub record FailsToRead (words : List (List ℕ)) (old : Devices) (failure : Failure) (new : Devices) : Type 0 where
  pub call : Started words old.err new.err
  pub is_whole : IsWhole call.command
  pub stopped : ReadingFails old.input failure new.input
  pub unwritten : new.out ≡ old.out

-- writing was refused
pub record FailsToWrite (words : List (List ℕ)) (old : Devices) (failure : Failure) (new : Devices) : Type 0 where
  pub error : Error
  pub so : failure_of error ≡ failure
  pub wrote : HasWritten words old new (Err error) new.out

-- the output took everything, and then its flush failed
pub record FailsToFlush (words : List (List ℕ)) (old new : Devices) : Type 0 where
  pub written : Trace
  pub wrote : HasWritten words old new (Ok (tt {0})) written
  pub unflushed : new.out ≡ failed written

-- the whole input was read and is no text; nothing was written
pub record IsNoText (words : List (List ℕ)) (old new : Devices) : Type 0 where
  pub call : Started words old.err new.err
  pub is_whole : IsWhole call.command
  pub bytes : List ℕ
  pub read : ReadsWhole old.input bytes new.input
  pub undecoded : ¬ (IsUtf8 bytes)
  pub unwritten : new.out ≡ old.out

-- What a run has done that wants its text whole, or that wasn't begun, by how it ended, without the line of its failure. The arguments
-- come first, then the skin and what is said of its keys, then the input, and the output last.
abbrev pub RunsWhole : {T : Type 0} → List (List ℕ) → Devices → Result T Failure → Devices → Type 0
RunsWhole words old (Ok x) new = IsDone words old new
RunsWhole words old (Err Usage) new = IsNoCall words × (new ≡ old)
RunsWhole words old (Err Skin) new = AsksRefusedSkin words × (new ≡ old)
RunsWhole words old (Err NotUtf8) new = IsNoText words old new
RunsWhole words old (Err Io) new = FailsToRead words old Io new ⊎ (FailsToWrite words old Io new ⊎ FailsToFlush words old new)
RunsWhole words old (Err Memory) new = (AsksJson words × (new ≡ old)) ⊎ (FailsToRead words old Memory new ⊎ FailsToWrite words old Memory new)

-- What a command reads, and what goes out, that writes a text as it comes: `stream` writes the rows of its parts, `markdown-stream` those of the parts of
-- Markdown as people write it. `live` shows it on a terminal that scrolls, and `live-markdown` shows Markdown there. No other does.
abbrev pub ComesAs : {T : Type 0} → PageSkin → Command → Trace → Trace → Result T SourceError → Trace → Trace → Type 0
ComesAs skin (AsItComes width) input out r input_now out_now = StreamsSource (row_skin skin.text) (Some width) input out r input_now out_now
ComesAs skin (MarkdownAsItComes width) input out r input_now out_now = StreamsMarkdown skin (Some width) input out r input_now out_now
ComesAs skin (Live width height) input out r input_now out_now = ShowsSource (row_skin skin.text) (Some width) height input out r input_now out_now
ComesAs skin (LiveMarkdown width height) input out r input_now out_now = ShowsMarkdownSource skin (Some width) height input out r input_now out_now
ComesAs skin command input out r input_now out_now = ⊥

-- A run that writes its text as it comes: what it has read, and what went out.
pub record StreamsInput {T : Type 0} (words : List (List ℕ)) (old : Devices) (r : Result T SourceError) (new : Devices) : Type 0 where
  pub call : Started words old.err new.err
  pub comes : ComesAs call.skin call.command old.input old.out r new.input new.out

-- so it has done, by how it ended
abbrev pub RunsAsItComes : {T : Type 0} → List (List ℕ) → Devices → Result T Failure → Devices → Type 0
RunsAsItComes words old (Ok x) new = StreamsInput {T = Unit {0}} words old (Ok (tt {0})) new
RunsAsItComes words old (Err failure) new = (e : SourceError) × (streamed_failure e ≡ failure) × StreamsInput {T = Unit {0}} words old (Err e) new

-- What a run has done, by how it ended, without the line of its failure.
abbrev pub RunsTo : {T : Type 0} → List (List ℕ) → Devices → Result T Failure → Devices → Type 0
RunsTo words old r new = RunsWhole words old r new ⊎ RunsAsItComes words old r new

-- A run ended with this status. Without a failure it is 0 and nothing more is said; a failure has its own, and its line is said once.
abbrev pub Answers : {T : Type 0} → Result T Failure → ℕ → Trace → Trace → Type 0
Answers (Ok x) status told new = (status ≡ 0) × (new ≡ told)
Answers (Err failure) status told new = (status ≡ status_of failure) × SaysOnce told (failure_line failure) new

-- A run, whole: there is a way of ending that its devices show, and that its status and the last line on standard error tell.
pub record HasRun (words : List (List ℕ)) (old : Devices) (status : ℕ) (new : Devices) : Type 0 where
  pub outcome : Result (Unit {0}) Failure
  pub told : Trace
  pub did : RunsTo words old outcome (record { input = new.input; out = new.out; err = told })
  pub answered : Answers outcome status told new.err

-- A run on some words, on an input and an output that had done nothing yet, ended with this status. Standard error went from the
-- one trace to the other.
pub record HasRunOnStreams (old : Trace) (status : ℕ) (new : Trace) : Type 0 where
  pub words : List (List ℕ)
  pub input : Trace
  pub out : Trace
  pub ran : HasRun words (record { input = untold; out = untold; err = old }) status (record { input = input; out = out; err = new })
