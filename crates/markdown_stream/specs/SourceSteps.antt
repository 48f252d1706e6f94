-- The steps of a source that is written as it comes.
use Rattle.std.specs.Prelude.{◌≡◌, ℕ, ◌+◌, ◌≤◌, Bool, true, false, List, ◌++◌, length, take, Result, Ok, Err}
use Rattle.mad_stream.specs.TextFronts.{IsTextFront, BeginNoText}
use Rattle.mad_stream.specs.declared.source_error.SourceError.{SourceError}
use Rattle.mad_stream.specs.declared.source_error.SourceError.TheVariants.{Source, Device, NotUtf8, Memory}
use Rattle.mad_term.specs.Trace.{Trace, after, failed, flushed}
use Rattle.markdown_stream.specs.Streams.{IsInStep, IsPrompt, IsStreamed, BeginsStreamed, Fed}
use Rattle.markdown_stream.specs.declared.stream.MarkdownStream.{MarkdownStream}

-- The text of so many bytes at the front of a block was fed, and it was flushed. At most three bytes come after it, or bytes that are no text.
pub record FeedsBlock (old : MarkdownStream) (block : List ℕ) (used : ℕ) (is_wrong : Bool) (new : MarkdownStream) (before now : Trace) : Type 0 where
  pub within : used ≤ length block
  pub front : IsTextFront block (take used block)
  pub short : is_wrong ≡ false → length block ≤ used + 3
  pub wrong : is_wrong ≡ true → BeginNoText block
  pub between : Trace
  pub fed : Fed old (take used block) new before (λ t. t) between
  pub went : now ≡ flushed between
  pub prompt : IsPrompt new

-- The text at the front of a block is this. Some rows went out, a front of those of the whole, and then there was this.
pub record Stopped (old : MarkdownStream) (block : List ℕ) (before : Trace) (fault : Trace → Trace) (now : Trace) : Type 0 where
  pub text : List ℕ
  pub front : IsTextFront block text
  pub bytes : List ℕ
  pub went : now ≡ fault (after before bytes)
  pub begins : (read sent : List ℕ) → IsInStep read old sent → BeginsStreamed old.skin old.width (read ++ text) (sent ++ bytes)

-- it was refused by this
abbrev pub StopsInBlock : MarkdownStream → List ℕ → Trace → SourceError → Trace → Type 0
StopsInBlock old block before (Source e) now = ⊥
StopsInBlock old block before (Device e) now = Stopped old block before failed now
StopsInBlock old block before NotUtf8 now = ⊥
StopsInBlock old block before Memory now = Stopped old block before (λ t. t) now

-- All rows of a text went out, once what was left of it was written, and then they were flushed.
pub record EndsFlushed (s : MarkdownStream) (before now : Trace) : Type 0 where
  pub written : Trace
  pub whole : (read sent : List ℕ) → IsInStep read s sent → (bytes : List ℕ) × IsStreamed s.skin s.width read (sent ++ bytes) × (written ≡ after before bytes)
  pub went : now ≡ flushed written

-- A front of them went out, and then there was this.
abbrev pub EndsCut : MarkdownStream → Trace → (Trace → Trace) → Trace → Type 0
EndsCut s before fault now = (read sent : List ℕ) → IsInStep read s sent → (bytes : List ℕ) × BeginsStreamed s.skin s.width read (sent ++ bytes) × (now ≡ fault (after before bytes))

-- what the end of a text does, after which there are bytes that are no text, or not
abbrev pub EndsSource : {T : Type 0} → MarkdownStream → Bool → Trace → Result T SourceError → Trace → Type 0
EndsSource s is_whole before (Ok x) now = (is_whole ≡ true) × EndsFlushed s before now
EndsSource s is_whole before (Err (Source e)) now = ⊥
EndsSource s is_whole before (Err (Device e)) now = EndsCut s before failed now
EndsSource s is_whole before (Err NotUtf8) now = (is_whole ≡ false) × EndsFlushed s before now
EndsSource s is_whole before (Err Memory) now = EndsCut s before (λ t. t) now
