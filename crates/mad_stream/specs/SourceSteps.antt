-- The steps of a source that is written as it comes.
use Rattle.std.specs.Prelude.{◌≡◌, ℕ, ◌+◌, ◌≤◌, Bool, true, false, List, ◌++◌, length, take, Result, Ok, Err}
use Rattle.mad_term.specs.Trace.{Trace, after, failed, flushed}
use Rattle.mad_term.specs.declared.errors.Error.{Error}
use Rattle.mad_stream.specs.LiveTexts.{IsLaidOut}
use Rattle.mad_stream.specs.Sources.{BeginsRows}
use Rattle.mad_stream.specs.SourceErrors.{refusal_of}
use Rattle.mad_stream.specs.Streams.{IsInStep, IsPrompt, Steps}
use Rattle.mad_stream.specs.TextFronts.{IsTextFront, BeginNoText}
use Rattle.mad_stream.specs.declared.source_error.SourceError.{SourceError}
use Rattle.mad_stream.specs.declared.source_error.SourceError.TheVariants.{Source, Device, NotUtf8, Memory}
use Rattle.mad_stream.specs.declared.text_stream.TextStream.{TextStream}

-- it is flushed, or the device fails
abbrev pub FlushesOut : {T : Type 0} → Trace → Result T SourceError → Trace → Type 0
FlushesOut before (Ok x) now = now ≡ flushed before
FlushesOut before (Err (Device e)) now = now ≡ failed before
FlushesOut before (Err e) now = ⊥

-- The text of so many bytes at the front of a block was fed, and it was flushed. At most three bytes come after it, or bytes that are no text.
pub record FeedsBlock (old : TextStream) (block : List ℕ) (used : ℕ) (is_wrong : Bool) (new : TextStream) (before now : Trace) : Type 0 where
  pub within : used ≤ length block
  pub front : IsTextFront block (take used block)
  pub short : is_wrong ≡ false → length block ≤ used + 3
  pub wrong : is_wrong ≡ true → BeginNoText block
  pub between : Trace
  pub fed : Steps {T = Unit {0}} old (take used block) new before (Ok (tt {0})) between
  pub went : now ≡ flushed between
  pub prompt : IsPrompt new
  pub skin : new.skin ≡ old.skin
  pub width : new.width ≡ old.width

-- Of the text at the front of a block some was fed, and then its rows were refused, or the flush.
pub record StopsInBlock (old : TextStream) (block : List ℕ) (new : TextStream) (before : Trace) (e : SourceError) (now : Trace) : Type 0 where
  pub text : List ℕ
  pub front : IsTextFront block text
  pub taken : List ℕ
  pub later : List ℕ
  pub joins : text ≡ taken ++ later
  pub cause : Error
  pub told : e ≡ refusal_of cause
  pub fed : Steps {T = Unit {0}} old taken new before (Err cause) now
  pub skin : new.skin ≡ old.skin
  pub width : new.width ≡ old.width

-- All rows of a text went out, once what was left of it was written.
abbrev pub EndsWhole : TextStream → Trace → Trace → Type 0
EndsWhole s before written = (read sent : List ℕ) → IsInStep read s sent → (bytes : List ℕ) × IsLaidOut s.skin s.width read (sent ++ bytes) × (written ≡ after before bytes)

-- and then they were flushed
pub record EndsFlushed (s : TextStream) (before now : Trace) : Type 0 where
  pub written : Trace
  pub whole : EndsWhole s before written
  pub went : now ≡ flushed written

-- A front of them went out, and then there was this.
abbrev pub EndsCut : TextStream → Trace → (Trace → Trace) → Trace → Type 0
EndsCut s before fault now = (read sent : List ℕ) → IsInStep read s sent → (bytes : List ℕ) × BeginsRows s.skin s.width read (sent ++ bytes) × (now ≡ fault (after before bytes))

-- what the end of a text does, after which there are bytes that are no text, or not
abbrev pub EndsText : {T : Type 0} → TextStream → Bool → Trace → Result T SourceError → Trace → Type 0
EndsText s is_whole before (Ok x) now = (is_whole ≡ true) × EndsFlushed s before now
EndsText s is_whole before (Err (Source e)) now = ⊥
EndsText s is_whole before (Err (Device e)) now = EndsCut s before failed now
EndsText s is_whole before (Err NotUtf8) now = (is_whole ≡ false) × EndsFlushed s before now
EndsText s is_whole before (Err Memory) now = EndsCut s before (λ t. t) now
