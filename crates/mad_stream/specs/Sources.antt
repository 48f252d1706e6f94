-- Sources whose Markdown text is written as it comes.
use Rattle.std.specs.Prelude.{◌≡◌, ◌⊎◌, ℕ, zero, suc, ◌-◌, ◌^◌, ◌<◌, ◌≤◌, Bool, false, List, ◌++◌, length, Option, Result, Ok, Err, IsUtf8}
use Rattle.std.specs.List.{AllByRecursion}
use Rattle.mad_md.specs.LineKinds.{told_kind}
use Rattle.mad_md.specs.Lines.{LineContent}
use Rattle.mad_md.specs.Parts.{HasNoNewline}
use Rattle.mad_md.specs.Reading.{resumed_text, unread_text}
use Rattle.mad_md.specs.Scan.{lines_of}
use Rattle.mad_md.specs.declared.line_kinds.LineKind.TheVariants.{Code, Table}
use Rattle.mad_term.specs.Trace.{Trace, after, failed, flushed, ahead_all, IsAtItsEnd}
use Rattle.mad_blocks.specs.Layouts.{IsLayoutAt}
use Rattle.mad_blocks.specs.TextParts.{text_parts}
use Rattle.mad_format.specs.declared.line.FmtLine.{FmtLine}
use Rattle.mad_rows.specs.Rows.{text_bytes}
use Rattle.mad_rows.specs.RowStyles.{line_rules}
use Rattle.mad_rows.specs.declared.row_skin.RowSkin.{RowSkin}
use Rattle.mad_stream.specs.LiveTexts.{IsLaidOut}
use Rattle.mad_stream.specs.Streams.{EndsIn}
use Rattle.mad_stream.specs.TextFronts.{IsTextFront, BeginNoText}
use Rattle.mad_stream.specs.declared.source_error.SourceError.{SourceError}
use Rattle.mad_stream.specs.declared.source_error.SourceError.TheVariants.{Source, Device, NotUtf8, Memory}

-- ---- rows of a text that isn't whole

-- these bytes are a front of the rows of a text's first parts
pub record BeginsRows (skin : RowSkin) (width : Option ℕ) (text bytes : List ℕ) : Type 0 where
  pub front : List LineContent
  pub rest : List LineContent
  pub joins : lines_of (unread_text false text) ≡ front ++ rest
  pub parts : text_parts (lines_of (unread_text false text)) ≡ text_parts front ++ text_parts rest
  pub lines : List FmtLine
  pub layout : IsLayoutAt (line_rules skin) width front lines
  pub left : List ℕ
  pub rows : text_bytes skin width lines ≡ bytes ++ left

-- lines of one table, or of one block of code; or none
abbrev pub MayGoOn : List LineContent → Type 0
MayGoOn lines = AllByRecursion (λ l. told_kind l ≡ Table) lines ⊎ AllByRecursion (λ l. told_kind l ≡ Code) lines

-- These bytes are all rows of a text's complete parts. What is left of it is one part that may go on, and the line that has begun.
pub record AreCompleteRows (skin : RowSkin) (width : Option ℕ) (text bytes : List ℕ) : Type 0 where
  pub front : List LineContent
  pub held : List LineContent
  pub fenced : Bool
  pub begun : List ℕ
  pub joins : lines_of (unread_text false text) ≡ front ++ (held ++ lines_of (resumed_text fenced begun))
  pub parts : text_parts (lines_of (unread_text false text)) ≡ text_parts front ++ text_parts (held ++ lines_of (resumed_text fenced begun))
  pub one : MayGoOn held
  pub line : HasNoNewline begun
  pub ends : EndsIn text begun
  pub lines : List FmtLine
  pub layout : IsLayoutAt (line_rules skin) width front lines
  pub rows : bytes ≡ text_bytes skin width lines

-- ---- how far it has come

-- flushed so often
abbrev pub flushed_times : ℕ → Trace → Trace
flushed_times zero t = t
flushed_times (suc n) t = flushed (flushed_times n t)

-- These bytes were read, this text is their front, and these bytes of its rows went out. In between there were flushes.
pub record Streamed (source out source_now out_now : Trace) : Type 0 where
  pub read : List ℕ
  pub handed_out : source ≡ ahead_all read source_now
  pub text : List ℕ
  pub front : IsTextFront read text
  pub bytes : List ℕ
  pub flushes : ℕ
  pub went : out_now ≡ flushed_times flushes (after out bytes)

-- nothing more is read: the source is at its end, or 2 ^ 64 - 1 bytes at least were read
abbrev pub IsReadOut : List ℕ → Trace → Type 0
IsReadOut read source = IsAtItsEnd source ⊎ (2 ^ 64 - 1 ≤ length read)

-- what was read is no text, and won't be one
abbrev pub IsNoText : List ℕ → Trace → Type 0
IsNoText read source = (IsReadOut read source × ¬ (IsUtf8 read)) ⊎ BeginNoText read

-- ---- how it ends

-- all rows of the text went out, and then they were flushed
pub record WritesAllRows (skin : RowSkin) (width : Option ℕ) (source out source_now out_now : Trace) (s : Streamed source out source_now out_now) : Type 0 where
  pub rows : IsLaidOut skin width s.text s.bytes
  pub some : 0 < s.flushes

-- All that was read is text, and there is no more.
pub record WritesSource (skin : RowSkin) (width : Option ℕ) (source out source_now out_now : Trace) : Type 0 where
  pub streamed : Streamed source out source_now out_now
  pub whole : streamed.text ≡ streamed.read
  pub over : IsReadOut streamed.read source_now
  pub writes : WritesAllRows skin width source out source_now out_now streamed

-- What was read is no text. All that is text before was written.
pub record MeetsNoText (skin : RowSkin) (width : Option ℕ) (source out source_now out_now : Trace) : Type 0 where
  pub streamed : Streamed source out source_now out_now
  pub wrong : IsNoText streamed.read source_now
  pub writes : WritesAllRows skin width source out source_now out_now streamed

-- The source failed. All rows of the parts that were complete by then went out, and were flushed.
pub record SourceFails (skin : RowSkin) (width : Option ℕ) (source out source_now out_now : Trace) : Type 0 where
  pub last : Trace
  pub fault : source_now ≡ failed last
  pub streamed : Streamed source out last out_now
  pub rows : AreCompleteRows skin width streamed.text streamed.bytes
  pub some : 0 < length streamed.read → 0 < streamed.flushes

-- The device failed, after a front of the rows.
pub record DeviceFails (skin : RowSkin) (width : Option ℕ) (source out source_now out_now : Trace) : Type 0 where
  pub last : Trace
  pub fault : out_now ≡ failed last
  pub streamed : Streamed source out source_now last
  pub rows : BeginsRows skin width streamed.text streamed.bytes

-- Memory was refused, after a front of the rows.
pub record MemoryFails (skin : RowSkin) (width : Option ℕ) (source out source_now out_now : Trace) : Type 0 where
  pub streamed : Streamed source out source_now out_now
  pub rows : BeginsRows skin width streamed.text streamed.bytes

-- what a call does that writes a source: what it has read of it, and what went out
abbrev pub StreamsSource : {T : Type 0} → RowSkin → Option ℕ → Trace → Trace → Result T SourceError → Trace → Trace → Type 0
StreamsSource skin width source out (Ok x) source_now out_now = WritesSource skin width source out source_now out_now
StreamsSource skin width source out (Err (Source e)) source_now out_now = SourceFails skin width source out source_now out_now
StreamsSource skin width source out (Err (Device e)) source_now out_now = DeviceFails skin width source out source_now out_now
StreamsSource skin width source out (Err NotUtf8) source_now out_now = MeetsNoText skin width source out source_now out_now
StreamsSource skin width source out (Err Memory) source_now out_now = MemoryFails skin width source out source_now out_now
