-- Sources whose text of Markdown as people write it is written as it comes.
use Rattle.std.specs.Prelude.{◌≡◌, ℕ, ◌<◌, List, ◌++◌, length, Option, Result, Ok, Err}
use Rattle.mad_md.specs.Parts.{HasNoNewline}
use Rattle.mad_pages.specs.PageRows.{RowContent}
use Rattle.mad_page_skin.specs.declared.page_skin.PageSkin.{PageSkin}
use Rattle.mad_stream.specs.Sources.{Streamed, IsReadOut, IsNoText}
use Rattle.mad_stream.specs.declared.source_error.SourceError.{SourceError}
use Rattle.mad_stream.specs.declared.source_error.SourceError.TheVariants.{Source, Device, NotUtf8, Memory}
use Rattle.mad_term.specs.Trace.{Trace, failed}
use Rattle.markdown_lines.specs.Texts.{behind_mark}
use Rattle.markdown_blocks.specs.Lines.{text_lines}
use Rattle.markdown_layout.specs.WrittenPages.{IsDressedAt, dressed_bytes}
use Rattle.markdown_reader.specs.Steady.{steady_sections}
use Rattle.markdown_stream.specs.Come.{lines_streamed}
use Rattle.markdown_stream.specs.Streams.{IsStreamed, BeginsStreamed}

-- These bytes are all rows of the leaves of a text that its whole lines complete. The line that has begun is left, and the lines of the leaf that is open.
pub record AreCompleteRows (skin : PageSkin) (width : Option ℕ) (text bytes : List ℕ) : Type 0 where
  pub done : List (List ℕ)
  pub begun : List ℕ
  pub joins : text_lines (behind_mark text) ≡ done ++ text_lines begun
  pub line : HasNoNewline begun
  pub rows : List RowContent
  pub page : IsDressedAt skin width (steady_sections (lines_streamed done).mapping.sections) rows
  pub written : bytes ≡ dressed_bytes skin width rows

-- ---- how it ends

-- all rows of the text went out, and then they were flushed
pub record WritesAllRows (skin : PageSkin) (width : Option ℕ) (source out source_now out_now : Trace) (s : Streamed source out source_now out_now) : Type 0 where
  pub rows : IsStreamed skin width s.text s.bytes
  pub some : 0 < s.flushes

-- All that was read is text, and there is no more.
pub record WritesMarkdown (skin : PageSkin) (width : Option ℕ) (source out source_now out_now : Trace) : Type 0 where
  pub streamed : Streamed source out source_now out_now
  pub whole : streamed.text ≡ streamed.read
  pub over : IsReadOut streamed.read source_now
  pub writes : WritesAllRows skin width source out source_now out_now streamed

-- What was read is no text. All that is text before was written.
pub record MeetsNoText (skin : PageSkin) (width : Option ℕ) (source out source_now out_now : Trace) : Type 0 where
  pub streamed : Streamed source out source_now out_now
  pub wrong : IsNoText streamed.read source_now
  pub writes : WritesAllRows skin width source out source_now out_now streamed

-- The source failed. All rows of the leaves that were complete by then went out, and were flushed.
pub record SourceFails (skin : PageSkin) (width : Option ℕ) (source out source_now out_now : Trace) : Type 0 where
  pub last : Trace
  pub fault : source_now ≡ failed last
  pub streamed : Streamed source out last out_now
  pub rows : AreCompleteRows skin width streamed.text streamed.bytes
  pub some : 0 < length streamed.read → 0 < streamed.flushes

-- The device failed, after a front of the rows.
pub record DeviceFails (skin : PageSkin) (width : Option ℕ) (source out source_now out_now : Trace) : Type 0 where
  pub last : Trace
  pub fault : out_now ≡ failed last
  pub streamed : Streamed source out source_now last
  pub rows : BeginsStreamed skin width streamed.text streamed.bytes

-- Memory was refused, after a front of the rows.
pub record MemoryFails (skin : PageSkin) (width : Option ℕ) (source out source_now out_now : Trace) : Type 0 where
  pub streamed : Streamed source out source_now out_now
  pub rows : BeginsStreamed skin width streamed.text streamed.bytes

-- what a call does that writes a source: what it has read of it, and what went out
abbrev pub StreamsMarkdown : {T : Type 0} → PageSkin → Option ℕ → Trace → Trace → Result T SourceError → Trace → Trace → Type 0
StreamsMarkdown skin width source out (Ok x) source_now out_now = WritesMarkdown skin width source out source_now out_now
StreamsMarkdown skin width source out (Err (Source e)) source_now out_now = SourceFails skin width source out source_now out_now
StreamsMarkdown skin width source out (Err (Device e)) source_now out_now = DeviceFails skin width source out source_now out_now
StreamsMarkdown skin width source out (Err NotUtf8) source_now out_now = MeetsNoText skin width source out source_now out_now
StreamsMarkdown skin width source out (Err Memory) source_now out_now = MemoryFails skin width source out source_now out_now
