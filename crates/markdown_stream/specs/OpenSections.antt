-- The leaf that is open, and the line that has begun: what they show while the text goes on.
use Rattle.std.specs.Prelude.{ℕ, List}
use Rattle.mad_sections.specs.Sections.{SectionContent}
use Rattle.markdown_blocks.specs.Lines.{text_lines}
use Rattle.markdown_blocks.specs.Steps.{state_of}
use Rattle.markdown_blocks.specs.declared.reader.BlockReader.{BlockReader}
use Rattle.markdown_leaves.specs.Gather.{gathering_of}
use Rattle.markdown_leaves.specs.declared.gather.Gatherer.{Gatherer}
use Rattle.markdown_stream.specs.Come.{lines_streamed}
use Rattle.markdown_stream.specs.Readings.{Reading, nothing_read, lines_read, parts_at_end, handed_on}
use Rattle.markdown_stream.specs.Streamed.{parts_provided}
use Rattle.markdown_stream.specs.Streaming.{Streaming, taken}

-- where a reader and a gatherer have come to
abbrev pub reading_of : BlockReader → Gatherer → Reading
reading_of reader gatherer = record { state = state_of reader; gathering = gathering_of gatherer }

-- after these lines: what is open, and what was shown
abbrev pub after_lines : List (List ℕ) → Streaming
after_lines lines = record { reading = handed_on (lines_read nothing_read lines); streamed = lines_streamed lines }

-- What is shown next if a text ends with these bytes in place of the line that has begun. A definition counts once its leaf is complete.
abbrev pub open_sections : List ℕ → Streaming → List SectionContent
open_sections end s = (parts_provided s.streamed.defined (parts_at_end (lines_read s.reading (text_lines end))) (taken s.streamed.mapping)).sections
