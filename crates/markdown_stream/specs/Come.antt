-- A text that comes in pieces, as sections: what was read, and what was shown of it.
use Rattle.std.specs.Prelude.{◌≡◌, ℕ, List, ◌++◌, string_bytes}
use Rattle.mad_md.specs.Parts.{HasNoNewline}
use Rattle.mad_sections.specs.Sections.{SectionContent}
use Rattle.markdown_blocks.specs.Lines.{text_lines}
use Rattle.markdown_reader.specs.Mapping.{LinkSaid}
use Rattle.markdown_stream.specs.Held.{streaming_of}
use Rattle.markdown_stream.specs.Readings.{nothing_read, lines_read, parts_read, handed_on}
use Rattle.markdown_stream.specs.Streamed.{Streamed, nothing_streamed, parts_streamed, streamed_sections}
use Rattle.markdown_stream.specs.Streaming.{shown_after, taken_from}
use Rattle.markdown_stream.specs.declared.section_stream.SectionStream.{SectionStream}

-- what the parts are shown as that these lines complete
abbrev pub lines_streamed : List (List ℕ) → Streamed
lines_streamed done = parts_streamed (parts_read (lines_read nothing_read done)) nothing_streamed

-- these sections and links, and then what is shown here
abbrev pub streamed_after : List SectionContent → List LinkSaid → Streamed → Streamed
streamed_after sections links s = record s { mapping = shown_after sections links s.mapping }

-- A stream has read this text, whose whole lines are these, and what they show but for these sections and links is there to be taken. What comes yet
-- goes on with the line that has begun.
pub record HasCome (read : List ℕ) (sections : List SectionContent) (links : List LinkSaid) (s : SectionStream) : Type 0 where
  pub done : List (List ℕ)
  pub joins : (later : List ℕ) → text_lines (read ++ later) ≡ done ++ text_lines (string_bytes s.line ++ later)
  pub begun : HasNoNewline (string_bytes s.line)
  pub reading : (streaming_of s).reading ≡ handed_on (lines_read nothing_read done)
  pub shown : lines_streamed done ≡ streamed_after sections links (streaming_of s).streamed

-- a piece of the text was taken
abbrev pub Comes : SectionStream → List ℕ → SectionStream → Type 0
Comes old text new = (read : List ℕ) (sections : List SectionContent) (links : List LinkSaid) → HasCome read sections links old → HasCome (read ++ text) sections links new

-- the sections and links that were there to be taken
abbrev pub sections_there : SectionStream → List SectionContent
sections_there s = (streaming_of s).streamed.mapping.sections

-- its links
abbrev pub links_there : SectionStream → List LinkSaid
links_there s = (streaming_of s).streamed.mapping.links

-- what was there was taken
abbrev pub Takes : SectionStream → SectionStream → Type 0
Takes old new = (read : List ℕ) (sections : List SectionContent) (links : List LinkSaid) → HasCome read sections links old
    → HasCome read (streamed_after sections links (streaming_of old).streamed).mapping.sections (streamed_after sections links (streaming_of old).streamed).mapping.links new

-- the text is at its end, and all that it shows but for what was taken is there
abbrev pub Ends : SectionStream → SectionStream → Type 0
Ends old new = (read : List ℕ) (sections : List SectionContent) (links : List LinkSaid) → HasCome read sections links old → streamed_sections read ≡ sections ++ sections_there new
