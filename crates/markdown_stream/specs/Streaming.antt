-- A text whose lines come in groups: after each group what is complete is shown, and isn't kept.
use Rattle.std.specs.Prelude.{ℕ, ◌+◌, ◌==◌, ◌&&◌, Bool, true, false, List, [], ◌∷◌, ◌++◌, map, length}
use Rattle.std.specs.List.{flat_map}
use Rattle.mad_sections.specs.Sections.{SectionContent}
use Rattle.markdown_blocks.specs.Lines.{text_lines}
use Rattle.markdown_blocks.specs.Steps.{Line}
use Rattle.markdown_blocks.specs.declared.leaves.Deed.{Deed}
use Rattle.markdown_blocks.specs.declared.leaves.Deed.TheVariants.{GoesOn}
use Rattle.markdown_leaves.specs.Told.{told, events_between}
use Rattle.markdown_reader.specs.Mapping.{LinkSaid, Mapping}
use Rattle.markdown_stream.specs.Readings.{Reading, nothing_read, line_read, lines_read, parts_read, parts_at_end, handed_on}
use Rattle.markdown_stream.specs.Streamed.{Streamed, nothing_streamed, parts_streamed}

-- what the next sections depend on: the sections and links so far were taken
abbrev pub taken : Mapping → Mapping
taken m = record m { sections = []; links = [] }

-- the sections and links so far were taken; the definitions stay
abbrev pub taken_from : Streamed → Streamed
taken_from s = record s { mapping = taken s.mapping }

-- a link after so many sections more
abbrev pub link_after : ℕ → LinkSaid → LinkSaid
link_after count link = record link { section = count + link.section }

-- these sections and links, and then what is shown here
abbrev pub shown_after : List SectionContent → List LinkSaid → Mapping → Mapping
shown_after sections links m = record m { sections = sections ++ m.sections; links = links ++ map (link_after (length sections)) m.links }

-- A text of which lines were read and sections taken: what is open, and what the next sections depend on.
pub record Streaming : Type 0 where
  pub reading : Reading
  pub streamed : Streamed

-- before the first line comes, nothing is open, and nothing is shown
abbrev pub nothing_come : Streaming
nothing_come = record { reading = nothing_read; streamed = nothing_streamed }

-- the parts that these lines complete are shown
abbrev pub shown_from : Streaming → Reading → Streamed
shown_from s read = parts_streamed (parts_read read) s.streamed

-- lines come, and the parts that they complete are shown
abbrev pub lines_shown : Streaming → List (List ℕ) → Streamed
lines_shown s lines = shown_from s (lines_read s.reading lines)

-- and taken: this is kept
abbrev pub kept_after : Streaming → List (List ℕ) → Streaming
kept_after s lines = record { reading = handed_on (lines_read s.reading lines); streamed = taken_from (lines_shown s lines) }

-- the text ends here
abbrev pub end_shown : Streaming → Streamed
end_shown s = parts_streamed (parts_at_end s.reading) s.streamed

-- the sections that are shown of each of these groups of lines, and at last those that are shown where the text ends
unfoldable pub pieces_shown : Streaming → List (List (List ℕ)) → List (List SectionContent)
pieces_shown s [] = (end_shown s).mapping.sections ∷ []
pieces_shown s (lines ∷ groups) = (lines_shown s lines).mapping.sections ∷ pieces_shown (kept_after s lines) groups

-- all of these, one after the other
abbrev pub sections_shown : Streaming → List (List (List ℕ)) → List SectionContent
sections_shown s groups = flat_map (λ piece. piece) (pieces_shown s groups)

-- a group's links, and those after it: their sections come after the group's
abbrev pub links_joined : Mapping → List LinkSaid → List LinkSaid
links_joined m links = m.links ++ map (link_after (length m.sections)) links

-- the links
unfoldable pub links_shown : Streaming → List (List (List ℕ)) → List LinkSaid
links_shown s [] = (end_shown s).mapping.links
links_shown s (lines ∷ groups) = links_joined (lines_shown s lines).mapping (links_shown (kept_after s lines) groups)

-- ---- line by line

-- it has come to this reading, and the parts that are complete there are shown
abbrev pub come_to : Streaming → Reading → Streaming
come_to s read = record { reading = handed_on read; streamed = shown_from s read }

-- a line comes
abbrev pub line_come : List ℕ → Streaming → Streaming
line_come line s = come_to s (line_read s.reading line)

-- lines come, one after the other
unfoldable pub lines_come : List (List ℕ) → Streaming → Streaming
lines_come [] s = s
lines_come (line ∷ lines) s = lines_come lines (line_come line s)

-- the lines of a text come
abbrev pub text_come : List ℕ → Streaming → Streaming
text_come text s = lines_come (text_lines text) s

-- a line was read, before which so many containers were open: what it tells is gathered
abbrev pub gathered : ℕ → Line → Streaming → Streaming
gathered before read s = come_to s (record s.reading { gathering = told s.reading.gathering (events_between before read s.reading.state.containers) })

-- what is shown so far is taken
abbrev pub taken_now : Streaming → Streaming
taken_now s = record s { streamed = taken_from s.streamed }

-- nothing but the text of the open leaf comes with this line
abbrev pub is_text : Deed → Bool
is_text GoesOn = true
is_text _ = false

-- the line goes on with the open leaf, and no container begins or ends
abbrev pub goes_on : ℕ → Line → Bool
goes_on before read = (read.kept == before) && ((read.opened == 0) && is_text read.deed)
