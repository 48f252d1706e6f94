-- The text of a leaf's lines, and in which of these a place is.
use Rattle.std.specs.Prelude.{◌≡◌, ℕ, ◌+◌, ◌-◌, ◌≤◌, nat_le, if◌then◌else◌, List, [], ◌∷◌, length, drop}
use Rattle.std.specs.Str.Lossy.{utf8_lossy}
use Rattle.markdown_marks.specs.Headings.{without_end}
use Rattle.markdown_marks.specs.Remaining.{Remaining}
use Rattle.markdown_leaves.specs.Defining.{joined}
use Rattle.markdown_inline_events.specs.Contents.{EventContent}
use Rattle.markdown_inline_events.specs.declared.leaf.LinePlace.{LinePlace}

-- the lines one after another, without the blanks at the end
abbrev pub leaf_source : List Remaining → List ℕ
leaf_source lines = utf8_lossy (without_end 32 9 (joined [] lines))

-- The line in which a place is, of which the first has this number: a newline is in the line that it ends.
unfoldable pub line_place : (number place : ℕ) → List Remaining → LinePlace
line_place number place [] = record { line = number; byte = place }
line_place number place (line ∷ lines) =
    if nat_le place (length line.bytes) then record { line = number; byte = place } else line_place (number + 1) (place - (length line.bytes + 1)) lines

-- where an event of a leaf is in its lines
abbrev pub event_place : List Remaining → EventContent → LinePlace
event_place lines event = line_place 0 event.place lines

-- So many bytes are before a line: a place behind them is in this line, or in one behind it.
abbrev pub IsReached : List Remaining → (line before : ℕ) → Type 0
IsReached lines line before = (place : ℕ) → before ≤ place → line_place 0 place lines ≡ line_place line (place - before) (drop line lines)
