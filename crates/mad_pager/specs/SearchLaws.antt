-- Laws of what was sought before.
use Rattle.std.specs.Prelude.{◌≡◌, ℕ, ◌==◌, ◌&&◌, not, Bool, List, length, None}
use Rattle.std.specs.List.{filter}
use Rattle.std.specs.Str.{chars}
use Rattle.mad_characters.specs.Columns.{char_columns}
use Rattle.mad_edit_lines.specs.TextLines.{is_accepted}
use Rattle.mad_edit.specs.Editor.{Editor}
use Rattle.mad_patterns.specs.Readings.{Reading}
use Rattle.mad_pager.specs.Sessions.{State, recalled, seeking}

-- a character that can be typed: it takes columns, and a field accepts it
abbrev pub is_typable : ℕ → Bool
is_typable c = not (char_columns c == 0) && is_accepted c

-- a text with the cursor at its end, and no selection
abbrev pub at_end : List ℕ → Editor
at_end text = record { text = text; offset = length text; tail = None }

-- After a search for a text, Up brings that text into the field: those of its characters that can be typed, with the cursor at their end.
abbrev pub UpBringsTheLast : Type 0
UpBringsTheLast = (text : List ℕ) (reading : Reading) (s : State) → (recalled 1 (seeking text reading s)).field.content ≡ at_end (filter is_typable (chars text))
