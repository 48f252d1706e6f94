-- The characters that a cursor over a line's row has left.
use Rattle.std.specs.Prelude.{ℕ, ◌+◌, ◌&&◌, Bool, List, [], ◌∷◌, drop, nat_lt, nat_le, if◌then◌else◌}
use Rattle.mad_field_rows.specs.declared.line_rows.RowChar.{RowChar}
use Rattle.mad_field_rows.specs.declared.line_rows.LineRow.{LineRow}
use Rattle.mad_field_rows.specs.RowChars.{first_ellipsis, filled_row}

-- a character as it is shown
abbrev pub shown_at : Bool → ℕ → ℕ
shown_at password c = if password then 42 else c

-- characters of a line from number x on, those from `first` on and before `end` marked
abbrev pub marked_between : Bool → ℕ → ℕ → ℕ → List ℕ → List RowChar
marked_between password first end x [] = []
marked_between password first end x (c ∷ cs) =
    record { c = shown_at password c; marked = nat_le first x && nat_lt x end } ∷ marked_between password first end (x + 1) cs

-- what is left after the first `…`
abbrev pub line_left : LineRow → List RowChar
line_left s = filled_row (marked_between s.password s.selected.0 s.selected.1 s.x (drop s.x s.line.now)) s.at_end s.room

-- the characters that are left
unfoldable pub chars_left : LineRow → List RowChar
chars_left s = if s.front then first_ellipsis ∷ line_left s else line_left s
