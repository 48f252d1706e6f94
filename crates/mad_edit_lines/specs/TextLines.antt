-- A text as its lines, and positions in it.
use Rattle.std.specs.Prelude.{ℕ, ◌+◌, ◌<◌, ◌≤◌, ◌≡◌, ◌==◌, ◌&&◌, List, [], ◌∷◌, ◌++◌, length, take, drop, map, not, true, Bool, All, slice_index_or, filter, min, nat_lt, if◌then◌else◌, ◌-◌}
use Rattle.std.specs.List.{slice_split}
use Rattle.std.specs.Char.{IsScalar}
use Rattle.mad_edit_lines.specs.declared.position.Pos.{Pos}
use Rattle.mad_edit_lines.specs.declared.line.Line.{Line}

-- each line after a newline
abbrev pub led_lines : List (List ℕ) → List ℕ
led_lines [] = []
led_lines (l ∷ ls) = (10 ∷ l) ++ led_lines ls

-- the text of lines: a newline between neighbours
abbrev pub text_of : List (List ℕ) → List ℕ
text_of ls = drop 1 (led_lines ls)

-- a newline (10)
abbrev pub is_newline : ℕ → Bool
is_newline c = c == 10

-- the lines of a text, which is cut at each newline
abbrev pub lines : List ℕ → List (List ℕ)
lines t = slice_split is_newline t

-- a line by its number, empty past the last
abbrev pub line_at : List (List ℕ) → ℕ → List ℕ
line_at ls y = slice_index_or ls y []

-- a position is before a character of its line, or at the line's end
abbrev pub IsPosition : List (List ℕ) → Pos → Type 0
IsPosition ls p = (p.y < length ls) × (p.x ≤ length (line_at ls p.y))

-- how many characters of the text are before a position
abbrev pub offset_of : List (List ℕ) → Pos → ℕ
offset_of ls p = length (led_lines (take p.y ls)) + p.x

-- whether a character of a text is put in: a carriage return or a backspace isn't
abbrev pub is_accepted : ℕ → Bool
is_accepted c = not (c == 13) && not (c == 8)

-- what is left of characters: those that are put in
abbrev pub accepted : List ℕ → List ℕ
accepted cs = filter is_accepted cs

-- a character of a text in an editor: one that is put in
abbrev pub IsAcceptedChar : ℕ → Type 0
IsAcceptedChar c = (is_accepted c ≡ true) × IsScalar c

-- a character of a line: no newline, carriage return or backspace
abbrev pub is_line_char : ℕ → Bool
is_line_char c = not (c == 10) && is_accepted c

-- such characters alone
abbrev pub IsLineText : List ℕ → Type 0
IsLineText l = All (λ c. (is_line_char c ≡ true) × IsScalar c) l

-- the characters of a line
abbrev pub chars_of : Line → List ℕ
chars_of l = l.chars.items

-- the characters of each line
abbrev pub lines_of : List Line → List (List ℕ)
lines_of ls = map chars_of ls

-- lines, and one more after them
abbrev pub led_lines_with : List (List ℕ) → List ℕ → List ℕ
led_lines_with ls l = led_lines ls ++ (10 ∷ l)

-- lines, and one more after them: all of them hold such characters alone
pub record AreLineTexts (ls : List (List ℕ)) (l : List ℕ) : Type 0 where
  pub lines : All IsLineText ls
  pub line : IsLineText l

-- the end of the text
abbrev pub end_of : List (List ℕ) → Pos
end_of ls = record { y = length ls - 1; x = length (line_at ls (length ls - 1)) }

-- the position itself, or the nearest one on its line, or the end
abbrev pub clamp : List (List ℕ) → Pos → Pos
clamp ls p = if nat_lt p.y (length ls) then record { y = p.y; x = min p.x (length (line_at ls p.y)) } else end_of ls
