-- Rows of a line: wrapped at a width, or cut at the edges of so many columns.
use Rattle.std.specs.Prelude.{ℕ, ◌+◌, ◌-◌, ◌==◌, ◌&&◌, ◌||◌, nat_le, nat_lt, min, max, Bool, true, if◌then◌else◌, List, [], ◌∷◌, ◌++◌, take, drop}
use Rattle.std.specs.List.{repeat}
use Rattle.mad_characters.specs.Columns.{char_columns}
use Rattle.mad_plain.specs.declared.pens.Pen.{Pen}
use Rattle.mad_plain.specs.Pens.{plain_pen}
use Rattle.mad_plain.specs.Runs.{StyledChar, styled, said}

-- the columns of a text
abbrev pub columns_of : List ℕ → ℕ
columns_of [] = 0
columns_of (c ∷ cs) = char_columns c + columns_of cs

-- ---- wrapped

-- At how many characters the rows of what is left end: so many came before, and so many columns are left in the row.
abbrev pub ends_from : (width left at : ℕ) → List ℕ → List ℕ
ends_from width left at [] = at ∷ []
ends_from width left at (c ∷ cs) =
    if nat_le (char_columns c) left then ends_from width (left - char_columns c) (at + 1) cs
    else at ∷ ends_from width (width - char_columns c) (at + 1) cs

-- a row has as many characters as fit, one at least; a line without characters is one row
abbrev pub row_ends : ℕ → List ℕ → List ℕ
row_ends width [] = 0 ∷ []
row_ends width (c ∷ cs) = ends_from width (width - char_columns c) 1 cs

-- a line cut at these numbers of characters
abbrev pub rows_by : {A : Type 0} → ℕ → List ℕ → List A → List (List A)
rows_by at [] cs = []
rows_by at (e ∷ es) cs = take (e - at) cs ∷ rows_by e es (drop (e - at) cs)

-- a line as rows that are wrapped at this width
abbrev pub wrapped : ℕ → List StyledChar → List (List StyledChar)
wrapped width line = rows_by 0 (row_ends width (said line)) line

-- ---- cut

-- The character is wholly within the columns from a up to b. One without columns is so where the one before it may be.
abbrev pub is_inside : (a b at columns : ℕ) → Bool
is_inside a b at columns = if columns == 0 then (nat_lt a at || (a == 0)) && nat_le at b else nat_le a at && nat_le (at + columns) b

-- what is shown of a character that begins in column `at`: itself, or blanks for its columns that are within
abbrev pub part_shown : (a b at : ℕ) → StyledChar → List StyledChar
part_shown a b at c =
    if is_inside a b at (char_columns c.char) then c ∷ []
    else repeat (min b (at + char_columns c.char) - max a at) (styled c.style 32 ∷ [])

-- what is shown of a line's columns from a up to b; its first character begins in column `at`
abbrev pub window : (a b at : ℕ) → List StyledChar → List StyledChar
window a b at [] = []
window a b at (c ∷ cs) = part_shown a b at c ++ window a b (at + char_columns c.char) cs

-- the style of a sign that a line goes on
abbrev pub sign_style : Pen
sign_style = record plain_pen { reversed = true }

-- the sign that a line goes on, < (60) or > (62), where it is there
abbrev pub sign_if : Bool → ℕ → List StyledChar
sign_if there c = if there then styled sign_style c ∷ [] else []

-- the column of a sign, where it is there
abbrev pub one_if : Bool → ℕ
one_if there = if there then 1 else 0

-- a line of so many columns, moved by some, has the sign to the left; this gives way where there is one column
abbrev pub goes_left : (total moved width : ℕ) → Bool
goes_left total moved width = nat_lt 0 moved && (nat_lt 0 total && nat_lt 1 width)

-- it has the sign to the right
abbrev pub goes_right : (total moved width : ℕ) → Bool
goes_right total moved width = nat_lt (moved + width) total && nat_lt 0 width

-- a line's row of so many columns, moved by some
abbrev pub cut_row : (moved width : ℕ) → List StyledChar → List StyledChar
cut_row moved width line =
    let total = columns_of (said line) in
    let left = goes_left total moved width in
    let right = goes_right total moved width in
    sign_if left 60 ++ (window (moved + one_if left) (moved + width - one_if right) 0 line ++ sign_if right 62)
