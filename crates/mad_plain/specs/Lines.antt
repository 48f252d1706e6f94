-- Lines: what each shows.
use Rattle.std.specs.Prelude.{ℕ, zero, suc, ◌+◌, ◌-◌, ◌%◌, ◌==◌, ◌&&◌, ◌||◌, not, Bool, true, false, if◌then◌else◌, List, [], ◌∷◌, ◌++◌, slice_index}
use Rattle.std.specs.List.{repeat, list_all}
use Rattle.std.specs.Char.{is_control}
use Rattle.mad_characters.specs.Columns.{char_columns}
use Rattle.mad_characters.specs.Pictures.{is_printable_char, picture}
use Rattle.mad_plain.specs.declared.pens.Pen.{Pen}
use Rattle.mad_plain.specs.declared.places.Strikes.{Strikes}
use Rattle.mad_plain.specs.declared.places.Place.{Place}
use Rattle.mad_plain.specs.Commands.{command_len}
use Rattle.mad_plain.specs.Pens.{plain_pen, pen_after}
use Rattle.mad_plain.specs.Runs.{StyledChar, styled}

-- a character in a style
-- ---- overstrikes

-- overstrikes say nothing
abbrev pub no_strikes : Strikes
no_strikes = record { bold = false; underlined = false }

-- overstrikes say something
abbrev pub strikes_any : Strikes → Bool
strikes_any s = s.bold || s.underlined

-- a character, a backspace (8), and a second one: the first is that or a low line (95), and neither is a control character
abbrev pub is_struck : ℕ → List ℕ → Bool
is_struck c after =
    (slice_index after 0 == 8) && (not (is_control c) && (not (is_control (slice_index after 1)) && ((c == 95) || (c == slice_index after 1))))

-- what an overstrike of two low lines says: as the ones before it
abbrev pub low_line_strikes : Strikes → Strikes → Strikes
low_line_strikes now before =
    if strikes_any now then record { bold = true; underlined = true }
    else if strikes_any before then before
    else record { bold = true; underlined = false }

-- what overstrikes say of the second character, where `now` is what they said of the first
abbrev pub strikes_after : Strikes → Strikes → (c second : ℕ) → Strikes
strikes_after now before c second =
    if (c == 95) && (second == 95) then low_line_strikes now before
    else if c == second then record now { bold = true }
    else record now { underlined = true }

-- ---- a place in a line: the pen, what overstrikes say of the next character, what they said last, and the columns before it

-- a line begins with a plain pen, and nothing is overstruck
abbrev pub line_start : Place
line_start = record { pen = plain_pen; now = no_strikes; before = no_strikes; column = 0 }

-- the style of the next character: the pen, and what overstrikes say
abbrev pub style_at : Place → Pen
style_at p = record p.pen { bold = p.pen.bold || p.now.bold; underlined = p.pen.underlined || p.now.underlined }

-- how many blanks a tab is
abbrev pub tab_len : ℕ → ℕ
tab_len column = 8 - column % 8

-- columns count up to the next eighth
abbrev pub column_after : ℕ → ℕ → ℕ
column_after column c = if c == 9 then 0 else (column % 8 + char_columns (picture c)) % 8

-- past a character that is shown
abbrev pub passed : Place → ℕ → Place
passed p c = record { pen = p.pen; now = no_strikes; before = (if strikes_any p.now then p.now else p.before); column = column_after p.column c }

-- a character as it is shown: a tab (9) as blanks (32), another one as its picture
abbrev pub shown_char : Place → ℕ → List StyledChar
shown_char p c = if c == 9 then repeat (tab_len p.column) (styled (style_at p) 32 ∷ []) else styled (style_at p) (picture c) ∷ []

-- ---- what stands at a place

-- how many characters behind an ESC (27) are a command's
abbrev pub command_at : ℕ → List ℕ → ℕ
command_at c after = if c == 27 then command_len after else 0

-- how many of the characters behind this one go with it
abbrev pub more_at : ℕ → List ℕ → ℕ
more_at c after = if not (command_at c after == 0) then command_at c after else if is_struck c after then 1 else 0

-- the place that is past a command, an overstrike, or a character that is shown
abbrev pub place_after : Place → ℕ → List ℕ → Place
place_after p c after =
    if not (command_at c after == 0) then record p { pen = pen_after p.pen after }
    else if is_struck c after then record p { now = strikes_after p.now p.before c (slice_index after 1) }
    else passed p c

-- a command shows nothing, nor does the lower character of an overstrike; any other is shown
abbrev pub shown_at : Place → ℕ → List ℕ → List StyledChar
shown_at p c after = if not (command_at c after == 0) then [] else if is_struck c after then [] else shown_char p c

-- what is shown of a line from a place on, where so many characters go with those before
unfoldable pub line_from : Place → ℕ → List ℕ → List StyledChar
line_from p skip [] = []
line_from p zero (c ∷ cs) = shown_at p c cs ++ line_from (place_after p c cs) (more_at c cs) cs
line_from p (suc skip) (c ∷ cs) = line_from p skip cs

-- what is shown of a line
abbrev pub line_chars : List ℕ → List StyledChar
line_chars line = line_from line_start 0 line

-- a character that a line shows as it is: no tab, no ESC, no backspace, no other control character, and none that turns the direction
abbrev pub is_plain_char : ℕ → Bool
is_plain_char c = is_printable_char c && not (c == 10)

-- a line shows these characters as they are
abbrev pub are_plain : List ℕ → Bool
are_plain cs = list_all is_plain_char cs
