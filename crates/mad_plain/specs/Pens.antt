-- Pens: the styles that commands set, and what a command's parameters make of one.
use Rattle.std.specs.Prelude.{ℕ, zero, suc, ◌+◌, ◌-◌, ◌*◌, ◌==◌, ◌&&◌, ◌||◌, not, nat_lt, min, Bool, true, false, if◌then◌else◌, List, [], ◌∷◌, length, slice_index_or, Some, None}
use Rattle.std.specs.Char.{is_ascii_digit}
use Rattle.std.specs.Int.{is_in_range}
use Rattle.mad_term.specs.declared.color.Color.{Color}
use Rattle.mad_term.specs.declared.color.Color.TheVariants.{AnsiValue, Rgb}
use Rattle.mad_plain.specs.declared.pens.Pen.{Pen}
use Rattle.mad_plain.specs.declared.pens.Part.{Part}

-- nothing is set
abbrev pub plain_pen : Pen
plain_pen = record {
  foreground = None;
  background = None;
  underline = None;
  bold = false;
  dim = false;
  italic = false;
  underlined = false;
  blinking = false;
  reversed = false;
  hidden = false;
  crossed_out = false;
  overlined = false;
}

-- ---- the numbers of a command

-- a number and one more digit; 256 and more are one
abbrev pub with_digit : ℕ → ℕ → ℕ
with_digit n c = min 256 (10 * n + (c - 48))

-- a part that has this number, joined to the one before it or not
abbrev pub part : Bool → ℕ → Part
part joined n = record { joined = joined; number = n }

-- The parts of parameters up to the final character: each a number, joined to the one before by a colon (58) or parted by a semicolon (59).
-- One is open, with this number so far.
abbrev pub parts_from : Bool → ℕ → List ℕ → List Part
parts_from joined n [] = part joined n ∷ []
parts_from joined n (c ∷ cs) =
    if is_ascii_digit c then parts_from joined (with_digit n c) cs
    else if c == 59 then part joined n ∷ parts_from false 0 cs
    else if c == 58 then part joined n ∷ parts_from true 0 cs
    else part joined n ∷ []

-- parameters that are digits, semicolons and colons, and m (109)
abbrev pub is_setting : List ℕ → Bool
is_setting [] = false
is_setting (c ∷ cs) = if is_ascii_digit c || ((c == 58) || (c == 59)) then is_setting cs else c == 109

-- ---- one number

-- a number below 22: all is reset, or an attribute is set
abbrev pub set_low : ℕ → Pen → Pen
set_low n pen =
    if n == 0 then plain_pen
    else if n == 1 then record pen { bold = true }
    else if n == 2 then record pen { dim = true }
    else if n == 3 then record pen { italic = true }
    else if (n == 4) || (n == 21) then record pen { underlined = true }
    else if (n == 5) || (n == 6) then record pen { blinking = true }
    else if n == 7 then record pen { reversed = true }
    else if n == 8 then record pen { hidden = true }
    else if n == 9 then record pen { crossed_out = true }
    else pen

-- a number that ends attributes; 53 sets a line above
abbrev pub unset : ℕ → Pen → Pen
unset n pen =
    if n == 22 then record pen { bold = false; dim = false }
    else if n == 23 then record pen { italic = false }
    else if n == 24 then record pen { underlined = false }
    else if n == 25 then record pen { blinking = false }
    else if n == 27 then record pen { reversed = false }
    else if n == 28 then record pen { hidden = false }
    else if n == 29 then record pen { crossed_out = false }
    else if n == 53 then record pen { overlined = true }
    else if n == 55 then record pen { overlined = false }
    else pen

-- the first sixteen colors of the palette, and none
abbrev pub set_color_number : ℕ → Pen → Pen
set_color_number n pen =
    if is_in_range 30 37 n then record pen { foreground = Some (AnsiValue (n - 30)) }
    else if is_in_range 40 47 n then record pen { background = Some (AnsiValue (n - 40)) }
    else if is_in_range 90 97 n then record pen { foreground = Some (AnsiValue (n - 82)) }
    else if is_in_range 100 107 n then record pen { background = Some (AnsiValue (n - 92)) }
    else if n == 39 then record pen { foreground = None }
    else if n == 49 then record pen { background = None }
    else if n == 59 then record pen { underline = None }
    else pen

-- a number that stands alone: an attribute, or a color of the first sixteen
abbrev pub set_number : ℕ → Pen → Pen
set_number n pen = if nat_lt n 22 then set_low n pen else if nat_lt n 30 || nat_lt 50 n && nat_lt n 56 then unset n pen else set_color_number n pen

-- ---- a color of several numbers

-- the number at this place, 256 if there is none
abbrev pub number_at : List Part → ℕ → ℕ
number_at ps i = if nat_lt i (length ps) then (slice_index_or ps i (part false 0)).number else 256

-- 38, 48 and 58: the foreground, the background, the line below
abbrev pub is_color_kind : ℕ → Bool
is_color_kind n = (n == 38) || ((n == 48) || (n == 58))

-- the foreground, the background or the line below gets this color
abbrev pub set_color : ℕ → Color → Pen → Pen
set_color kind color pen =
    if kind == 38 then record pen { foreground = Some color }
    else if kind == 48 then record pen { background = Some color }
    else record pen { underline = Some color }

-- a number of the palette
abbrev pub set_palette : ℕ → ℕ → Pen → Pen
set_palette kind n pen = if nat_lt n 256 then set_color kind (AnsiValue n) pen else pen

-- a color is mixed of red, green and blue, where each is below 256
abbrev pub set_mixed : (kind r g b : ℕ) → Pen → Pen
set_mixed kind r g b pen = if nat_lt r 256 && (nat_lt g 256 && nat_lt b 256) then set_color kind (Rgb r g b) pen else pen

-- how many parts are joined to the one before
abbrev pub joined_len : List Part → ℕ
joined_len [] = 0
joined_len (p ∷ ps) = if p.joined then 1 + joined_len ps else 0

-- as many parts are there, none of them joined to another, nor the one behind them
abbrev pub are_single : ℕ → List Part → Bool
are_single zero ps = joined_len ps == 0
are_single (suc n) [] = false
are_single (suc n) (p ∷ ps) = not p.joined && are_single n ps

-- the parts behind a kind of color are 5 and a number
abbrev pub is_palette_color : List Part → Bool
is_palette_color ps = (number_at ps 0 == 5) && are_single 2 ps

-- the parts behind a kind of color are 2 and three numbers
abbrev pub is_mixed_color : List Part → Bool
is_mixed_color ps = (number_at ps 0 == 2) && are_single 4 ps

-- ---- the parts of a command, one after the other

-- a number with `joined` others: an underline or a color
abbrev pub set_joined : ℕ → ℕ → List Part → Pen → Pen
set_joined joined n ps pen =
    if n == 4 then (if joined == 1 then record pen { underlined = not (number_at ps 0 == 0) } else pen)
    else if not (is_color_kind n) then pen
    else if (number_at ps 0 == 5) && (joined == 2) then set_palette n (number_at ps 1) pen
    else if (number_at ps 0 == 2) && (joined == 4) then set_mixed n (number_at ps 1) (number_at ps 2) (number_at ps 3) pen
    else if (number_at ps 0 == 2) && (joined == 5) then set_mixed n (number_at ps 2) (number_at ps 3) (number_at ps 4) pen
    else pen

-- a number: with those that are joined to it, with the parts of its color, or alone
abbrev pub set_part : ℕ → List Part → Pen → Pen
set_part n ps pen =
    if not (joined_len ps == 0) then set_joined (joined_len ps) n ps pen
    else if not (is_color_kind n) then set_number n pen
    else if is_palette_color ps then set_palette n (number_at ps 1) pen
    else if is_mixed_color ps then set_mixed n (number_at ps 1) (number_at ps 2) (number_at ps 3) pen
    else pen

-- how many of the parts behind it go with a part: all, where a color can't be read
abbrev pub taken : ℕ → List Part → ℕ
taken n ps =
    if not (joined_len ps == 0) then joined_len ps
    else if not (is_color_kind n) then 0
    else if is_palette_color ps then 2
    else if is_mixed_color ps then 4
    else length ps

-- these parts, one after the other; so many of them go with one before
abbrev pub set_parts : Pen → ℕ → List Part → Pen
set_parts pen skip [] = pen
set_parts pen zero (p ∷ ps) = set_parts (set_part p.number ps pen) (taken p.number ps) ps
set_parts pen (suc skip) (p ∷ ps) = set_parts pen skip ps

-- the pen after a command, by what is behind its ESC: [ (91) and a setting
abbrev pub pen_after : Pen → List ℕ → Pen
pen_after pen [] = pen
pen_after pen (c ∷ cs) = if (c == 91) && is_setting cs then set_parts pen 0 (parts_from false 0 cs) else pen
