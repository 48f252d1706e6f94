-- Colors as texts.
use Rattle.std.specs.Prelude.{ℕ, Bool, ◌+◌, ◌*◌, ◌==◌, ◌||◌, List, [], ◌∷◌, ◌++◌, Option, Some, None, Result, Ok, Err, codes, decimal, nat_lt, if◌then◌else◌}
use Rattle.std.specs.List.{list_all}
use Rattle.std.specs.Char.{is_ascii_hexdigit, digit_value}
use Rattle.std.specs.Str.{trim_start}
use Rattle.std.specs.Option.{ok_or}
use Rattle.mad_term.specs.declared.color.Color.{Color}
use Rattle.mad_term.specs.declared.color.Color.TheVariants.{Black, DarkGrey, Red, DarkRed, Green, DarkGreen, Yellow, DarkYellow, Blue, DarkBlue, Magenta, DarkMagenta, Cyan, DarkCyan, White, Grey, Rgb, AnsiValue}
use Rattle.mad_parse.specs.Names.{is_named, named}
use Rattle.mad_parse.specs.Numbers.{number_below}
use Rattle.mad_parse.specs.declared.errors.ParseColorError.{ParseColorError}
use Rattle.mad_parse.specs.declared.errors.ParseColorError.TheVariants.{Unrecognized, InvalidGreyLevel}

-- the colors that have a name; black and white are of the palette's cube, since users set the first sixteen numbers as they like
abbrev pub color_names : List (List ℕ × Color)
color_names =
    (codes "black", AnsiValue 16)
    ∷ (codes "white", AnsiValue 231)
    ∷ (codes "red", Red)
    ∷ (codes "green", Green)
    ∷ (codes "yellow", Yellow)
    ∷ (codes "blue", Blue)
    ∷ (codes "magenta", Magenta)
    ∷ (codes "cyan", Cyan)
    ∷ (codes "grey", Grey)
    ∷ (codes "darkred", DarkRed)
    ∷ (codes "darkgreen", DarkGreen)
    ∷ (codes "darkyellow", DarkYellow)
    ∷ (codes "darkblue", DarkBlue)
    ∷ (codes "darkmagenta", DarkMagenta)
    ∷ (codes "darkcyan", DarkCyan)
    ∷ (codes "darkgrey", DarkGrey)
    ∷ []

-- the value of a hex digit
abbrev pub hex_digit : ℕ → ℕ
hex_digit c = if is_ascii_hexdigit c then digit_value c else 0

-- the byte of two hex digits
abbrev pub hex_pair : ℕ → ℕ → ℕ
hex_pair high low = hex_digit high * 16 + hex_digit low

-- the byte of one hex digit that is doubled
abbrev pub hex_twice : ℕ → ℕ
hex_twice digit = hex_pair digit digit

-- The color of 3 to 6 hex digits, cut 1 1 1, 2 1 1, 2 2 1 or 2 2 2. Another count has none.
abbrev pub hex_cut : List ℕ → Option Color
hex_cut (r ∷ g ∷ b ∷ []) = Some (Rgb (hex_twice r) (hex_twice g) (hex_twice b))
hex_cut (r ∷ s ∷ g ∷ b ∷ []) = Some (Rgb (hex_pair r s) (hex_twice g) (hex_twice b))
hex_cut (r ∷ s ∷ g ∷ h ∷ b ∷ []) = Some (Rgb (hex_pair r s) (hex_pair g h) (hex_twice b))
hex_cut (r ∷ s ∷ g ∷ h ∷ b ∷ c ∷ []) = Some (Rgb (hex_pair r s) (hex_pair g h) (hex_pair b c))
hex_cut _ = None

-- the color of a text of hex digits alone
abbrev pub hex_color : List ℕ → Option Color
hex_color digits = if list_all is_ascii_hexdigit digits then hex_cut digits else None

-- the gray of a level, if the level is a number; it may be too high
abbrev pub gray_color : Option ℕ → Result Color ParseColorError
gray_color None = Err Unrecognized
gray_color (Some level) = if nat_lt level 24 then Ok (AnsiValue (232 + level)) else Err (InvalidGreyLevel level)

-- the color of the palette with this number, if it is one
abbrev pub ansi_color : Option ℕ → Result Color ParseColorError
ansi_color None = Err Unrecognized
ansi_color (Some n) = Ok (AnsiValue n)

-- the color of these three amounts, if all are numbers
abbrev pub rgb_color : Option ℕ → Option ℕ → Option ℕ → Result Color ParseColorError
rgb_color (Some r) (Some g) (Some b) = Ok (Rgb r g b)
rgb_color _ _ _ = Err Unrecognized

-- two parts of a text, the first with a byte in front
abbrev pub front_with : ℕ → Option (List ℕ × List ℕ) → Option (List ℕ × List ℕ)
front_with b None = None
front_with b (Some parts) = Some (b ∷ parts.0, parts.1)

-- a text cut at its first byte c, which is left out
abbrev pub cut_at : ℕ → List ℕ → Option (List ℕ × List ℕ)
cut_at c [] = None
cut_at c (b ∷ bs) = if b == c then Some ([], bs) else front_with b (cut_at c bs)

-- a text with a byte in front
abbrev pub text_with : ℕ → Option (List ℕ) → Option (List ℕ)
text_with b None = None
text_with b (Some bs) = Some (b ∷ bs)

-- a text without its last byte, where that is c
abbrev pub without_last : ℕ → List ℕ → Option (List ℕ)
without_last c [] = None
without_last c (b ∷ []) = if b == c then Some [] else None
without_last c (b ∷ d ∷ bs) = text_with b (without_last c (d ∷ bs))

-- the color of a first number, and of two more with a comma between; whitespace may be after a comma
abbrev pub rgb_last : List ℕ → Option (List ℕ × List ℕ) → Result Color ParseColorError
rgb_last red None = Err Unrecognized
rgb_last red (Some parts) = rgb_color (number_below 256 red) (number_below 256 parts.0) (number_below 256 (trim_start parts.1))

-- the color of three numbers, where the text is cut at its first comma (44)
abbrev pub rgb_first : Option (List ℕ × List ℕ) → Result Color ParseColorError
rgb_first None = Err Unrecognized
rgb_first (Some parts) = rgb_last parts.0 (cut_at 44 (trim_start parts.1))

-- the color of three numbers with commas between
abbrev pub rgb_parts : List ℕ → Result Color ParseColorError
rgb_parts text = rgb_first (cut_at 44 text)

-- whether a name is that of the grays, in one of its four spellings
abbrev pub is_gray : List ℕ → Bool
is_gray name = is_named name (codes "gray") || is_named name (codes "grey") || is_named name (codes "grayscale") || is_named name (codes "greyscale")

-- the color that a word and what it has in brackets say
abbrev pub called_color : List ℕ → List ℕ → Result Color ParseColorError
called_color name inside =
    if is_named name (codes "ansi") then ansi_color (number_below 256 inside)
    else if is_gray name then gray_color (number_below 256 inside)
    else if is_named name (codes "rgb") then rgb_parts inside
    else Err Unrecognized

-- the color that a name and what is in its brackets say, where a text was cut at its first opening one
abbrev pub call_parts : Option (List ℕ × List ℕ) → Result Color ParseColorError
call_parts None = Err Unrecognized
call_parts (Some parts) = called_color parts.0 parts.1

-- the same, of a text whose closing bracket is off; an opening one is 40
abbrev pub call_front : Option (List ℕ) → Result Color ParseColorError
call_front None = Err Unrecognized
call_front (Some front) = call_parts (cut_at 40 front)

-- the color of a name, if the text is one; else what it says with its brackets (a closing one is 41)
abbrev pub named_or_called : Option Color → List ℕ → Result Color ParseColorError
named_or_called (Some color) text = Ok color
named_or_called None text = call_front (without_last 41 text)

-- the color that a text says: hex digits after a `#` (35), a name, or a name with brackets
abbrev pub color_of : List ℕ → Result Color ParseColorError
color_of [] = Err Unrecognized
color_of (b ∷ bs) = if b == 35 then ok_or (hex_color bs) Unrecognized else named_or_called (named color_names (b ∷ bs)) (b ∷ bs)

-- the name of a color as it is written
abbrev pub color_name : Color → List ℕ
color_name Black = codes "Black"
color_name DarkGrey = codes "DarkGrey"
color_name Red = codes "Red"
color_name DarkRed = codes "DarkRed"
color_name Green = codes "Green"
color_name DarkGreen = codes "DarkGreen"
color_name Yellow = codes "Yellow"
color_name DarkYellow = codes "DarkYellow"
color_name Blue = codes "Blue"
color_name DarkBlue = codes "DarkBlue"
color_name Magenta = codes "Magenta"
color_name DarkMagenta = codes "DarkMagenta"
color_name Cyan = codes "Cyan"
color_name DarkCyan = codes "DarkCyan"
color_name White = codes "White"
color_name Grey = codes "Grey"
color_name _ = codes ""

-- the text of a color; `Reset` has none
abbrev pub color_text : Color → List ℕ
color_text (Rgb r g b) = codes "rgb(" ++ decimal r ++ codes ", " ++ decimal g ++ codes ", " ++ decimal b ++ codes ")"
color_text (AnsiValue n) = codes "ansi(" ++ decimal n ++ codes ")"
color_text color = color_name color
