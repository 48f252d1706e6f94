-- The colors by number.
use Rattle.std.specs.Prelude.{ℕ, ◌<◌, Option, Some, None}
use Rattle.mad_term.specs.declared.color.Color.{Color}
use Rattle.mad_term.specs.declared.color.Color.TheVariants.{Reset, Black, DarkGrey, Red, DarkRed, Green, DarkGreen, Yellow, DarkYellow, Blue, DarkBlue, Magenta, DarkMagenta, Cyan, DarkCyan, White, Grey, Rgb, AnsiValue}

-- the number of a color in the terminal's palette; `Reset` and a mix of red, green and blue have none
abbrev pub color_number : Color → Option ℕ
color_number Reset = None
color_number Black = Some 0
color_number DarkGrey = Some 8
color_number Red = Some 9
color_number DarkRed = Some 1
color_number Green = Some 10
color_number DarkGreen = Some 2
color_number Yellow = Some 11
color_number DarkYellow = Some 3
color_number Blue = Some 12
color_number DarkBlue = Some 4
color_number Magenta = Some 13
color_number DarkMagenta = Some 5
color_number Cyan = Some 14
color_number DarkCyan = Some 6
color_number White = Some 15
color_number Grey = Some 7
color_number (Rgb r g b) = None
color_number (AnsiValue n) = Some n

-- the numbers of a color are bytes
abbrev pub IsColor : Color → Type 0
IsColor (Rgb r g b) = (r < 256) × (g < 256) × (b < 256)
IsColor (AnsiValue n) = n < 256
IsColor _ = Unit {0}

-- the numbers of a color are bytes, where there is a color
abbrev pub IsColorOrNone : Option Color → Type 0
IsColorOrNone None = Unit {0}
IsColorOrNone (Some color) = IsColor color
