-- Scroll bars.
use Rattle.std.specs.Prelude.{unwrap_or}
use Rattle.mad_term.specs.declared.color.Color.{Color}
use Rattle.mad_term.specs.declared.color.Color.TheVariants.{AnsiValue}
use Rattle.mad_style.specs.StyledChars.{char_style, char_alone, char_on, colored_char}
use Rattle.mad_style.specs.declared.scroll_bars.ScrollBarStyle.{ScrollBarStyle}
use Rattle.mad_style.specs.declared.styled_chars.StyledChar.{StyledChar}

-- a light gray thumb (21) on a dark gray track (5), both half blocks: gray n is the palette's 232 + n
abbrev pub default_scrollbar : ScrollBarStyle
default_scrollbar = record { track = colored_char (AnsiValue 237) 0x2590; thumb = colored_char (AnsiValue 253) 0x2590 }

-- the bar of one character: its foreground is the thumb's color, its background the track's; where one is absent that of the
-- default bar
abbrev pub bar_of_char : StyledChar → ScrollBarStyle
bar_of_char c =
    record {
      track = colored_char (unwrap_or (char_style c).object_style.background_color (AnsiValue 237)) (char_alone c);
      thumb = colored_char (unwrap_or (char_style c).object_style.foreground_color (AnsiValue 253)) (char_alone c);
    }

-- a bar with another background
abbrev pub bar_on : Color → ScrollBarStyle → ScrollBarStyle
bar_on color bar = record { track = char_on color bar.track; thumb = char_on color bar.thumb }
