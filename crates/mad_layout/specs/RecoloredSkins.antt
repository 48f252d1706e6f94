-- Skins whose parts take another color.
use Rattle.std.specs.Prelude.{map}
use Rattle.mad_term.specs.declared.color.Color.{Color}
use Rattle.mad_style.specs.Bars.{bar_on}
use Rattle.mad_style.specs.CompoundStyles.{foreground_set, background_set}
use Rattle.mad_style.specs.LineStyles.{line_in, line_on}
use Rattle.mad_style.specs.StyledChars.{char_in, char_on}
use Rattle.mad_layout.specs.declared.skin.MadSkin.{MadSkin}

-- a skin whose headers have another foreground
abbrev pub headers_in : Color → MadSkin → MadSkin
headers_in color skin = record skin { headers = map (line_in color) skin.headers }

-- a skin whose headers have another background
abbrev pub headers_on : Color → MadSkin → MadSkin
headers_on color skin = record skin { headers = map (line_on color) skin.headers }

-- a skin in which all text has another foreground; that of code, of tables and of the numbers of items stays
abbrev pub text_in : Color → MadSkin → MadSkin
text_in color skin =
    record skin {
      paragraph = line_in color skin.paragraph;
      bold = foreground_set skin.bold color;
      italic = foreground_set skin.italic color;
      strikeout = foreground_set skin.strikeout color;
      headers = map (line_in color) skin.headers;
      bullet = char_in color skin.bullet;
      quote_mark = char_in color skin.quote_mark;
      horizontal_rule = char_in color skin.horizontal_rule;
      ellipsis = foreground_set skin.ellipsis color;
    }

-- a skin in which all text, tables and scroll bars have another background; that of code and of the numbers of items stays
abbrev pub text_on : Color → MadSkin → MadSkin
text_on color skin =
    record skin {
      paragraph = line_on color skin.paragraph;
      bold = background_set skin.bold color;
      italic = background_set skin.italic color;
      strikeout = background_set skin.strikeout color;
      headers = map (line_on color) skin.headers;
      scrollbar = bar_on color skin.scrollbar;
      table = line_on color skin.table;
      bullet = char_on color skin.bullet;
      quote_mark = char_on color skin.quote_mark;
      horizontal_rule = char_on color skin.horizontal_rule;
      ellipsis = background_set skin.ellipsis color;
    }

-- a skin whose headers, paragraphs and rules have another background
abbrev pub lines_on : Color → MadSkin → MadSkin
lines_on color skin =
    record skin {
      paragraph = line_on color skin.paragraph;
      headers = map (line_on color) skin.headers;
      horizontal_rule = char_on color skin.horizontal_rule;
    }
