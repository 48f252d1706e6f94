-- Parts of the skins that are made.
use Rattle.std.specs.Prelude.{List, Some, None, ◌∷◌, replicate}
use Rattle.mad_md.specs.declared.alignment.Alignment.TheVariants.{Unspecified, Center}
use Rattle.mad_term.specs.declared.attribute.Attribute.TheVariants as attribute
use Rattle.mad_term.specs.declared.color.Color.TheVariants.{AnsiValue}
use Rattle.mad_style.specs.declared.compound_styles.CompoundStyle.{CompoundStyle}
use Rattle.mad_style.specs.declared.line_styles.LineStyle.{LineStyle}
use Rattle.mad_style.specs.declared.styled_chars.StyledChar.{StyledChar}
use Rattle.mad_term.specs.AttributeSets.{no_attributes, only}
use Rattle.mad_style.specs.CompoundStyles.{text_style, unstyled, attribute_added}
use Rattle.mad_style.specs.LineStyles.{unmargined, unstyled_line}
use Rattle.mad_style.specs.StyledChars.{styled_char}

-- light gray (17 of 23) on dark gray (3): gray n is the palette's 232 + n
abbrev pub code_style : CompoundStyle
code_style = text_style (Some (AnsiValue 249)) (Some (AnsiValue 235)) no_attributes

-- headers are underlined
abbrev pub header_line : LineStyle
header_line = record unstyled_line { compound_style = attribute_added unstyled attribute.Underlined }

-- the first header is bold and centered too
abbrev pub first_header_line : LineStyle
first_header_line = record header_line { compound_style = attribute_added header_line.compound_style attribute.Bold; align = Center }

-- the headers' lines
abbrev pub default_header_lines : List LineStyle
default_header_lines = first_header_line ∷ replicate 7 header_line

-- tables are gray: gray n is the palette's 232 + n
abbrev pub default_table : LineStyle
default_table = unmargined (text_style (Some (AnsiValue 239)) None no_attributes) Unspecified

-- the mark of quotes: a bold half block in gray 12
abbrev pub default_quote : StyledChar
default_quote = styled_char (text_style (Some (AnsiValue 244)) None (only attribute.Bold)) 0x2590
