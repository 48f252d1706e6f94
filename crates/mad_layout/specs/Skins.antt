-- The skins that are made.
use Rattle.std.specs.Prelude.{None, false, replicate}
use Rattle.mad_term.specs.declared.attribute.Attribute.TheVariants as attribute
use Rattle.mad_term.specs.declared.color.Color.TheVariants.{AnsiValue}
use Rattle.mad_md.specs.declared.alignment.Alignment.TheVariants.{Unspecified}
use Rattle.mad_style.specs.declared.kinds.ListItemsIndentationMode.TheVariants.{Block}
use Rattle.mad_term.specs.AttributeSets.{only}
use Rattle.mad_style.specs.Borders.{standard_borders}
use Rattle.mad_style.specs.CompoundStyles.{text_style, unstyled}
use Rattle.mad_style.specs.Bars.{default_scrollbar}
use Rattle.mad_style.specs.LineStyles.{unmargined, unstyled_line}
use Rattle.mad_style.specs.OrderedItems.{default_item, unstyled_item}
use Rattle.mad_style.specs.StyledChars.{styled_char, colored_char}
use Rattle.mad_layout.specs.SkinParts.{code_style, default_header_lines, default_quote, default_table}
use Rattle.mad_layout.specs.declared.skin.MadSkin.{MadSkin}

-- The default skin: bold, italic and struck out text as such, code light on dark, headers underlined and the first one bold
-- and centered; rules in gray 6, tables in gray 7, bullets in gray 8, the dots of numbers and the bold mark of quotes in gray 12.
abbrev pub default_skin : MadSkin
default_skin =
    record {
      paragraph = unstyled_line;
      bold = text_style None None (only attribute.Bold);
      italic = text_style None None (only attribute.Italic);
      strikeout = text_style None None (only attribute.CrossedOut);
      inline_code = code_style;
      code_block = unmargined code_style Unspecified;
      headers = default_header_lines;
      scrollbar = default_scrollbar;
      table = default_table;
      bullet = colored_char (AnsiValue 240) 0x2022;
      ordered_item_styles = replicate 4 default_item;
      quote_mark = default_quote;
      horizontal_rule = colored_char (AnsiValue 238) 0x2015;
      ellipsis = unstyled;
      table_border_chars = standard_borders;
      list_items_indentation_mode = Block;
      whole_words = false;
    }

-- the same characters without style; the scroll bar alone stays as it is
abbrev pub no_style_skin : MadSkin
no_style_skin =
    record {
      paragraph = unstyled_line;
      bold = unstyled;
      italic = unstyled;
      strikeout = unstyled;
      inline_code = unstyled;
      code_block = unstyled_line;
      headers = replicate 8 unstyled_line;
      scrollbar = default_scrollbar;
      table = unstyled_line;
      bullet = styled_char unstyled 0x2022;
      ordered_item_styles = replicate 4 unstyled_item;
      quote_mark = styled_char unstyled 0x2590;
      horizontal_rule = styled_char unstyled 0x2015;
      ellipsis = unstyled;
      table_border_chars = standard_borders;
      list_items_indentation_mode = Block;
      whole_words = false;
    }
