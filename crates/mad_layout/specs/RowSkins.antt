-- What rows show of a skin.
use Rattle.std.specs.Prelude.{None, false}
use Rattle.mad_style.specs.CompoundStyles.{unstyled}
use Rattle.mad_style.specs.StyledChars.{shown_as}
use Rattle.mad_rows.specs.RowStyles.{unstyled_titles}
use Rattle.mad_rows.specs.declared.page_styles.PageStyles.{PageStyles}
use Rattle.mad_rows.specs.declared.row_skin.RowSkin.{RowSkin}
use Rattle.mad_layout.specs.declared.skin.MadSkin.{MadSkin}

-- what a page shows beside its text looks as what is there for it: boxes as bullets, the bars of alerts as those of quotes, and what is below a heading as
-- a rule
abbrev pub page_styles : MadSkin → PageStyles
page_styles skin =
    record {
      task = shown_as skin.bullet 9744;
      done = shown_as skin.bullet 9745;
      note = skin.quote_mark;
      tip = skin.quote_mark;
      important = skin.quote_mark;
      warning = skin.quote_mark;
      caution = skin.quote_mark;
      below_first = skin.horizontal_rule;
      below_others = skin.horizontal_rule;
    }

-- all but its scroll bar; links, pictures, heads of tables and titles of alerts have no style of their own, and code has no tones
abbrev pub row_skin : MadSkin → RowSkin
row_skin skin =
    record {
      paragraph = skin.paragraph;
      bold = skin.bold;
      italic = skin.italic;
      strikeout = skin.strikeout;
      inline_code = skin.inline_code;
      link = unstyled;
      picture = unstyled;
      picture_sign = unstyled;
      code_block = skin.code_block;
      headers = skin.headers;
      table = skin.table;
      bullet = skin.bullet;
      ordered_item_styles = skin.ordered_item_styles;
      quote_mark = skin.quote_mark;
      horizontal_rule = skin.horizontal_rule;
      ellipsis = skin.ellipsis;
      table_border_chars = skin.table_border_chars;
      list_items_indentation_mode = skin.list_items_indentation_mode;
      whole_words = skin.whole_words;
      cell_blanks = false;
      page = page_styles skin;
      head = unstyled;
      titles = unstyled_titles;
      tones = None;
    }
