-- The skin for a dark background.
use Rattle.std.specs.Prelude.{false, true, replicate}
use Rattle.mad_md.specs.declared.alignment.Alignment.TheVariants.{Unspecified}
use Rattle.mad_term.specs.declared.attribute.Attribute.TheVariants as attribute
use Rattle.mad_style.specs.LineStyles.{unmargined}
use Rattle.mad_rows.specs.declared.page_styles.PageStyles.{PageStyles}
use Rattle.mad_layout.specs.declared.skin.MadSkin.{MadSkin}
use Rattle.mad_page_skin.specs.Inks.{attributed, colored, colored_as, drawn, drawn_bar, headers_in, item_in, on, on_as}
use Rattle.mad_page_skin.specs.PageSkins.{readable_room}
use Rattle.mad_page_skin.specs.PlainSkins.{plain_text}
use Rattle.mad_page_skin.specs.declared.page_skin.PageSkin.{PageSkin}
use Rattle.mad_page_skin.specs.declared.part_styles.CodeStyles.{CodeStyles}
use Rattle.mad_rows.specs.declared.page_styles.TitleStyles.{TitleStyles}

-- the styles of a text's parts
abbrev pub dark_text : MadSkin
dark_text =
    record plain_text {
      bold = attributed attribute.Bold;
      italic = attributed attribute.Italic;
      strikeout = attributed attribute.CrossedOut;
      inline_code = on 216 237;
      code_block = unmargined (on 252 237) Unspecified;
      headers = headers_in (colored_as 221 attribute.Bold) (colored_as 80 attribute.Bold) (colored_as 114 attribute.Bold) (colored_as 183 attribute.Bold) (colored 180) (colored_as 248 attribute.Italic);
      scrollbar = drawn_bar 246 239;
      table = unmargined (colored 243) Unspecified;
      bullet = drawn 215 0x2022;
      ordered_item_styles = replicate 4 (item_in (colored 215));
      quote_mark = drawn 110 0x258C;
      horizontal_rule = drawn 243 0x2500;
    }

-- how what a page shows beside its text looks
abbrev pub dark_signs : PageStyles
dark_signs =
    record {
      task = drawn 215 0x2610;
      done = drawn 114 0x2611;
      note = drawn 75 0x258C;
      tip = drawn 114 0x258C;
      important = drawn 177 0x258C;
      warning = drawn 221 0x258C;
      caution = drawn 210 0x258C;
      below_first = drawn 221 0x2501;
      below_others = drawn 66 0x2500;
    }

-- the words that say what an alert is
abbrev pub dark_titles : TitleStyles
dark_titles =
    record {
      note = colored_as 75 attribute.Bold;
      tip = colored_as 114 attribute.Bold;
      important = colored_as 177 attribute.Bold;
      warning = colored_as 221 attribute.Bold;
      caution = colored_as 210 attribute.Bold;
    }

-- the tones of code
abbrev pub dark_code : CodeStyles
dark_code =
    record {
      comment = on_as 248 237 attribute.Italic;
      string = on 150 237;
      number = on 216 237;
      keyword = on 183 237;
      name = on 117 237;
      key = on 222 237;
      inserted = on 114 237;
      deleted = on 210 237;
    }

-- the skin for a dark background: the first two levels of headings have rules below
abbrev pub dark_page_skin : PageSkin
dark_page_skin =
    record {
      text = dark_text;
      page = dark_signs;
      headings = record { rules = 2; signs = false; words = false };
      link = colored_as 75 attribute.Underlined;
      sign = drawn 248 0x25A3;
      picture = colored 248;
      head = colored_as 80 attribute.Bold;
      titles = dark_titles;
      code = dark_code;
      number = on_as 16 221 attribute.Bold;
      hit = on 16 221;
      status = on 252 239;
      room = readable_room;
      cell_blanks = true;
    }
