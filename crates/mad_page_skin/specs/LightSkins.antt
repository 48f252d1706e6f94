-- The skin for a light background.
use Rattle.std.specs.Prelude.{false, true, replicate}
use Rattle.mad_md.specs.declared.alignment.Alignment.TheVariants.{Unspecified}
use Rattle.mad_term.specs.declared.attribute.Attribute.TheVariants as attribute
use Rattle.mad_style.specs.LineStyles.{unmargined}
use Rattle.mad_rows.specs.declared.page_styles.PageStyles.{PageStyles}
use Rattle.mad_layout.specs.declared.skin.MadSkin.{MadSkin}
use Rattle.mad_page_skin.specs.Inks.{attributed, colored, colored_as, drawn, drawn_bar, headers_in, item_in, on, on_as}
use Rattle.mad_page_skin.specs.PageSkins.{readable_room}
use Rattle.mad_page_skin.specs.PlainSkins.{plain_text}
use Rattle.mad_page_skin.specs.declared.page_skin.PageSkin.{PageSkin}
use Rattle.mad_page_skin.specs.declared.part_styles.CodeStyles.{CodeStyles}
use Rattle.mad_rows.specs.declared.page_styles.TitleStyles.{TitleStyles}

-- the styles of a text's parts
abbrev pub light_text : MadSkin
light_text =
    record plain_text {
      bold = attributed attribute.Bold;
      italic = attributed attribute.Italic;
      strikeout = attributed attribute.CrossedOut;
      inline_code = on 125 254;
      code_block = unmargined (on 236 254) Unspecified;
      headers = headers_in (colored_as 55 attribute.Bold) (colored_as 24 attribute.Bold) (colored_as 22 attribute.Bold) (colored_as 94 attribute.Bold) (colored 89) (colored_as 240 attribute.Italic);
      scrollbar = drawn_bar 243 252;
      table = unmargined (colored 245) Unspecified;
      bullet = drawn 94 0x2022;
      ordered_item_styles = replicate 4 (item_in (colored 94));
      quote_mark = drawn 67 0x258C;
      horizontal_rule = drawn 245 0x2500;
    }

-- how what a page shows beside its text looks
abbrev pub light_signs : PageStyles
light_signs =
    record {
      task = drawn 94 0x2610;
      done = drawn 22 0x2611;
      note = drawn 25 0x258C;
      tip = drawn 22 0x258C;
      important = drawn 90 0x258C;
      warning = drawn 94 0x258C;
      caution = drawn 124 0x258C;
      below_first = drawn 55 0x2501;
      below_others = drawn 67 0x2500;
    }

-- the words that say what an alert is
abbrev pub light_titles : TitleStyles
light_titles =
    record {
      note = colored_as 25 attribute.Bold;
      tip = colored_as 22 attribute.Bold;
      important = colored_as 90 attribute.Bold;
      warning = colored_as 94 attribute.Bold;
      caution = colored_as 124 attribute.Bold;
    }

-- the tones of code
abbrev pub light_code : CodeStyles
light_code =
    record {
      comment = on_as 241 254 attribute.Italic;
      string = on 22 254;
      number = on 88 254;
      keyword = on 91 254;
      name = on 24 254;
      key = on 58 254;
      inserted = on 22 254;
      deleted = on 124 254;
    }

-- the skin for a light background: the first two levels of headings have rules below
abbrev pub light_page_skin : PageSkin
light_page_skin =
    record {
      text = light_text;
      page = light_signs;
      headings = record { rules = 2; signs = false; words = false };
      link = colored_as 26 attribute.Underlined;
      sign = drawn 240 0x25A3;
      picture = colored 240;
      head = colored_as 24 attribute.Bold;
      titles = light_titles;
      code = light_code;
      number = on_as 16 221 attribute.Bold;
      hit = on 16 221;
      status = on 236 251;
      room = readable_room;
      cell_blanks = true;
    }
