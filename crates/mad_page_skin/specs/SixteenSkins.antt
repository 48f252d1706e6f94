-- The skin for the terminal's own sixteen colors.
use Rattle.std.specs.Prelude.{false, true, replicate}
use Rattle.mad_term.specs.declared.attribute.Attribute.TheVariants as attribute
use Rattle.mad_style.specs.CompoundStyles.{unstyled}
use Rattle.mad_style.specs.StyledChars.{styled_char}
use Rattle.mad_rows.specs.declared.page_styles.PageStyles.{PageStyles}
use Rattle.mad_layout.specs.declared.skin.MadSkin.{MadSkin}
use Rattle.mad_page_skin.specs.Inks.{attributed, colored, colored_as, drawn, headers_in, item_in}
use Rattle.mad_page_skin.specs.PageSkins.{readable_room}
use Rattle.mad_page_skin.specs.PlainSkins.{plain_text}
use Rattle.mad_page_skin.specs.declared.page_skin.PageSkin.{PageSkin}
use Rattle.mad_page_skin.specs.declared.part_styles.CodeStyles.{CodeStyles}
use Rattle.mad_rows.specs.declared.page_styles.TitleStyles.{TitleStyles}

-- the styles of a text's parts
abbrev pub sixteen_text : MadSkin
sixteen_text =
    record plain_text {
      bold = attributed attribute.Bold;
      italic = attributed attribute.Italic;
      strikeout = attributed attribute.CrossedOut;
      inline_code = colored 5;
      headers = headers_in (colored_as 5 attribute.Bold) (attributed attribute.Bold) (colored_as 5 attribute.Bold) (attributed attribute.Bold) (colored 5) (attributed attribute.Italic);
      bullet = drawn 6 0x2022;
      ordered_item_styles = replicate 4 (item_in (attributed attribute.Bold));
      quote_mark = drawn 6 0x258C;
    }

-- how what a page shows beside its text looks
abbrev pub sixteen_signs : PageStyles
sixteen_signs =
    record {
      task = drawn 6 0x2610;
      done = drawn 2 0x2611;
      note = drawn 6 0x258C;
      tip = drawn 2 0x258C;
      important = drawn 5 0x258C;
      warning = drawn 1 0x258C;
      caution = drawn 1 0x258C;
      below_first = drawn 5 0x2501;
      below_others = styled_char unstyled 0x2500;
    }

-- the words that say what an alert is
abbrev pub sixteen_titles : TitleStyles
sixteen_titles =
    record {
      note = attributed attribute.Bold;
      tip = attributed attribute.Bold;
      important = attributed attribute.Bold;
      warning = attributed attribute.Bold;
      caution = attributed attribute.Bold;
    }

-- the tones of code
abbrev pub sixteen_code : CodeStyles
sixteen_code =
    record {
      comment = attributed attribute.Italic;
      string = colored 5;
      number = colored 5;
      keyword = attributed attribute.Bold;
      name = unstyled;
      key = attributed attribute.Bold;
      inserted = colored 2;
      deleted = colored 1;
    }

-- the skin for the terminal's own sixteen colors: the first two levels of headings have rules below
abbrev pub sixteen_page_skin : PageSkin
sixteen_page_skin =
    record {
      text = sixteen_text;
      page = sixteen_signs;
      headings = record { rules = 2; signs = false; words = false };
      link = attributed attribute.Underlined;
      sign = drawn 6 0x25A3;
      picture = attributed attribute.Italic;
      head = attributed attribute.Bold;
      titles = sixteen_titles;
      code = sixteen_code;
      number = attributed attribute.Reverse;
      hit = attributed attribute.Reverse;
      status = attributed attribute.Reverse;
      room = readable_room;
      cell_blanks = true;
    }
