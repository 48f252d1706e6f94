-- The skin without styles.
use Rattle.std.specs.Prelude.{true}
use Rattle.mad_style.specs.Borders.{rounded_borders}
use Rattle.mad_style.specs.CompoundStyles.{unstyled}
use Rattle.mad_style.specs.StyledChars.{styled_char}
use Rattle.mad_rows.specs.declared.page_styles.PageStyles.{PageStyles}
use Rattle.mad_layout.specs.Skins.{no_style_skin}
use Rattle.mad_layout.specs.declared.skin.MadSkin.{MadSkin}
use Rattle.mad_page_skin.specs.PageSkins.{page_skin_of}
use Rattle.mad_page_skin.specs.declared.page_skin.PageSkin.{PageSkin}

-- the characters of a page's text: quotes with a half block on the left, tables with round corners, a line for a rule
abbrev pub plain_text : MadSkin
plain_text =
    record no_style_skin {
      scrollbar = record { track = styled_char unstyled 0x2502; thumb = styled_char unstyled 0x2590 };
      quote_mark = styled_char unstyled 0x258C;
      horizontal_rule = styled_char unstyled 0x2500;
      table_border_chars = rounded_borders;
    }

-- what a page shows beside its text: ☐, ☑, ▌ for each alert, and below headings ═ and ─
abbrev pub plain_signs : PageStyles
plain_signs =
    record {
      task = styled_char unstyled 0x2610;
      done = styled_char unstyled 0x2611;
      note = styled_char unstyled 0x258C;
      tip = styled_char unstyled 0x258C;
      important = styled_char unstyled 0x258C;
      warning = styled_char unstyled 0x258C;
      caution = styled_char unstyled 0x258C;
      below_first = styled_char unstyled 0x2550;
      below_others = styled_char unstyled 0x2500;
    }

-- the skin without styles: the first two levels of headings have rules below, all others have signs in front, marks stand at words, and blanks beside cells
abbrev pub plain_skin : PageSkin
plain_skin = record (page_skin_of plain_text) { page = plain_signs; headings = record { rules = 2; signs = true; words = true }; cell_blanks = true }
