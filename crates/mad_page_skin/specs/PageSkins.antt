-- The skin of a page of Markdown.
use Rattle.std.specs.Prelude.{Bool, true, false, ◌&&◌, List, [], ◌∷◌, Option, Some, None, if◌then◌else◌}
use Rattle.mad_term.specs.declared.attribute.Attribute.TheVariants as attribute
use Rattle.mad_style.specs.CompoundStyles.{unstyled}
use Rattle.mad_style.specs.declared.compound_styles.CompoundStyle.{CompoundStyle}
use Rattle.mad_style.specs.StyledChars.{char_alone, char_style, styled_char}
use Rattle.mad_rows.specs.RowStyles.{sets_nothing, unstyled_titles, with_links}
use Rattle.mad_rows.specs.declared.row_skin.RowSkin.{RowSkin}
use Rattle.mad_layout.specs.RowSkins.{page_styles, row_skin}
use Rattle.mad_layout.specs.declared.skin.MadSkin.{MadSkin}
use Rattle.mad_dressing.specs.declared.page_marks.PageMarks.{PageMarks}
use Rattle.mad_page_skin.specs.Inks.{attributed}
use Rattle.mad_page_skin.specs.declared.page_skin.PageSkin.{PageSkin}
use Rattle.mad_page_skin.specs.declared.part_styles.CodeStyles.{CodeStyles}
use Rattle.mad_page_skin.specs.declared.text_room.TextRoom.{TextRoom}

-- tones in which nothing is set
abbrev pub unstyled_code : CodeStyles
unstyled_code =
    record {
      comment = unstyled;
      string = unstyled;
      number = unstyled;
      keyword = unstyled;
      name = unstyled;
      key = unstyled;
      inserted = unstyled;
      deleted = unstyled;
    }

-- nothing is set in any tone
abbrev pub sets_no_tone : CodeStyles → Bool
sets_no_tone code =
    sets_nothing code.comment && sets_nothing code.string && sets_nothing code.number && sets_nothing code.keyword && sets_nothing code.name && sets_nothing code.key
    && sets_nothing code.inserted && sets_nothing code.deleted

-- the styles of the tones, as rows have them; where none sets anything, code has no tones
abbrev pub code_tones : CodeStyles → Option (List CompoundStyle)
code_tones code =
    if sets_no_tone code then None else Some (code.comment ∷ code.string ∷ code.number ∷ code.keyword ∷ code.name ∷ code.key ∷ code.inserted ∷ code.deleted ∷ [])

-- what rows show of the skin of a page: they keep words whole
abbrev pub page_row_skin : PageSkin → RowSkin
page_row_skin skin =
    record (row_skin skin.text) {
      link = skin.link;
      picture = skin.picture;
      picture_sign = char_style skin.sign;
      whole_words = true;
      cell_blanks = skin.cell_blanks;
      page = skin.page;
      head = skin.head;
      titles = skin.titles;
      tones = code_tones skin.code;
    }

-- what stands in a page in a skin and isn't its text's own
abbrev pub page_marks : PageSkin → PageMarks
page_marks skin = record { headings = skin.headings; sign = char_alone skin.sign }

-- as many columns as there are
abbrev pub whole_room : TextRoom
whole_room = record { margin = 0; columns = 0 }

-- 100 columns at most, and two free ones on each side
abbrev pub readable_room : TextRoom
readable_room = record { margin = 2; columns = 100 }

-- The skin of a page by that of the smaller grammar: links look as there, headings have neither rules nor signs, words have no marks, and cells
-- no blanks beside them. What is new
-- has no style. In a pager numbers of links, hits and the last row are reversed, and the text has as many columns as there are.
abbrev pub page_skin_of : MadSkin → PageSkin
page_skin_of text =
    record {
      text = text;
      page = page_styles text;
      headings = record { rules = 0; signs = false; words = false };
      link = (with_links (row_skin text)).link;
      sign = styled_char unstyled 0x25A3;
      picture = unstyled;
      head = unstyled;
      titles = unstyled_titles;
      code = unstyled_code;
      number = attributed attribute.Reverse;
      hit = attributed attribute.Reverse;
      status = attributed attribute.Reverse;
      room = whole_room;
      cell_blanks = false;
    }
