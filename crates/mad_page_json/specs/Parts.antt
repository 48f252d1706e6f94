-- The parts of a page's skin under their keys, in byte order of these, and a skin with such parts.
use Rattle.std.specs.Prelude.{ℕ, List, [], ◌∷◌, codes, slice_get, unwrap_or}
use Rattle.mad_style.specs.declared.compound_styles.CompoundStyle.{CompoundStyle}
use Rattle.mad_style.specs.declared.styled_chars.StyledChar.{StyledChar}
use Rattle.mad_page_skin.specs.declared.page_skin.PageSkin.{PageSkin}
use Rattle.mad_page_skin.specs.declared.part_styles.CodeStyles.{CodeStyles}
use Rattle.mad_rows.specs.declared.page_styles.TitleStyles.{TitleStyles}

-- the parts that are styles alone
abbrev pub style_parts : PageSkin → List (List ℕ × CompoundStyle)
style_parts skin =
    (codes "caution", skin.titles.caution)
    ∷ (codes "code_comment", skin.code.comment)
    ∷ (codes "code_deleted", skin.code.deleted)
    ∷ (codes "code_inserted", skin.code.inserted)
    ∷ (codes "code_key", skin.code.key)
    ∷ (codes "code_keyword", skin.code.keyword)
    ∷ (codes "code_name", skin.code.name)
    ∷ (codes "code_number", skin.code.number)
    ∷ (codes "code_string", skin.code.string)
    ∷ (codes "head", skin.head)
    ∷ (codes "hit", skin.hit)
    ∷ (codes "important", skin.titles.important)
    ∷ (codes "link", skin.link)
    ∷ (codes "note", skin.titles.note)
    ∷ (codes "number", skin.number)
    ∷ (codes "picture", skin.picture)
    ∷ (codes "status", skin.status)
    ∷ (codes "tip", skin.titles.tip)
    ∷ (codes "warning", skin.titles.warning)
    ∷ []

-- the parts that are a style and a character
abbrev pub char_parts : PageSkin → List (List ℕ × StyledChar)
char_parts skin =
    (codes "below_first", skin.page.below_first)
    ∷ (codes "below_others", skin.page.below_others)
    ∷ (codes "caution_bar", skin.page.caution)
    ∷ (codes "done", skin.page.done)
    ∷ (codes "important_bar", skin.page.important)
    ∷ (codes "note_bar", skin.page.note)
    ∷ (codes "sign", skin.sign)
    ∷ (codes "task", skin.page.task)
    ∷ (codes "tip_bar", skin.page.tip)
    ∷ (codes "warning_bar", skin.page.warning)
    ∷ []

-- the element of this number, or else another
abbrev pub nth_or : {S : Type 0} → List S → ℕ → S → S
nth_or elements number other = unwrap_or (slice_get elements number) other

-- the styles of titles among these
abbrev pub with_titles : TitleStyles → List CompoundStyle → TitleStyles
with_titles titles styles =
    record {
      caution = nth_or styles 0 titles.caution;
      important = nth_or styles 11 titles.important;
      note = nth_or styles 13 titles.note;
      tip = nth_or styles 17 titles.tip;
      warning = nth_or styles 18 titles.warning;
    }

-- the tones of code among these
abbrev pub with_code : CodeStyles → List CompoundStyle → CodeStyles
with_code code styles =
    record {
      comment = nth_or styles 1 code.comment;
      deleted = nth_or styles 2 code.deleted;
      inserted = nth_or styles 3 code.inserted;
      key = nth_or styles 4 code.key;
      keyword = nth_or styles 5 code.keyword;
      name = nth_or styles 6 code.name;
      number = nth_or styles 7 code.number;
      string = nth_or styles 8 code.string;
    }

-- a skin with these styles, in the order of their keys; those past the last one stay
abbrev pub with_styles : PageSkin → List CompoundStyle → PageSkin
with_styles skin styles =
    record skin {
      titles = with_titles skin.titles styles;
      code = with_code skin.code styles;
      head = nth_or styles 9 skin.head;
      hit = nth_or styles 10 skin.hit;
      link = nth_or styles 12 skin.link;
      number = nth_or styles 14 skin.number;
      picture = nth_or styles 15 skin.picture;
      status = nth_or styles 16 skin.status;
    }

-- a skin with these characters, in the order of their keys; those past the last one stay
abbrev pub with_chars : PageSkin → List StyledChar → PageSkin
with_chars skin chars =
    record skin {
      sign = nth_or chars 6 skin.sign;
      page = record {
        below_first = nth_or chars 0 skin.page.below_first;
        below_others = nth_or chars 1 skin.page.below_others;
        caution = nth_or chars 2 skin.page.caution;
        done = nth_or chars 3 skin.page.done;
        important = nth_or chars 4 skin.page.important;
        note = nth_or chars 5 skin.page.note;
        task = nth_or chars 7 skin.page.task;
        tip = nth_or chars 8 skin.page.tip;
        warning = nth_or chars 9 skin.page.warning;
      };
    }
