-- The skin of a page that a value says.
use Rattle.std.specs.Prelude.{ℕ, ◌||◌, Bool, List, [], ◌∷◌, ◌++◌, Option, Some, None, Result, Ok, Err, codes, if◌then◌else◌}
use Rattle.std.specs.Str.{bytes_eq}
use Rattle.serde_json.specs.Data.{Data, Members, member, no_members}
use Rattle.serde_json.specs.Find.{as_object, get}
use Rattle.mad_parse.specs.TokenStyles.{style_of, styled_char_of}
use Rattle.mad_style.specs.declared.compound_styles.CompoundStyle.{CompoundStyle}
use Rattle.mad_style.specs.declared.styled_chars.StyledChar.{StyledChar}
use Rattle.mad_dressing.specs.declared.heading_marks.HeadingMarks.{HeadingMarks}
use Rattle.mad_layout.specs.declared.skin.MadSkin.{MadSkin}
use Rattle.mad_page_skin.specs.PageSkins.{page_skin_of}
use Rattle.mad_page_skin.specs.declared.page_skin.PageSkin.{PageSkin}
use Rattle.mad_page_skin.specs.declared.text_room.TextRoom.{TextRoom}
use Rattle.mad_json.specs.Faults.{SkinFault, at_key, wrong_kind}
use Rattle.mad_json.specs.Reading.{skin_read}
use Rattle.mad_json.specs.Texts.{and_next}
use Rattle.mad_page_json.specs.Lookups.{choice_under, headings_under, parts_under, room_under}
use Rattle.mad_page_json.specs.Named.{has_key}
use Rattle.mad_page_json.specs.Parts.{char_parts, style_parts, with_chars, with_styles}

-- a skin with these parts
abbrev pub page_of : PageSkin → HeadingMarks → TextRoom → Bool → List StyledChar → List CompoundStyle → PageSkin
page_of skin headings room cells chars styles = with_styles (with_chars (record skin { headings = headings; room = room; cell_blanks = cells }) chars) styles

-- a skin with the parts that an object says, each under its key; a drawn character that isn't told is `*`
abbrev pub page_under : PageSkin → Data → Result PageSkin SkinFault
page_under skin d =
    and_next (headings_under d skin.headings) (λ headings.
    and_next (room_under d skin.room) (λ room.
    and_next (choice_under (codes "cell_blanks") d skin.cell_blanks) (λ cells.
    and_next (parts_under (styled_char_of 42) d (char_parts skin) []) (λ chars. and_next (parts_under style_of d (style_parts skin) []) (λ styles. Ok (page_of skin headings room cells chars styles))))))

-- a key names one of the members before the parts
abbrev pub is_first_key : List ℕ → Bool
is_first_key key =
    bytes_eq key (codes "cell_blanks") || (bytes_eq key (codes "columns") || (bytes_eq key (codes "margin") || (bytes_eq key (codes "marks") || (bytes_eq key (codes "rules") || bytes_eq key (codes "signs")))))

-- a key names a part of a page
abbrev pub is_page_key : PageSkin → List ℕ → Bool
is_page_key skin key = has_key key (style_parts skin) || (has_key key (char_parts skin) || is_first_key key)

-- the keys of members that name no part of a page, in byte order
abbrev pub unknown_in : PageSkin → Members → List (List ℕ)
unknown_in skin no_members = []
unknown_in skin (member key d ms) = (if is_page_key skin key then [] else key ∷ []) ++ unknown_in skin ms

-- keys but that of the page
abbrev pub others : List (List ℕ) → List (List ℕ)
others [] = []
others (key ∷ keys) = (if bytes_eq key (codes "page") then [] else key ∷ []) ++ others keys

-- the skin of a page whose text looks so, with the parts that an object says, and keys that name no part
abbrev pub page_object : MadSkin → List (List ℕ) → Data → Option Members → Result (PageSkin × List (List ℕ)) SkinFault
page_object text unknown d None = Err (at_key (codes "page") wrong_kind)
page_object text unknown d (Some ms) = and_next (page_under (page_skin_of text) d) (λ skin. Ok (skin, others unknown ++ unknown_in skin ms))

-- the same, where there may be a value that says parts
abbrev pub page_beside : MadSkin → List (List ℕ) → Option Data → Result (PageSkin × List (List ℕ)) SkinFault
page_beside text unknown None = Ok (page_skin_of text, unknown)
page_beside text unknown (Some d) = page_object text unknown d (as_object d)

-- the skin of a page that a value says and the keys that name no part of it, or the first fault
abbrev pub page_skin_read : Data → Result (PageSkin × List (List ℕ)) SkinFault
page_skin_read d = and_next (skin_read d) (λ read. page_beside read.0 read.1 (get (codes "page") d))
