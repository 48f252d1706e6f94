-- The value that the parts of a page's skin are written as.
use Rattle.std.specs.Prelude.{◌≡◌, ℕ, Bool, List, [], ◌∷◌, codes}
use Rattle.serde_json.specs.Data.{Data, Members, boolean, no_members, number, object, put, unsigned}
use Rattle.mad_dressing.specs.declared.heading_marks.HeadingMarks.{HeadingMarks}
use Rattle.mad_page_skin.specs.declared.page_skin.PageSkin.{PageSkin}
use Rattle.mad_page_skin.specs.declared.text_room.TextRoom.{TextRoom}
use Rattle.mad_json.specs.Written.{IsDataOf, char_data, style_data}
use Rattle.mad_page_json.specs.Parts.{char_parts, style_parts}

-- members with parts, each under its key
abbrev pub with_parts : {S : Type 0} → (S → Data) → List (List ℕ × S) → Members → Members
with_parts shown [] members = members
with_parts shown (named ∷ parts) members = with_parts shown parts (put named.0 (shown named.1) members)

-- members with what says which headings have rules and signs, and whether marks stand at words
abbrev pub with_headings : HeadingMarks → Members → Members
with_headings headings members =
    put (codes "marks") (boolean headings.words) (put (codes "signs") (boolean headings.signs) (put (codes "rules") (number (unsigned headings.rules)) members))

-- members with the columns that a pager gives the text
abbrev pub with_room : TextRoom → Members → Members
with_room room members = put (codes "margin") (number (unsigned room.margin)) (put (codes "columns") (number (unsigned room.columns)) members)

-- members with what says whether a blank is at both sides of each cell
abbrev pub with_cells : Bool → Members → Members
with_cells cells members = put (codes "cell_blanks") (boolean cells) members

-- the members before the parts
abbrev pub first_members : PageSkin → Members
first_members skin = with_cells skin.cell_blanks (with_room skin.room (with_headings skin.headings no_members))

-- the object of a skin
abbrev pub page_data : PageSkin → Data
page_data skin = object (with_parts style_data (style_parts skin) (with_parts char_data (char_parts skin) (first_members skin)))

-- an object with that of a page beside its other members
abbrev pub with_page : Data → Data → Data
with_page (object members) page = object (put (codes "page") page members)
with_page d page = d

-- a value is that of a skin: the value of its text's skin, with the object of its page
abbrev pub IsPageDataOf : PageSkin → Data → Type 0
IsPageDataOf skin d = (text : Data) × IsDataOf skin.text text × (d ≡ with_page text (page_data skin))
