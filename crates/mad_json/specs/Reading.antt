-- The skin that a value says: the members of an object in byte order of their keys, and the first fault.
use Rattle.std.specs.Prelude.{ℕ, Bool, true, false, List, [], ◌∷◌, ◌++◌, replicate, slice_index_or, slice_set, Option, Some, None, unwrap_or, Result, Ok, Err, if◌then◌else◌}
use Rattle.std.specs.Result.{result_map_both}
use Rattle.mad_style.specs.declared.borders.TableBorderChars.{TableBorderChars}
use Rattle.mad_style.specs.Borders.{borders_named}
use Rattle.mad_parse.specs.TokenStyles.{style_of, line_style_of, styled_char_of}
use Rattle.mad_layout.specs.Skins.{default_skin}
use Rattle.mad_layout.specs.declared.skin.MadSkin.{MadSkin}
use Rattle.serde_json.specs.Data.{Data, Members, no_members, member}
use Rattle.serde_json.specs.Find.{as_str, as_object}
use Rattle.serde_json.specs.Written.{has_float}
use Rattle.mad_json.specs.Faults.{ValueFault, wrong_kind, SkinFault, not_object, at_key, two_names}
use Rattle.mad_json.specs.Fields.{field_named, field_index}
use Rattle.mad_json.specs.Lists.{headers_said, ordered_items_said}
use Rattle.mad_json.specs.Modes.{mode_said}
use Rattle.mad_json.specs.ScrollBars.{scrollbar_said}
use Rattle.mad_json.specs.Texts.{value_said, made, and_next}
use Rattle.mad_json.specs.declared.fields.Field.{Field}
use Rattle.mad_json.specs.declared.fields.Field.TheVariants.{Bold, Italic, Strikeout, InlineCode, Ellipsis, Bullet, QuoteMark, HorizontalRule, ScrollBar, Paragraph, CodeBlock, Table, Headers, OrderedItems, TableBorders, IndentationMode}

-- borders by a name, where there is one; those of no known name stay
abbrev pub borders_said : TableBorderChars → Option (List ℕ) → Result TableBorderChars ValueFault
borders_said old None = Err wrong_kind
borders_said old (Some name) = Ok (unwrap_or (borders_named name) old)

-- a skin with one part as a value says it; a drawn character that isn't told is `*`
abbrev pub part_said : Field → Data → MadSkin → Result MadSkin ValueFault
part_said Bold d skin = made (λ x. record skin { bold = x }) (value_said style_of d)
part_said Italic d skin = made (λ x. record skin { italic = x }) (value_said style_of d)
part_said Strikeout d skin = made (λ x. record skin { strikeout = x }) (value_said style_of d)
part_said InlineCode d skin = made (λ x. record skin { inline_code = x }) (value_said style_of d)
part_said Ellipsis d skin = made (λ x. record skin { ellipsis = x }) (value_said style_of d)
part_said Bullet d skin = made (λ x. record skin { bullet = x }) (value_said (styled_char_of 42) d)
part_said QuoteMark d skin = made (λ x. record skin { quote_mark = x }) (value_said (styled_char_of 42) d)
part_said HorizontalRule d skin = made (λ x. record skin { horizontal_rule = x }) (value_said (styled_char_of 42) d)
part_said ScrollBar d skin = made (λ x. record skin { scrollbar = x }) (scrollbar_said d)
part_said Paragraph d skin = made (λ x. record skin { paragraph = x }) (value_said line_style_of d)
part_said CodeBlock d skin = made (λ x. record skin { code_block = x }) (value_said line_style_of d)
part_said Table d skin = made (λ x. record skin { table = x }) (value_said line_style_of d)
part_said Headers d skin = made (λ x. record skin { headers = x }) (headers_said d skin.headers)
part_said OrderedItems d skin = made (λ x. record skin { ordered_item_styles = x }) (ordered_items_said d skin.ordered_item_styles)
part_said TableBorders d skin = made (λ x. record skin { table_border_chars = x }) (borders_said skin.table_border_chars (as_str d))
part_said IndentationMode d skin = made (λ x. record skin { list_items_indentation_mode = x }) (mode_said d)

-- what was read so far: the skin, which of its parts a key named, and the keys that name none
pub record Found : Type 0 where
  pub skin : MadSkin
  pub seen : List Bool
  pub unknown : List (List ℕ)

-- nothing was read yet: the default skin
abbrev pub nothing_found : Found
nothing_found = record { skin = default_skin; seen = replicate 16 false; unknown = [] }

-- a part was named before
abbrev pub is_seen : Field → List Bool → Bool
is_seen field seen = slice_index_or seen (field_index field) false

-- a part is named now
abbrev pub now_seen : Field → List Bool → List Bool
now_seen field seen = slice_set seen (field_index field) true

-- a skin with a part, or the fault of that part's key
abbrev pub found_part : List ℕ → List Bool → List (List ℕ) → Result MadSkin ValueFault → Result Found SkinFault
found_part key seen unknown said = result_map_both (λ skin. record { skin = skin; seen = seen; unknown = unknown }) (at_key key) said

-- the value of a key, which may hold no float, however deep
abbrev pub value_read : Option Field → List ℕ → Data → Found → Result Found SkinFault
value_read None key d found = Ok (record { skin = found.skin; seen = found.seen; unknown = found.unknown ++ key ∷ [] })
value_read (Some field) key d found = found_part key (now_seen field found.seen) found.unknown (part_said field d found.skin)

-- a key names a part that was named before
abbrev pub names_again : Option Field → List Bool → Bool
names_again None seen = false
names_again (Some field) seen = is_seen field seen

-- one member: a second name is refused before its value is read
abbrev pub member_read : List ℕ → Data → Found → Result Found SkinFault
member_read key d found =
    if names_again (field_named key) found.seen then Err (two_names key)
    else if has_float d then Err (at_key key wrong_kind)
    else value_read (field_named key) key d found

-- the members, front to back, up to the first fault
abbrev pub members_read : Members → Found → Result Found SkinFault
members_read no_members found = Ok found
members_read (member key d ms) found = and_next (member_read key d found) (members_read ms)

-- the members of an object, where there is one
abbrev pub object_read : Option Members → Result Found SkinFault
object_read None = Err not_object
object_read (Some ms) = members_read ms nothing_found

-- a skin, and the keys that name no part, in byte order
abbrev pub skin_and_unknown : Result Found SkinFault → Result (MadSkin × List (List ℕ)) SkinFault
skin_and_unknown read = result_map_both (λ found. (found.skin, found.unknown)) (λ fault. fault) read

-- the skin that a value says and the keys that name no part of it, or the first fault
abbrev pub skin_read : Data → Result (MadSkin × List (List ℕ)) SkinFault
skin_read d = skin_and_unknown (object_read (as_object d))
