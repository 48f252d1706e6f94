-- What raw html shows, and what its tags say of the text behind them: br breaks the line, an image says its alternative text, other names give a flag, and a link leads to an address.
use Rattle.std.specs.Prelude.{◌≡◌, ℕ, ◌+◌, ◌==◌, ◌&&◌, ◌||◌, not, Bool, true, false, if◌then◌else◌, List, [], ◌∷◌, length, take, drop, Option, Some, None, codes}
use Rattle.std.specs.List.{prefix_len, list_any}
use Rattle.std.specs.Char.{is_ascii_alphanumeric}
use Rattle.markdown_html.specs.Names.{same_letters}
use Rattle.markdown_html.specs.Starts.{without_slash}
use Rattle.markdown_marks.specs.Bytes.{first}
use Rattle.markdown_marks.specs.Definitions.{is_space_byte}
use Rattle.markdown_marks.specs.Html.{next_place, is_plain_byte}
use Rattle.markdown_marks.specs.declared.tags.Place.{Place}
use Rattle.markdown_marks.specs.declared.tags.Place.TheVariants.{Name, Attribute}
use Rattle.markdown_spans.specs.Code.{spaced}
use Rattle.markdown_spans.specs.Decoded.{decoded}
use Rattle.markdown_spans.specs.Words.{words}
use Rattle.markdown_spans.specs.declared.attributes.Value.{Value}
use Rattle.markdown_spans.specs.declared.attributes.Html.{Html}
use Rattle.markdown_spans.specs.declared.attributes.Html.TheVariants.{Nothing, Break, Alternative, Source, On, Off, Link, LinkEnd}
use Rattle.markdown_spans.specs.declared.attributes.Flag.{Flag}
use Rattle.markdown_spans.specs.declared.attributes.Flag.TheVariants.{Bold, Italic, Strikeout, Code}

-- ---- names

-- the byte is a letter, a digit or a hyphen
abbrev pub is_name_byte : ℕ → Bool
is_name_byte b = is_ascii_alphanumeric b || (b == 45)

-- the place is in an attribute's name
abbrev pub is_attribute : Place → Bool
is_attribute Attribute = true
is_attribute _ = false

-- the byte goes on in an attribute's name
abbrev pub goes_on : ℕ → Bool
goes_on b = is_attribute (next_place Attribute b)

-- the name in front, in letters of any case
abbrev pub is_tag_named : List ℕ → List ℕ → Bool
is_tag_named name bytes = same_letters name (take (prefix_len is_name_byte bytes) bytes)

-- the attribute in front has this name, in letters of any case
abbrev pub is_attribute_named : List ℕ → List ℕ → Bool
is_attribute_named name bytes = same_letters name (take (prefix_len goes_on bytes) bytes)

-- ---- the value of an attribute: in quotes, or without them

-- a value that begins at this place and has so many bytes
abbrev pub value : ℕ → ℕ → Value
value start len = record { start = start; len = len }

-- a byte of a value without quotes, to which no end of a line belongs
abbrev pub is_value_byte : ℕ → Bool
is_value_byte b = is_plain_byte (spaced b)

-- a byte that doesn't end a value in single quotes
abbrev pub is_single : ℕ → Bool
is_single b = not (b == 39)

-- a byte that doesn't end a value in double quotes
abbrev pub is_double : ℕ → Bool
is_double b = not (b == 34)

-- a value at a place
abbrev pub value_here : ℕ → List ℕ → Value
value_here at bytes =
    if first bytes == 39 then value (at + 1) (prefix_len is_single (drop 1 bytes))
    else if first bytes == 34 then value (at + 1) (prefix_len is_double (drop 1 bytes))
    else value at (prefix_len is_value_byte bytes)

-- behind blanks
abbrev pub value_behind : ℕ → List ℕ → Value
value_behind at bytes = value_here (at + prefix_len is_space_byte bytes) (drop (prefix_len is_space_byte bytes) bytes)

-- behind an attribute's name: blanks, an equals sign and blanks are before it
abbrev pub value_of : ℕ → List ℕ → Option Value
value_of at bytes =
    let blanks = prefix_len is_space_byte bytes in
    if first (drop blanks bytes) == 61 then Some (value_behind (at + blanks + 1) (drop (blanks + 1) bytes)) else None

-- The value of the first attribute of this name, from a place in a tag on.
unfoldable pub attribute_from : (name : List ℕ) (len at : ℕ) → Place → List ℕ → Option Value
attribute_from name len at place [] = None
attribute_from name len at place (b ∷ bs) =
    if not (is_attribute place) && is_attribute (next_place place (spaced b)) && is_attribute_named name (b ∷ bs) then value_of (at + len) (drop len (b ∷ bs))
    else attribute_from name len (at + 1) (next_place place (spaced b)) bs

-- the text of a value, of whose tag these are the bytes after the sign <: blanks are one space, and entities their characters
abbrev pub value_text : List ℕ → Value → List ℕ
value_text tag value = decoded false (words false false (take value.len (drop value.start tag)))

-- a byte that is no blank
abbrev pub is_filling : ℕ → Bool
is_filling b = not (is_space_byte b)

-- a value with something else than blanks
abbrev pub filled : List ℕ → Option Value → Option Value
filled tag None = None
filled tag (Some value) = if list_any is_filling (take value.len (drop value.start tag)) then Some value else None

-- the value of a tag's first attribute of this name, if that isn't empty
abbrev pub attribute : List ℕ → List ℕ → Option Value
attribute name tag = filled tag (attribute_from name (length name) 0 Name tag)

-- ---- what tags say

-- these bytes are those of a closing tag
abbrev pub is_closing : List ℕ → Bool
is_closing tag = first tag == 47

-- an image shows its alternative text, or else the name of its file
abbrev pub image_by : (alternative source : Option Value) → Html
image_by (Some value) source = Alternative value
image_by None (Some value) = Source value
image_by None None = Nothing

-- a tag a with an address begins a link; any other ends it
abbrev pub link_by : Option Value → Html
link_by None = LinkEnd
link_by (Some value) = Link value

-- of a tag a
abbrev pub link_shown : List ℕ → Html
link_shown tag = if is_closing tag then LinkEnd else link_by (attribute (codes "href") tag)

-- the flag that a tag with this name in front gives
abbrev pub flag_named : List ℕ → Option Flag
flag_named tag =
    if is_tag_named (codes "b") tag || is_tag_named (codes "strong") tag then Some Bold
    else if is_tag_named (codes "i") tag || is_tag_named (codes "em") tag then Some Italic
    else if is_tag_named (codes "s") tag || is_tag_named (codes "del") tag then Some Strikeout
    else if is_tag_named (codes "code") tag || is_tag_named (codes "kbd") tag || is_tag_named (codes "tt") tag || is_tag_named (codes "samp") tag then Some Code
    else None

-- a flag is on behind its tag, and off behind the closing one
abbrev pub flag_by : (closing : Bool) → Option Flag → Html
flag_by closing None = Nothing
flag_by closing (Some flag) = if closing then Off flag else On flag

-- of raw html, from after its sign < to its end
abbrev pub html_shown : List ℕ → Html
html_shown tag =
    if is_tag_named (codes "br") (without_slash tag) then Break
    else if is_tag_named (codes "img") tag then image_by (attribute (codes "alt") tag) (attribute (codes "src") tag)
    else if is_tag_named (codes "a") (without_slash tag) then link_shown tag
    else flag_by (is_closing tag) (flag_named (without_slash tag))

-- ---- names that links go to

-- the first value that there is
abbrev pub first_value : Option Value → Option Value → Option Value
first_value None other = other
first_value (Some value) other = Some value

-- the name of a tag a
abbrev pub own_name : List ℕ → Option Value
own_name tag = if is_tag_named (codes "a") tag then attribute (codes "name") tag else None

-- the name that an opening tag gives to its place: its id, or the name of a tag a
abbrev pub anchor : List ℕ → Option Value
anchor tag = if is_closing tag then None else first_value (attribute (codes "id") tag) (own_name tag)
