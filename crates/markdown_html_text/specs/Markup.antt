-- Markup of html: tags, comments, instructions, CDATA sections and declarations. What has no end goes on to the end of the text.
use Rattle.std.specs.Prelude.{ℕ, ◌-◌, ◌==◌, ◌&&◌, ◌||◌, not, Bool, true, false, if◌then◌else◌, List, [], ◌∷◌, length, take, drop, Option, Some, None, codes}
use Rattle.std.specs.List.{prefix_len}
use Rattle.std.specs.Char.{is_ascii_alphabetic}
use Rattle.markdown_marks.specs.Bytes.{first}
use Rattle.markdown_marks.specs.Definitions.{is_space_byte}
use Rattle.markdown_marks.specs.Html.{next_place}
use Rattle.markdown_marks.specs.declared.tags.Place.{Place}
use Rattle.markdown_marks.specs.declared.tags.Place.TheVariants.{Name, Single, Double, CloseName}
use Rattle.markdown_html.specs.Names.{is_among, block_names}
use Rattle.markdown_html.specs.Starts.{begins, without_slash}
use Rattle.markdown_spans.specs.Attributes.{is_name_byte, is_tag_named, html_shown}
use Rattle.markdown_spans.specs.Code.{spaced}
use Rattle.markdown_spans.specs.Needles.{after_first}
use Rattle.markdown_spans.specs.declared.attributes.Html.{Html}
use Rattle.markdown_spans.specs.declared.attributes.Html.TheVariants.{Nothing, Break}
use Rattle.markdown_html_text.specs.declared.markup.Effect.{Effect}
use Rattle.markdown_html_text.specs.declared.markup.Effect.TheVariants.{Gap, Cut, Say}
use Rattle.markdown_html_text.specs.declared.markup.Markup.{Markup}

-- ---- what isn't a tag

-- the rest that is found, or nothing where the text ends first
abbrev pub or_end : Option (List ℕ) → List ℕ
or_end None = []
or_end (Some rest) = rest

-- what follows these bytes where they stand first, or the end of the text
abbrev pub behind : List ℕ → List ℕ → List ℕ
behind needle text = or_end (after_first needle text)

-- what follows a comment, an instruction, a CDATA section or a declaration; these are the bytes after the sign <
abbrev pub other_end : List ℕ → Option (List ℕ)
other_end bytes =
    if begins bytes (codes "!--") then Some (behind (codes "-->") (drop 3 bytes))
    else if begins bytes (codes "?") then Some (behind (codes "?>") (drop 1 bytes))
    else if begins bytes (codes "![CDATA[") then Some (behind (codes "]]>") (drop 8 bytes))
    else if begins bytes (codes "!") && is_ascii_alphabetic (first (drop 1 bytes)) then Some (behind (codes ">") (drop 1 bytes))
    else None

-- ---- tags

-- the name that a tag begins with
abbrev pub tag_name : List ℕ → List ℕ
tag_name bytes = take (prefix_len is_name_byte bytes) bytes

-- what follows the name of a tag
abbrev pub after_name : List ℕ → List ℕ
after_name bytes = drop (prefix_len is_name_byte bytes) bytes

-- a blank, a slash or >
abbrev pub ends_name : ℕ → Bool
ends_name b = is_space_byte b || (b == 47) || (b == 62)

-- a letter, then letters, digits and hyphens, and an end of a name
abbrev pub is_tag : List ℕ → Bool
is_tag bytes = is_ascii_alphabetic (first bytes) && ends_name (first (after_name bytes))

-- the place is in quotes
abbrev pub is_quoted : Place → Bool
is_quoted Single = true
is_quoted Double = true
is_quoted _ = false

-- What follows a tag, from a place in it on: it ends with the first > that is in no quotes. Where it isn't well-formed, quotes count no more.
unfoldable pub after_tag : Place → List ℕ → List ℕ
after_tag place [] = []
after_tag place (b ∷ bs) = if (b == 62) && not (is_quoted place) then bs else after_tag (next_place place (spaced b)) bs

-- the place at which a tag begins, by whether it closes
abbrev pub place_of : List ℕ → Place
place_of bytes = if first bytes == 47 then CloseName else Name

-- a closing tag of this name
abbrev pub closes : List ℕ → List ℕ → Bool
closes name bytes = begins bytes (codes "</") && is_tag (drop 2 bytes) && is_tag_named name (drop 2 bytes)

-- from the first closing tag of this name on
unfoldable pub from_closing : List ℕ → List ℕ → List ℕ
from_closing name [] = []
from_closing name (b ∷ bs) = if closes name (b ∷ bs) then b ∷ bs else from_closing name bs

-- What follows a tag; of a script and of a style sheet, what follows all that they say.
abbrev pub tag_end : List ℕ → List ℕ
tag_end bytes =
    if is_tag_named (codes "script") bytes then from_closing (codes "script") bytes
    else if is_tag_named (codes "style") bytes then from_closing (codes "style") bytes
    else after_tag (place_of bytes) (without_slash bytes)

-- ---- what is shown

-- the tag is that of a table's cell, below the head or in it
abbrev pub is_cell : List ℕ → Bool
is_cell bytes = is_tag_named (codes "td") bytes || is_tag_named (codes "th") bytes

-- the tags of blocks cut the text, and so does pre
abbrev pub is_cutting : List ℕ → Bool
is_cutting bytes = is_among block_names (tag_name bytes) || is_tag_named (codes "pre") bytes

-- br cuts the text, and other raw html shows and says what it does in a line
abbrev pub effect_by : Html → Effect
effect_by Break = Cut
effect_by html = Say html

-- of a tag, without its sign <: the cells of a row are apart
abbrev pub effect_of : List ℕ → Effect
effect_of tag = if is_cell (without_slash tag) then Gap else if is_cutting (without_slash tag) then Cut else effect_by (html_shown tag)

-- ---- markup

-- markup that ends where these bytes are left
abbrev pub markup_up_to : List ℕ → List ℕ → Effect → Markup
markup_up_to bytes after effect = record { len = length bytes - length after; effect = effect }

-- the markup that a tag is which ends where these bytes are left
abbrev pub tag_by : List ℕ → List ℕ → Markup
tag_by bytes after = markup_up_to bytes after (effect_of (take (length bytes - length after) bytes))

-- the markup that isn't a tag, if it is found
abbrev pub other_by : List ℕ → Option (List ℕ) → Option Markup
other_by bytes None = None
other_by bytes (Some after) = Some (markup_up_to bytes after (Say Nothing))

-- the markup that begins with a sign <, after which these bytes are
unfoldable pub markup_of : List ℕ → Option Markup
markup_of bytes = if is_tag (without_slash bytes) then Some (tag_by bytes (tag_end bytes)) else other_by bytes (other_end bytes)
