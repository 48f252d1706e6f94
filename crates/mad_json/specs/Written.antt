-- The value that a skin is written as.
use Rattle.std.specs.Prelude.{◌≡◌, ◌≢◌, ℕ, List, ◌++◌, map, Option, Some, None, codes, decimal}
use Rattle.mad_style.specs.Borders.{borders_named}
use Rattle.mad_style.specs.declared.borders.TableBorderChars.{TableBorderChars}
use Rattle.mad_style.specs.declared.compound_styles.CompoundStyle.{CompoundStyle}
use Rattle.mad_style.specs.declared.kinds.ListItemsIndentationMode.{ListItemsIndentationMode}
use Rattle.mad_style.specs.declared.kinds.ListItemsIndentationMode.TheVariants.{FirstLineOnly, Block, Hanging}
use Rattle.mad_style.specs.declared.line_styles.LineStyle.{LineStyle}
use Rattle.mad_style.specs.declared.ordered_items.OrderedItemStyle.{OrderedItemStyle}
use Rattle.mad_style.specs.declared.styled_chars.StyledChar.{StyledChar}
use Rattle.mad_parse.specs.Written.{tokens_text, style_tokens, line_style_tokens, styled_char_tokens, item_tokens}
use Rattle.mad_parse.specs.declared.tokens.StyleToken.{StyleToken}
use Rattle.mad_layout.specs.declared.skin.MadSkin.{MadSkin}
use Rattle.serde_json.specs.Data.{Data, string, array, object, Members, no_members, put}
use Rattle.serde_json.specs.View.{items_of}
use Rattle.mad_json.specs.ScrollBars.{def_of}
use Rattle.mad_json.specs.declared.scroll_bars.ScrollBarStyleDef.{ScrollBarStyleDef}
use Rattle.mad_json.specs.declared.scroll_bars.ScrollBarStyleDef.TheVariants.{Simple, Rich}

-- tokens are written as their text
abbrev pub text_data : List StyleToken → Data
text_data tokens = string (tokens_text tokens)

-- a style is written as its tokens are
abbrev pub style_data : CompoundStyle → Data
style_data style = text_data (style_tokens style)

-- so is a line
abbrev pub line_data : LineStyle → Data
line_data line = text_data (line_style_tokens line)

-- so is a drawn character
abbrev pub char_data : StyledChar → Data
char_data drawn = text_data (styled_char_tokens drawn)

-- so is the style of an item
abbrev pub item_data : OrderedItemStyle → Data
item_data style = text_data (item_tokens style)

-- a scroll bar as one text, or as an object of its two characters
abbrev pub bar_data : ScrollBarStyleDef → Data
bar_data (Simple drawn) = char_data drawn
bar_data (Rich track thumb) = object (put (codes "track") (char_data track) (put (codes "thumb") (char_data thumb) no_members))

-- the text of an indentation mode
abbrev pub mode_text : ListItemsIndentationMode → List ℕ
mode_text FirstLineOnly = codes "first_line_only"
mode_text Block = codes "block"
mode_text (Hanging extra) = codes "hanging(" ++ decimal extra ++ codes ")"

-- the name of borders, for those that have one
abbrev pub IsNameOf : TableBorderChars → Option (List ℕ) → Type 0
IsNameOf borders (Some name) = borders_named name ≡ Some borders
IsNameOf borders None = (name : List ℕ) → borders_named name ≢ Some borders

-- the members of what text adds to its line, each under the first name of its part
abbrev pub with_additions : MadSkin → Members → Members
with_additions skin members =
    put (codes "ellipsis") (style_data skin.ellipsis)
    (put (codes "inline_code") (style_data skin.inline_code)
    (put (codes "strikeout") (style_data skin.strikeout) (put (codes "italic") (style_data skin.italic) (put (codes "bold") (style_data skin.bold) members))))

-- the members of drawn characters
abbrev pub with_chars : MadSkin → Members → Members
with_chars skin members =
    put (codes "scrollbar") (bar_data (def_of skin.scrollbar))
    (put (codes "horizontal_rule") (char_data skin.horizontal_rule) (put (codes "quote") (char_data skin.quote_mark) (put (codes "bullet") (char_data skin.bullet) members)))

-- the members of lines
abbrev pub with_lines : MadSkin → Members → Members
with_lines skin members =
    put (codes "headers") (array (items_of (map line_data skin.headers)))
    (put (codes "table") (line_data skin.table) (put (codes "code_block") (line_data skin.code_block) (put (codes "paragraph") (line_data skin.paragraph) members)))

-- the members of items of lists
abbrev pub with_items : MadSkin → Members → Members
with_items skin members =
    put (codes "list_items_indentation_mode") (string (mode_text skin.list_items_indentation_mode))
    (put (codes "ordered_items") (array (items_of (map item_data skin.ordered_item_styles))) members)

-- borders are written only where they have a name
abbrev pub with_borders : Option (List ℕ) → Members → Members
with_borders None members = members
with_borders (Some name) members = put (codes "table_border_chars") (string name) members

-- the value of a skin, whose borders have this name or none
abbrev pub skin_data : MadSkin → Option (List ℕ) → Data
skin_data skin name = object (with_borders name (with_items skin (with_lines skin (with_chars skin (with_additions skin no_members)))))

-- a value is that of a skin, under the name of its borders, if they have one
abbrev pub IsDataOf : MadSkin → Data → Type 0
IsDataOf skin d = (name : Option (List ℕ)) × IsNameOf skin.table_border_chars name × (d ≡ skin_data skin name)
