-- The styles of a skin's parts.
use Rattle.std.specs.Prelude.{ℕ, zero, suc, Bool, List, [], ◌∷◌, slice_get, unwrap_or, min, Option, Some, None, is_none, ◌&&◌, ◌==◌, if◌then◌else◌}
use Rattle.std.specs.List.{AllByRecursion}
use Rattle.std.specs.Str.{bytes_eq}
use Rattle.mad_md.specs.Flagged.{Flags, Run}
use Rattle.mad_style.specs.declared.compound_styles.CompoundStyle.{CompoundStyle}
use Rattle.mad_style.specs.declared.kinds.CompositeKind.{CompositeKind}
use Rattle.mad_style.specs.declared.kinds.CompositeKind.TheVariants.{Header, Code}
use Rattle.mad_style.specs.declared.line_styles.LineStyle.{LineStyle}
use Rattle.mad_style.specs.declared.ordered_items.OrderedItemStyle.{OrderedItemStyle}
use Rattle.mad_term.specs.AttributeSets.{only}
use Rattle.mad_term.specs.Attributes.{attribute_bits}
use Rattle.mad_term.specs.Styles.{IsStyle}
use Rattle.mad_term.specs.declared.attribute.Attribute.TheVariants.{Underlined}
use Rattle.mad_style.specs.CompoundStyles.{overwritten, text_style, unstyled}
use Rattle.mad_style.specs.OrderedItems.{unstyled_item}
use Rattle.mad_style.specs.StyledChars.{char_alone, char_style}
use Rattle.mad_format.specs.LineRules.{LineRules}
use Rattle.mad_rows.specs.declared.page_styles.PageStyles.{PageStyles}
use Rattle.mad_rows.specs.declared.page_styles.TitleStyles.{TitleStyles}
use Rattle.mad_rows.specs.declared.row_skin.RowSkin.{RowSkin}

-- the style of the header of this level, which is counted from 1, among these; the paragraph's at a level without a header
abbrev pub header_style : LineStyle → List LineStyle → ℕ → LineStyle
header_style paragraph headers zero = paragraph
header_style paragraph headers (suc n) = unwrap_or (slice_get headers n) paragraph

-- code blocks and headers have styles of their own, all else the paragraph's
abbrev pub style_of_kind : LineStyle → List LineStyle → LineStyle → CompositeKind → LineStyle
style_of_kind paragraph headers code Code = code
style_of_kind paragraph headers code (Header level) = header_style paragraph headers level
style_of_kind paragraph headers code _ = paragraph

-- the style of a line of this kind
abbrev pub line_style : RowSkin → CompositeKind → LineStyle
line_style skin kind = style_of_kind skin.paragraph skin.headers skin.code_block kind

-- what laying out lines asks of the skin
abbrev pub line_rules : RowSkin → LineRules
line_rules skin = record { list_items_indentation_mode = skin.list_items_indentation_mode; whole_words = skin.whole_words; cell_blanks = skin.cell_blanks; line_style = line_style skin }

-- the bytes of the ellipsis …
abbrev pub ellipsis_bytes : List ℕ
ellipsis_bytes = 226 ∷ 128 ∷ 166 ∷ []

-- a style overwritten with another where a flag is on
abbrev pub overwritten_if : Bool → CompoundStyle → CompoundStyle → CompoundStyle
overwritten_if flag other style = if flag then overwritten style other else style

-- the style of the flags of a text over that of its line: picture first, then link, italic, strikeout, bold and code
abbrev pub style_over_flags : CompoundStyle → CompoundStyle → CompoundStyle → CompoundStyle → CompoundStyle → CompoundStyle → CompoundStyle → Flags → CompoundStyle
style_over_flags picture link italic strikeout bold code style f =
    overwritten_if f.code code (overwritten_if f.bold bold (overwritten_if f.strikeout strikeout (overwritten_if f.italic italic (overwritten_if f.link link (overwritten_if f.picture picture style)))))

-- The style of a compound in a line of this style: the ellipsis has its own; the sign of a picture the line's, overwritten with that of such signs;
-- all else the line's, overwritten with those of the compound's flags.
abbrev pub style_of_compound : CompoundStyle → CompoundStyle → CompoundStyle → CompoundStyle → CompoundStyle → CompoundStyle → CompoundStyle → CompoundStyle → LineStyle → Run → CompoundStyle
style_of_compound ellipsis sign picture link italic strikeout bold code style p =
    if bytes_eq p.text ellipsis_bytes then ellipsis
    else if p.flags.picture_sign then overwritten style.compound_style sign
    else style_over_flags picture link italic strikeout bold code style.compound_style p.flags

-- so it is in a skin
abbrev pub compound_style : RowSkin → LineStyle → Run → CompoundStyle
compound_style skin = style_of_compound skin.ellipsis skin.picture_sign skin.picture skin.link skin.italic skin.strikeout skin.bold skin.inline_code

-- the style sets nothing
abbrev pub sets_nothing : CompoundStyle → Bool
sets_nothing s =
    is_none s.object_style.foreground_color && is_none s.object_style.background_color && is_none s.object_style.underline_color
    && (attribute_bits s.object_style.attributes == 0)

-- no flag of a compound adds anything, links apart
abbrev pub adds_nothing : RowSkin → Bool
adds_nothing skin = sets_nothing skin.bold && sets_nothing skin.italic && sets_nothing skin.strikeout && sets_nothing skin.inline_code

-- the skin with links underlined; but where no other flag adds anything, link doesn't either
abbrev pub with_links : RowSkin → RowSkin
with_links skin = record skin { link = (if adds_nothing skin then unstyled else text_style None None (only Underlined)) }

-- titles of alerts in which nothing is set
abbrev pub unstyled_titles : TitleStyles
unstyled_titles = record { note = unstyled; tip = unstyled; important = unstyled; warning = unstyled; caution = unstyled }

-- the numbers of a line's colors are bytes, as those of every style are that a program has
abbrev pub IsKnownLine : LineStyle → Type 0
IsKnownLine s = IsStyle s.compound_style.object_style

-- so are those of an item's number, and of the character after it
abbrev pub IsKnownItem : OrderedItemStyle → Type 0
IsKnownItem s = IsStyle s.index_style.object_style × IsStyle (char_style s.index_suffix).object_style

-- so are those of a tone
abbrev pub IsKnownTone : CompoundStyle → Type 0
IsKnownTone s = IsStyle s.object_style

-- what the tones of code add, the first mark's first; none in a skin without tones
abbrev pub tones_in : Option (List CompoundStyle) → List CompoundStyle
tones_in None = []
tones_in (Some tones) = tones

-- so in a skin
abbrev pub tone_styles : RowSkin → List CompoundStyle
tone_styles skin = tones_in skin.tones

-- so are those of what a page shows beside its text
pub record AreKnownSigns (page : PageStyles) : Type 0 where
  pub task : IsStyle (char_style page.task).object_style
  pub done : IsStyle (char_style page.done).object_style
  pub note : IsStyle (char_style page.note).object_style
  pub tip : IsStyle (char_style page.tip).object_style
  pub important : IsStyle (char_style page.important).object_style
  pub warning : IsStyle (char_style page.warning).object_style
  pub caution : IsStyle (char_style page.caution).object_style
  pub below_first : IsStyle (char_style page.below_first).object_style
  pub below_others : IsStyle (char_style page.below_others).object_style

-- so are those of the titles of alerts
pub record AreKnownTitles (titles : TitleStyles) : Type 0 where
  pub note : IsStyle titles.note.object_style
  pub tip : IsStyle titles.tip.object_style
  pub important : IsStyle titles.important.object_style
  pub warning : IsStyle titles.warning.object_style
  pub caution : IsStyle titles.caution.object_style

-- so are those of the parts of a skin, but for headers and items
pub record AreKnownParts (skin : RowSkin) : Type 0 where
  pub paragraph : IsKnownLine skin.paragraph
  pub bold : IsStyle skin.bold.object_style
  pub italic : IsStyle skin.italic.object_style
  pub strikeout : IsStyle skin.strikeout.object_style
  pub code : IsStyle skin.inline_code.object_style
  pub link : IsStyle skin.link.object_style
  pub picture : IsStyle skin.picture.object_style
  pub picture_sign : IsStyle skin.picture_sign.object_style
  pub ellipsis : IsStyle skin.ellipsis.object_style
  pub code_block : IsKnownLine skin.code_block
  pub table : IsKnownLine skin.table
  pub bullet : IsStyle (char_style skin.bullet).object_style
  pub quote_mark : IsStyle (char_style skin.quote_mark).object_style
  pub rule : IsStyle (char_style skin.horizontal_rule).object_style
  pub page : AreKnownSigns skin.page
  pub head : IsStyle skin.head.object_style
  pub titles : AreKnownTitles skin.titles

-- so are those of all its parts
pub record AreKnownStyles (skin : RowSkin) : Type 0 where
  pub parts : AreKnownParts skin
  pub headers : AllByRecursion IsKnownLine skin.headers
  pub items : AllByRecursion IsKnownItem skin.ordered_item_styles
  pub tones : AllByRecursion IsKnownTone (tone_styles skin)

-- how items of this level look among these; levels past the last take the last
abbrev pub item_style_at : List OrderedItemStyle → ℕ → OrderedItemStyle
item_style_at styles level = unwrap_or (slice_get styles (min level 3)) unstyled_item

-- how items of this level look in a skin
abbrev pub ordered_item_style : RowSkin → ℕ → OrderedItemStyle
ordered_item_style skin level = item_style_at skin.ordered_item_styles level

-- the character after the number of an item of this level
abbrev pub index_suffix : RowSkin → ℕ → ℕ
index_suffix skin level = char_alone (ordered_item_style skin level).index_suffix
