-- The skins that read back equal from the values that they are written as.
use Rattle.std.specs.Prelude.{◌≡◌, ℕ, List, [], length, true, false, Some, IsSome, Ok}
use Rattle.std.specs.List.{All}
use Rattle.mad_term.specs.AttributeSets.{no_attributes}
use Rattle.mad_style.specs.Borders.{borders_named}
use Rattle.mad_style.specs.StyledChars.{char_style}
use Rattle.mad_style.specs.declared.borders.TableBorderChars.{TableBorderChars}
use Rattle.mad_style.specs.declared.compound_styles.CompoundStyle.{CompoundStyle}
use Rattle.mad_style.specs.declared.line_styles.LineStyle.{LineStyle}
use Rattle.mad_style.specs.declared.ordered_items.OrderedItemStyle.{OrderedItemStyle}
use Rattle.mad_style.specs.declared.scroll_bars.ScrollBarStyle.{ScrollBarStyle}
use Rattle.mad_style.specs.declared.styled_chars.StyledChar.{StyledChar}
use Rattle.mad_parse.specs.ReadsBack.{IsReadBackStyle, IsReadBackLine, IsReadBackChar, IsReadBackItem, StyleReadsBack, LineReadsBack, CharReadsBack, ItemReadsBack}
use Rattle.mad_parse.specs.Written.{tokens_text, style_tokens, line_style_tokens, styled_char_tokens, item_tokens}
use Rattle.mad_layout.specs.declared.skin.MadSkin.{MadSkin}
use Rattle.serde_json.specs.Data.{Data, string}
use Rattle.mad_json.specs.Modes.{mode_said}
use Rattle.mad_json.specs.Reading.{skin_read}
use Rattle.mad_json.specs.ScrollBars.{is_simple, def_of, scrollbar_said}
use Rattle.mad_json.specs.Written.{bar_data, mode_text}

-- a drawn character that has a foreground, and no attributes
pub record IsOnlyColored (drawn : StyledChar) : Type 0 where
  pub foreground : IsSome (char_style drawn).object_style.foreground_color
  pub attributes : (char_style drawn).object_style.attributes ≡ no_attributes

-- A bar whose characters read back; one that is written as a text has two foregrounds, and no attributes.
pub record IsReadBackBar (bar : ScrollBarStyle) : Type 0 where
  pub track : IsReadBackChar bar.track
  pub thumb : IsReadBackChar bar.thumb
  pub simple_track : is_simple bar ≡ true → IsOnlyColored bar.track
  pub simple_thumb : is_simple bar ≡ true → IsOnlyColored bar.thumb

-- borders that have a name
abbrev pub AreNamed : TableBorderChars → Type 0
AreNamed borders = (name : List ℕ) × (borders_named name ≡ Some borders)

-- A skin of such parts, in any indentation mode. That words stay whole isn't written, and so not read back.
pub record IsReadBackSkin (skin : MadSkin) : Type 0 where
  pub paragraph : IsReadBackLine skin.paragraph
  pub bold : IsReadBackStyle skin.bold
  pub italic : IsReadBackStyle skin.italic
  pub strikeout : IsReadBackStyle skin.strikeout
  pub inline_code : IsReadBackStyle skin.inline_code
  pub code_block : IsReadBackLine skin.code_block
  pub headers : All IsReadBackLine skin.headers
  pub scrollbar : IsReadBackBar skin.scrollbar
  pub table : IsReadBackLine skin.table
  pub bullet : IsReadBackChar skin.bullet
  pub ordered_items : All IsReadBackItem skin.ordered_item_styles
  pub quote_mark : IsReadBackChar skin.quote_mark
  pub horizontal_rule : IsReadBackChar skin.horizontal_rule
  pub ellipsis : IsReadBackStyle skin.ellipsis
  pub borders : AreNamed skin.table_border_chars
  pub whole_words : skin.whole_words ≡ false

-- such a skin is read of that value, and no key of it is unknown
abbrev pub SkinReadsBack : MadSkin → Data → Type 0
SkinReadsBack skin d = IsReadBackSkin skin → skin_read d ≡ Ok (skin, [])

-- a style of text is read back from what it is written as
abbrev pub ReadsBackStyle : CompoundStyle → Type 0
ReadsBackStyle style = StyleReadsBack style (tokens_text (style_tokens style))

-- so is a line
abbrev pub ReadsBackLine : LineStyle → Type 0
ReadsBackLine line = LineReadsBack line (tokens_text (line_style_tokens line))

-- so is a drawn character
abbrev pub ReadsBackChar : StyledChar → Type 0
ReadsBackChar drawn = CharReadsBack drawn (tokens_text (styled_char_tokens drawn))

-- so is the style of an item
abbrev pub ReadsBackItem : OrderedItemStyle → Type 0
ReadsBackItem style = ItemReadsBack style (tokens_text (item_tokens style))

-- so is a scroll bar
abbrev pub ReadsBackBar : ScrollBarStyle → Type 0
ReadsBackBar bar = IsReadBackBar bar → scrollbar_said (bar_data (def_of bar)) ≡ Ok bar

-- what text adds to its line
pub record ReadBackAdditions (skin : MadSkin) : Type 0 where
  pub bold : ReadsBackStyle skin.bold
  pub italic : ReadsBackStyle skin.italic
  pub strikeout : ReadsBackStyle skin.strikeout
  pub inline_code : ReadsBackStyle skin.inline_code
  pub ellipsis : ReadsBackStyle skin.ellipsis

-- characters that are drawn
pub record ReadBackChars (skin : MadSkin) : Type 0 where
  pub bullet : ReadsBackChar skin.bullet
  pub quote_mark : ReadsBackChar skin.quote_mark
  pub horizontal_rule : ReadsBackChar skin.horizontal_rule
  pub scrollbar : ReadsBackBar skin.scrollbar

-- lines; there are eight headers
pub record ReadBackLines (skin : MadSkin) : Type 0 where
  pub paragraph : ReadsBackLine skin.paragraph
  pub code_block : ReadsBackLine skin.code_block
  pub table : ReadsBackLine skin.table
  pub headers : All ReadsBackLine skin.headers
  pub levels : length skin.headers ≡ 8

-- items of lists, of which there are four; the number of a mode is a byte
pub record ReadBackItems (skin : MadSkin) : Type 0 where
  pub items : All ReadsBackItem skin.ordered_item_styles
  pub levels : length skin.ordered_item_styles ≡ 4
  pub mode : mode_said (string (mode_text skin.list_items_indentation_mode)) ≡ Ok skin.list_items_indentation_mode
