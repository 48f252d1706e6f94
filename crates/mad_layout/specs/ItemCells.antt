-- An example: a text with a table, in whose cell an item is wrapped.
use Rattle.std.specs.Prelude.{ℕ, false, List, [], ◌∷◌}
use Rattle.mad_md.specs.Lines.{LineContent}
use Rattle.mad_md.specs.Reading.{IsRead, unread_text}
use Rattle.mad_style.specs.declared.kinds.ListItemsIndentationMode.TheVariants.{Hanging}
use Rattle.mad_layout.specs.MadeSkins.{limited_to_ascii}
use Rattle.mad_layout.specs.Premises.{KeepsPremises}
use Rattle.mad_layout.specs.Skins.{no_style_skin}
use Rattle.mad_blocks.specs.TextParts.{lines_in_parts}
use Rattle.mad_layout.specs.RowSkins.{row_skin}
use Rattle.mad_rows.specs.declared.row_skin.RowSkin.{RowSkin}

-- `|* abcd`
abbrev pub item_in_a_cell : List ℕ
item_in_a_cell = 124 ∷ 42 ∷ 32 ∷ 97 ∷ 98 ∷ 99 ∷ 100 ∷ []

-- a skin of ASCII characters without style, in which the further rows of an item are two columns right of its text
abbrev pub hanging_skin : RowSkin
hanging_skin = record (row_skin (limited_to_ascii no_style_skin)) { list_items_indentation_mode = Hanging 2 }

-- Whatever it is read as keeps the premises at a width of seven columns: the item gets five, in which it doesn't fit, but has room. In
-- three columns, which is the least width of one, it would have none.
abbrev pub ItemInACellKeepsPremises : Type 0
ItemInACellKeepsPremises = (lines : List LineContent) → IsRead (unread_text false item_in_a_cell) lines → KeepsPremises hanging_skin 7 (lines_in_parts lines)
