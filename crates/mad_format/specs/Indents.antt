-- The columns in front of a line: those of its bullet, number or quote mark, and of the lines that follow one.
use Rattle.std.specs.Prelude.{ℕ, ◌+◌}
use Rattle.mad_style.specs.declared.kinds.CompositeKind.{CompositeKind}
use Rattle.mad_style.specs.declared.kinds.CompositeKind.TheVariants.{ListItem, ListItemFollowUp, OrderedListItem, OrderedListItemFollowUp, Quote}
use Rattle.mad_style.specs.declared.kinds.ListItemsIndentationMode.{ListItemsIndentationMode}
use Rattle.mad_style.specs.declared.kinds.ListItemsIndentationMode.TheVariants.{FirstLineOnly, Block, Hanging}
use Rattle.mad_style.specs.OrderedItems.{ordered_indent}
use Rattle.mad_wrap.specs.declared.room.Room.{Room}
use Rattle.mad_format.specs.LineRules.{LineRules}

-- the kind of the lines after the first: an item's own follow-up, any other kind stays
abbrev pub follow_up : CompositeKind → CompositeKind
follow_up (ListItem depth) = ListItemFollowUp depth
follow_up (OrderedListItem level index) = OrderedListItemFollowUp level index
follow_up kind = kind

-- what a mode makes of an item's indent on the lines that follow
abbrev pub later_indent : ListItemsIndentationMode → ℕ → ℕ
later_indent FirstLineOnly n = 0
later_indent Block n = n
later_indent (Hanging extra) n = n + extra

-- the columns in front of a line of this kind: a bullet and a space after an item's depth, a quote mark and a space
abbrev pub indent : ListItemsIndentationMode → CompositeKind → ℕ
indent mode (ListItem depth) = 2 + depth
indent mode (ListItemFollowUp depth) = later_indent mode (2 + depth)
indent mode (OrderedListItem level index) = ordered_indent level index
indent mode (OrderedListItemFollowUp level index) = later_indent mode (ordered_indent level index)
indent mode Quote = 2
indent mode _ = 0

-- the room of a composite of this kind: the columns in front of its first line, those in front of its others, and the lines' width
abbrev pub room_of : LineRules → CompositeKind → ℕ → Room
room_of skin kind width = record { first = indent skin.list_items_indentation_mode kind; other = indent skin.list_items_indentation_mode (follow_up kind); width = width; whole_words = skin.whole_words }
