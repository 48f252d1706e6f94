-- What laying out lines asks of a skin.
use Rattle.std.specs.Prelude.{ℕ, Bool, true, false}
use Rattle.mad_style.specs.declared.kinds.CompositeKind.{CompositeKind}
use Rattle.mad_style.specs.declared.kinds.ListItemsIndentationMode.{ListItemsIndentationMode}
use Rattle.mad_style.specs.declared.line_styles.LineStyle.{LineStyle}

-- how the lines of a list's items are indented, whether words stay whole, whether a blank is at both sides of each cell, and the style of each kind of line
pub record LineRules : Type 0 where
  pub list_items_indentation_mode : ListItemsIndentationMode
  pub whole_words : Bool
  pub cell_blanks : Bool
  pub line_style : CompositeKind → LineStyle

-- the blank columns at each side of a cell
abbrev pub beside_cell : Bool → ℕ
beside_cell true = 1
beside_cell false = 0

-- the blank columns at both sides of a cell
abbrev pub around_cell : Bool → ℕ
around_cell true = 2
around_cell false = 0
