-- Items of ordered lists.
use Rattle.std.specs.Prelude.{ℕ, ◌+◌, length, decimal}
use Rattle.mad_term.specs.declared.color.Color.TheVariants.{AnsiValue}
use Rattle.mad_style.specs.CompoundStyles.{unstyled}
use Rattle.mad_style.specs.StyledChars.{styled_char, colored_char}
use Rattle.mad_style.specs.declared.ordered_items.OrderedItemStyle.{OrderedItemStyle}

-- a number without style and a gray dot (12): gray n is the palette's 232 + n
abbrev pub default_item : OrderedItemStyle
default_item = record { index_style = unstyled; index_suffix = colored_char (AnsiValue 244) 46 }

-- a number and a dot without style
abbrev pub unstyled_item : OrderedItemStyle
unstyled_item = record { index_style = unstyled; index_suffix = styled_char unstyled 46 }

-- the columns in front of an ordered item: those of its level, of its number, and of the character and the space after the number
abbrev pub ordered_indent : ℕ → ℕ → ℕ
ordered_indent level index = length (decimal index) + 2 + level
