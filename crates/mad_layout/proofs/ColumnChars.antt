-- Characters that take one column, as pieces.
use Rattle.std.proofs.Common.{ℕ, ◌<◌, ◌≤◌}
use Rattle.std.specs.Char.{IsScalar}
use Rattle.std.specs.Str.{chars}
use Rattle.std.proofs.Math.Utf8.{scalar}
use Rattle.mad_characters.proofs.CharColumns.{char_columns-ascii}
use Rattle.mad_style.specs.StyledChars.{styled_char}
use Rattle.mad_style.specs.declared.compound_styles.CompoundStyle.{CompoundStyle}
use Rattle.mad_draw.specs.Pieces.{IsColumnPiece, char_piece}
pub use Rattle.mad_draw.proofs.ColumnChars.{printed_char, column_piece}
use Rattle.mad_draw.specs.TableRules.{border_piece}
use Rattle.mad_draw.specs.declared.table_rules.RuleChars.{RuleChars}
use Rattle.mad_layout.specs.Drawable.{AreShownChars}
use Rattle.mad_layout.specs.Premises.{IsColumnChar, AreRuleChars}
use Rattle.mad_rows.specs.RowStyles.{index_suffix, ordered_item_style}
use Rattle.mad_rows.specs.declared.row_skin.RowSkin.{RowSkin}

-- a border of such a character is shown in one column
pub column_border : (style : CompoundStyle) (c : ℕ) → IsColumnChar c → IsColumnPiece (border_piece style c)
column_border style c h = column_piece (styled_char style c) h

-- so is each character of a rule
pub column_rule : (skin : RowSkin) (chars : RuleChars) → AreRuleChars chars → AreShownChars skin chars
column_rule skin chars h =
    let style : CompoundStyle = skin.table.compound_style in record {
      left = column_border style chars.left h.left;
      horizontal = column_border style chars.horizontal h.horizontal;
      between = column_border style chars.between h.between;
      right = column_border style chars.right h.right;
    }

-- so is the character after an item's number
pub column_suffix : (skin : RowSkin) (level : ℕ) → IsColumnChar (index_suffix skin level) → IsColumnPiece (char_piece (ordered_item_style skin level).index_suffix)
column_suffix skin level h = column_piece (ordered_item_style skin level).index_suffix h

-- a printed ASCII character takes one column
pub ascii_column : (c : ℕ) → IsScalar c → 32 ≤ c → c < 127 → IsColumnChar c
ascii_column c scalar low high = record { scalar = scalar; one = char_columns-ascii c low high }
