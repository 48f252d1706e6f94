-- The characters of the border styles take one column.
use Rattle.std.proofs.Common.{◌≡◌, ℕ, false, Some, refl, ap, arith}
use Rattle.std.specs.Prelude.{unwrap_or}
use Rattle.std.specs.Char.{IsScalar}
use Rattle.unicode_width.specs.Width.{char_width}
use Rattle.unicode_width.proofs.Computing.{unicode_width}
use Rattle.mad_characters.specs.Columns.{char_columns}
use Rattle.mad_characters.proofs.CharColumns.{char_columns-ascii}
use Rattle.mad_draw.specs.Pieces.{IsColumnChar}

one_column : (c : ℕ) → IsScalar c → char_width false c ≡ Some 1 → IsColumnChar c
unfolding char_columns
one_column c scalar width = record { scalar = scalar; one = ap (λ o. unwrap_or o 0) width }

-- a space takes one column
pub space_column : IsColumnChar 32
space_column = record { scalar = refl; one = char_columns-ascii 32 (omega arith) (omega arith) }

-- ▛
pub u259b_column : IsColumnChar 0x259B
unfolding unicode_width
u259b_column = one_column 0x259B refl refl

-- ▀
pub u2580_column : IsColumnChar 0x2580
unfolding unicode_width
u2580_column = one_column 0x2580 refl refl

-- ▜
pub u259c_column : IsColumnChar 0x259C
unfolding unicode_width
u259c_column = one_column 0x259C refl refl

-- ▐
pub u2590_column : IsColumnChar 0x2590
unfolding unicode_width
u2590_column = one_column 0x2590 refl refl

-- ▟
pub u259f_column : IsColumnChar 0x259F
unfolding unicode_width
u259f_column = one_column 0x259F refl refl

-- ▄
pub u2584_column : IsColumnChar 0x2584
unfolding unicode_width
u2584_column = one_column 0x2584 refl refl

-- ▙
pub u2599_column : IsColumnChar 0x2599
unfolding unicode_width
u2599_column = one_column 0x2599 refl refl

-- ▌
pub u258c_column : IsColumnChar 0x258C
unfolding unicode_width
u258c_column = one_column 0x258C refl refl

-- ┌
pub u250c_column : IsColumnChar 0x250C
unfolding unicode_width
u250c_column = one_column 0x250C refl refl

-- ─
pub u2500_column : IsColumnChar 0x2500
unfolding unicode_width
u2500_column = one_column 0x2500 refl refl

-- ┐
pub u2510_column : IsColumnChar 0x2510
unfolding unicode_width
u2510_column = one_column 0x2510 refl refl

-- │
pub u2502_column : IsColumnChar 0x2502
unfolding unicode_width
u2502_column = one_column 0x2502 refl refl

-- ┘
pub u2518_column : IsColumnChar 0x2518
unfolding unicode_width
u2518_column = one_column 0x2518 refl refl

-- └
pub u2514_column : IsColumnChar 0x2514
unfolding unicode_width
u2514_column = one_column 0x2514 refl refl

-- ╭
pub u256d_column : IsColumnChar 0x256D
unfolding unicode_width
u256d_column = one_column 0x256D refl refl

-- ╮
pub u256e_column : IsColumnChar 0x256E
unfolding unicode_width
u256e_column = one_column 0x256E refl refl

-- ╯
pub u256f_column : IsColumnChar 0x256F
unfolding unicode_width
u256f_column = one_column 0x256F refl refl

-- ╰
pub u2570_column : IsColumnChar 0x2570
unfolding unicode_width
u2570_column = one_column 0x2570 refl refl
