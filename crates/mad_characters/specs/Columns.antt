-- The columns that a character takes on a terminal.
use Rattle.std.specs.Prelude.{ℕ, false, unwrap_or}
use Rattle.unicode_width.specs.Width.{char_width}

-- the columns of a character: those that `unicode_width` gives, 0 for a control character
unfoldable pub char_columns : ℕ → ℕ
char_columns c = unwrap_or (char_width false c) 0
