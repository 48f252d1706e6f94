-- The columns of the characters that a field puts in.
use Rattle.std.proofs.Common.{◌≡◌, refl}
use Rattle.unicode_width.proofs.Computing.{unicode_width}
use Rattle.mad_characters.specs.Columns.{char_columns}
use Rattle.mad_edit_lines.specs.LineColumns.{char_width}

-- `…` takes a column
pub ellipsis_column : char_width 8230 ≡ 1
unfolding char_columns unicode_width
ellipsis_column = refl
