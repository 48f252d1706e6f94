-- What is drawn of the characters of a row.
use Rattle.std.specs.Prelude.{ℕ, ◌+◌, List, [], ◌∷◌, Option, Some, None, map, encode_utf8, if◌then◌else◌}
use Rattle.std.specs.Option.{option_or}
use Rattle.mad_style.specs.declared.compound_styles.CompoundStyle.{CompoundStyle}
use Rattle.mad_draw.specs.Pieces.{RowPiece}
use Rattle.mad_edit_lines.specs.LineColumns.{char_width}
use Rattle.mad_field_rows.specs.declared.line_rows.RowChar.{RowChar}

-- each character of a row as a piece of its own: marked ones in one style, the others in another
abbrev pub char_pieces : CompoundStyle → CompoundStyle → List RowChar → List RowPiece
char_pieces marked others cs = map (λ c. record { style = (if c.marked then marked else others).object_style; text = encode_utf8 c.c }) cs

-- the column of the last marked character, if there is one, where the first one is in this column
abbrev pub last_marked : List RowChar → ℕ → Option ℕ
last_marked [] column = None
last_marked (c ∷ cs) column = option_or (last_marked cs (column + char_width c.c)) (if c.marked then Some column else None)
