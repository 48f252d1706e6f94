-- Fillings: a character that fills columns, in pieces of at most 1000 characters.
use Rattle.std.specs.Prelude.{ℕ, ◌/◌, ◌%◌, List, ◌++◌}
use Rattle.std.specs.List.{repeat}
use Rattle.mad_style.specs.declared.styled_chars.StyledChar.{StyledChar}
use Rattle.mad_draw.specs.Pieces.{RowPiece, char_repeat}

-- the most characters that a piece has
unfoldable pub piece_chars : ℕ
piece_chars = 1000

-- a character `n` times: pieces of 1000 characters, and one of those that are left
abbrev pub filling_pieces : StyledChar → ℕ → List RowPiece
filling_pieces c n = repeat (n / piece_chars) (char_repeat c piece_chars) ++ char_repeat c (n % piece_chars)
