-- Pieces: the texts of which a row is made, each in one style.
use Rattle.std.specs.Prelude.{◌≡◌, ℕ, zero, suc, ◌+◌, List, [], ◌∷◌, map, replicate, encode_utf8}
use Rattle.std.specs.Char.{IsScalar}
use Rattle.std.specs.Str.{chars, IsUtf8}
use Rattle.std.specs.List.{AllByRecursion, flat_map, repeat}
use Rattle.mad_characters.specs.Columns.{char_columns}
use Rattle.mad_term.specs.declared.styles.ContentStyle.{ContentStyle}
use Rattle.mad_screen.specs.Glyph.{Look}
use Rattle.mad_term.specs.Styles.{IsStyle, piece_bytes}
use Rattle.mad_screen.specs.Painting.{IsShown, look_of_style}
use Rattle.mad_style.specs.declared.compound_styles.CompoundStyle.{CompoundStyle}
use Rattle.mad_style.specs.declared.styled_chars.StyledChar.{StyledChar}
use Rattle.mad_style.specs.StyledChars.{char_style, char_alone}
use Rattle.mad_measure.specs.TextColumns.{columns}

-- a text, in bytes, in one style
pub record RowPiece : Type 0 where
  pub style : ContentStyle
  pub text : List ℕ

-- what is written of a row's pieces
abbrev pub pieces_bytes : List RowPiece → List ℕ
pieces_bytes ps = flat_map (λ p. piece_bytes p.style p.text) ps

-- a character, and the pen that it is written with
pub record PennedChar : Type 0 where
  pub char : ℕ
  pub pen : Look

-- the characters of pieces in order, each with its pen
abbrev pub penned_chars : List RowPiece → List PennedChar
penned_chars ps = flat_map (λ p. map (λ c. record { char = c; pen = look_of_style p.style }) (chars p.text)) ps

-- ---- spaces

-- `count` spaces as one piece; none of none
abbrev pub spaces : CompoundStyle → ℕ → List RowPiece
spaces style zero = []
spaces style (suc n) = record { style = style.object_style; text = replicate (suc n) 32 } ∷ []

-- `count` spaces, each a piece of its own
abbrev pub single_spaces : CompoundStyle → ℕ → List RowPiece
single_spaces style n = replicate n (record { style = style.object_style; text = 32 ∷ [] })

-- ---- characters

-- a character in its style
abbrev pub char_piece : StyledChar → RowPiece
char_piece c = record { style = (char_style c).object_style; text = encode_utf8 (char_alone c) }

-- a character `count` times as one piece; none of none
abbrev pub char_repeat : StyledChar → ℕ → List RowPiece
char_repeat c zero = []
char_repeat c (suc n) = record { style = (char_style c).object_style; text = repeat (suc n) (encode_utf8 (char_alone c)) } ∷ []

-- a character that takes one column
pub record IsColumnChar (c : ℕ) : Type 0 where
  pub scalar : IsScalar c
  pub one : char_columns c ≡ 1

-- a character `count` times, each a piece of its own
abbrev pub single_chars : StyledChar → ℕ → List RowPiece
single_chars c n = replicate n (char_piece c)

-- ---- what is known of pieces

-- The numbers of each piece's colors are bytes, as in every style that a program holds.
abbrev pub AreKnown : List RowPiece → Type 0
AreKnown ps = AllByRecursion (λ p. IsStyle p.style) ps

-- the text of a piece shows cells of its own: no control character, and no widthless one in front
pub record IsShownPiece (p : RowPiece) : Type 0 where
  pub utf8 : IsUtf8 p.text
  pub shown : IsShown (chars p.text)

-- each of the pieces shows cells of its own
abbrev pub AreShownPieces : List RowPiece → Type 0
AreShownPieces ps = AllByRecursion IsShownPiece ps

-- a piece that is shown in one column
pub record IsColumnPiece (p : RowPiece) : Type 0 where
  pub shown : IsShownPiece p
  pub one : columns (chars p.text) ≡ 1

-- the columns that pieces take
abbrev pub pieces_columns : List RowPiece → ℕ
pieces_columns [] = 0
pieces_columns (p ∷ ps) = columns (chars p.text) + pieces_columns ps

-- the pieces show cells of their own, which fill `width` columns exactly
pub record FillsRow (width : ℕ) (ps : List RowPiece) : Type 0 where
  pub shown : AreShownPieces ps
  pub columns : pieces_columns ps ≡ width
