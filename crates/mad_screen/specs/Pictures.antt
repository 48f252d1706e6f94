-- A screen as text, and the looks of its cells as letters.
use Rattle.std.specs.Prelude.{ℕ, zero, suc, ◌+◌, ◌*◌, ◌==◌, ◌&&◌, not, nat_lt, Bool, if◌then◌else◌, List, [], ◌∷◌, ◌++◌, length, take, drop, Option, Some, None}
use Rattle.std.specs.List.{flat_map, list_any, position}
use Rattle.std.specs.Option.{option_eq, is_none}
use Rattle.std.proofs.Math.Utf8.{encode}
use Rattle.mad_term.specs.declared.color.Color.{Color}
use Rattle.mad_term.specs.contracts.color.ColorPartialEq.TheImpl as color_equality
use Rattle.mad_screen.specs.Glyph.{Glyph, Look}
use Rattle.mad_screen.specs.Grid.{Grid}
use Rattle.mad_screen.specs.declared.pen.Pen.{Pen}
use Rattle.mad_screen.specs.declared.pictures.Looks.{Looks}
use Rattle.mad_screen.specs.declared.screen.Screen.{Screen}

-- the characters of a cell in UTF-8; a tail has none
abbrev pub cell_text : Glyph → List ℕ
cell_text g = flat_map encode g.chars

-- cells side by side
abbrev pub row_text : List Glyph → List ℕ
row_text cells = flat_map cell_text cells

-- the cells of row y
abbrev pub row_cells : Grid → ℕ → List Glyph
row_cells g y = take g.width (drop (y * g.width) g.cells)

-- the first rows of a screen, n of them, each with the text that f gives its cells and a newline (10)
abbrev pub lines_text : (List Glyph → List ℕ) → Grid → ℕ → List ℕ
lines_text f g zero = []
lines_text f g (suc n) = lines_text f g n ++ (f (row_cells g n) ++ 10 ∷ [])

-- all its rows, each with its characters
abbrev pub screen_text : Grid → List ℕ
screen_text g = lines_text row_text g g.height

-- whether two colors are one
abbrev pub same_color : Color → Color → Bool
same_color = (color_equality.ghosts).eq

-- whether two pens are one
abbrev pub same_look : Look → Look → Bool
same_look a b = option_eq same_color a.fg b.fg && (option_eq same_color a.bg b.bg && (option_eq same_color a.underline b.underline && a.codes == b.codes))

-- whether a pen is the plain one
abbrev pub is_plain : Look → Bool
is_plain pen = is_none pen.fg && is_none pen.bg && is_none pen.underline && pen.codes == 0

-- Whether a pen gets the next letter, after these pens. It isn't the plain one and has no letter yet, and one of the 26
-- is left.
abbrev pub gets_letter : List Look → Look → Bool
gets_letter known pen = nat_lt (length known) 26 && (not (is_plain pen) && not (list_any (λ k. same_look k pen) known))

-- the pens with a letter, once a further pen was seen
abbrev pub with_letter : List Look → Look → List Look
with_letter known pen = if gets_letter known pen then known ++ pen ∷ [] else known

-- the pens with a letter, after these cells
abbrev pub lettered : List Look → List Glyph → List Look
lettered known [] = known
lettered known (cell ∷ cells) = lettered (with_letter known cell.pen) cells

-- the n-th of the 26 letters: `a` (97) is the first; past them, and for none, a question mark (63)
abbrev pub nth_letter : Option ℕ → ℕ
nth_letter None = 63
nth_letter (Some n) = if nat_lt n 26 then 97 + n else 63

-- the letter of a pen: that of its index among the pens with one, and a point (46) for the plain one
abbrev pub letter_of : List Look → Look → ℕ
letter_of known pen = if is_plain pen then 46 else nth_letter (position (λ k. same_look k pen) known)

-- the letters of cells side by side
abbrev pub row_letters : List Look → List Glyph → List ℕ
row_letters known cells = flat_map (λ cell. encode (letter_of known cell.pen)) cells

-- all its rows, each with its pens' letters
abbrev pub letters_text : List Look → Grid → List ℕ
letters_text known g = lines_text (row_letters known) g g.height

-- the screen whose looks it pictures
abbrev pub looks_screen : Looks → Screen
looks_screen looks = looks.screen.now

-- its pens with a letter, that of `a` first
abbrev pub looks_pens : Looks → List Pen
looks_pens looks = looks.pens.items
