-- The plain terminal: what each character does to a screen, and so what a text does. A text that it can't read has no
-- result.
use Rattle.std.specs.Prelude.{◌≡◌, ℕ, zero, suc, ◌+◌, ◌-◌, ◌*◌, ◌^◌, min, ◌==◌, nat_lt, nat_le, ◌&&◌, Bool, false, List, [], ◌∷◌, ◌++◌, Option, Some, None, option_map, option_and_then, if◌then◌else◌, replicate, slice_index_or, slice_set, find}
use Rattle.std.specs.Str.{chars, is_utf8}
use Rattle.std.specs.Int.RustNames.{bit_or}
use Rattle.unicode_width.specs.Width.{char_width}
use Rattle.mad_term.specs.declared.color.Color.{Color}
use Rattle.mad_term.specs.declared.color.Color.TheVariants.{AnsiValue, Rgb}
use Rattle.mad_term.specs.declared.attribute.Attribute.{Attribute}
use Rattle.mad_term.specs.declared.attribute.Attribute.TheVariants.{Reset}
use Rattle.mad_term.specs.Attribute.{attribute_index, attribute_code, all_attributes}
use Rattle.mad_screen.specs.Glyph.{Glyph, Look}
use Rattle.mad_screen.specs.Grid.{Grid, plain_pen, put_list, painted, glyphs, is_tail, blank}

-- ---- characters

-- The index of the first cell left of column x, tails passed over, that is no tail. The row begins at `start`.
abbrev pub head_before : List Glyph → ℕ → ℕ → Option ℕ
head_before cells start zero = None
head_before cells start (suc x) =
    if is_tail (slice_index_or cells (start + x) blank) then head_before cells start x else Some (start + x)

-- a cell with one more character joined to it
abbrev pub joined_glyph : Glyph → ℕ → Glyph
joined_glyph g c = record g { chars = g.chars ++ c ∷ [] }

-- the character c is joined to the cell at this index
abbrev pub join_at : Grid → ℕ → Option ℕ → Option Grid
join_at g c None = None
join_at g c (Some i) = Some (record g { cells = slice_set g.cells i (joined_glyph (slice_index_or g.cells i blank) c) })

-- A character of this width. A control character has none, a widthless one is joined, and another needs its columns
-- before the right edge.
abbrev pub put_wide : Option ℕ → Grid → ℕ → Option Grid
put_wide None g c = None
put_wide (Some zero) g c = join_at g c (head_before g.cells (g.y * g.width) g.x)
put_wide (Some (suc k)) g c = if nat_le (g.x + suc k) g.width then Some (painted g (glyphs (c ∷ []) k g.pen)) else None

-- a character outside a sequence; a screen without rows shows none
abbrev pub put : Grid → ℕ → Option Grid
put g c = if nat_lt g.y g.height then put_wide (char_width false c) g c else None

-- ---- commands

-- the cursor goes to a row and a column, both counted from one
abbrev pub go_to : List ℕ → Grid → Option Grid
go_to (row ∷ column ∷ []) g =
    if nat_le 1 row && nat_le row g.height && nat_le 1 column && nat_le column g.width
    then Some (record g { x = column - 1; y = row - 1 }) else None
go_to _ g = None

-- a space with the pen's background alone
abbrev pub space_of : Look → Glyph
space_of p = record { chars = 32 ∷ []; pen = record plain_pen { bg = p.bg } }

-- such spaces in the cells from one index up to another; the cursor stays
unfoldable pub erased : ℕ → ℕ → Grid → Grid
erased from to g = record g { cells = put_list g.cells from (replicate (to - from) (space_of g.pen)) }

-- the index where the cursor's row begins; cells are counted along the rows
abbrev pub row_start : Grid → ℕ
row_start g = g.y * g.width

-- the index where it ends
abbrev pub row_end : Grid → ℕ
row_end g = g.y * g.width + g.width

-- the index where the screen ends
abbrev pub screen_end : Grid → ℕ
screen_end g = g.height * g.width

-- from the cursor to the screen's end, up to and with the cursor (1), or all (2)
abbrev pub erase_screen : List ℕ → Grid → Option Grid
erase_screen [] g = Some (erased (row_start g + g.x) (screen_end g) g)
erase_screen (n ∷ []) g =
    if n == 1 then Some (erased 0 (row_start g + min (g.x + 1) g.width) g)
    else if n == 2 then Some (erased 0 (screen_end g) g) else None
erase_screen _ g = None

-- from the cursor to the row's end, or the row (2)
abbrev pub erase_row : List ℕ → Grid → Option Grid
erase_row [] g = Some (erased (row_start g + g.x) (row_end g) g)
erase_row (n ∷ []) g = if n == 2 then Some (erased (row_start g) (row_end g) g) else None
erase_row _ g = None

-- the pen once an attribute was switched on; Reset makes it the plain one and isn't kept
abbrev pub switched_on : Attribute → Look → Look
switched_on Reset p = plain_pen
switched_on a p = record p { codes = bit_or p.codes (2 ^ attribute_index a) }

-- the attribute of a code
abbrev pub attribute_of : ℕ → Option Attribute
attribute_of n = find (λ a. attribute_code a == n) all_attributes

-- the default color for characters (39), for their background (49) or for the lines below (59), or an attribute
abbrev pub with_code : ℕ → Look → Option Look
with_code n p =
    if n == 39 then Some (record p { fg = None })
    else if n == 49 then Some (record p { bg = None })
    else if n == 59 then Some (record p { underline = None })
    else option_map (λ a. switched_on a p) (attribute_of n)

-- a color for characters (38), for their background (48) or for the lines below (58)
abbrev pub with_color : ℕ → Color → Look → Option Look
with_color n c p =
    if n == 38 then Some (record p { fg = Some c })
    else if n == 48 then Some (record p { bg = Some c })
    else if n == 58 then Some (record p { underline = Some c }) else None

-- one code, or one color by number or by its three parts
abbrev pub restyled : List ℕ → Look → Option Look
restyled (n ∷ []) p = with_code n p
restyled (n ∷ kind ∷ number ∷ []) p = if (kind == 5) && nat_lt number 256 then with_color n (AnsiValue number) p else None
restyled (n ∷ kind ∷ r ∷ g ∷ b ∷ []) p =
    if (kind == 2) && nat_lt r 256 && nat_lt g 256 && nat_lt b 256 then with_color n (Rgb r g b) p else None
restyled _ p = None

-- the command that a letter ends: 72 is `H`, 109 `m`, 74 `J`, 75 `K`
abbrev pub perform : ℕ → List ℕ → Grid → Option Grid
perform c ps g =
    if c == 72 then go_to ps g
    else if c == 109 then option_map (λ p. record g { pen = p }) (restyled ps g.pen)
    else if c == 74 then erase_screen ps g
    else if c == 75 then erase_row ps g
    else None

-- ---- sequences

-- How far a sequence has come: outside one, after ESC, or among the numbers. These come with those read so far, and with what
-- there is of the next.
pub data Mode : Type 0 where
  Outside : Mode
  Escape : Mode
  Numbers : List ℕ → Option ℕ → Mode

-- a screen in the middle of a text
pub record Reading : Type 0 where
  pub grid : Grid
  pub mode : Mode

-- outside a sequence
abbrev pub resting : Grid → Reading
resting g = record { grid = g; mode = Outside }

-- among the numbers of a sequence
abbrev pub numbers : Grid → List ℕ → Option ℕ → Reading
numbers g ps now = record { grid = g; mode = Numbers ps now }

-- 0 to 9
abbrev pub is_digit : ℕ → Bool
is_digit c = nat_le 48 c && nat_le c 57

-- the number with one more digit: it has no leading zero, and stays below 2 ^ 32
abbrev pub with_digit : Option ℕ → ℕ → Option ℕ
with_digit None d = Some d
with_digit (Some n) d = if n == 0 then None else if nat_lt (n * 10 + d) (2 ^ 32) then Some (n * 10 + d) else None

-- what ends a number, or comes where none is: a semicolon (59) asks for one more, a letter ends the sequence
abbrev pub end_number : Grid → List ℕ → Option ℕ → ℕ → Option Reading
end_number g [] None c = option_map resting (perform c [] g)
end_number g (p ∷ ps) None c = None
end_number g ps (Some n) c =
    if c == 59 then Some (numbers g (ps ++ n ∷ []) None) else option_map resting (perform c (ps ++ n ∷ []) g)

-- what a character does, by how far a sequence has come: 27 is ESC, 91 is `[`
abbrev pub feed_in : Mode → Grid → ℕ → Option Reading
feed_in Outside g c = if c == 27 then Some (record { grid = g; mode = Escape }) else option_map resting (put g c)
feed_in Escape g c = if c == 91 then Some (numbers g [] None) else None
feed_in (Numbers ps now) g c =
    if is_digit c then option_map (λ n. numbers g ps (Some n)) (with_digit now (c - 48)) else end_number g ps now c

-- the next character
abbrev pub feed : Reading → ℕ → Option Reading
feed r c = feed_in r.mode r.grid c

-- characters, one after another
abbrev pub feed_all : List ℕ → Reading → Option Reading
feed_all [] r = Some r
feed_all (c ∷ cs) r = option_and_then (feed_all cs) (feed r c)

-- these characters lead from one reading to the other
unfoldable pub Leads : Reading → List ℕ → Reading → Type 0
Leads r cs s = feed_all cs r ≡ Some s

-- ---- texts

-- a text may end outside a sequence alone
abbrev pub settled_in : Mode → Grid → Option Grid
settled_in Outside g = Some g
settled_in Escape g = None
settled_in (Numbers ps now) g = None

-- the screen at a text's end, where no sequence is cut off
abbrev pub settled : Reading → Option Grid
settled r = settled_in r.mode r.grid

-- the screen after these bytes, if the plain terminal can read them
unfoldable pub after_bytes : Grid → List ℕ → Option Grid
after_bytes g bytes = if is_utf8 bytes then option_and_then settled (feed_all (chars bytes) (resting g)) else None
