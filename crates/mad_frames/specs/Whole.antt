-- Screens whose cells are whole characters, each with its tails, in pens that one piece can write.
use Rattle.std.specs.Prelude.{◌≡◌, ℕ, zero, suc, ◌-◌, ◌<◌, ◌==◌, ◌&&◌, not, nat_lt, Bool, true, false, List, [], ◌∷◌, Option, Some, None}
use Rattle.std.specs.Int.{bit_at}
use Rattle.std.specs.List.{list_all}
use Rattle.std.specs.Option.{option_eq}
use Rattle.unicode_width.specs.Width.{char_width}
use Rattle.mad_characters.specs.Columns.{char_columns}
use Rattle.mad_term.specs.declared.color.Color.{Color}
use Rattle.mad_term.specs.declared.color.Color.TheVariants.{Rgb, AnsiValue}
use Rattle.mad_screen.specs.Glyph.{Glyph, Look}
use Rattle.mad_screen.specs.Grid.{Grid, plain_pen, is_tail}
use Rattle.mad_screen.specs.Pictures.{same_look, row_cells}

-- a character without columns; a control character has no width at all
abbrev pub is_widthless : ℕ → Bool
is_widthless c = option_eq ◌==◌ (char_width false c) (Some 0)

-- all of these are joined to a character before them
abbrev pub are_joined : List ℕ → Bool
are_joined = list_all is_widthless

-- one character that takes columns, and widthless ones joined to it
abbrev pub is_cell_text : List ℕ → Bool
is_cell_text [] = false
is_cell_text (c ∷ cs) = nat_lt 0 (char_columns c) && are_joined cs

-- the further columns of a cell's first character
abbrev pub tails_of : List ℕ → ℕ
tails_of [] = 0
tails_of (c ∷ cs) = char_columns c - 1

-- the default color, or one as reading leaves it: by its number, or by its three parts
abbrev pub is_kept : Option Color → Bool
is_kept None = true
is_kept (Some (Rgb r g b)) = true
is_kept (Some (AnsiValue n)) = true
is_kept (Some _) = false

-- One piece can write the pen. Every pen that reading leaves is so: its colors are kept, and Reset, the lowest bit, is not
-- in its set.
abbrev pub is_writable : Look → Bool
is_writable p = is_kept p.fg && (is_kept p.bg && (is_kept p.underline && not (bit_at p.codes 0 == 1)))

-- the first `n` of these cells are the last tails, in this pen, of a character before them; the others are whole characters
abbrev pub are_whole_after : ℕ → Look → List Glyph → Bool
are_whole_after zero pen [] = true
are_whole_after (suc n) pen [] = false
are_whole_after (suc n) pen (g ∷ gs) = is_tail g && (same_look g.pen pen && are_whole_after n pen gs)
are_whole_after zero pen (g ∷ gs) = is_cell_text g.chars && (is_writable g.pen && are_whole_after (tails_of g.chars) g.pen gs)

-- cells that are whole characters
abbrev pub are_whole : List Glyph → Bool
are_whole = are_whole_after 0 plain_pen

-- each row of a screen is whole characters
abbrev pub IsWholeGrid : Grid → Type 0
IsWholeGrid g = (y : ℕ) → y < g.height → are_whole (row_cells g y) ≡ true
