-- How many bytes a change may take.
use Rattle.std.specs.Prelude.{ℕ, ◌+◌, ◌&&◌, ◌||◌, nat_eq, Bool, if◌then◌else◌, List, ◌∷◌, length}
use Rattle.std.specs.Cmp.Lexicographic.{pointwise}
use Rattle.mad_screen.specs.Glyph.{Glyph}
use Rattle.mad_screen.specs.Grid.{is_tail}
use Rattle.mad_screen.specs.Pictures.{same_look, cell_text}

-- whether two cells show the same, in the same pen
abbrev pub is_same_cell : Glyph → Glyph → Bool
is_same_cell a b = pointwise nat_eq a.chars b.chars && same_look a.pen b.pen

-- what a move may take: a row and a column of five digits each
abbrev pub longest_move : ℕ
longest_move = 14

-- what a style before a piece may take, with what ends it after the piece
abbrev pub longest_style : ℕ
longest_style = 167

-- what a changed character may take beside its bytes: a move, and a style
abbrev pub change_bytes : ℕ
change_bytes = longest_move + longest_style

-- What a cell may take that is to show another: nothing if they are the same. A tail takes nothing, since its character's first cell
-- counts for all.
abbrev pub cell_bytes : Glyph → Glyph → ℕ
cell_bytes old new = if is_tail new || is_same_cell old new then 0 else change_bytes + length (cell_text new)

-- what the cells of a screen may take in all that are to show those of another, side by side
abbrev pub most_bytes : List Glyph → List Glyph → ℕ
most_bytes (o ∷ os) (n ∷ ns) = cell_bytes o n + most_bytes os ns
most_bytes _ _ = 0
