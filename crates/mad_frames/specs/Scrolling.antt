-- A terminal that scrolls: it reads what the plain terminal reads, and commands by which its first rows go up or down.
use Rattle.std.specs.Prelude.{◌≡◌, ℕ, zero, suc, ◌+◌, ◌-◌, ◌&&◌, nat_lt, nat_le, Bool, List, [], ◌∷◌, ◌++◌, Option, Some, None, option_and_then, if◌then◌else◌, replicate}
use Rattle.std.specs.List.{flat_map}
use Rattle.mad_term.specs.Commands.{command_bytes}
use Rattle.mad_screen.specs.Glyph.{Glyph}
use Rattle.mad_screen.specs.Grid.{Grid, IsGrid, plain_pen, blank}
use Rattle.mad_screen.specs.Pictures.{same_look, row_cells}
use Rattle.mad_screen.specs.Terminal.{after_bytes}
use Rattle.mad_frames.specs.declared.scrolling.Scroll.{Scroll}
use Rattle.mad_frames.specs.declared.scrolling.Scroll.TheVariants.{Up, Down}
use Rattle.mad_frames.specs.Changes.{SameSize, ShowsCells}

-- ---- the command

-- how many rows they go
abbrev pub count_of : Scroll → ℕ
count_of (Up count) = count
count_of (Down count) = count

-- rows are deleted (M, 77) or inserted (L, 76) at the cursor, as far as the region of rows that scrolls
abbrev pub rows_bytes : Scroll → List ℕ
rows_bytes (Up count) = command_bytes (count ∷ []) 77
rows_bytes (Down count) = command_bytes (count ∷ []) 76

-- The region is set to the first rows, so many of them, and the cursor is in its first row then. The rows go, and the region is the whole screen
-- again (r, 114).
abbrev pub scroll_bytes : Scroll → ℕ → List ℕ
scroll_bytes s rows = command_bytes (1 ∷ rows ∷ []) 114 ++ (rows_bytes s ++ command_bytes [] 114)

-- the row that comes to row `y`, of the first `rows` alone; none where a blank one comes in
abbrev pub row_from : Scroll → ℕ → ℕ → Option ℕ
row_from (Up count) rows y = if nat_lt y rows then (if nat_lt (y + count) rows then Some (y + count) else None) else Some y
row_from (Down count) rows y = if nat_lt y rows then (if nat_lt y count then None else Some (y - count)) else Some y

-- that row of a screen
abbrev pub row_or_blank : Grid → Option ℕ → List Glyph
row_or_blank g None = replicate g.width blank
row_or_blank g (Some y) = row_cells g y

-- the first `n` rows once they have gone
abbrev pub gone_rows : Scroll → ℕ → Grid → ℕ → List Glyph
gone_rows s rows g zero = []
gone_rows s rows g (suc n) = gone_rows s rows g n ++ row_or_blank g (row_from s rows n)

-- the screen once they have gone; the cursor is at its first position
abbrev pub gone : Scroll → ℕ → Grid → Grid
gone s rows g = record g { cells = gone_rows s rows g g.height; x = 0; y = 0 }

-- Two rows at least are on the screen that go, one of them stays, and the pen is plain: else blank rows would have its background.
abbrev pub can_go : Scroll → ℕ → Grid → Bool
can_go s rows g = nat_lt 0 (count_of s) && (nat_lt (count_of s) rows && (nat_le rows g.height && same_look g.pen plain_pen))

-- ---- what it reads

-- a part of what it reads: a text that the plain terminal reads, or the command by which the first rows go
pub data Part : Type 0 where
  Plain : List ℕ → Part
  Goes : Scroll → ℕ → Part

-- its bytes
abbrev pub part_bytes : Part → List ℕ
part_bytes (Plain text) = text
part_bytes (Goes s rows) = scroll_bytes s rows

-- the screen after a part, if the terminal can read it
abbrev pub after_part : Part → Grid → Option Grid
after_part (Plain text) g = after_bytes g text
after_part (Goes s rows) g = if can_go s rows g then Some (gone s rows g) else None

-- the screen after one part and the next
abbrev pub after_parts : List Part → Grid → Option Grid
after_parts [] g = Some g
after_parts (p ∷ ps) g = option_and_then (after_parts ps) (after_part p g)

-- bytes that lead the terminal from one screen to another: they are parts that it reads
abbrev pub ReadsTo : Grid → List ℕ → Grid → Type 0
ReadsTo g bytes new = (parts : List Part) × (flat_map part_bytes parts ≡ bytes) × (after_parts parts g ≡ Some new)

-- bytes that lead it from the cells of one screen to those of another, as `LeadTo` says it of the plain terminal
abbrev pub BringTo : Grid → Grid → List ℕ → Type 0
BringTo old new bytes = (t : Grid) → ShowsCells old t → (after : Grid) × ReadsTo t bytes after × ShowsCells new after

-- bytes that lead it to the cells of a screen, whatever one of that size it shows, and with whatever pen
abbrev pub Bring : Grid → List ℕ → Type 0
Bring new bytes = (t : Grid) → IsGrid t → SameSize new t → (after : Grid) × ReadsTo t bytes after × ShowsCells new after
