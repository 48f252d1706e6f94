-- Gutters: their columns, which of them are shown at a width, and what they leave of it.
use Rattle.std.specs.Prelude.{ℕ, ◌+◌, ◌-◌, ◌*◌, nat_lt, if◌then◌else◌, Bool, List, [], ◌∷◌, length, decimal, Option, Some, None}
use Rattle.mad_sections.specs.declared.gutters.Gutter.{Gutter}
use Rattle.mad_sections.specs.declared.gutters.Gutter.TheVariants.{Bar, AlertBar, Bullet, Number, Task, Code, Signs, Below}

-- the columns of a gutter, by whether a task's box is of ASCII characters: those of what it shows, and a blank; of code those of its sides, of a heading
-- its signs and a blank; what is below a heading takes none
abbrev pub gutter_columns : Bool → Gutter → ℕ
gutter_columns ascii Bar = 2
gutter_columns ascii (AlertBar alert) = 2
gutter_columns ascii Bullet = 2
gutter_columns ascii (Number n) = length (decimal n) + 2
gutter_columns ascii (Task done) = if ascii then 4 else 2
gutter_columns ascii Code = 2
gutter_columns ascii (Signs level) = level + 2
gutter_columns ascii (Below level) = 0

-- the columns of gutters
abbrev pub columns_of : Bool → List Gutter → ℕ
columns_of ascii [] = 0
columns_of ascii (g ∷ gs) = gutter_columns ascii g + columns_of ascii gs

-- the gutters that are shown at a width: the longest end whose columns are less than half of it
abbrev pub shown_at : Bool → ℕ → List Gutter → List Gutter
shown_at ascii width [] = []
shown_at ascii width (g ∷ gs) = if nat_lt (2 * columns_of ascii (g ∷ gs)) width then g ∷ gs else shown_at ascii width gs

-- what they leave of the width
abbrev pub room_at : Bool → ℕ → List Gutter → ℕ
room_at ascii width gs = width - columns_of ascii (shown_at ascii width gs)

-- the gutters that are shown at a width, if there is one; else all
abbrev pub shown : Bool → Option ℕ → List Gutter → List Gutter
shown ascii None gs = gs
shown ascii (Some width) gs = shown_at ascii width gs

-- the room behind gutters: what those that are shown leave of the width, if there is one
abbrev pub room : Bool → Option ℕ → List Gutter → Option ℕ
room ascii None gs = None
room ascii (Some width) gs = Some (room_at ascii width gs)
