-- Characters in styles, and runs of characters in one style each.
use Rattle.std.specs.Prelude.{ℕ, ◌-◌, nat_le, nat_lt, ◌&&◌, Bool, if◌then◌else◌, List, [], ◌∷◌, ◌++◌, map, take, drop}
use Rattle.mad_plain.specs.declared.pens.Pen.{Pen}
use Rattle.mad_plain.specs.declared.runs.StyleRun.{StyleRun}
use Rattle.mad_plain.specs.Pens.{plain_pen}

-- A character, and the style that it has.
pub record StyledChar : Type 0 where
  pub style : Pen
  pub char : ℕ

-- a character that has this style
abbrev pub styled : Pen → ℕ → StyledChar
styled style c = record { style = style; char = c }

-- the characters alone
abbrev pub said : List StyledChar → List ℕ
said cs = map (λ (c : StyledChar). c.char) cs

-- Characters in the styles of runs, each of which ends at a number of characters. `at` came before, and past the last run is this style.
abbrev pub spread : Pen → ℕ → List StyleRun → List ℕ → List StyledChar
spread last at [] cs = map (styled last) cs
spread last at (r ∷ rs) cs = map (styled r.style) (take (r.end - at) cs) ++ spread last r.end rs (drop (r.end - at) cs)

-- the runs end one behind the other, and not behind this number
abbrev pub are_within : ℕ → List StyleRun → ℕ → Bool
are_within at [] n = nat_le at n
are_within at (r ∷ rs) n = nat_le at r.end && are_within r.end rs n

-- the runs from the first one on that ends behind this number
abbrev pub next_runs : List StyleRun → ℕ → List StyleRun
next_runs [] at = []
next_runs (r ∷ rs) at = if nat_lt at r.end then r ∷ rs else next_runs rs at

-- the style of the first run; without one it is plain
abbrev pub first_style : List StyleRun → Pen
first_style [] = plain_pen
first_style (r ∷ rs) = r.style
