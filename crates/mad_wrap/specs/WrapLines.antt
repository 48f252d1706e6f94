-- What is said of the lines of a text that is wrapped.
use Rattle.std.specs.Prelude.{◌≡◌, ℕ, ◌+◌, ◌-◌, ◌^◌, ◌<◌, ◌≤◌, min, List, [], ◌∷◌, ◌++◌, map, length, Contains}
use Rattle.std.specs.List.{AllByRecursion}
use Rattle.mad_characters.specs.Columns.{char_columns}
use Rattle.mad_md.specs.Flagged.{FlaggedChar, Run, run_of, flagged_text}
use Rattle.mad_md.specs.declared.compound.Compound.{Compound}
use Rattle.mad_measure.specs.TextColumns.{width_of}
use Rattle.mad_measure.specs.Tokens.{token_run}
use Rattle.mad_measure.specs.declared.tokens.Token.{Token}
use Rattle.mad_wrap.specs.Rooms.{most_indent}
use Rattle.mad_wrap.specs.declared.room.Room.{Room}
use Rattle.mad_wrap.specs.declared.wrapped_line.WrappedLine.{WrappedLine}

-- what the compounds of a line say
abbrev pub runs_of : List Compound → List Run
runs_of ps = map run_of ps

-- a number of columns as a usize, its greatest value where there are more
abbrev pub capped : ℕ → ℕ
capped n = min n (2 ^ 64 - 1)

-- each character has room after the greater indent
pub record HasRoom (r : Room) (text : List FlaggedChar) : Type 0 where
  pub indent : most_indent r ≤ r.width
  pub each : AllByRecursion (λ x. most_indent r + char_columns x.char ≤ r.width) text

-- the first line fits with this indent, and the others with theirs
abbrev pub LinesFit : ℕ → Room → List (List FlaggedChar) → Type 0
LinesFit indent r [] = Unit {0}
LinesFit indent r (line ∷ lines) = (indent + width_of line ≤ r.width) × LinesFit r.other r lines

-- no compound is empty
abbrev pub NoneEmpty : List Compound → Type 0
NoneEmpty ps = AllByRecursion (λ p. 0 < length p.src.now) ps

-- each compound of the line is one of these, or one of these tokens
abbrev pub IsMadeOf : List Compound → List Token → List Compound → Type 0
IsMadeOf ps ts line = AllByRecursion (Contains (map run_of ps ++ map token_run ts)) (runs_of line)

-- the compounds of each line
abbrev pub compounds_of : List WrappedLine → List (List Compound)
compounds_of lines = map (λ l. l.compounds.items) lines

-- each line's columns are counted right
abbrev pub AreCounted : List WrappedLine → Type 0
AreCounted lines = AllByRecursion (λ l. l.columns ≡ capped (width_of (flagged_text l.compounds.items))) lines
