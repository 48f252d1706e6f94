-- Clean cuts: two compounds that fit on a line each, with or without a middle of whitespace, are two lines.
use Rattle.std.specs.Prelude.{ℕ, ◌+◌, Bool, false, ◌&&◌, nat_le, List, [], ◌∷◌, chars, Option, Some, None, is_some, if◌then◌else◌}
use Rattle.std.specs.List.{AllByRecursion, list_all}
use Rattle.std.specs.Str.{IsUtf8}
use Rattle.std.specs.Char.{is_whitespace}
use Rattle.mad_md.specs.Flagged.{flagged_of}
use Rattle.mad_md.specs.declared.compound.Compound.{Compound}
use Rattle.mad_measure.specs.TextColumns.{width_of}
use Rattle.mad_wrap.specs.declared.room.Room.{Room}

-- the compound fits after an indent
abbrev pub fits_after : ℕ → ℕ → Compound → Bool
fits_after indent width p = nat_le (indent + width_of (flagged_of p)) width

-- the first compound fits on the first line, and the second on another
abbrev pub both_fit : Room → Compound → Compound → Bool
both_fit r front back = fits_after r.first r.width front && fits_after r.other r.width back

-- the characters of the compound are whitespace, in code or not
abbrev pub is_white : Compound → Bool
is_white p = list_all is_whitespace (chars p.src.now)

-- the two compounds that a clean cut puts on a line each, where one is made
abbrev pub clean_cut : Room → List Compound → Option (Compound × Compound)
clean_cut r (front ∷ back ∷ []) = if both_fit r front back then Some (front, back) else None
clean_cut r (front ∷ middle ∷ back ∷ []) = if is_white middle && both_fit r front back then Some (front, back) else None
clean_cut r _ = None

-- the text is cut clean
abbrev pub is_cut_clean : Room → List Compound → Bool
is_cut_clean r ps = is_some (clean_cut r ps)

-- a clean cut drops a middle
abbrev pub drops_middle : Room → List Compound → Bool
drops_middle r (front ∷ middle ∷ back ∷ []) = is_cut_clean r (front ∷ middle ∷ back ∷ [])
drops_middle r _ = false

-- each compound is a text
abbrev pub AreTexts : List Compound → Type 0
AreTexts ps = AllByRecursion (λ p. IsUtf8 p.src.now) ps
