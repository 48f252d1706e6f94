-- The parts of compounds that may be cut in the middle, and how much of each goes.
use Rattle.std.specs.Prelude.{◌≡◌, ℕ, ◌+◌, ◌-◌, ◌&&◌, ◌||◌, Bool, nat_eq, nat_le, nat_lt, List, [], ◌∷◌, ◌++◌, length, chars, map, slice_range, if◌then◌else◌}
use Rattle.mad_md.specs.declared.compound.Compound.{Compound}
use Rattle.mad_measure.specs.TextColumns.{columns}
use Rattle.mad_fitting.specs.CenteredCuts.{inside_chars}
use Rattle.mad_fitting.specs.Zones.{AreZonesOf}
use Rattle.mad_fitting.specs.declared.gains.Gain.{Gain}
use Rattle.mad_fitting.specs.declared.gains.Parts.{Parts}
use Rattle.mad_fitting.specs.declared.gains.Parts.TheVariants.{Runs, Wholes}
use Rattle.mad_fitting.specs.declared.parts.Run.{Run}

-- a whole text, compared by the columns of its inside, if there are two characters at least and two columns
abbrev pub whole_of : List ℕ → List Run
whole_of text =
    let inside = inside_chars (chars text) in
    if nat_le 2 (columns inside) && nat_le 2 (length inside) then record { compound = 0; start = 0; end = length text; columns = columns inside } ∷ [] else []

-- the parts of a compound that may be cut, in order: its runs, or it as a whole
abbrev pub ArePartsOf : Parts → Compound → List Run → Type 0
ArePartsOf Runs p parts = AreZonesOf 0 p.src.now parts
ArePartsOf Wholes p parts = parts ≡ whole_of p.src.now

-- a part by its columns, and what is gained where an ellipsis takes the place of all but its first and last character
abbrev pub gain_of : List ℕ → Run → Gain
gain_of text part = record { columns = part.columns; gained = columns (inside_chars (chars (slice_range text part.start part.end))) - 1 }

-- the parts of compounds so, in order
abbrev pub AreGains : Parts → List Compound → List Gain → Type 0
AreGains kind [] gains = gains ≡ []
AreGains kind (p ∷ ps) gains = (own : List Run) × (others : List Gain) × ArePartsOf kind p own × (gains ≡ map (gain_of p.src.now) own ++ others) × AreGains kind ps others

-- What a part counts for, with so many columns too many. One that gains nothing ends the cutting, as if it gained all.
abbrev pub weight : ℕ → Gain → ℕ
weight excess gain = if nat_eq gain.gained 0 then excess else gain.gained

-- a part comes before others: it has more columns, or as many and this number at least
abbrev pub is_before : ℕ → ℕ → ℕ → Gain → Bool
is_before columns least number gain = nat_lt columns gain.columns || (nat_eq columns gain.columns && nat_le least number)

-- What the wider parts gain together with those as wide of this number at least. The first of the list has the number `first`.
abbrev pub gained : ℕ → ℕ → ℕ → ℕ → List Gain → ℕ
gained excess columns least first [] = 0
gained excess columns least first (gain ∷ gains) = (if is_before columns least first gain then weight excess gain else 0) + gained excess columns least (first + 1) gains

-- How many columns are still too many when the turn of a part comes: the wider ones have been cut, and of those as wide the ones behind it.
abbrev pub due : ℕ → List Gain → ℕ → ℕ → ℕ
due excess gains number columns = excess - gained excess columns (number + 1) 0 gains
