-- The width of flagged text.
use Rattle.std.proofs.Common.{◌≡◌, ℕ, ◌+◌, List, [], ◌∷◌, ◌++◌, refl, arith}
use Rattle.mad_md.specs.Flagged.{Flags, FlaggedChar, flagged}
use Rattle.mad_measure.specs.TextColumns.{columns, width_of}

-- joined texts are as wide as both together
pub width_of-append : (xs ys : List FlaggedChar) → width_of (xs ++ ys) ≡ width_of xs + width_of ys
width_of-append [] ys = omega arith
width_of-append (x ∷ xs) ys = omega (arith, width_of-append xs ys)

-- flags take no columns
pub width_of-flagged : (f : Flags) (cs : List ℕ) → width_of (flagged f cs) ≡ columns cs
width_of-flagged f [] = refl
width_of-flagged f (c ∷ cs) = omega (arith, width_of-flagged f cs)
