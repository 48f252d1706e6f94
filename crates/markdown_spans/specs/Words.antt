-- A text with its blanks as one space.
use Rattle.std.specs.Prelude.{ℕ, Bool, true, false, ◌&&◌, if◌then◌else◌, List, [], ◌∷◌, ◌++◌}
use Rattle.markdown_marks.specs.Definitions.{is_space_byte}

-- a space, where blanks are between two words
abbrev pub gap_of : Bool → Bool → List ℕ
gap_of begun gap = if begun && gap then 32 ∷ [] else []

-- its words, with a space between them
unfoldable pub words : (begun gap : Bool) → List ℕ → List ℕ
words begun gap [] = []
words begun gap (b ∷ bs) = if is_space_byte b then words begun true bs else (gap_of begun gap ++ b ∷ []) ++ words true false bs
