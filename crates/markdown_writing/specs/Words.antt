-- Words as Markdown: a backslash stands before each sign that could be a mark.
use Rattle.std.specs.Prelude.{ℕ, Bool, ◌||◌, ◌==◌, List, [], ◌∷◌, ◌++◌, flat_map, if◌then◌else◌}
use Rattle.std.specs.Char.{is_ascii_punctuation}

-- one of ! # & ) * . : < @ [ \ ] _ ` ~, each of which may be a mark wherever it stands
abbrev pub is_mark : ℕ → Bool
is_mark b =
    (b == 33) || (b == 35) || (b == 38) || (b == 41) || (b == 42) || (b == 46) || (b == 58) || (b == 60) || (b == 64) || (b == 91)
    || (b == 92) || (b == 93) || (b == 95) || (b == 96) || (b == 126)

-- a byte, with a backslash before it or without one
abbrev pub escaped_if : Bool → ℕ → List ℕ
escaped_if mark b = if mark then 92 ∷ b ∷ [] else b ∷ []

-- a byte that isn't the first
abbrev pub escaped_byte : ℕ → List ℕ
escaped_byte b = escaped_if (is_mark b) b

-- Words with these backslashes. At their beginning any ASCII punctuation may be a mark, as > + - = and | are.
abbrev pub escaped : List ℕ → List ℕ
escaped [] = []
escaped (b ∷ bs) = escaped_if (is_ascii_punctuation b) b ++ flat_map escaped_byte bs
