-- Words about bytes, which use nothing of the reader.
use Rattle.std.specs.Prelude.{ℕ, Bool, true, false, ◌||◌, ◌==◌, List, [], ◌∷◌}
use Rattle.std.specs.List.{list_all}

-- a space or a tab
abbrev pub is_space_or_tab : ℕ → Bool
is_space_or_tab b = (b == 32) || (b == 9)

-- spaces and tabs alone, or nothing
abbrev pub are_blanks : List ℕ → Bool
are_blanks bytes = list_all is_space_or_tab bytes

-- nothing, or a blank and whatever follows it
abbrev pub is_apart : List ℕ → Bool
is_apart [] = true
is_apart (b ∷ bs) = is_space_or_tab b

-- the first byte is this one
abbrev pub begins_with : ℕ → List ℕ → Bool
begins_with byte [] = false
begins_with byte (b ∷ bs) = b == byte
