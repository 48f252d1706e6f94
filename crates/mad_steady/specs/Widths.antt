-- The columns of texts whose widthless characters stand behind others.
use Rattle.std.specs.Prelude.{◌≡◌, ℕ, Bool, true, false, not, ◌&&◌, ◌||◌, ◌==◌, nat_lt, nat_le, List, [], ◌∷◌, ◌++◌}
use Rattle.std.specs.Char.{is_control, is_whitespace}
use Rattle.std.specs.List.{list_all}
use Rattle.mad_characters.specs.Columns.{char_columns}
use Rattle.mad_steady.specs.Kinds.{is_opening}

-- a character without columns that is no control character
abbrev pub is_widthless : ℕ → Bool
is_widthless c = not (is_control c) && (char_columns c == 0)

-- A widthless character may stand behind this one: it is no blank, no mark and no control character, and has columns or is a widthless one that
-- may itself stand where it does.
abbrev pub bears : Bool → ℕ → Bool
bears borne c = not (is_opening c) && (nat_lt 0 (char_columns c) || borne)

-- Each character takes 0, 1 or 2 columns, and each widthless one stands where it may. `borne` says whether the first may be widthless.
abbrev pub are_borne : Bool → List ℕ → Bool
are_borne borne [] = true
are_borne borne (c ∷ cs) = (nat_le (char_columns c) 2 && (not (is_widthless c) || borne)) && are_borne (bears borne c) cs

-- Each character without columns is no whitespace and comes right after one that is none; `after` says whether what comes before all of them is
-- such a one.
abbrev pub AreJoinedChars : Bool → List ℕ → Type 0
AreJoinedChars after [] = Unit {0}
AreJoinedChars after (c ∷ cs) = (char_columns c ≡ 0 → (is_whitespace c ≡ false) × (after ≡ true)) × AreJoinedChars (not (is_whitespace c)) cs

-- the last character is an opening one; `opened` says so of what comes before all of them
abbrev pub ends_opened : Bool → List ℕ → Bool
ends_opened opened [] = opened
ends_opened opened (c ∷ cs) = ends_opened (is_opening c) cs

-- Every piece of the characters that begins them or stands behind an opening one, and has no control character, is joined.
abbrev pub PiecesAreJoined : List ℕ → Type 0
PiecesAreJoined cs =
    (front piece more : List ℕ) → cs ≡ front ++ (piece ++ more) → ends_opened true front ≡ true → list_all (λ c. not (is_control c)) piece ≡ true → AreJoinedChars false piece
