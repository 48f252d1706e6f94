-- The line that a text holds.
use Rattle.std.specs.Prelude.{◌≡◌, ◌⊎◌, ℕ, List, [], ◌∷◌, ◌++◌}

-- the bytes end in this one
abbrev pub EndsIn : ℕ → List ℕ → Type 0
EndsIn byte bytes = (front : List ℕ) × (bytes ≡ front ++ (byte ∷ []))

-- The line is the text without its end of line, `\r\n` or else `\n`, where it has one. Of several ends only the last one goes.
abbrev pub IsWithoutLineEnd : List ℕ → List ℕ → Type 0
IsWithoutLineEnd text line =
    (text ≡ line ++ (13 ∷ 10 ∷ []))
    ⊎ (((text ≡ line ++ (10 ∷ [])) × ¬ (EndsIn 13 line))
    ⊎ ((text ≡ line) × ¬ (EndsIn 10 text)))
