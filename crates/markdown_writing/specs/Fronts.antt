-- Texts whose lines have something in front: a quote, and an item of a list.
use Rattle.std.specs.Prelude.{ℕ, Bool, true, false, ◌==◌, List, [], ◌∷◌, ◌++◌, if◌then◌else◌}

-- what stands before a byte where a line begins: one thing before the end of an empty line, another before any other byte
abbrev pub front_before : (empty full : List ℕ) → (begins : Bool) → ℕ → List ℕ
front_before empty full begins b = if begins then (if b == 10 then empty else full) else []

-- a text whose lines each have that in front; the first of them begins here, or has begun before
abbrev pub fronted : (empty full : List ℕ) → (begins : Bool) → List ℕ → List ℕ
fronted empty full begins [] = []
fronted empty full begins (b ∷ bs) = front_before empty full begins b ++ b ∷ fronted empty full (b == 10) bs

-- A text as a quote: the sign > before each line, and a space behind it where the line isn't empty.
abbrev pub quoted : List ℕ → List ℕ
quoted text = fronted (62 ∷ []) (62 ∷ 32 ∷ []) true text

-- A text as an item: a hyphen and a space before its first line, and two spaces before each other line that isn't empty.
abbrev pub itemized : List ℕ → List ℕ
itemized text = 45 ∷ 32 ∷ fronted [] (32 ∷ 32 ∷ []) false text
