-- Rows in a style that only grow.
use Rattle.std.specs.Prelude.{◌≡◌, ◌≢◌, ◌⊎◌, ℕ, ◌+◌, ◌<◌, List, [], ◌∷◌, ◌++◌, length}
use Rattle.std.specs.List.{AllByRecursion, flat_map}
use Rattle.mad_live.specs.declared.styling.Styling.{Styling}
use Rattle.mad_live.specs.declared.styling.Styling.TheVariants.{Plain, Begun, Numbers, Styled, Other}

-- the command that ends a style
abbrev pub reset : List ℕ
reset = 27 ∷ 91 ∷ 48 ∷ 109 ∷ []

-- bytes of text in a row: none begins a command (27) or ends the row (10)
abbrev pub AreText : List ℕ → Type 0
AreText bytes = AllByRecursion (λ c. (c ≢ 27) × (c ≢ 10)) bytes

-- No style is set after these bytes: text alone came since the last row began or a style ended.
pub record EndsPlain (bytes : List ℕ) : Type 0 where
  pub before : List ℕ
  pub since : List ℕ
  pub is : bytes ≡ before ++ since
  pub text : AreText since
  pub begins : (before ≡ []) ⊎ (((front : List ℕ) × (before ≡ front ++ 10 ∷ [])) ⊎ ((front : List ℕ) × (before ≡ front ++ reset)))

-- the command that sets a style by these bytes
abbrev pub set_style : List ℕ → List ℕ
set_style numbers = 27 ∷ 91 ∷ (numbers ++ 109 ∷ [])

-- digits and semicolons (59), or other bytes that come before letters; none ends the row
abbrev pub AreNumbers : List ℕ → Type 0
AreNumbers bytes = AllByRecursion (λ c. (c < 60) × (c ≢ 10)) bytes

-- such commands, one after another
abbrev pub set_styles : List (List ℕ) → List ℕ
set_styles commands = flat_map set_style commands

-- The bytes end with commands that set a style, where none was set before, and then with other bytes. The commands begin at `begin`.
pub record HasStyle (bytes : List ℕ) (begin : ℕ) (commands : List (List ℕ)) (rest : List ℕ) : Type 0 where
  pub front : List ℕ
  pub is : bytes ≡ front ++ (set_styles commands ++ rest)
  pub plain : EndsPlain front
  pub numbers : AllByRecursion AreNumbers commands
  pub at : length front ≡ begin

-- what the end of these bytes is
abbrev pub IsStyling : List ℕ → Styling → Type 0
IsStyling bytes Plain = EndsPlain bytes
IsStyling bytes (Begun begin) = (commands : List (List ℕ)) × HasStyle bytes begin commands (27 ∷ [])
IsStyling bytes (Numbers begin) = (commands : List (List ℕ)) × (numbers : List ℕ) × HasStyle bytes begin commands (27 ∷ 91 ∷ numbers) × AreNumbers numbers
IsStyling bytes (Styled begin end) =
    (first : List ℕ) × (commands : List (List ℕ)) × (text : List ℕ) × HasStyle bytes begin (first ∷ commands) text × AreText text × (begin + length (set_styles (first ∷ commands)) ≡ end)
IsStyling bytes Other = Unit {0}

-- The rows that are wanted go on from those that are shown in the style that these end in: before its end.
pub record GrowsInStyle (shown wanted style more : List ℕ) : Type 0 where
  pub front : List ℕ
  pub first : List ℕ
  pub commands : List (List ℕ)
  pub text : List ℕ
  pub sets : style ≡ set_styles (first ∷ commands)
  pub was : shown ≡ (front ++ (style ++ text)) ++ reset
  pub is : wanted ≡ (front ++ (style ++ text)) ++ more
  pub plain : EndsPlain front
  pub numbers : AllByRecursion AreNumbers (first ∷ commands)
  pub in_row : AreText text
