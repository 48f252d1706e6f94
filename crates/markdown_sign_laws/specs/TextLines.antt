-- What the lines of a text are.
use Rattle.std.specs.Prelude.{◌≡◌, ◌↔◌, ◌⊎◌, ℕ, Bool, true, false, not, ◌||◌, ◌==◌, List, [], ◌∷◌, ◌++◌, length}
use Rattle.std.specs.List.{list_all}
use Rattle.markdown_blocks.specs.Lines.{text_lines}
use Rattle.markdown_sign_laws.specs.Words.{begins_with}

-- no byte is a newline or a return
abbrev pub has_no_end : List ℕ → Bool
has_no_end line = list_all (λ b. not ((b == 10) || (b == 13))) line

-- An end of a line, and what follows it: a newline, a return and a newline, or a return that no newline follows.
abbrev pub IsEnd : (end rest : List ℕ) → Type 0
IsEnd end rest = (end ≡ 10 ∷ []) ⊎ ((end ≡ 13 ∷ 10 ∷ []) ⊎ ((end ≡ 13 ∷ []) × (begins_with 10 rest ≡ false)))

-- a text is this line, an end of it, and the rest
pub record BeginsWithLine (text line rest : List ℕ) : Type 0 where
  pub plain : has_no_end line ≡ true
  pub end : List ℕ
  pub ends : IsEnd end rest
  pub whole : text ≡ line ++ (end ++ rest)

-- a text is this line, which isn't empty and which nothing ends
pub record IsLastLine (text line : List ℕ) : Type 0 where
  pub plain : has_no_end line ≡ true
  pub some : (length line == 0) ≡ false
  pub whole : text ≡ line

-- A text is these lines. Each has its end behind it, but for the last, which may have none if it isn't empty.
abbrev pub AreLines : (text : List ℕ) (lines : List (List ℕ)) → Type 0
AreLines text [] = text ≡ []
AreLines text (line ∷ lines) = ((rest : List ℕ) × BeginsWithLine text line rest × AreLines rest lines) ⊎ (IsLastLine text line × (lines ≡ []))

-- A text has these lines exactly where it is these.
abbrev pub LinesAreSaid : Type 0
LinesAreSaid = (text : List ℕ) (lines : List (List ℕ)) → (text_lines text ≡ lines) ↔ AreLines text lines

-- A line, its end and a text have this line and the lines of the text.
abbrev pub LineIsCut : Type 0
LineIsCut = (text line rest : List ℕ) → BeginsWithLine text line rest → text_lines text ≡ line ∷ text_lines rest

-- A line that isn't empty and has no end behind it is a text's only line.
abbrev pub LastLineIsCut : Type 0
LastLineIsCut = (text line : List ℕ) → IsLastLine text line → text_lines text ≡ line ∷ []
