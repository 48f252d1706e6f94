-- Printable texts keep the form of their lines.
use Rattle.std.specs.Prelude.{◌≡◌, ◌≢◌, ℕ, Bool, List, [], ◌∷◌, ◌++◌, encode_utf8_all}
use Rattle.std.specs.List.{AllByRecursion}
use Rattle.mad_md.specs.Starts.{is_fence, line_start}
use Rattle.mad_measure.specs.Printable.{shown_from, printable_text}

-- the characters are on one line: no newline and no carriage return
abbrev pub AreOnOneLine : List ℕ → Type 0
AreOnOneLine cs = AllByRecursion (λ c. (c ≢ 10) × (c ≢ 13)) cs

-- a text becomes printable line by line, and one carriage return at a line's end goes either way
pub record LineByLine (begins_line : Bool) (line rest : List ℕ) : Type 0 where
  pub newline : shown_from begins_line (line ++ 10 ∷ rest) ≡ shown_from begins_line line ++ 10 ∷ printable_text rest
  pub return : shown_from begins_line (line ++ 13 ∷ 10 ∷ rest) ≡ shown_from begins_line line ++ 10 ∷ printable_text rest
  pub last : shown_from begins_line (line ++ 13 ∷ []) ≡ shown_from begins_line line ++ 10 ∷ []

-- each line becomes printable by itself, whatever comes after it
abbrev pub TextsArePrintableByLines : Type 0
TextsArePrintableByLines = (begins_line : Bool) (line rest : List ℕ) → AreOnOneLine line → LineByLine begins_line line rest

-- What a line outside fences is doesn't change: its form, and how many bytes say so. Nor does it become a fence, or cease to be one. It may
-- have any control characters but tabs.
pub record IsOfSameForm (line shown : List ℕ) : Type 0 where
  pub start : line_start shown ≡ line_start line
  pub fence : is_fence shown ≡ is_fence line

-- each line without tabs keeps its form where it is made printable
abbrev pub LinesKeepTheirForm : Type 0
LinesKeepTheirForm = (line : List ℕ) → AreOnOneLine line → AllByRecursion (λ c. c ≢ 9) line → IsOfSameForm (encode_utf8_all line) (encode_utf8_all (printable_text line))

-- a line with a tab in front keeps its form, which is code
abbrev pub TabsInFrontStayCode : Type 0
TabsInFrontStayCode = (line : List ℕ) → (line_start (encode_utf8_all (printable_text (9 ∷ line)))).form ≡ (line_start (encode_utf8_all (9 ∷ line))).form
