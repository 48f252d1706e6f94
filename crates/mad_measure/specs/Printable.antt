-- Texts that a terminal shows as text: no control characters but newlines, and none that turn the direction of writing.
use Rattle.std.specs.Prelude.{◌≡◌, ℕ, Bool, true, ◌==◌, List, [], ◌∷◌, ◌++◌, length, take, drop, chars, encode_utf8_all, if◌then◌else◌}
use Rattle.std.specs.List.{list_all}
use Rattle.std.specs.Str.{IsUtf8}
use Rattle.mad_characters.specs.Pictures.{is_printable_char, picture}

-- ---- which texts are printable

-- each of the characters is printable
abbrev pub are_printable : List ℕ → Bool
are_printable cs = list_all is_printable_char cs

-- ---- what stands for the others

-- of a tab: four spaces where it begins a line, which is code either way; else two
abbrev pub tab_spaces : Bool → List ℕ
tab_spaces begins_line = if begins_line then 32 ∷ 32 ∷ 32 ∷ 32 ∷ [] else 32 ∷ 32 ∷ []

-- of a carriage return, by what comes after it: nothing before a newline, a newline at the text's end, and else its picture
abbrev pub return_shown : List ℕ → List ℕ
return_shown [] = 10 ∷ []
return_shown (next ∷ after) = if next == 10 then [] else 0x240D ∷ []

-- of any character that begins a line or doesn't, with these after it: of most, their pictures
abbrev pub shown_as : Bool → ℕ → List ℕ → List ℕ
shown_as begins_line c after = if c == 9 then tab_spaces begins_line else if c == 13 then return_shown after else picture c ∷ []

-- each of the characters as it is shown, the first of which begins a line or doesn't; a newline ends its line
abbrev pub shown_from : Bool → List ℕ → List ℕ
shown_from begins_line [] = []
shown_from begins_line (c ∷ after) = shown_as begins_line c after ++ shown_from (c == 10) after

-- the printable text for characters
abbrev pub printable_text : List ℕ → List ℕ
printable_text cs = shown_from true cs

-- The first `bytes` bytes of a text are printable, and stay. What comes after them begins a line or doesn't. It is empty, or its first character
-- isn't printable.
pub record IsPrintableFront (text : List ℕ) (bytes : ℕ) (begins_line : Bool) : Type 0 where
  pub rest : IsUtf8 (drop bytes text)
  pub shown : encode_utf8_all (printable_text (chars text)) ≡ take bytes text ++ encode_utf8_all (shown_from begins_line (chars (drop bytes text)))
  pub all : are_printable (chars text) ≡ (bytes == length text)
