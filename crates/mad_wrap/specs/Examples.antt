-- Wrong answers that the definitions refuse, each of a text at a width. Tokens are given by their columns: `aaa` is a word of three.
use Rattle.std.specs.Prelude.{◌≡◌, ℕ, true, false, List, [], ◌∷◌, ◌++◌, map, length, codes}
use Rattle.mad_md.specs.Flagged.{unflagged, flagged, flagged_text}
use Rattle.mad_md.specs.declared.compound.Compound.{Compound}
use Rattle.mad_measure.specs.TextColumns.{width_of}
use Rattle.mad_measure.specs.declared.tokens.Token.{Token}
use Rattle.mad_wrap.specs.Bounds.{are_starts}
use Rattle.mad_wrap.specs.LeastBound.{AreStartsOf}
use Rattle.mad_wrap.specs.LeastWrap.{AreTokensIn, IsWrap}
use Rattle.mad_wrap.specs.declared.room.Room.{Room}

-- lines of this width, without indents
abbrev pub lines_of : ℕ → Room
lines_of width = record { first = 0; other = 0; width = width; whole_words = false }

-- a token of this many columns that isn't blank
pub record IsWord (columns : ℕ) (t : Token) : Type 0 where
  pub width : t.width ≡ columns
  pub solid : t.blank ≡ false

-- a blank token of this many columns
pub record IsSpace (columns : ℕ) (t : Token) : Type 0 where
  pub width : t.width ≡ columns
  pub blank : t.blank ≡ true

-- glued after a skipped blank: `aaa bb` as `aaabb`, in any room
abbrev pub GluedIsRefused : Type 0
GluedIsRefused = (r : Room) (ps : List Compound) (lines : List (List Compound)) → flagged_text ps ≡ flagged unflagged (codes "aaa bb") → map flagged_text lines ≡ flagged unflagged (codes "aaabb") ∷ [] → ¬ (IsWrap r ps lines)

-- flags lost: `aa` and a bold `bb` after a space as `aa` and an unflagged `bb`, in any room
abbrev pub LostFlagsAreRefused : Type 0
LostFlagsAreRefused = (r : Room) (ps : List Compound) (lines : List (List Compound)) → flagged_text ps ≡ flagged unflagged (codes "aa ") ++ flagged (record unflagged { bold = true }) (codes "bb")
    → map flagged_text lines ≡ flagged unflagged (codes "aa") ∷ flagged unflagged (codes "bb") ∷ [] → ¬ (IsWrap r ps lines)

-- cut at the width: `ab cccc` at 5 with a first line of five columns
abbrev pub CutAtTheWidthIsRefused : Type 0
CutAtTheWidthIsRefused = (p : Compound) (a s c : Token) (front : List Compound) (others : List (List Compound)) → IsWord 2 a → IsSpace 1 s → IsWord 4 c → AreTokensIn (lines_of 5) (p ∷ []) (a ∷ s ∷ c ∷ [])
    → width_of (flagged_text front) ≡ 5 → ¬ (IsWrap (lines_of 5) (p ∷ []) (front ∷ others))

-- a token a line: `aaa bb cc` at 6 in three lines
abbrev pub TokenALineIsRefused : Type 0
TokenALineIsRefused = (ps : List Compound) (a s b t c : Token) (lines : List (List Compound)) → IsWord 3 a → IsSpace 1 s → IsWord 2 b → IsSpace 1 t → IsWord 2 c → AreTokensIn (lines_of 6) ps (a ∷ s ∷ b ∷ t ∷ c ∷ [])
    → length lines ≡ 3 → ¬ (IsWrap (lines_of 6) ps lines)

-- a line of trailing blanks: `aaa` and three spaces at 3 in two lines
abbrev pub TrailingBlanksAreRefused : Type 0
TrailingBlanksAreRefused = (p : Compound) (a s : Token) (lines : List (List Compound)) → IsWord 3 a → IsSpace 3 s → AreTokensIn (lines_of 3) (p ∷ []) (a ∷ s ∷ []) → length lines ≡ 2 → ¬ (IsWrap (lines_of 3) (p ∷ []) lines)

-- a bound of one line: the start 0 alone for `aaa bb cc` at 6
abbrev pub OneStartIsRefused : Type 0
OneStartIsRefused = (p : Compound) (a s b t c : Token) → IsWord 3 a → IsSpace 1 s → IsWord 2 b → IsSpace 1 t → IsWord 2 c → AreTokensIn (lines_of 6) (p ∷ []) (a ∷ s ∷ b ∷ t ∷ c ∷ []) → ¬ (AreStartsOf (lines_of 6) (p ∷ []) (0 ∷ []))

-- a start whose token still fits on the line before it: the starts 0 and 2 for `aaa bb cc` at 6
abbrev pub EarlyStartIsRefused : Type 0
EarlyStartIsRefused = (a s b t c : Token) → IsWord 3 a → IsSpace 1 s → IsWord 2 b → IsSpace 1 t → IsWord 2 c → are_starts (lines_of 6) (a ∷ s ∷ b ∷ t ∷ c ∷ []) (0 ∷ 2 ∷ []) ≡ false
