-- A text as runs, and what they spell.
use Rattle.std.specs.Prelude.{◌≡◌, ℕ, ◌<◌, Bool, false, List, [], ◌∷◌, ◌++◌, length, take, drop, map, reverse, chars, string_bytes}
use Rattle.std.specs.Str.{IsUtf8}
use Rattle.markdown_inlines.specs.declared.looks.Look.{Look}
use Rattle.markdown_inlines.specs.declared.styled.TextRun.{TextRun}
use Rattle.markdown_inlines.specs.declared.styled.Styled.{Styled}
use Rattle.markdown_inlines.specs.Looks.{is_same_look}

-- a character, and how it looks
pub record Shown : Type 0 where
  pub char : ℕ
  pub look : Look

-- a character that looks so
abbrev pub shown_with : Look → ℕ → Shown
shown_with look c = record { char = c; look = look }

-- what runs of a text spell, the last run first: it begins at its start, and the others are before that
unfoldable pub spelled : List TextRun → List ℕ → List Shown
spelled [] text = []
spelled (r ∷ rs) text = spelled rs (take r.start text) ++ map (shown_with r.look) (chars (drop r.start text))

-- whether a text of this look goes on in the last of some runs
abbrev pub goes_on : Look → List TextRun → Bool
goes_on look [] = false
goes_on look (r ∷ rs) = is_same_look r.look look

-- Runs are the whole text, the last run first. Each is a text of its own, has at least a character, and looks other than the run before it.
abbrev pub AreRuns : List TextRun → List ℕ → Type 0
AreRuns [] text = length text ≡ 0
AreRuns (r ∷ rs) text = (r.start < length text) × IsUtf8 (drop r.start text) × (goes_on r.look rs ≡ false) × AreRuns rs (take r.start text)

-- what the runs of a text spell
abbrev pub spelled_of : Styled → List Shown
spelled_of styled = spelled (reverse styled.runs.items) (string_bytes styled.text)

-- the runs are the whole text
abbrev pub IsStyled : Styled → Type 0
IsStyled styled = AreRuns (reverse styled.runs.items) (string_bytes styled.text)
