-- How many lines each fitting break has at least, and that some has no more.
use Rattle.std.specs.Prelude.{◌≡◌, ℕ, ◌+◌, ◌≤◌, ◌<◌, ◌⊎◌, ◌&&◌, Bool, true, false, List, [], ◌∷◌, length, take}
use Rattle.mad_md.specs.Flagged.{flagged_text}
use Rattle.mad_md.specs.declared.compound.Compound.{Compound}
use Rattle.mad_measure.specs.declared.tokens.Token.{Token}
use Rattle.mad_measure.specs.TextColumns.{width_of}
use Rattle.mad_wrap.specs.Bounds.{are_starts}
use Rattle.mad_wrap.specs.Breaks.{LineAndGap, FittingBreak, total_width}
use Rattle.mad_wrap.specs.CleanCut.{is_cut_clean}
use Rattle.mad_wrap.specs.LeastWrap.{AreTokensIn}
use Rattle.mad_wrap.specs.LineStarts.{starts_of}
use Rattle.mad_wrap.specs.Placings.{IsFirstFit}
use Rattle.mad_wrap.specs.declared.room.Room.{Room}

-- each fitting break of the compounds' tokens has at least n lines
abbrev pub IsBound : Room → List Compound → ℕ → Type 0
IsBound r ps n = (ts : List Token) → AreTokensIn r ps ts → (breaks : List (LineAndGap Token)) → FittingBreak r ts breaks → n ≤ length breaks

-- there are tokens of the compounds, and a fitting break of them that has n lines
abbrev pub IsAttained : Room → List Compound → ℕ → Type 0
IsAttained r ps n = (ts : List Token) × AreTokensIn r ps ts × (breaks : List (LineAndGap Token)) × FittingBreak r ts breaks × (length breaks ≡ n)

-- a clean cut drops a middle in code
abbrev pub drops_code : Room → List Compound → Bool
drops_code r (front ∷ middle ∷ back ∷ []) = is_cut_clean r (front ∷ middle ∷ back ∷ []) && middle.code
drops_code r _ = false

-- The checker says yes to these starts.
abbrev pub AreChecked : Room → List Compound → List ℕ → Type 0
AreChecked r ps starts = (ts : List Token) → AreTokensIn r ps ts → are_starts r ts starts ≡ true

-- the first token with which the tokens from the first on pass the first line, if one is
pub record IsFirstPast (r : Room) (ts : List Token) (i : ℕ) : Type 0 where
  pub inside : i < length ts
  pub before : r.first ≤ r.width → r.first + total_width (take i ts) ≤ r.width
  pub passes : r.width < r.first + total_width (take (i + 1) ts)

-- The starts of a clean cut: 0, and the first token that passes the first line, if one does. Where that is token 0 itself, they are 0 alone.
abbrev pub AreCutStarts : Room → List Token → List ℕ → Type 0
AreCutStarts r ts starts = ((r.first + total_width ts ≤ r.width) × (starts ≡ 0 ∷ [])) ⊎ ((i : ℕ) × IsFirstPast r ts i × (0 < i → starts ≡ 0 ∷ i ∷ []) × (i ≡ 0 → starts ≡ 0 ∷ []))

-- The starts of the lines of a wrap of the compounds. Of a text that is cut clean, they are 0 and the first token that passes the first line.
pub record AreStartsOf (r : Room) (ps : List Compound) (starts : List ℕ) : Type 0 where
  -- the starts of the lines of the first fit
  pub lines : is_cut_clean r ps ≡ false → (ts : List Token) → AreTokensIn r ps ts → (breaks : List (LineAndGap Token)) → IsFirstFit r ts breaks → starts ≡ starts_of breaks
  -- in a clean cut, the first token that passes the first line is the second start
  pub cut : is_cut_clean r ps ≡ true → (ts : List Token) → AreTokensIn r ps ts → AreCutStarts r ts starts

-- The starts are as few as the lines of some fitting break. (Promised where each character has room.)
pub record AreFewest (r : Room) (ps : List Compound) (starts : List ℕ) : Type 0 where
  -- some fitting break has as many lines, but where a clean cut drops a middle in code
  pub attained : drops_code r ps ≡ false → IsAttained r ps (length starts)
  -- in a clean cut of a text that doesn't fit, there are two
  pub cut : is_cut_clean r ps ≡ true → r.width < r.first + width_of (flagged_text ps) → length starts ≡ 2
  -- a text that fits has one
  pub whole : r.first + width_of (flagged_text ps) ≤ r.width → starts ≡ 0 ∷ []
