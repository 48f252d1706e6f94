-- Laws of wrapping.
use Rattle.std.specs.Prelude.{◌≡◌, ℕ, ◌+◌, ◌<◌, true, false, List, map, length}
use Rattle.mad_md.specs.Flagged.{flagged_text}
use Rattle.mad_md.specs.declared.compound.Compound.{Compound}
use Rattle.mad_measure.specs.TextColumns.{width_of}
use Rattle.mad_measure.specs.declared.tokens.Token.{Token}
use Rattle.mad_wrap.specs.Breaks.{LineAndGap, EndsWithLine}
use Rattle.mad_wrap.specs.CleanCut.{is_cut_clean}
use Rattle.mad_wrap.specs.LeastBound.{AreStartsOf}
use Rattle.mad_wrap.specs.LeastWords.{IsWordWrap}
use Rattle.mad_wrap.specs.LeastWrap.{AreTokensIn, IsWrap}
use Rattle.mad_wrap.specs.Placings.{IsFirstFit}
use Rattle.mad_wrap.specs.WrapLines.{runs_of, HasRoom}
use Rattle.mad_wrap.specs.declared.room.Room.{Room}

-- tokens have one first fit
abbrev pub OneFirstFit : Type 0
OneFirstFit = (r : Room) (ts : List Token) (ps qs : List (LineAndGap Token)) → IsFirstFit r ts ps → IsFirstFit r ts qs → ps ≡ qs

-- compounds have one wrap
abbrev pub OneWrap : Type 0
OneWrap = (r : Room) (ps : List Compound) (lines others : List (List Compound)) → IsWrap r ps lines → IsWrap r ps others → map runs_of lines ≡ map runs_of others

-- compounds have one wrap with whole words
abbrev pub OneWordWrap : Type 0
OneWordWrap = (r : Room) (ps : List Compound) (lines others : List (List Compound)) → IsWordWrap r ps lines → IsWordWrap r ps others → map runs_of lines ≡ map runs_of others

-- There are as many starts as lines. Where the first fit drops blanks after its last line, there is one start more.
pub record CountLines (r : Room) (ps : List Compound) (lines : List (List Compound)) (starts : List ℕ) : Type 0 where
  pub cut : is_cut_clean r ps ≡ true → length starts ≡ length lines
  pub ended : is_cut_clean r ps ≡ false → (ts : List Token) → AreTokensIn r ps ts → (breaks : List (LineAndGap Token)) → IsFirstFit r ts breaks → EndsWithLine breaks → length starts ≡ length lines
  pub dropping : is_cut_clean r ps ≡ false → (ts : List Token) → AreTokensIn r ps ts → (breaks : List (LineAndGap Token)) → IsFirstFit r ts breaks → ¬ (EndsWithLine breaks) → length starts ≡ length lines + 1

-- the starts of compounds that are too wide count the lines of their wrap, where each character has room
abbrev pub StartsCountLines : Type 0
StartsCountLines = (r : Room) (ps : List Compound) (lines : List (List Compound)) (starts : List ℕ) → r.width < r.first + width_of (flagged_text ps) → HasRoom r (flagged_text ps)
    → IsWrap r ps lines → AreStartsOf r ps starts → CountLines r ps lines starts
