-- What drawing a line and drawing a cell have in common.
use Rattle.std.proofs.Common.{◌≡◌, ℕ, zero, suc, ◌<◌, List, [], ◌∷◌, ◌++◌, map, Contains, length, take, refl, ap, subst, arith}
use Rattle.std.specs.List.{AllByRecursion}
use Rattle.std.specs.Str.{IsUtf8}
use Rattle.mad_md.specs.Flagged.{run_of, flagged_of, flagged_text}
use Rattle.mad_md.specs.declared.compound.Compound.{Compound}
use Rattle.mad_style.specs.declared.line_styles.LineStyle.{LineStyle}
use Rattle.mad_draw.specs.Pieces.{AreShownPieces}
use Rattle.mad_layout.specs.Drawable.{AreDrawable}
use Rattle.mad_layout.specs.Premises.{runs_text}
use Rattle.mad_rows.specs.Rows.{compound_piece}
use Rattle.mad_rows.specs.declared.row_skin.RowSkin.{RowSkin}
use Rattle.mad_format.specs.declared.line.FmtLine.{FmtLine}
use Rattle.mad_layout.proofs.WholeTokens.{IsShownRun}
use Rattle.mad_layout.proofs.SoundLines.{IsSoundRun}

-- what holds of each element holds of one of them
pub each_of : {X : Type 0} (P : X → Type 0) (xs : List X) (x : X) → AllByRecursion P xs → Contains xs x → P x
each_of P [] x h (k, inside, e) = absurd (omega (arith, inside))
each_of P (y ∷ ys) x h (zero, inside, e) = subst P e h.0
each_of P (y ∷ ys) x h (suc k, inside, e) = each_of P ys x h.1 (k, omega (arith, inside), e)

-- the pieces of compounds whose runs are shown are shown
pub pieces_shown : (skin : RowSkin) (style : LineStyle) (ps : List Compound) → AllByRecursion IsShownRun (map run_of ps) → AreShownPieces (map (compound_piece skin style) ps)
pieces_shown skin style [] h = tt
pieces_shown skin style (p ∷ ps) h = (record { utf8 = h.0.utf8; shown = h.0.shown }, pieces_shown skin style ps h.1)

-- the text of runs is the flagged text of their compounds
pub runs_are : (ps : List Compound) → runs_text (map run_of ps) ≡ flagged_text ps
runs_are [] = refl
runs_are (p ∷ ps) = ap (λ l. flagged_of p ++ l) (runs_are ps)

-- the texts of sound runs are UTF-8
pub utf8_of : (ps : List Compound) → AllByRecursion IsSoundRun (map run_of ps) → AllByRecursion (λ p. IsUtf8 p.src.now) ps
utf8_of [] h = tt
utf8_of (p ∷ ps) h = (h.0.utf8, utf8_of ps h.1)

-- ---- the first lines of joined ones

one_less : (skin : RowSkin) (drawn : ℕ) (lines : List FmtLine) (n : ℕ) → AreDrawable skin drawn (take (suc n) lines) → AreDrawable skin drawn (take n lines)
one_less skin drawn lines zero h = tt
one_less skin drawn [] (suc n) h = tt
one_less skin drawn (l ∷ ls) (suc n) h = (h.0, one_less skin drawn ls n h.1)

first_joined : (skin : RowSkin) (drawn : ℕ) (own others : List FmtLine) (n : ℕ) → AreDrawable skin drawn own → AreDrawable skin drawn (take n others) → AreDrawable skin drawn (take n (own ++ others))
first_joined skin drawn own others zero h k = tt
first_joined skin drawn [] others (suc n) h k = k
first_joined skin drawn (l ∷ own) others (suc n) h k = (h.0, first_joined skin drawn own others n h.1 (one_less skin drawn others n k))

-- where lines in front are drawn exactly, one at least, one more of the joined lines is
pub some_joined : (skin : RowSkin) (drawn : ℕ) (own others : List FmtLine) (n : ℕ) → 0 < length own → AreDrawable skin drawn own → AreDrawable skin drawn (take n others) → AreDrawable skin drawn (take (suc n) (own ++ others))
some_joined skin drawn [] others n some h k = absurd (omega (arith, some))
some_joined skin drawn (l ∷ own) others n some h k = (h.0, first_joined skin drawn own others n h.1 k)
