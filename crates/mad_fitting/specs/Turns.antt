-- Compounds whose parts are cut, the widest first.
use Rattle.std.specs.Prelude.{◌≡◌, ℕ, ◌+◌, ◌-◌, ◌/◌, ◌<◌, ◌≤◌, ◌⊎◌, List, [], ◌∷◌, ◌++◌, length, slice_range}
use Rattle.mad_md.specs.Flagged.{flags_of, flagged_text}
use Rattle.mad_md.specs.declared.alignment.Alignment.{Alignment}
use Rattle.mad_md.specs.declared.alignment.Alignment.TheVariants.{Unspecified, Left, Center, Right}
use Rattle.mad_md.specs.declared.compound.Compound.{Compound}
use Rattle.mad_measure.specs.TextColumns.{width_of}
use Rattle.mad_fitting.specs.CenteredCuts.{IsCenteredCut}
use Rattle.mad_fitting.specs.Ellipses.{IsEllipsis}
use Rattle.mad_fitting.specs.Parts.{ArePartsOf, AreGains, due}
use Rattle.mad_fitting.specs.Shortening.{AreBothReplaced, IsEndReplaced, IsFrontReplaced}
use Rattle.mad_fitting.specs.declared.centered.Cut.{Cut}
use Rattle.mad_fitting.specs.declared.gains.Gain.{Gain}
use Rattle.mad_fitting.specs.declared.gains.Parts.{Parts}
use Rattle.mad_fitting.specs.declared.gains.Parts.TheVariants.{Runs, Wholes}
use Rattle.mad_fitting.specs.declared.parts.Run.{Run}

-- the compound says what another does from one byte up to another, with its flags
pub record IsPiece (p : Compound) (start end : ℕ) (piece : Compound) : Type 0 where
  pub text : piece.src.now ≡ slice_range p.src.now start end
  pub flags : flags_of piece ≡ flags_of p

-- What becomes of a compound from one byte on to the end of a part of it, with so many columns too many. The part is cut in its middle:
-- what is before the cut, then an ellipsis, and what comes next begins behind the cut. Where nothing is too many, or the cut gains
-- nothing, the part stays.
pub record IsCutFor (left : ℕ) (p : Compound) (from : ℕ) (part : Run) (here : List Compound) (next : ℕ) : Type 0 where
  pub cut : Cut
  pub centered : 0 < left → IsCenteredCut left (slice_range p.src.now part.start part.end) cut
  pub stays : (left ≡ 0) ⊎ (cut.columns < 2) → (here ≡ []) × (next ≡ from)
  pub goes : 0 < left → 2 ≤ cut.columns → (head : Compound) × (mark : Compound) × (here ≡ head ∷ mark ∷ []) × IsPiece p from (part.start + cut.start) head × IsEllipsis mark × (next ≡ part.start + cut.end)

-- What becomes of a compound from a byte on. Each of its parts is cut for what is too many when its turn comes; the first of these has
-- this number among all.
abbrev pub AreCut : ℕ → List Gain → ℕ → Compound → ℕ → List Run → List Compound → Type 0
AreCut excess gains number p from [] result = (last : Compound) × (result ≡ last ∷ []) × IsPiece p from (length p.src.now) last
AreCut excess gains number p from (part ∷ parts) result =
    (here : List Compound) × (later : List Compound) × (next : ℕ) × (result ≡ here ++ later) × IsCutFor (due excess gains number part.columns) p from part here next × AreCut excess gains (number + 1) p next parts later

-- the same for one compound after the other
abbrev pub CutsEach : ℕ → List Gain → Parts → ℕ → List Compound → List Compound → Type 0
CutsEach excess gains kind number [] result = result ≡ []
CutsEach excess gains kind number (p ∷ ps) result =
    (own : List Run) × (here : List Compound) × (later : List Compound) × ArePartsOf kind p own × (result ≡ here ++ later) × AreCut excess gains number p 0 own here × CutsEach excess gains kind (number + length own) ps later

-- Compounds with so many columns too many are cut in their parts, the widest first and of equals the last.
pub record IsCutInTurn (kind : Parts) (excess : ℕ) (ps result : List Compound) : Type 0 where
  pub none : excess ≡ 0 → result ≡ ps
  pub some : 0 < excess → (gains : List Gain) × AreGains kind ps gains × CutsEach excess gains kind 0 ps result

-- how many columns are still too many, when compounds have become others
abbrev pub still_too_many : ℕ → List Compound → List Compound → ℕ
still_too_many excess before after = excess - (width_of (flagged_text before) - width_of (flagged_text after))

-- Compounds with so many columns too many are cut: the widest runs first, then the widest compounds. Where some are still too many, an
-- ellipsis takes the place of the end.
pub record IsCutDown (excess : ℕ) (ps result : List Compound) : Type 0 where
  pub words : List Compound
  pub compounds : List Compound
  pub runs : IsCutInTurn Runs excess ps words
  pub wholes : IsCutInTurn Wholes (still_too_many excess ps words) words compounds
  pub done : still_too_many excess ps compounds ≡ 0 → result ≡ compounds
  pub end : 0 < still_too_many excess ps compounds → IsEndReplaced (still_too_many excess ps compounds + 1) compounds result

-- What becomes of compounds with so many columns too many, by how they are aligned. An ellipsis that was put in is told apart from those
-- of the source.
abbrev pub IsReplacedAs : Alignment → ℕ → List Compound → List Compound → Type 0
IsReplacedAs Unspecified excess ps result = IsCutDown excess ps result
IsReplacedAs Left excess ps result = IsEndReplaced (excess + 1) ps result
IsReplacedAs Center excess ps result = (excess / 2 ≡ 0 → IsEndReplaced (excess + 1) ps result) × (0 < excess / 2 → AreBothReplaced (excess / 2 + 1) (excess - excess / 2 + 1) ps result)
IsReplacedAs Right excess ps result = IsFrontReplaced (excess + 1) ps result
