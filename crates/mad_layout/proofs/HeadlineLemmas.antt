-- From a layout to what its area shows.
use Rattle.std.proofs.Common.{◌≡◌, ℕ, zero, suc, ◌-◌, ◌≤◌, List, [], ◌∷◌, ◌++◌, take, inl, inr, Some, None, Result, Ok, Err, OnOk, subst, arith}
use Rattle.mad_md.specs.Lines.{LineContent}
use Rattle.std.specs.Result.{IsErrAnd}
use Rattle.std.specs.Str.{IsUtf8}
use Rattle.std.specs.declared.io.Error as io
use Rattle.mad_term.specs.declared.errors.Error.{Error}
use Rattle.mad_term.specs.declared.errors.Error.TheVariants.{IO}
use Rattle.mad_term.specs.Trace.{Trace, failed, flushed}
use Rattle.mad_term.specs.Draws.{Draws, AndFlushes}
use Rattle.mad_term.proofs.Exits.{flushing_refused}
use Rattle.mad_term.proofs.Traces.{flush_failed, took_flushed}
use Rattle.mad_measure.specs.Areas.{IsWithinLimits}
use Rattle.mad_measure.specs.declared.area.Area.{Area}
use Rattle.mad_blocks.specs.Fronts.{IsFrontLayout}
use Rattle.mad_layout.specs.InArea.{IsAreaFront, ShowsText, WritesInArea}
use Rattle.mad_layout.specs.Shown.{area_bytes, AreShownIn}
use Rattle.mad_layout.specs.ShownLayouts.{ShowsDrawable}
use Rattle.mad_blocks.specs.TextParts.{LineInPart, text_parts, lines_in_parts}
use Rattle.mad_rows.specs.declared.row_skin.RowSkin.{RowSkin}
use Rattle.mad_format.specs.declared.line.FmtLine.{FmtLine}
use Rattle.mad_layout.proofs.DrawableLemmas.{layout_is_drawable}
use Rattle.mad_blocks.proofs.WrapKinds.{wrapped_at}
use Rattle.mad_layout.proofs.ReadParts.{in_parts_both}
use Rattle.mad_rows.specs.RowStyles.{line_rules}
use Rattle.mad_layout.proofs.SoundLines.{AreSoundLines}
use Rattle.mad_layout.proofs.ReadSound.{read_sound}

-- the first lines of some are first lines of all
first_keep : (skin : RowSkin) (width n : ℕ) (front rest : List LineInPart) → AreSoundLines skin width (take n (front ++ rest)) → AreSoundLines skin width (take n front)
first_keep skin width zero front rest h = tt
first_keep skin width (suc n) [] rest h = tt
first_keep skin width (suc n) (c ∷ cs) rest h = (h.0, first_keep skin width n cs rest h.1)

-- where the first lines of a text keep the premises, those of its first parts do
pub front_keeps : (skin : RowSkin) (width n : ℕ) (text front rest : List LineContent) → text_parts text ≡ text_parts front ++ text_parts rest → AreSoundLines skin width (take n (lines_in_parts text))
    → AreSoundLines skin width (take n (lines_in_parts front))
front_keeps skin width n text front rest parts h =
    first_keep skin width n (lines_in_parts front) (lines_in_parts rest)
    (subst (λ (xs : List LineInPart). AreSoundLines skin width (take n xs)) (in_parts_both text front rest parts) h)

-- such a text was drawn
pub area_written : {T : Type 0} (r : Result T Error) (skin own : RowSkin) (markdown : List ℕ) (area : Area) (lines : List FmtLine) (old new : Trace) → own ≡ skin → IsAreaFront skin markdown area lines
    → Draws old (area_bytes own None lines area 0) r new → WritesInArea skin markdown area old r new
area_written {T} r skin own markdown area lines old new same laid_out h = inl (lines, laid_out, subst (λ (s : RowSkin). Draws old (area_bytes s None lines area 0) r new) same h)

-- what an area shows of such a text
pub text_shown : {T E : Type 0} (r : Result T E) (skin own : RowSkin) (markdown : List ℕ) (area : Area) (lines : List FmtLine) (old new : Trace) → IsUtf8 markdown → IsWithinLimits area → own ≡ skin → IsAreaFront skin markdown area lines
    → OnOk r (ShowsDrawable own None lines area 0 old new)
    → OnOk r (4 ≤ area.width → ShowsText skin markdown area old new)
text_shown {T} {E} (Ok x) skin own markdown area lines old new utf8 limits same laid_out h =
    λ wide. record {
      lines = lines;
      laid_out = laid_out;
      shown = λ premises.
          let front : IsFrontLayout (line_rules skin) (Some (area.width - 1)) area.height laid_out.text lines = laid_out.layout in
          subst (λ (s : RowSkin). ShowsDrawable s None lines area 0 old new) same h tt
          (layout_is_drawable skin (area.width - 1) area.width area.height front.front lines (omega arith) (omega (arith, limits.columns)) (front_keeps skin (area.width - 1) area.height laid_out.text front.front front.rest front.parts (read_sound skin (area.width - 1) area.height markdown laid_out.text utf8 laid_out.read premises)) (wrapped_at (line_rules skin) (area.width - 1) front.front lines (omega arith) front.layout));
    }
text_shown {T} {E} (Err x) skin own markdown area lines old new utf8 limits same laid_out h = tt

-- the flush failed after a text
pub area_not_flushed : {T U : Type 0} (r : Result T Error) (done : U) (e : io.Error) (skin : RowSkin) (markdown : List ℕ) (area : Area) (old mid new : Trace) → WritesInArea {T = U} skin markdown area old (Ok done) mid → new ≡ failed mid
    → IsErrAnd r (λ x. x ≡ IO e) → AndFlushes {T = T} (WritesInArea {T = T} skin markdown area) old r new
area_not_flushed {T} {U} r done e skin markdown area old mid new (inl h) fault is =
    flushing_refused {T = T} (WritesInArea {T = T} skin markdown area) r (IO e) old new is (inl (h.0, h.1, flush_failed old mid new _ h.2 fault))
area_not_flushed {T} {U} r done e skin markdown area old mid new (inr h) fault is = absurd (cc)

-- a flush takes nothing from what a text shows
pub shown_flushed : (skin : RowSkin) (markdown : List ℕ) (area : Area) (old mid new : Trace) → ShowsText skin markdown area old mid → new ≡ flushed mid → ShowsText skin markdown area old new
shown_flushed skin markdown area old mid new h e = record {
  lines = h.lines;
  laid_out = h.laid_out;
  shown = λ premises. took_flushed old mid new (AreShownIn skin None h.lines area 0) (h.shown premises) e;
}
