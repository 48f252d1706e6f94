-- What an area shows of a layout that was drawn in it.
use Rattle.std.proofs.Common.{◌≡◌, ℕ, zero, suc, ◌+◌, ◌-◌, ◌^◌, ◌<◌, ◌≤◌, List, [], ◌∷◌, map, drop, Option, Some, None, IfSome, Result, Ok, Err, OnOk, refl, ap, ◌∙◌, subst, arith, take}
use Rattle.mad_term.specs.Trace.{Trace, TookWith, flushed}
use Rattle.mad_term.proofs.Traces.{took_flushed}
use Rattle.mad_measure.specs.Areas.{IsWithinLimits}
use Rattle.mad_measure.specs.declared.area.Area.{Area}
use Rattle.mad_draw.specs.BesideBar.{IsBarShown, columns_beside}
use Rattle.mad_draw.specs.declared.scroll_bars.ScrollBar.{ScrollBar}
use Rattle.mad_md.specs.Lines.{LineContent}
use Rattle.mad_blocks.specs.FittingLayouts.{IsFittingLayout}
use Rattle.mad_blocks.specs.LayoutParts.{table_width, wrap_width}
use Rattle.mad_blocks.specs.Layouts.{IsLayoutAt}
use Rattle.mad_blocks.specs.TextParts.{lines_in_parts}
use Rattle.mad_layout.specs.FlaggedTexts.{AreAcross}
use Rattle.mad_layout.specs.Premises.{KeepsPremises}
use Rattle.mad_layout.specs.Drawable.{AreDrawable}
use Rattle.mad_layout.specs.Headline.{AreShownAcross}
use Rattle.mad_blocks.proofs.WideLayouts.{IsLayout}
use Rattle.mad_layout.specs.Shown.{lines_shown, AreShownIn}
use Rattle.mad_layout.specs.ShownLayouts.{ShowsDrawable, ShowsLayout, ShowsRowsFrom}
use Rattle.mad_rows.specs.declared.row_skin.RowSkin.{RowSkin}
use Rattle.mad_format.specs.declared.line.FmtLine.{FmtLine}
use Rattle.mad_layout.proofs.DrawableLemmas.{fitting_is_drawable, drawable_from}
use Rattle.mad_blocks.proofs.WrapKinds.{layout_fits, wrapped_at}
use Rattle.mad_layout.proofs.HeadlineRows.{IsBesideRows, shown_across, took_more_at}
use Rattle.mad_layout.proofs.ShownLemmas.{fills}
use Rattle.mad_layout.proofs.RowChars.{line_chars}
use Rattle.mad_layout.proofs.TextParts.{text_across}
use Rattle.mad_rows.specs.RowStyles.{line_rules}
use Rattle.mad_layout.proofs.ReadSound.{laid_sound}
use Rattle.mad_layout.proofs.SoundLines.{AreSoundLines}

few : (bar : Option ScrollBar) (area : Area) → IsWithinLimits area → columns_beside bar area.width < 2 ^ 64 - 1
few None area limits = omega (arith, limits.columns)
few (Some bar) area limits = omega (arith, limits.columns)

-- of drawable lines, so of a layout
pub layout_so : (skin : RowSkin) (bar : Option ScrollBar) (lines : List FmtLine) (area : Area) (scroll : ℕ) (Q : Type 0) → IsWithinLimits area
    → (IfSome bar (IsBarShown area.width) → AreDrawable skin (columns_beside bar area.width) (lines_shown lines area scroll) → Q)
    → (source : List LineContent) (width : ℕ) → width ≤ columns_beside bar area.width → IfSome bar (IsBarShown area.width)
    → KeepsPremises skin width (take (scroll + area.height) (lines_in_parts source)) → IsFittingLayout (line_rules skin) width source lines → Q
layout_so skin bar lines area scroll Q limits h source width narrower shown keeps layout =
    let n : ℕ = scroll + area.height in
    let sound : AreSoundLines skin width (take n (lines_in_parts source)) = laid_sound skin width (Some width) width n source lines layout keeps in
    let drawn : ℕ = columns_beside bar area.width in
    let first : AreDrawable skin drawn (take n lines) = fitting_is_drawable skin width drawn n source lines narrower (few bar area limits) sound layout in
    h shown (drawable_from skin drawn lines scroll area.height n refl first)

-- what an area shows of drawable lines, it shows of a layout
pub layout_shown : {T E : Type 0} (r : Result T E) (skin : RowSkin) (bar : Option ScrollBar) (lines : List FmtLine) (area : Area) (scroll : ℕ) (old new : Trace) → IsWithinLimits area
    → OnOk r (ShowsDrawable skin bar lines area scroll old new) → OnOk r (ShowsLayout skin bar lines area scroll old new)
layout_shown {T} {E} (Ok x) skin bar lines area scroll old new limits h = layout_so skin bar lines area scroll (TookWith old new (AreShownIn skin bar lines area scroll)) limits h
layout_shown {T} {E} (Err x) skin bar lines area scroll old new limits h = tt

-- ---- in the text's own characters

-- lists that are the same so far are the same from one element on
same_from : (s h n : ℕ) (xs ys : List (List ℕ)) → n ≡ s + h → take n xs ≡ take n ys → take h (drop s xs) ≡ take h (drop s ys)
same_from zero h n xs ys is e = let same : n ≡ h = omega (arith, is) in subst (λ k. take k xs ≡ take k ys) same e
same_from (suc s) h zero xs ys is e = absurd (omega (arith, is))
same_from (suc s) h (suc n) [] [] is e = refl
same_from (suc s) h (suc n) [] (y ∷ ys) is e = absurd (cc)
same_from (suc s) h (suc n) (x ∷ xs) [] is e = absurd (cc)
same_from (suc s) h (suc n) (x ∷ xs) (y ∷ ys) is e = let tail : take n xs ≡ take n ys = cc in same_from s h n xs ys (omega (arith, is)) tail

lines_from : (skin : RowSkin) (width s : ℕ) (lines : List FmtLine) → drop s (map (line_chars skin width) lines) ≡ map (line_chars skin width) (drop s lines)
lines_from skin width zero lines = refl
lines_from skin width (suc s) [] = refl
lines_from skin width (suc s) (l ∷ ls) = lines_from skin width s ls

-- the bar of an area is beside the rows of a layout
beside_rows : (skin : RowSkin) (bar : Option ScrollBar) (lines : List FmtLine) (area : Area) (scroll : ℕ) → IfSome bar (IsBarShown area.width) → AreDrawable skin (columns_beside bar area.width) (lines_shown lines area scroll)
    → IfSome bar (IsBesideRows skin (drop scroll lines) area)
beside_rows skin None lines area scroll shown drawable = tt
beside_rows skin (Some bar) lines area scroll shown drawable = record { shown = shown; fill = λ j inside. fills skin (area.width - 1) (drop scroll lines) area.height j inside drawable }

-- The text's lines have rows, of which those from one on are those of the layout's lines, beside the bar.
pub rows_from : (skin : RowSkin) (bar : Option ScrollBar) (lines : List FmtLine) (area : Area) (scroll : ℕ) (text : List LineContent) (width : ℕ) → IsWithinLimits area → 3 ≤ width → width ≤ columns_beside bar area.width
    → IfSome bar (IsBarShown area.width) → KeepsPremises skin width (take (scroll + area.height) (lines_in_parts text)) → IsLayoutAt (line_rules skin) (Some width) text lines
    → (across : List (List ℕ)) × AreAcross skin width (columns_beside bar area.width) (lines_in_parts text) across
    × (take area.height (drop scroll across) ≡ take area.height (map (line_chars skin (columns_beside bar area.width)) (drop scroll lines))) × IfSome bar (IsBesideRows skin (drop scroll lines) area)
rows_from skin bar lines area scroll text width limits wide narrower shown keeps laid =
    let drawn : ℕ = columns_beside bar area.width in
    let n : ℕ = scroll + area.height in
    let sound : AreSoundLines skin width (take n (lines_in_parts text)) = laid_sound skin (table_width (Some width)) (wrap_width (Some width)) width n text lines laid keeps in
    let layout : IsLayout (line_rules skin) width text lines = wrapped_at (line_rules skin) width text lines wide laid in
    let small : drawn < 2 ^ 64 - 1 = few bar area limits in
    let rows = text_across skin width drawn n text lines (record { narrower = narrower; small = small }) wide sound layout in
    let drawable : AreDrawable skin drawn (take n lines) = fitting_is_drawable skin width drawn n text lines narrower small sound (layout_fits (line_rules skin) width text lines layout) in (
      rows.0,
      rows.1,
      same_from scroll area.height n rows.0 (map (line_chars skin drawn) lines) refl rows.2 ∙ ap (take area.height) (lines_from skin drawn scroll lines),
      beside_rows skin bar lines area scroll shown (drawable_from skin drawn lines scroll area.height n refl drawable),
    )

-- what an area shows of a layout, it shows of the rows of its text
pub rows_shown : {T E : Type 0} (r : Result T E) (skin : RowSkin) (bar : Option ScrollBar) (lines : List FmtLine) (area : Area) (scroll : ℕ) (old new : Trace) → IsWithinLimits area
    → OnOk r (ShowsLayout skin bar lines area scroll old new) → OnOk r (ShowsRowsFrom skin bar lines area scroll old new)
rows_shown {T} {E} (Ok x) skin bar lines area scroll old new limits h =
    λ text width wide narrower shown keeps laid.
    let rows = rows_from skin bar lines area scroll text width limits wide narrower shown keeps laid in (
      rows.0,
      rows.1,
      took_more_at old.bytes new (AreShownIn skin bar lines area scroll) (AreShownAcross bar (drop scroll rows.0) area) (shown_across skin bar (drop scroll lines) area (drop scroll rows.0) rows.3 rows.2)
          (h text width narrower shown keeps (layout_fits (line_rules skin) width text lines (wrapped_at (line_rules skin) width text lines wide laid))),
    )
rows_shown {T} {E} (Err x) skin bar lines area scroll old new limits h = tt

-- a flush takes nothing from it
pub rows_flushed : (skin : RowSkin) (bar : Option ScrollBar) (lines : List FmtLine) (area : Area) (scroll : ℕ) (old mid new : Trace) → ShowsRowsFrom skin bar lines area scroll old mid → new ≡ flushed mid
    → ShowsRowsFrom skin bar lines area scroll old new
rows_flushed skin bar lines area scroll old mid new h e =
    λ text width wide narrower shown keeps laid.
    let rows = h text width wide narrower shown keeps laid in (rows.0, rows.1, took_flushed old mid new (AreShownAcross bar (drop scroll rows.0) area) rows.2 e)
