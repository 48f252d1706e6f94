-- What an area shows of lines whose scroll bar has moves of its own.
use Rattle.std.proofs.Common.{◌≡◌, ℕ, List, drop, Option, Result, Ok, Err, OnOk, ap, ◌∙◌, subst}
use Rattle.std.specs.Prelude.{slice_get}
use Rattle.mad_term.specs.Trace.{Trace, TookWith}
use Rattle.mad_measure.specs.Areas.{IsWithinLimits}
use Rattle.mad_measure.specs.declared.area.Area.{Area}
use Rattle.mad_draw.specs.BarsApart.{AreShownBeside, FillBeside, panes_beside, panes_bytes}
use Rattle.mad_draw.specs.BesideBar.{columns_beside}
use Rattle.mad_draw.specs.Pieces.{RowPiece}
use Rattle.mad_draw.specs.declared.scroll_bars.ScrollBar.{ScrollBar}
use Rattle.mad_draw.proofs.TookLemmas.{took_so}
use Rattle.mad_format.specs.declared.line.FmtLine.{FmtLine}
use Rattle.mad_rows.specs.Rows.{row_pieces}
use Rattle.mad_rows.specs.declared.row_skin.RowSkin.{RowSkin}
use Rattle.mad_layout.specs.Shown.{AreShownIn, text_row}
use Rattle.mad_layout.specs.ShownBeside.{AreLinesBeside, ShowsDrawableBeside, ShowsLayoutBeside, beside_bytes}
use Rattle.mad_layout.specs.ShownLayouts.{ShowsLayout}
use Rattle.mad_layout.proofs.DrawnLayouts.{layout_so}
use Rattle.mad_layout.proofs.ShownLemmas.{fills}

-- the rows that are drawn are those of the lines from one on
rows_are : (skin : RowSkin) (bar : Option ScrollBar) (lines shown : List FmtLine) (area : Area) (width scroll : ℕ) → shown ≡ drop scroll lines → width ≡ columns_beside bar area.width
    → (λ y. row_pieces skin width (slice_get shown y)) ≡ text_row skin (columns_beside bar area.width) lines scroll
rows_are skin bar lines shown area width scroll from wide =
    ap (λ (ls : List FmtLine). λ (y : ℕ). row_pieces skin width (slice_get ls y)) from ∙ ap (λ (w : ℕ). λ (y : ℕ). row_pieces skin w (slice_get (drop scroll lines) y)) wide

-- and so are their bytes
pub beside_drawn : (skin : RowSkin) (own bar : Option ScrollBar) (lines shown : List FmtLine) (area : Area) (width scroll : ℕ) → own ≡ bar → shown ≡ drop scroll lines → width ≡ columns_beside bar area.width
    → panes_bytes (panes_beside own (λ y. row_pieces skin width (slice_get shown y)) area) ≡ beside_bytes skin bar lines area scroll
beside_drawn skin own bar lines shown area width scroll same from wide =
    ap (λ (b : Option ScrollBar). panes_bytes (panes_beside b (λ y. row_pieces skin width (slice_get shown y)) area)) same
    ∙ ap (λ (row : ℕ → List RowPiece). panes_bytes (panes_beside bar row area)) (rows_are skin bar lines shown area width scroll from wide)

-- what an area shows of such rows, it shows of the lines
pub lines_beside : {T E : Type 0} (r : Result T E) (skin : RowSkin) (own bar : Option ScrollBar) (lines shown : List FmtLine) (area : Area) (width scroll : ℕ) (old new : Trace) → own ≡ bar → shown ≡ drop scroll lines
    → width ≡ columns_beside bar area.width
    → OnOk r (FillBeside own (λ y. row_pieces skin width (slice_get shown y)) area → TookWith old new (AreShownBeside own (λ y. row_pieces skin width (slice_get shown y)) area))
    → OnOk r (ShowsDrawableBeside skin bar lines area scroll old new)
lines_beside {T} {E} (Ok x) skin own bar lines shown area width scroll old new same from wide h = λ bar_shown drawable.
    let at_bar = subst (λ (b : Option ScrollBar). FillBeside b (λ y. row_pieces skin width (slice_get shown y)) area → TookWith old new (AreShownBeside b (λ y. row_pieces skin width (slice_get shown y)) area)) same h in
    let rows = subst (λ (row : ℕ → List RowPiece). FillBeside bar row area → TookWith old new (AreShownBeside bar row area)) (rows_are skin bar lines shown area width scroll from wide) at_bar in
    rows (record { column = bar_shown; rows = λ y inside. fills skin (columns_beside bar area.width) (drop scroll lines) area.height y inside drawable })
lines_beside {T} {E} (Err x) skin own bar lines shown area width scroll old new same from wide h = tt

-- so of a layout
pub layout_beside : {T E : Type 0} (r : Result T E) (skin : RowSkin) (bar : Option ScrollBar) (lines : List FmtLine) (area : Area) (scroll : ℕ) (old new : Trace) → IsWithinLimits area
    → OnOk r (ShowsDrawableBeside skin bar lines area scroll old new) → OnOk r (ShowsLayoutBeside skin bar lines area scroll old new)
layout_beside {T} {E} (Ok x) skin bar lines area scroll old new limits h = layout_so skin bar lines area scroll (TookWith old new (AreLinesBeside skin bar lines area scroll)) limits h
layout_beside {T} {E} (Err x) skin bar lines area scroll old new limits h = tt

-- the cells are those of a bar that follows each row
pub layout_whole : {T E : Type 0} (r : Result T E) (skin : RowSkin) (bar : Option ScrollBar) (lines : List FmtLine) (area : Area) (scroll : ℕ) (old new : Trace)
    → OnOk r (ShowsLayoutBeside skin bar lines area scroll old new) → OnOk r (ShowsLayout skin bar lines area scroll old new)
layout_whole {T} {E} (Ok x) skin bar lines area scroll old new h =
    λ source width narrower shown keeps layout.
    took_so old new (AreLinesBeside skin bar lines area scroll) (AreShownIn skin bar lines area scroll) (λ text both. both.whole) (h source width narrower shown keeps layout)
layout_whole {T} {E} (Err x) skin bar lines area scroll old new h = tt
