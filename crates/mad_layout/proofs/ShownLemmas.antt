-- What an area shows of the lines that were drawn in it.
use Rattle.std.proofs.Common.{◌≡◌, ℕ, zero, suc, ◌<◌, List, [], ◌∷◌, drop, take, Option, Result, Ok, Err, OnOk, arith, ap, subst, ◌∙◌}
use Rattle.std.specs.Prelude.{slice_get}
use Rattle.mad_term.specs.Trace.{Trace, TookWith}
use Rattle.mad_measure.specs.declared.area.Area.{Area}
use Rattle.mad_draw.specs.DrawnRows.{FillArea, AreRowsShown, rows_bytes}
use Rattle.mad_draw.specs.Pieces.{RowPiece, FillsRow}
use Rattle.mad_draw.specs.BesideBar.{beside_bar, columns_beside}
use Rattle.mad_draw.specs.declared.scroll_bars.ScrollBar.{ScrollBar}
use Rattle.mad_draw.proofs.BarLemmas.{beside_fills}
use Rattle.mad_draw.proofs.PieceLemmas.{spaces_columns, shown_spaces}
use Rattle.mad_rows.specs.declared.row_skin.RowSkin.{RowSkin}
use Rattle.mad_format.specs.declared.line.FmtLine.{FmtLine}
use Rattle.mad_layout.specs.Drawable.{AreDrawable}
use Rattle.mad_rows.specs.Rows.{row_pieces}
use Rattle.mad_layout.specs.Shown.{text_row, area_row, area_bytes}
use Rattle.mad_layout.specs.ShownLayouts.{ShowsDrawable}
use Rattle.mad_layout.proofs.RunLemmas.{any_columns, any_shown}

-- a row fills its place: that of one of the first lines, or one past the last line
pub fills : (skin : RowSkin) (width : ℕ) (lines : List FmtLine) (n y : ℕ) → y < n → AreDrawable skin width (take n lines) → FillsRow width (row_pieces skin width (slice_get lines y))
fills skin width lines zero y inside h = absurd (omega (arith, inside))
fills skin width [] (suc n) y inside h = record { shown = shown_spaces skin.paragraph.compound_style width; columns = spaces_columns skin.paragraph.compound_style width }
fills skin width (l ∷ lines) (suc n) zero inside h = record { shown = any_shown skin width l h.0; columns = any_columns skin width l h.0 }
fills skin width (l ∷ lines) (suc n) (suc y) inside h = fills skin width lines n y (omega (arith, inside)) h.1

-- the rows that are drawn are those of the lines from one on, and the bar's
rows_are : (own skin : RowSkin) (own_bar bar : Option ScrollBar) (lines shown : List FmtLine) (area : Area) (width scroll : ℕ) → own ≡ skin → own_bar ≡ bar → shown ≡ drop scroll lines → width ≡ columns_beside bar area.width
    → beside_bar own_bar (λ y. row_pieces own width (slice_get shown y)) ≡ area_row skin bar lines area scroll
rows_are own skin own_bar bar lines shown area width scroll same same_bar from wide =
    ap (λ (s : RowSkin). beside_bar own_bar (λ y. row_pieces s width (slice_get shown y))) same
    ∙ ap (λ (b : Option ScrollBar). beside_bar b (λ y. row_pieces skin width (slice_get shown y))) same_bar
    ∙ ap (λ (ls : List FmtLine). beside_bar bar (λ y. row_pieces skin width (slice_get ls y))) from
    ∙ ap (λ (w : ℕ). beside_bar bar (λ y. row_pieces skin w (slice_get (drop scroll lines) y))) wide

-- what an area shows of its rows, it shows of the lines from one on
pub text_shown_in : {T E : Type 0} (r : Result T E) (own skin : RowSkin) (own_bar bar : Option ScrollBar) (lines shown : List FmtLine) (area : Area) (width scroll : ℕ) (old new : Trace)
    → own ≡ skin → own_bar ≡ bar → shown ≡ drop scroll lines → width ≡ columns_beside bar area.width
    → OnOk r (FillArea (beside_bar own_bar (λ y. row_pieces own width (slice_get shown y))) area → TookWith old new (AreRowsShown (beside_bar own_bar (λ y. row_pieces own width (slice_get shown y))) area))
    → OnOk r (ShowsDrawable skin bar lines area scroll old new)
text_shown_in {T} {E} (Ok x) own skin own_bar bar lines shown area width scroll old new same same_bar from wide h = λ bar_shown drawable.
    let rows = subst (λ (row : ℕ → List RowPiece). FillArea row area → TookWith old new (AreRowsShown row area)) (rows_are own skin own_bar bar lines shown area width scroll same same_bar from wide) h in
    rows (beside_fills bar (text_row skin (columns_beside bar area.width) lines scroll) area bar_shown (λ y inside. fills skin (columns_beside bar area.width) (drop scroll lines) area.height y inside drawable))
text_shown_in {T} {E} (Err x) own skin own_bar bar lines shown area width scroll old new same same_bar from wide h = tt

-- the bytes of such rows are those of an area
pub area_drawn : (own skin : RowSkin) (own_bar bar : Option ScrollBar) (lines shown : List FmtLine) (area : Area) (width scroll : ℕ) → own ≡ skin → own_bar ≡ bar → shown ≡ drop scroll lines → width ≡ columns_beside bar area.width
    → rows_bytes (beside_bar own_bar (λ y. row_pieces own width (slice_get shown y))) area ≡ area_bytes skin bar lines area scroll
area_drawn own skin own_bar bar lines shown area width scroll same same_bar from wide =
    ap (λ (row : ℕ → List RowPiece). rows_bytes row area) (rows_are own skin own_bar bar lines shown area width scroll same same_bar from wide)
