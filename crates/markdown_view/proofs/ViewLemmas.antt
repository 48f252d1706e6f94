-- What is shown of a view.
use Rattle.std.proofs.Common.{◌≡◌, ℕ, zero, suc, ◌^◌, ◌<◌, ◌≤◌, List, [], ◌∷◌, map, drop, Option, Some, None, IfSome, Result, Ok, Err, OnOk, ap, ◌∙◌, sym, subst, arith}
use Rattle.std.specs.List.{AllByRecursion}
use Rattle.mad_term.specs.Trace.{Trace, TookWith}
use Rattle.mad_measure.specs.Areas.{IsWithinLimits}
use Rattle.mad_measure.specs.declared.area.Area.{Area}
use Rattle.mad_style.specs.declared.compound_styles.CompoundStyle.{CompoundStyle}
use Rattle.mad_draw.specs.BarsApart.{AreShownBeside, FillBeside}
use Rattle.mad_draw.specs.BesideBar.{IsBarShown}
use Rattle.mad_draw.specs.Pieces.{RowPiece}
use Rattle.mad_draw.specs.declared.scroll_bars.ScrollBar.{ScrollBar}
use Rattle.mad_draw.proofs.BorderLemmas.{space_column}
use Rattle.mad_rows.specs.declared.row_skin.RowSkin.{RowSkin}
use Rattle.mad_pages.specs.PageRows.{row_content}
use Rattle.mad_pages.specs.declared.page_rows.PageRow.{PageRow}
use Rattle.mad_page_rows.specs.FaceLaws.{AreFacesShown}
use Rattle.mad_page_rows.specs.PageFits.{AllFill, KeepsRoom, sections_at}
use Rattle.mad_page_rows.proofs.FitLemmas.{pages_fill}
use Rattle.markdown_layout.specs.DrawnMarkdown.{placed_rows}
use Rattle.markdown_layout.specs.KeptPremises.{IsTypedSection}
use Rattle.markdown_layout.proofs.DrawnLemmas.{fills_at}
use Rattle.markdown_view.specs.MarkdownViews.{ViewContent, IsLaidOut, IsShownBeside, ShowsKeptView, ShowsReadView, bar_of, bar_or_blanks, blank_bar, last_column_of, page_columns, rows_of}

-- the rows from one on fill their places, where all do
dropped_fill : (skin : RowSkin) (width n : ℕ) (rows : List PageRow) → AllFill skin width (map row_content rows) → AllFill skin width (map row_content (drop n rows))
dropped_fill skin width zero rows h = h
dropped_fill skin width (suc n) [] h = h
dropped_fill skin width (suc n) (row ∷ rows) h = dropped_fill skin width n rows h.1

-- a bar whose characters take a column each, and so do blanks
column_shown : (bar : Option ScrollBar) (style : CompoundStyle) (area : Area) → 4 ≤ area.width → IfSome bar (IsBarShown area.width) → IsBarShown area.width (bar_or_blanks bar (blank_bar style area))
column_shown (Some bar) style area wide h = h
column_shown None style area wide h = record { column = omega (arith, wide); track = space_column; thumb = space_column }

-- a view's rows fill their columns, and its last column is shown
view_fills : (view : ViewContent) → view.area.width < 2 ^ 16 → IsLaidOut view → IsShownBeside view → AreFacesShown view.skin
    → AllByRecursion (KeepsRoom view.skin (page_columns view.area)) (sections_at view.skin (page_columns view.area) view.page) → FillBeside (Some (last_column_of view)) (rows_of view) view.area
view_fills view bound laid beside faces keeps =
    let width : ℕ = page_columns view.area in
    let fill : AllFill view.skin width (map row_content view.rows) = pages_fill view.skin width view.page (map row_content view.rows) (omega (arith, beside.wide)) (omega (arith, bound)) faces keeps laid in
    record {
      column = column_shown (bar_of view) view.skin.paragraph.compound_style view.area beside.wide beside.bar;
      rows = λ y inside. fills_at view.skin width (drop view.scroll view.rows) y (dropped_fill view.skin width view.scroll view.rows fill);
    }

-- rows that were drawn beside a bar are shown, where their sections keep the premises
kept_shown : (view : ViewContent) (rows : List PageRow) (width : ℕ) (old new : Trace) → IsWithinLimits view.area → IsLaidOut view → rows ≡ drop view.scroll view.rows → width ≡ page_columns view.area
    → (FillBeside (Some (last_column_of view)) (placed_rows view.skin width rows) view.area → TookWith old new (AreShownBeside (Some (last_column_of view)) (placed_rows view.skin width rows) view.area)) → ShowsKeptView view old new
kept_shown view rows width old new limits laid rows_are width_is h = λ beside faces keeps.
    let bar : Option ScrollBar = Some (last_column_of view) in
    let same : placed_rows view.skin width rows ≡ rows_of view = ap (λ (n : ℕ). placed_rows view.skin n rows) width_is ∙ ap (λ (rs : List PageRow). placed_rows view.skin (page_columns view.area) rs) rows_are in
    subst (λ (row : ℕ → List RowPiece). FillBeside bar row view.area → TookWith old new (AreShownBeside bar row view.area)) same h (view_fills view (omega (arith, limits.columns)) laid beside faces keeps)

-- so are those of a view, by what its fields say
pub shown_kept : {T E : Type 0} (r : Result T E) (own view : ViewContent) (bar : ScrollBar) (rows : List PageRow) (width : ℕ) (old new : Trace) → own ≡ view → IsWithinLimits view.area → IsLaidOut own → bar ≡ last_column_of view → rows ≡ drop own.scroll own.rows
    → width ≡ page_columns own.area
    → OnOk r (FillBeside (Some bar) (placed_rows own.skin width rows) own.area → TookWith old new (AreShownBeside (Some bar) (placed_rows own.skin width rows) own.area)) → OnOk r (ShowsKeptView view old new)
shown_kept {T} {E} (Ok x) own view bar rows width old new is limits laid bar_is rows_are width_is h =
    subst (λ (v : ViewContent). ShowsKeptView v old new) is
    (kept_shown own rows width old new (subst (λ (v : ViewContent). IsWithinLimits v.area) (sym is) limits) laid rows_are width_is
    (subst (λ (b : ScrollBar). FillBeside (Some b) (placed_rows own.skin width rows) own.area → TookWith old new (AreShownBeside (Some b) (placed_rows own.skin width rows) own.area)) (bar_is ∙ ap last_column_of (sym is)) h))
shown_kept {T} {E} (Err x) own view bar rows width old new is limits laid bar_is rows_are width_is h = tt

-- and so are those of a text that was read
pub shown_read : {T E : Type 0} (r : Result T E) (own view : ViewContent) (old new : Trace) → own ≡ view → AllByRecursion IsTypedSection own.page → OnOk r (ShowsKeptView view old new) → OnOk r (ShowsReadView view old new)
shown_read {T} {E} (Ok x) own view old new is typed h = λ beside keeps marks.
    h beside marks.faces (keeps (subst (λ (v : ViewContent). AllByRecursion IsTypedSection v.page) is typed) view.skin (page_columns view.area) (omega (arith, beside.wide)) marks)
shown_read {T} {E} (Err x) own view old new is typed h = tt
