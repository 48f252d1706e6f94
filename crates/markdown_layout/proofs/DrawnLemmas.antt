-- What an area shows of a page.
use Rattle.std.proofs.Common.{◌≡◌, ℕ, zero, suc, ◌-◌, ◌^◌, ◌<◌, ◌≤◌, List, [], ◌∷◌, map, Result, Ok, Err, OnOk, sym, subst}
use Rattle.std.specs.List.{AllByRecursion}
use Rattle.mad_term.specs.Trace.{Trace, TookWith}
use Rattle.mad_draw.specs.Pieces.{IsColumnChar}
use Rattle.mad_measure.specs.declared.area.Area.{Area}
use Rattle.mad_draw.specs.DrawnRows.{AreRowsShown, FillArea}
use Rattle.mad_draw.specs.Pieces.{FillsRow}
use Rattle.mad_draw.proofs.PieceLemmas.{shown_spaces, spaces_columns}
use Rattle.mad_rows.specs.declared.row_skin.RowSkin.{RowSkin}
use Rattle.mad_sections.specs.Sections.{SectionContent}
use Rattle.mad_pages.specs.PageRows.{row_content}
use Rattle.mad_pages.specs.declared.page_rows.PageRow.{PageRow}
use Rattle.mad_page_rows.specs.PageFits.{AllFill}
use Rattle.mad_page_rows.proofs.FitLemmas.{pages_fill}
use Rattle.markdown_layout.specs.DrawnMarkdown.{placed_rows, ArePageOf, ShowsKept, ShowsMarkdown}
use Rattle.markdown_layout.specs.KeptPremises.{IsTypedSection, KeepPremises}

-- each row of a page fills its place, and so do spaces
pub fills_at : (skin : RowSkin) (width : ℕ) (rows : List PageRow) (y : ℕ) → AllFill skin width (map row_content rows) → FillsRow width (placed_rows skin width rows y)
fills_at skin width [] y h = record { shown = shown_spaces skin.paragraph.compound_style width; columns = spaces_columns skin.paragraph.compound_style width }
fills_at skin width (row ∷ rows) zero h = h.0
fills_at skin width (row ∷ rows) (suc y) h = fills_at skin width rows y h.1

-- rows that were drawn are shown, where their sections keep the premises
pub shown_kept : {T E : Type 0} (r : Result T E) (skin : RowSkin) (page : List SectionContent) (area : Area) (rows : List PageRow) (old new : Trace) → area.width < 2 ^ 64 - 1 → ArePageOf skin area page rows
    → OnOk r (FillArea (placed_rows skin area.width rows) area → TookWith old new (AreRowsShown (placed_rows skin area.width rows) area)) → OnOk r (3 ≤ area.width → ShowsKept skin page area old new)
shown_kept {T} {E} (Ok x) skin page area rows old new bound laid h = λ three faces keeps.
    let fill : AllFill skin area.width (map row_content rows) = pages_fill skin area.width page (map row_content rows) three bound faces keeps laid in
    (rows, laid, h (λ y inside. fills_at skin area.width rows y fill))
shown_kept {T} {E} (Err x) skin page area rows old new bound laid h = tt

-- Markdown that was read is shown, where the sign of its pictures takes one column
pub shown_read : {T E : Type 0} (r : Result T E) (skin : RowSkin) (sign : ℕ) (source said page : List SectionContent) (area : Area) (old new : Trace) → said ≡ source → page ≡ said → (IsColumnChar sign → KeepPremises said) → AllByRecursion IsTypedSection page
    → OnOk r (3 ≤ area.width → ShowsKept skin page area old new) → OnOk r (3 ≤ area.width → IsColumnChar sign → ShowsMarkdown skin source area old new)
shown_read {T} {E} (Ok x) skin sign source said page area old new says same keeps typed h = λ three column.
    subst (λ (s : List SectionContent). ShowsMarkdown skin s area old new) says
    (subst (λ (s : List SectionContent). ShowsMarkdown skin s area old new) same
    (λ marks. h three marks.faces (subst KeepPremises (sym same) (keeps column) typed skin area.width three marks)))
shown_read {T} {E} (Err x) skin sign source said page area old new says same keeps typed h = tt
