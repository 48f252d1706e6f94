-- Rows of a page that are drawn beside a bar.
use Rattle.std.proofs.Common.{◌≡◌, ℕ, List, drop, Option, Result, Ok, Err, OnOk, ap, ◌∙◌, subst}
use Rattle.mad_term.specs.Draws.{Draws}
use Rattle.mad_term.specs.Trace.{Trace, TookWith, after}
use Rattle.mad_term.specs.declared.errors.Error.{Error}
use Rattle.mad_draw.specs.BarsApart.{AreShownBeside, FillBeside, panes_beside, panes_bytes}
use Rattle.mad_draw.specs.BesideBar.{columns_beside}
use Rattle.mad_draw.specs.Pieces.{RowPiece}
use Rattle.mad_draw.specs.declared.scroll_bars.ScrollBar.{ScrollBar}
use Rattle.mad_format.specs.declared.line.FmtLine.{FmtLine}
use Rattle.mad_rows.specs.declared.row_skin.RowSkin.{RowSkin}
use Rattle.mad_hits.proofs.TookLemmas.{known}
use Rattle.mad_pages.specs.declared.fronts.Front.{Front}
use Rattle.mad_hits.specs.FrontRows.{page_row}
use Rattle.mad_hits.specs.declared.rooms.RowRoom.{RowRoom}
use Rattle.mad_hits.specs.Panes.{ArePageRowsDrawn, page_rows, page_rows_bytes, whole_area}

rows_are : (skin : RowSkin) (bar : Option ScrollBar) (lines : List FmtLine) (fs : List Front) (top : ℕ) (room : RowRoom) (width : ℕ) (shown : List FmtLine) (front : List Front) (wide : ℕ) → shown ≡ drop top lines → front ≡ drop top fs → wide ≡ columns_beside bar width
    → page_row skin room wide shown front ≡ page_rows skin bar lines fs top room width
rows_are skin bar lines fs top room width shown front wide lines_are fronts_are wide_is =
    ap (λ (ls : List FmtLine). page_row skin room wide ls front) lines_are ∙ ap (λ (f : List Front). page_row skin room wide (drop top lines) f) fronts_are ∙ ap (λ (n : ℕ). page_row skin room n (drop top lines) (drop top fs)) wide_is

-- where the rows from the top one on are drawn, so are the panes
panes_drawn : (skin : RowSkin) (bar : Option ScrollBar) (lines : List FmtLine) (fs : List Front) (top : ℕ) (room : RowRoom) (width height : ℕ) (shown : List FmtLine) (front : List Front) (wide : ℕ) (old new : Trace) (bytes : List ℕ)
    → shown ≡ drop top lines → front ≡ drop top fs → wide ≡ columns_beside bar width → new ≡ after old bytes
    → (FillBeside bar (page_row skin room wide shown front) (whole_area width height) → TookWith old new (AreShownBeside bar (page_row skin room wide shown front) (whole_area width height)))
    → TookWith old new (ArePageRowsDrawn skin bar lines fs top room width height)
panes_drawn skin bar lines fs top room width height shown front wide old new bytes lines_are fronts_are wide_is taken h =
    let area = whole_area width height in
    let row : ℕ → List RowPiece = page_rows skin bar lines fs top room width in
    known old new bytes (FillBeside bar row area) (AreShownBeside bar row area) taken
    (subst (λ (r : ℕ → List RowPiece). FillBeside bar r area → TookWith old new (AreShownBeside bar r area)) (rows_are skin bar lines fs top room width shown front wide lines_are fronts_are wide_is) h)

-- what is written of them, also where that is refused
pub panes_written : {T : Type 0} (r : Result T Error) (skin : RowSkin) (bar : Option ScrollBar) (lines : List FmtLine) (fs : List Front) (top : ℕ) (room : RowRoom) (width height : ℕ) (shown : List FmtLine) (front : List Front) (wide : ℕ) (old new : Trace)
    → shown ≡ drop top lines → front ≡ drop top fs → wide ≡ columns_beside bar width → Draws old (panes_bytes (panes_beside bar (page_row skin room wide shown front) (whole_area width height))) r new
    → Draws old (page_rows_bytes skin bar lines fs top room width height) r new
panes_written {T} r skin bar lines fs top room width height shown front wide old new lines_are fronts_are wide_is h =
    subst (λ (row : ℕ → List RowPiece). Draws old (panes_bytes (panes_beside bar row (whole_area width height))) r new) (rows_are skin bar lines fs top room width shown front wide lines_are fronts_are wide_is) h

-- what is shown of them, where they were drawn
pub panes_shown : {T : Type 0} (r : Result T Error) (skin : RowSkin) (bar : Option ScrollBar) (lines : List FmtLine) (fs : List Front) (top : ℕ) (room : RowRoom) (width height : ℕ) (shown : List FmtLine) (front : List Front) (wide : ℕ) (old new : Trace) (bytes : List ℕ)
    → shown ≡ drop top lines → front ≡ drop top fs → wide ≡ columns_beside bar width → Draws old bytes r new
    → OnOk r (FillBeside bar (page_row skin room wide shown front) (whole_area width height) → TookWith old new (AreShownBeside bar (page_row skin room wide shown front) (whole_area width height)))
    → OnOk r (TookWith old new (ArePageRowsDrawn skin bar lines fs top room width height))
panes_shown {T} (Ok x) skin bar lines fs top room width height shown front wide old new bytes lines_are fronts_are wide_is taken h =
    panes_drawn skin bar lines fs top room width height shown front wide old new bytes lines_are fronts_are wide_is taken h
panes_shown {T} (Err e) skin bar lines fs top room width height shown front wide old new bytes lines_are fronts_are wide_is taken h = tt
