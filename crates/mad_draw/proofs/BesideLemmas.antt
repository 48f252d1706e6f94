-- Rows, and a scroll bar that has moves of its own.
use Rattle.std.proofs.Common.{◌≡◌, ℕ, ◌+◌, ◌-◌, ◌<◌, ◌≤◌, nat_lt, false, true, inl, inr, List, [], ◌∷◌, ◌++◌, get_or, Option, Some, Result, Ok, Err, OnOk, refl, ap, sym, ◌∙◌, subst, arith}
use Rattle.std.specs.Prelude.{if◌then◌else◌}
use Rattle.std.proofs.lemmas.Bool.{cases_lt}
use Rattle.std.proofs.lemmas.Bool.Decides.{nat_tests}
use Rattle.std.proofs.lemmas.List.{append-nil}
use Rattle.mad_term.specs.Trace.{Trace, TookWith}
use Rattle.mad_screen.specs.Drawing.{IsOutside}
use Rattle.mad_screen.specs.Grid.{Grid, blank, cell_at}
use Rattle.mad_screen.specs.Glyph.{Glyph}
use Rattle.mad_style.specs.StyledChars.{char_alone}
use Rattle.mad_style.specs.declared.styled_chars.StyledChar.{StyledChar}
use Rattle.mad_measure.specs.declared.area.Area.{Area}
use Rattle.mad_draw.specs.BarsApart.{AreShownBeside, FillBeside, bar_row, but_last_column, joined_pane, last_column, panes_beside, parted_panes}
use Rattle.mad_draw.specs.BesideBar.{IsBarShown, bar_char, beside_bar, char_cell}
use Rattle.mad_draw.specs.DrawnRows.{AreRowsShown, FillArea, IsOnScreen}
use Rattle.mad_draw.specs.Panes.{AreApart, AreOnScreen, Pane, ShowsEach}
use Rattle.mad_draw.specs.Pieces.{RowPiece, IsColumnChar, IsColumnPiece, char_piece, penned_chars}
use Rattle.mad_draw.specs.PennedCells.{penned_cells}
use Rattle.mad_draw.specs.declared.scroll_bars.ScrollBar.{ScrollBar}
use Rattle.mad_draw.proofs.BarLemmas.{bar_column, beside_fills, cell_beside, cell_of_bar, row_cells}
use Rattle.mad_draw.proofs.ColumnChars.{column_piece}
use Rattle.mad_draw.proofs.PaneLemmas.{panes_shown}
use Rattle.mad_draw.proofs.TookLemmas.{took_in_turn, took_so}

-- ---- one pane

joined : (bar : Option ScrollBar) (row : ℕ → List RowPiece) (area : Area) (text : List ℕ) → panes_beside bar row area ≡ joined_pane bar row area → AreRowsShown (beside_bar bar row) area text → AreShownBeside bar row area text
joined bar row area text are h = record {
  whole = h;
  each = subst (λ (ps : List Pane). ShowsEach ps text) (sym are) (text, [], sym (append-nil text), h, refl);
}

-- rows and their bar that were drawn as one
pub joined_shown : {T E : Type 0} (r : Result T E) (bar : Option ScrollBar) (row : ℕ → List RowPiece) (area : Area) (old new : Trace) → panes_beside bar row area ≡ joined_pane bar row area
    → OnOk r (FillArea (beside_bar bar row) area → TookWith old new (AreRowsShown (beside_bar bar row) area)) → OnOk r (FillBeside bar row area → TookWith old new (AreShownBeside bar row area))
joined_shown {T} {E} (Ok x) bar row area old new are h =
    λ fill. took_so old new (AreRowsShown (beside_bar bar row) area) (AreShownBeside bar row area) (λ text shown. joined bar row area text are shown) (h (beside_fills bar row area fill.column fill.rows))
joined_shown {T} {E} (Err x) bar row area old new are h = tt

-- ---- two panes

is_narrow : (n : ℕ) → n < 2 → nat_lt n 2 ≡ true
is_narrow n few = grind (arith, nat_tests)

not_narrow : (n : ℕ) → 2 ≤ n → nat_lt n 2 ≡ false
not_narrow n two = grind (arith, nat_tests)

-- an area that has no column for its rows is one pane
pub narrow : (bar : ScrollBar) (row : ℕ → List RowPiece) (area : Area) → area.width < 2 → panes_beside (Some bar) row area ≡ joined_pane (Some bar) row area
narrow bar row area few = ap (λ b. if b then joined_pane (Some bar) row area else parted_panes bar row area) (is_narrow area.width few)

-- and another is two
wide : (bar : ScrollBar) (row : ℕ → List RowPiece) (area : Area) → 2 ≤ area.width → panes_beside (Some bar) row area ≡ parted_panes bar row area
wide bar row area two = ap (λ b. if b then joined_pane (Some bar) row area else parted_panes bar row area) (not_narrow area.width two)

-- the last column shares no cell with the others
columns_apart : (area : Area) → 2 ≤ area.width → AreApart (but_last_column area) (last_column area)
columns_apart area two x y a b = let right = a.to_right in let left = b.from_left in absurd (omega (arith, right, left, two))

-- what is outside the area is outside both
outside_rows : (left top w h x y : ℕ) → IsOutside left top w h x y → IsOutside left top (w - 1) h x y
outside_rows left top w h x y (inl before) = inl before
outside_rows left top w h x y (inr (inl after)) = inr (inl (omega (arith, after)))
outside_rows left top w h x y (inr (inr rows)) = inr (inr rows)

outside_column : (left top w h x y : ℕ) → 2 ≤ w → IsOutside left top w h x y → IsOutside (left + (w - 1)) top 1 h x y
outside_column left top w h x y two (inl before) = inl (omega (arith, before))
outside_column left top w h x y two (inr (inl after)) = inr (inl (omega (arith, after, two)))
outside_column left top w h x y two (inr (inr rows)) = inr (inr rows)

-- the cell of the bar's row
cell_alone : (c : StyledChar) → IsColumnChar (char_alone c) → get_or (penned_cells (penned_chars (char_piece c ∷ []))) 0 blank ≡ char_cell c
cell_alone c h = ap (λ (gs : List Glyph). get_or gs 0 blank) (row_cells [] c tt h)

-- rows that were drawn, and then the bar beside them
pub both_shown : (bar : ScrollBar) (row : ℕ → List RowPiece) (area : Area) (a b : List ℕ) → 2 ≤ area.width → FillBeside (Some bar) row area
    → AreRowsShown row (but_last_column area) a → AreRowsShown (bar_row bar) (last_column area) b → AreRowsShown (beside_bar (Some bar) row) area (a ++ b)
both_shown bar row area a b two fill here there g on_screen =
    let at_rows : IsOnScreen (but_last_column area) g = record { grid = on_screen.grid; pen = on_screen.pen; some = omega (arith, two); columns = let all = on_screen.columns in omega (arith, all); rows = on_screen.rows } in
    let at_bar : IsOnScreen (last_column area) g = record { grid = on_screen.grid; pen = on_screen.pen; some = omega arith; columns = let all = on_screen.columns in omega (arith, all, two); rows = on_screen.rows } in
    let on_both : AreOnScreen (but_last_column area ∷ last_column area ∷ []) g = record { grid = on_screen.grid; pen = on_screen.pen; each = (at_rows, (at_bar, tt)) } in
    let panes : List Pane = parted_panes bar row area in
    let done = panes_shown panes (a ++ b) ((columns_apart area two, tt), (tt, tt)) (a, b, refl, here, (b, [], sym (append-nil b), there, refl)) g on_both in
    let new : Grid = done.0 in (
      new,
      done.1,
      done.2,
      done.3,
      record {
        width = done.4.width;
        height = done.4.height;
        inside = λ i j in_width in_height.
            let c : StyledChar = bar_char bar j in
            let one : IsColumnChar (char_alone c) = bar_column bar area.width j fill.column in
            elim (cases_lt i (area.width - 1)) [
              | inl left ↦ done.4.inside.0 i j left in_height ∙ sym (cell_beside (row j) c (area.width - 1) i (fill.rows j in_height) one left)
              | inr right ↦
                  let last : i ≡ area.width - 1 = omega (arith, right, in_width) in
                  let shown : cell_at new (area.left + (area.width - 1) + 0) (area.top + j) ≡ char_cell c = done.4.inside.1.0 0 j (omega arith) in_height ∙ cell_alone c one in
                  let at : area.left + i ≡ area.left + (area.width - 1) + 0 = omega (arith, last) in
                  ap (λ x. cell_at new x (area.top + j)) at ∙ shown ∙ sym (ap (λ k. get_or (penned_cells (penned_chars (row j ++ char_piece c ∷ []))) k blank) last ∙ cell_of_bar (row j) c (area.width - 1) (fill.rows j in_height) one)
            ];
        outside = λ x y in_width out. done.4.outside x y in_width (outside_rows area.left area.top area.width area.height x y out, (outside_column area.left area.top area.width area.height x y two out, tt));
      },
    )

-- the bar fills its column
column_fills : (bar : ScrollBar) (area : Area) → IsBarShown area.width bar → FillArea (bar_row bar) (last_column area)
column_fills bar area h y inside =
    let one : IsColumnPiece (char_piece (bar_char bar y)) = column_piece (bar_char bar y) (bar_column bar area.width y h) in
    record { shown = (one.shown, tt); columns = let is = one.one in omega (arith, is) }

both_taken : (bar : ScrollBar) (row : ℕ → List RowPiece) (area : Area) (old mid new : Trace) → 2 ≤ area.width
    → (FillArea row (but_last_column area) → TookWith old mid (AreRowsShown row (but_last_column area)))
    → (FillArea (bar_row bar) (last_column area) → TookWith mid new (AreRowsShown (bar_row bar) (last_column area)))
    → FillBeside (Some bar) row area → TookWith old new (AreShownBeside (Some bar) row area)
both_taken bar row area old mid new two here there fill =
    took_in_turn old mid new (AreRowsShown row (but_last_column area)) (AreRowsShown (bar_row bar) (last_column area)) (AreShownBeside (Some bar) row area)
    (λ a b rows column. record {
      whole = both_shown bar row area a b two fill rows column;
      each = subst (λ (ps : List Pane). ShowsEach ps (a ++ b)) (sym (wide bar row area two)) (a, b, refl, rows, (b, [], sym (append-nil b), column, refl));
    })
    (here fill.rows) (there (column_fills bar area fill.column))

-- both, as a device took them
pub parted_drawn : {T E : Type 0} (r : Result T E) (bar : ScrollBar) (row : ℕ → List RowPiece) (area : Area) (old mid new : Trace) → 2 ≤ area.width
    → (FillArea row (but_last_column area) → TookWith old mid (AreRowsShown row (but_last_column area)))
    → OnOk r (FillArea (bar_row bar) (last_column area) → TookWith mid new (AreRowsShown (bar_row bar) (last_column area)))
    → OnOk r (FillBeside (Some bar) row area → TookWith old new (AreShownBeside (Some bar) row area))
parted_drawn {T} {E} (Ok x) bar row area old mid new two here there = both_taken bar row area old mid new two here there
parted_drawn {T} {E} (Err x) bar row area old mid new two here there = tt
