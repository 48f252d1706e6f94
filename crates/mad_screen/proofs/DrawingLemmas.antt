-- Rows on the grid.
use Rattle.std.proofs.Common.{◌≡◌, ◌≢◌, ◌⊎◌, inl, inr, ⊎_elim, ℕ, suc, zero, ◌+◌, ◌*◌, ◌^◌, ◌<◌, ◌≤◌, List, [], ◌∷◌, ◌++◌, length, get_or, refl, ap, sym, ◌∙◌, subst, arith, IsUtf8}
use Rattle.std.specs.Str.{chars}
use Rattle.std.proofs.lemmas.Str.{chars-append, chars-nil, chars-IsAscii, IsUtf8-append, IsUtf8-nil, IsUtf8-from_ascii}
use Rattle.std.proofs.lemmas.Nat.{row_fits}
use Rattle.std.proofs.lemmas.Bool.{cases_lt}
use Rattle.mad_term.specs.Commands.{move_to_bytes}
use Rattle.mad_screen.specs.Glyph.{Glyph}
use Rattle.mad_screen.specs.Grid.{Grid, IsGrid, put_list, painted, blank, plain_pen, cell_at}
use Rattle.mad_screen.specs.Terminal.{Leads, resting}
use Rattle.mad_screen.specs.Painting.{HasColumns}
use Rattle.mad_screen.specs.Drawing.{drawing, PaintRows, AreWide, IsOutside, ShowsRows, DrawnAs, listed}
use Rattle.mad_screen.proofs.PutList.{put_list-same, put_list-other}
use Rattle.mad_screen.proofs.Reading.{then_leads, nothing_leads, move_leads}
use Rattle.mad_screen.proofs.PaintingLemmas.{painted_is_grid, rest_fits}
use Rattle.mad_screen.proofs.AsciiCommands.{ascii_move_to}
use Rattle.mad_screen.proofs.Paints.{read_leads}

-- ---- one row

-- the grid with the cursor at a position
abbrev pub at : Grid → ℕ → ℕ → Grid
at g x y = record g { x = x; y = y }

-- from a position on there are columns for as many cells as the row has room for
pub at_columns : (g : Grid) (x y n : ℕ) → IsGrid g → y < g.height → x + n ≤ g.width → HasColumns (at g x y) n
at_columns g x y n h in_rows fits = record {
  grid = record { full = h.full; column = omega arith; row = omega arith };
  row = in_rows;
  columns = fits;
}

-- a position among the cells of a row
pub row_inside : (g : Grid) (left top : ℕ) (gs : List Glyph) (i : ℕ) → IsGrid g → top < g.height → left + length gs ≤ g.width → i < length gs → cell_at (painted (at g left top) gs) (left + i) top ≡ get_or gs i blank
unfolding painted
row_inside g left top gs i h in_height fits below =
    let place : top * g.width + (left + i) ≡ top * g.width + left + i = omega arith in
    ap (λ n. get_or (put_list g.cells (top * g.width + left) gs) n blank) place
    ∙ put_list-same g.cells (top * g.width + left) gs i blank below (rest_fits (at g left top) (length gs) (at_columns g left top (length gs) h in_height fits))

-- a position that is not in the row's part
pub row_outside : (g : Grid) (left top : ℕ) (gs : List Glyph) (x y : ℕ) → left + length gs ≤ g.width → x < g.width → (y ≢ top) ⊎ (x < left) ⊎ (left + length gs ≤ x) → cell_at (painted (at g left top) gs) x y ≡ cell_at g x y
unfolding painted
row_outside g left top gs x y fits in_width out =
    put_list-other g.cells (top * g.width + left) gs (y * g.width + x) blank
    (⊎_elim
    (λ ne. ⊎_elim
    (λ above. inl (omega (arith, row_fits y g.width top g.width above (omega arith))))
    (λ below. inr (omega (arith, row_fits top g.width y g.width (omega arith) (omega arith))))
    (cases_lt y top))
    (λ (same : (x < left) ⊎ (left + length gs ≤ x)). ⊎_elim
    (λ above. inl (omega (arith, row_fits y g.width top g.width above (omega arith))))
    (λ not_above. ⊎_elim
    (λ below. inr (omega (arith, row_fits top g.width y g.width below (omega arith))))
    (λ not_below.
    let row : y ≡ top = omega arith in
    let start : y * g.width ≡ top * g.width = ap (λ n. n * g.width) row in
    ⊎_elim (λ before. inl (omega arith)) (λ after. inr (omega arith)) same)
    (cases_lt top y))
    (cases_lt y top))
    out)

-- ---- the rows

-- the grid after them
abbrev pub painted_rows : Grid → ℕ → ℕ → List (List Glyph) → Grid
painted_rows g left top [] = g
painted_rows g left top (r ∷ rs) = painted_rows (painted (at g left top) r) left (suc top) rs

-- a move, a row's bytes, and more
drawing_chars : (left top : ℕ) (t : List ℕ) (ts : List (List ℕ)) → left + 1 < 2 ^ 32 → top + 1 < 2 ^ 32 → IsUtf8 t → IsUtf8 (drawing left (suc top) ts) → IsUtf8 (drawing left top (t ∷ ts)) × (chars (drawing left top (t ∷ ts)) ≡ move_to_bytes left top ++ (chars t ++ chars (drawing left (suc top) ts)))
drawing_chars left top t ts small_x small_y text texts =
    let ascii = ascii_move_to left top (omega arith) (omega arith) in
    let move : IsUtf8 (move_to_bytes left top) = IsUtf8-from_ascii (move_to_bytes left top) ascii in
    let rest = drawing left (suc top) ts in (
      IsUtf8-append (move_to_bytes left top) (t ++ rest) move (IsUtf8-append t rest text texts),
      chars-append (move_to_bytes left top) (t ++ rest) move ∙ ap (λ l. l ++ chars (t ++ rest)) (chars-IsAscii (move_to_bytes left top) ascii)
          ∙ ap (λ l. move_to_bytes left top ++ l) (chars-append t rest text),
    )

-- the bytes of a drawing lead to the grid after its rows
pub drawing_leads : (ts : List (List ℕ)) (rs : List (List Glyph)) (g : Grid) (left top w : ℕ) → PaintRows ts rs → AreWide w rs → IsGrid g → g.pen ≡ plain_pen → 0 < w → left + w ≤ g.width → top + length rs ≤ g.height → left + 1 < 2 ^ 32 → top + length rs < 2 ^ 32 → IsUtf8 (drawing left top ts) × Leads (resting g) (chars (drawing left top ts)) (resting (painted_rows g left top rs))
unfolding painted
drawing_leads [] [] g left top w paints wide h pen some fits_x fits_y small_x small_y = (IsUtf8-nil, subst (λ (cs : List ℕ). Leads (resting g) cs (resting g)) (sym chars-nil) (nothing_leads _))
drawing_leads [] (r ∷ rs) g left top w paints wide h pen some fits_x fits_y small_x small_y = absurd paints
drawing_leads (t ∷ ts) [] g left top w paints wide h pen some fits_x fits_y small_x small_y = absurd paints
drawing_leads (t ∷ ts) (r ∷ rs) g left top w paints wide h pen some fits_x fits_y small_x small_y =
    let fits : left + length r ≤ g.width = omega (arith, wide.0) in
    let there : HasColumns (at g left top) (length r) = at_columns g left top (length r) h (omega arith) fits in
    let below : IsUtf8 (drawing left (suc top) ts) × Leads (resting (painted (at g left top) r)) (chars (drawing left (suc top) ts)) (resting (painted_rows g left top (r ∷ rs))) = drawing_leads ts rs (painted (at g left top) r) left (suc top) w paints.1 wide.1 (painted_is_grid (at g left top) r there.grid fits) pen some fits_x (omega arith) small_x (omega arith) in
    let bytes : IsUtf8 (drawing left top (t ∷ ts)) × (chars (drawing left top (t ∷ ts)) ≡ move_to_bytes left top ++ (chars t ++ chars (drawing left (suc top) ts))) = drawing_chars left top t ts small_x (omega arith) paints.0.text below.0 in (
      bytes.0,
      subst (λ (cs : List ℕ). Leads (resting g) cs (resting (painted_rows g left top (r ∷ rs)))) (sym bytes.1)
          (then_leads _ _ _ (move_to_bytes left top) (chars t ++ chars (drawing left (suc top) ts)) (move_leads g left top (omega arith) (omega arith) (omega arith) (omega arith))
          (then_leads _ _ _ (chars t) (chars (drawing left (suc top) ts)) (paints.0.paints (at g left top) there pen) below.1)),
    )

-- the positions of the first row and of those below it
inside_step : (r : List Glyph) (rs : List (List Glyph)) (g new : Grid) (left top w : ℕ) → length r ≡ w → IsGrid g → left + w ≤ g.width → top < g.height → ShowsRows left (suc top) w (length rs) (listed rs) (painted (at g left top) r) new → (i j : ℕ) → i < w → j < suc (length rs) → cell_at new (left + i) (top + j) ≡ get_or (get_or (r ∷ rs) j []) i blank
unfolding painted
inside_step r rs g new left top w wide h fits_x fits_y below i zero in_w in_h =
    let row : top + 0 ≡ top = omega arith in
    ap (λ y. cell_at new (left + i) y) row ∙ below.outside (left + i) top (omega arith) (inr (inr (inl (omega arith))))
    ∙ row_inside g left top r i h fits_y (omega arith) (omega arith)
inside_step r rs g new left top w wide h fits_x fits_y below i (suc j) in_w in_h =
    let row : top + suc j ≡ suc top + j = omega arith in
    ap (λ y. cell_at new (left + i) y) row ∙ below.inside i j in_w (omega arith)

outside_step : (r : List Glyph) (rs : List (List Glyph)) (g new : Grid) (left top w : ℕ) → length r ≡ w → left + w ≤ g.width → ShowsRows left (suc top) w (length rs) (listed rs) (painted (at g left top) r) new → (x y : ℕ) → x < g.width → IsOutside left top w (suc (length rs)) x y → cell_at new x y ≡ cell_at g x y
unfolding painted
outside_step r rs g new left top w wide fits below x y in_width out =
    below.outside x y in_width (⊎_elim (λ a. inl a) (⊎_elim (λ a. inr (inl a)) (⊎_elim (λ a. inr (inr (inl (omega arith)))) (λ a. inr (inr (inr (omega arith)))))) out)
    ∙ row_outside g left top r x y (omega arith) in_width (⊎_elim (λ a. inr (inl a)) (⊎_elim (λ a. inr (inr (omega arith))) (⊎_elim (λ a. inl (omega arith)) (λ a. inl (omega arith)))) out)

-- on the grid after rows these are shown, and nothing else has changed
pub painted_rows_show : (rs : List (List Glyph)) (g : Grid) (left top w : ℕ) → AreWide w rs → IsGrid g → left + w ≤ g.width → top + length rs ≤ g.height → ShowsRows left top w (length rs) (listed rs) g (painted_rows g left top rs)
unfolding painted
painted_rows_show [] g left top w wide h fits_x fits_y = record {
  width = refl;
  height = refl;
  inside = λ i j in_w in_h. absurd (omega arith);
  outside = λ x y in_width out. refl;
}
painted_rows_show (r ∷ rs) g left top w wide h fits_x fits_y =
    let there : HasColumns (at g left top) (length r) = at_columns g left top (length r) h (omega arith) (omega (arith, wide.0)) in
    let g' : Grid = painted (at g left top) r in
    let below : ShowsRows left (suc top) w (length rs) (listed rs) g' (painted_rows g' left (suc top) rs) = painted_rows_show rs g' left (suc top) w wide.1 (painted_is_grid (at g left top) r there.grid (omega (arith, wide.0))) fits_x (omega arith) in
    record {
      width = below.width;
      height = below.height;
      inside = inside_step r rs g (painted_rows g' left (suc top) rs) left top w wide.0 h fits_x (omega arith) below;
      outside = outside_step r rs g (painted_rows g' left (suc top) rs) left top w wide.0 fits_x below;
    }

-- the cursor and the pen after the rows
painted_rows-pen : (rs : List (List Glyph)) (g : Grid) (left top : ℕ) → (painted_rows g left top rs).pen ≡ g.pen
unfolding painted
painted_rows-pen [] g left top = refl
painted_rows-pen (r ∷ rs) g left top = painted_rows-pen rs (painted (at g left top) r) left (suc top)

painted_rows_is_grid : (rs : List (List Glyph)) (g : Grid) (left top w : ℕ) → AreWide w rs → IsGrid g → left + w ≤ g.width → top + length rs ≤ g.height → IsGrid (painted_rows g left top rs)
unfolding painted
painted_rows_is_grid [] g left top w wide h fits_x fits_y = h
painted_rows_is_grid (r ∷ rs) g left top w wide h fits_x fits_y =
    let there : HasColumns (at g left top) (length r) = at_columns g left top (length r) h (omega arith) (omega (arith, wide.0)) in
    painted_rows_is_grid rs (painted (at g left top) r) left (suc top) w wide.1 (painted_is_grid (at g left top) r there.grid (omega (arith, wide.0))) fits_x (omega arith)

-- rows that paint their cells show them in an area that they fit
pub drawn : (left top : ℕ) (ts : List (List ℕ)) (rs : List (List Glyph)) → left < 2 ^ 16 → top + length rs < 2 ^ 32 → PaintRows ts rs → DrawnAs left top rs (drawing left top ts)
drawn left top ts rs small_x small_y paints g w fits =
    let new : Grid = painted_rows g left top rs in
    let read : IsUtf8 (drawing left top ts) × Leads (resting g) (chars (drawing left top ts)) (resting new) = drawing_leads ts rs g left top w paints fits.wide fits.grid fits.pen fits.some fits.columns fits.lines (omega arith) small_y in (
      new,
      read_leads g new (drawing left top ts) read.0 read.1,
      painted_rows_is_grid rs g left top w fits.wide fits.grid fits.columns fits.lines,
      painted_rows-pen rs g left top ∙ fits.pen,
      painted_rows_show rs g left top w fits.wide fits.grid fits.columns fits.lines,
    )
