-- Cells side by side at any positions of a screen.
use Rattle.std.proofs.Common.{◌≡◌, ◌≢◌, ◌⊎◌, inl, inr, ⊎_elim, ℕ, ◌+◌, ◌-◌, ◌<◌, ◌≤◌, true, false, cond, List, [], ◌∷◌, ◌++◌, length, get_or, Some, refl, ap, sym, ◌∙◌, subst, arith, IsUtf8}
use Rattle.std.specs.List.{AllByRecursion}
use Rattle.std.specs.Str.{chars}
use Rattle.std.proofs.lemmas.Str.{chars-append, chars-nil, chars-IsAscii, IsUtf8-append, IsUtf8-nil, IsUtf8-from_ascii}
use Rattle.std.proofs.lemmas.Bool.{cases_eq, cases_lt}
use Rattle.std.proofs.lemmas.Bool.Decides.{nat_tests}
use Rattle.mad_term.specs.Commands.{move_to_bytes}
use Rattle.mad_screen.specs.Grid.{Grid, IsGrid, painted, blank, plain_pen, cell_at}
use Rattle.mad_screen.specs.Terminal.{Leads, resting, after_bytes}
use Rattle.mad_screen.specs.Painting.{HasColumns}
use Rattle.mad_screen.specs.Drawing.{Strip, strips_bytes, FitsScreen, covers, cell_under, ShowsStrips}
use Rattle.mad_screen.proofs.AsciiCommands.{ascii_move_to}
use Rattle.mad_screen.proofs.Reading.{then_leads, nothing_leads, move_leads}
use Rattle.mad_screen.proofs.PaintingLemmas.{painted_is_grid}
use Rattle.mad_screen.proofs.Paints.{read_leads}
use Rattle.mad_screen.proofs.DrawingLemmas.{at, at_columns, row_inside, row_outside}

-- the grid after a strip
abbrev pub with_strip : Grid → Strip → Grid
with_strip g s = painted (at g s.x s.y) s.cells

-- the grid after some strips
abbrev pub with_strips : Grid → List Strip → Grid
with_strips g [] = g
with_strips g (s ∷ strips) = with_strips (with_strip g s) strips

strip_is_grid : (g : Grid) (s : Strip) → IsGrid g → FitsScreen g s → IsGrid (with_strip g s)
strip_is_grid g s h fits = painted_is_grid (at g s.x s.y) s.cells (at_columns g s.x s.y (length s.cells) h fits.row fits.columns).grid fits.columns

-- the others still fit
still_fit : (g : Grid) (s : Strip) (strips : List Strip) → AllByRecursion (FitsScreen g) strips → AllByRecursion (FitsScreen (with_strip g s)) strips
unfolding painted
still_fit g s [] h = tt
still_fit g s (t ∷ strips) h = (
  record {
    paints = h.0.paints;
    some = h.0.some;
    columns = h.0.columns;
    row = h.0.row;
    small_column = h.0.small_column;
    small_row = h.0.small_row;
  },
  still_fit g s strips h.1,
)

-- a move and its bytes
strip_leads : (g : Grid) (s : Strip) → IsGrid g → g.pen ≡ plain_pen → FitsScreen g s → IsUtf8 (move_to_bytes s.x s.y ++ s.bytes) × Leads (resting g) (chars (move_to_bytes s.x s.y ++ s.bytes)) (resting (with_strip g s))
strip_leads g s h pen fits =
    let ascii = ascii_move_to s.x s.y (omega (arith, fits.small_column)) (omega (arith, fits.small_row)) in
    let move : IsUtf8 (move_to_bytes s.x s.y) = IsUtf8-from_ascii (move_to_bytes s.x s.y) ascii in
    let columns : HasColumns (at g s.x s.y) (length s.cells) = at_columns g s.x s.y (length s.cells) h fits.row fits.columns in (
      IsUtf8-append (move_to_bytes s.x s.y) s.bytes move fits.paints.text,
      subst (λ (cs : List ℕ). Leads (resting g) cs (resting (with_strip g s)))
          (sym (chars-append (move_to_bytes s.x s.y) s.bytes move ∙ ap (λ l. l ++ chars s.bytes) (chars-IsAscii (move_to_bytes s.x s.y) ascii)))
          (then_leads (resting g) (resting (at g s.x s.y)) (resting (with_strip g s)) (move_to_bytes s.x s.y) (chars s.bytes)
          (move_leads g s.x s.y (omega (arith, fits.some, fits.columns)) fits.row (omega (arith, fits.small_column)) (omega (arith, fits.small_row)))
          (fits.paints.paints (at g s.x s.y) columns pen)),
    )

strips_lead : (strips : List Strip) (g : Grid) → IsGrid g → g.pen ≡ plain_pen → AllByRecursion (FitsScreen g) strips → IsUtf8 (strips_bytes strips) × Leads (resting g) (chars (strips_bytes strips)) (resting (with_strips g strips))
unfolding painted
strips_lead [] g h pen fits = (IsUtf8-nil, subst (λ (cs : List ℕ). Leads (resting g) cs (resting g)) (sym chars-nil) (nothing_leads _))
strips_lead (s ∷ strips) g h pen fits =
    let first : List ℕ = move_to_bytes s.x s.y ++ s.bytes in
    let one : IsUtf8 first × Leads (resting g) (chars first) (resting (with_strip g s)) = strip_leads g s h pen fits.0 in
    let rest : IsUtf8 (strips_bytes strips) × Leads (resting (with_strip g s)) (chars (strips_bytes strips)) (resting (with_strips (with_strip g s) strips)) = strips_lead strips (with_strip g s) (strip_is_grid g s h fits.0) pen (still_fit g s strips fits.1) in (
      IsUtf8-append first (strips_bytes strips) one.0 rest.0,
      subst (λ (cs : List ℕ). Leads (resting g) cs (resting (with_strips (with_strip g s) strips))) (sym (chars-append first (strips_bytes strips) one.0))
          (then_leads (resting g) (resting (with_strip g s)) (resting (with_strips (with_strip g s) strips)) (chars first) (chars (strips_bytes strips)) one.1 rest.1),
    )

-- a position after one strip
covered : (g : Grid) (s : Strip) (x y : ℕ) → IsGrid g → FitsScreen g s → y ≡ s.y → s.x ≤ x → x < s.x + length s.cells → cell_at (with_strip g s) x y ≡ get_or s.cells (x - s.x) blank
covered g s x y h fits row low high =
    let column : s.x + (x - s.x) ≡ x = omega arith in
    ap (λ i. cell_at (with_strip g s) i y) (sym column) ∙ ap (cell_at (with_strip g s) (s.x + (x - s.x))) row
    ∙ row_inside g s.x s.y s.cells (x - s.x) h fits.row fits.columns (omega arith)

after_strip : (g : Grid) (s : Strip) (x y : ℕ) → IsGrid g → FitsScreen g s → x < g.width → cell_at (with_strip g s) x y ≡ cond (covers s x y) (get_or s.cells (x - s.x) blank) (cell_at g x y)
after_strip g s x y h fits in_width =
    ⊎_elim
    (λ (row : y ≡ s.y). ⊎_elim
    (λ (before : x < s.x). missed (grind (arith, nat_tests)) (inr (inl before)))
    (λ (low : s.x ≤ x). ⊎_elim
    (λ (high : x < s.x + length s.cells).
    let test : covers s x y ≡ true = grind (arith, nat_tests) in
    covered g s x y h fits row low high ∙ sym (ap (λ b. cond b (get_or s.cells (x - s.x) blank) (cell_at g x y)) test))
    (λ (past : s.x + length s.cells ≤ x). missed (grind (arith, nat_tests)) (inr (inr past)))
    (cases_lt x (s.x + length s.cells)))
    (cases_lt x s.x))
    (λ (other : y ≢ s.y). missed (grind (arith, nat_tests)) (inl other))
    (cases_eq y s.y)
  where
    missed : covers s x y ≡ false → (y ≢ s.y) ⊎ (x < s.x) ⊎ (s.x + length s.cells ≤ x) → cell_at (with_strip g s) x y ≡ cond (covers s x y) (get_or s.cells (x - s.x) blank) (cell_at g x y)
    missed test out = row_outside g s.x s.y s.cells x y fits.columns in_width out ∙ sym (ap (λ b. cond b (get_or s.cells (x - s.x) blank) (cell_at g x y)) test)

after_strips : (strips : List Strip) (g : Grid) (x y : ℕ) → IsGrid g → AllByRecursion (FitsScreen g) strips → x < g.width → cell_at (with_strips g strips) x y ≡ cell_under strips x y (cell_at g x y)
unfolding painted
after_strips [] g x y h fits in_width = refl
after_strips (s ∷ strips) g x y h fits in_width =
    after_strips strips (with_strip g s) x y (strip_is_grid g s h fits.0) (still_fit g s strips fits.1) in_width
    ∙ ap (cell_under strips x y) (after_strip g s x y h fits.0 in_width)

strips_keep : (strips : List Strip) (g : Grid) → IsGrid g → AllByRecursion (FitsScreen g) strips → IsGrid (with_strips g strips) × ((with_strips g strips).pen ≡ g.pen) × ((with_strips g strips).width ≡ g.width) × ((with_strips g strips).height ≡ g.height)
unfolding painted
strips_keep [] g h fits = (h, refl, refl, refl)
strips_keep (s ∷ strips) g h fits = strips_keep strips (with_strip g s) (strip_is_grid g s h fits.0) (still_fit g s strips fits.1)

-- they are shown
pub strips_drawn : (strips : List Strip) (g : Grid) → IsGrid g → g.pen ≡ plain_pen → AllByRecursion (FitsScreen g) strips → (new : Grid) × (after_bytes g (strips_bytes strips) ≡ Some new) × IsGrid new × (new.pen ≡ plain_pen) × ShowsStrips strips g new
strips_drawn strips g h pen fits =
    let new : Grid = with_strips g strips in
    let read : IsUtf8 (strips_bytes strips) × Leads (resting g) (chars (strips_bytes strips)) (resting new) = strips_lead strips g h pen fits in
    let kept : IsGrid new × (new.pen ≡ g.pen) × (new.width ≡ g.width) × (new.height ≡ g.height) = strips_keep strips g h fits in (
      new,
      read_leads g new (strips_bytes strips) read.0 read.1,
      kept.0,
      kept.1 ∙ pen,
      record { width = kept.2; height = kept.3; cells = λ x y in_width. after_strips strips g x y h fits in_width },
    )
