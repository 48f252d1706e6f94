-- What a screen shows of pieces at positions.
use Rattle.std.proofs.Common.{◌≡◌, ⊎_elim, ℕ, ◌+◌, ◌-◌, ◌<◌, ◌≤◌, false, cond, List, [], ◌∷◌, ◌++◌, map, length, get_or, refl, ap, sym, ◌∙◌, arith}
use Rattle.std.specs.List.{AllByRecursion}
use Rattle.std.proofs.lemmas.Bool.Decides.{nat_tests}
use Rattle.mad_screen.specs.Drawing.{Strip, strips_bytes, FitsScreen, covers, cell_under, ShowsStrips, IsOutside}
use Rattle.mad_screen.specs.Glyph.{Glyph}
use Rattle.mad_screen.specs.Grid.{Grid, cell_at, blank}
use Rattle.mad_screen.specs.Terminal.{after_bytes}
use Rattle.mad_screen.proofs.Strips.{strips_drawn}
use Rattle.mad_measure.specs.Areas.{IsWithinLimits}
use Rattle.mad_measure.specs.declared.area.Area.{Area}
use Rattle.mad_draw.specs.DrawnRows.{IsOnScreen}
use Rattle.mad_draw.specs.Pieces.{AreKnown, pieces_columns}
use Rattle.mad_draw.specs.PlacedPieces.{Placed, placed_bytes, one_placed_bytes, IsPlacedIn, placed_strip, ArePlacedShown}
use Rattle.mad_draw.proofs.CellLemmas.{cells_of_pieces}
use Rattle.mad_draw.proofs.PieceLemmas.{pieces_paint, length-pieces_cells}

-- as many cells as columns
cells_counted : (area : Area) (p : Placed) → IsPlacedIn area p → length (placed_strip p).cells ≡ pieces_columns p.pieces
cells_counted area p h = ap length (cells_of_pieces p.pieces h.shown) ∙ length-pieces_cells p.pieces

one_fits : (area : Area) (p : Placed) (g : Grid) → IsWithinLimits area → IsOnScreen area g → AreKnown p.pieces → IsPlacedIn area p → FitsScreen g (placed_strip p)
one_fits area p g limits on_screen known h =
    let count : length (placed_strip p).cells ≡ pieces_columns p.pieces = cells_counted area p h in
    record {
      paints = rw (cells_of_pieces p.pieces h.shown) (pieces_paint p.pieces known h.shown);
      some = omega (arith, count, h.some);
      columns = omega (arith, count, h.to_right, on_screen.columns);
      row = omega (arith, h.to_bottom, on_screen.rows);
      small_column = omega (arith, h.some, h.to_right, limits.columns);
      small_row = omega (arith, h.to_bottom, limits.rows);
    }

all_fit : (area : Area) (ps : List Placed) (g : Grid) → IsWithinLimits area → IsOnScreen area g → AllByRecursion (λ p. AreKnown p.pieces) ps → AllByRecursion (IsPlacedIn area) ps → AllByRecursion (FitsScreen g) (map placed_strip ps)
all_fit area [] g limits on_screen known h = tt
all_fit area (p ∷ ps) g limits on_screen known h = (one_fits area p g limits on_screen known.0 h.0, all_fit area ps g limits on_screen known.1 h.1)

same_bytes : (ps : List Placed) → strips_bytes (map placed_strip ps) ≡ placed_bytes ps
same_bytes [] = refl
same_bytes (p ∷ ps) = ap (λ bytes. one_placed_bytes p ++ bytes) (same_bytes ps)

-- one that doesn't cover a position
pub not_under : (s : Strip) (x y : ℕ) (before : Glyph) → covers s x y ≡ false → cond (covers s x y) (get_or s.cells (x - s.x) blank) before ≡ before
not_under s x y before e = ap (λ b. cond b (get_or s.cells (x - s.x) blank) before) e

none_outside : (area : Area) (ps : List Placed) (x y : ℕ) (before : Glyph) → AllByRecursion (IsPlacedIn area) ps → IsOutside area.left area.top area.width area.height x y → cell_under (map placed_strip ps) x y before ≡ before
none_outside area [] x y before h out = refl
none_outside area (p ∷ ps) x y before h out =
    let count : length (placed_strip p).cells ≡ pieces_columns p.pieces = cells_counted area p h.0 in
    let uncovered : covers (placed_strip p) x y ≡ false = ⊎_elim (λ (a : x < area.left). grind (arith, nat_tests, count, h.0.from_left)) (λ rest. ⊎_elim (λ (a : area.left + area.width ≤ x). grind (arith, nat_tests, count, h.0.to_right)) (λ rows. ⊎_elim (λ (a : y < area.top). grind (arith, nat_tests, h.0.from_top)) (λ (a : area.top + area.height ≤ y). grind (arith, nat_tests, h.0.to_bottom)) rows) rest) out in
    ap (cell_under (map placed_strip ps) x y) (not_under (placed_strip p) x y before uncovered)
    ∙ none_outside area ps x y before h.1 out

-- pieces that are placed in an area show there, and nowhere else
pub placed_shown : (area : Area) (ps : List Placed) → IsWithinLimits area → AllByRecursion (λ p. AreKnown p.pieces) ps → AllByRecursion (IsPlacedIn area) ps → ArePlacedShown area ps (placed_bytes ps)
placed_shown area ps limits known h g on_screen =
    let done = strips_drawn (map placed_strip ps) g on_screen.grid on_screen.pen (all_fit area ps g limits on_screen known h) in
    let shows : ShowsStrips (map placed_strip ps) g done.0 = done.4 in (
      done.0,
      ap (after_bytes g) (sym (same_bytes ps)) ∙ done.1,
      done.2,
      done.3,
      record {
        width = shows.width;
        height = shows.height;
        cells = shows.cells;
        outside = λ x y in_width out. shows.cells x y in_width ∙ none_outside area ps x y (cell_at g x y) h out;
      },
    )
