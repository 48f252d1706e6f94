-- What an area shows of the rows that were drawn in it.
use Rattle.std.proofs.Common.{◌≡◌, ℕ, zero, suc, ◌+◌, ◌^◌, ◌<◌, ◌≤◌, List, [], map, length, get_or, refl, ap, sym, ◌∙◌, subst, arith}
use Rattle.std.specs.List.{AllByRecursion}
use Rattle.std.proofs.lemmas.List.{length-map}
use Rattle.std.proofs.Math.ListN.{get_or-map}
use Rattle.mad_screen.specs.Drawing.{PaintRows, AreWide, ShowsRows, FitsArea, IsOutside}
use Rattle.mad_screen.specs.Glyph.{Glyph}
use Rattle.mad_screen.specs.Grid.{blank}
use Rattle.mad_screen.proofs.DrawingLemmas.{drawn}
use Rattle.mad_measure.specs.declared.area.Area.{Area}
use Rattle.mad_draw.specs.DrawnRows.{rows_from, rows_bytes, FillArea, AreRowsShown}
use Rattle.mad_draw.specs.Pieces.{RowPiece, AreKnown, FillsRow, pieces_bytes, penned_chars}
use Rattle.mad_draw.specs.PennedCells.{penned_cells}
use Rattle.mad_draw.proofs.CellLemmas.{cells_of_pieces}
use Rattle.mad_draw.proofs.PieceLemmas.{pieces_cells, pieces_paint, length-pieces_cells}

-- each row from number y on does so
abbrev FillFrom : (ℕ → List RowPiece) → ℕ → ℕ → ℕ → Type 0
FillFrom row width y count = (k : ℕ) → y ≤ k → k < y + count → FillsRow width (row k)

fill_next : (row : ℕ → List RowPiece) (width y count : ℕ) → FillFrom row width y (suc count) → FillFrom row width (suc y) count
fill_next row width y count fill k low high = fill k (omega (arith, low)) (omega (arith, high))

row_at : (row : ℕ → List RowPiece) (y count j : ℕ) → j < count → get_or (rows_from row y count) j [] ≡ row (y + j)
row_at row y zero j inside = absurd (omega arith)
row_at row y (suc count) zero inside = let e : y ≡ y + 0 = omega arith in ap row e
row_at row y (suc count) (suc j) inside = let e : suc y + j ≡ y + suc j = omega arith in row_at row (suc y) count j (omega arith) ∙ ap row e

length-rows_from : (row : ℕ → List RowPiece) (y count : ℕ) → length (rows_from row y count) ≡ count
length-rows_from row y zero = refl
length-rows_from row y (suc count) = ap suc (length-rows_from row (suc y) count)

rows_wide : (row : ℕ → List RowPiece) (width y count : ℕ) → FillFrom row width y count → AreWide width (map pieces_cells (rows_from row y count))
rows_wide row width y zero fill = tt
rows_wide row width y (suc count) fill =
    (length-pieces_cells (row y) ∙ (fill y (omega arith) (omega arith)).columns, rows_wide row width (suc y) count (fill_next row width y count fill))

rows_paint : (row : ℕ → List RowPiece) (width y count : ℕ) → FillFrom row width y count → AllByRecursion AreKnown (rows_from row y count)
    → PaintRows (map pieces_bytes (rows_from row y count)) (map pieces_cells (rows_from row y count))
rows_paint row width y zero fill known = tt
rows_paint row width y (suc count) fill known =
    (pieces_paint (row y) known.0 (fill y (omega arith) (omega arith)).shown, rows_paint row width (suc y) count (fill_next row width y count fill) known.1)

-- rows that fill an area are shown there, and nowhere else
pub area_shown : (row : ℕ → List RowPiece) (area : Area) → area.left < 2 ^ 16 → area.top + area.height < 2 ^ 16 → AllByRecursion AreKnown (rows_from row 0 area.height)
    → FillArea row area → AreRowsShown row area (rows_bytes row area)
area_shown row area small_x small_y known fill g on_screen =
    let rows : List (List RowPiece) = rows_from row 0 area.height in
    let from : FillFrom row area.width 0 area.height = λ k low high. fill k (omega (arith, high)) in
    let count : length (map pieces_cells rows) ≡ area.height = length-map rows pieces_cells ∙ length-rows_from row 0 area.height in
    let fits : FitsArea area.left area.top area.width (map pieces_cells rows) g = record {
      grid = on_screen.grid;
      pen = on_screen.pen;
      some = on_screen.some;
      columns = on_screen.columns;
      lines = omega (arith, count, on_screen.rows);
      wide = rows_wide row area.width 0 area.height from;
    } in
    let done = drawn area.left area.top (map pieces_bytes rows) (map pieces_cells rows) small_x (omega (arith, count, small_y)) (rows_paint row area.width 0 area.height from known) g area.width fits in
    let shows : ShowsRows area.left area.top area.width (length (map pieces_cells rows)) (λ j. get_or (map pieces_cells rows) j []) g done.0 = done.4 in (
      done.0,
      done.1,
      done.2,
      done.3,
      record {
        width = shows.width;
        height = shows.height;
        inside = λ i j in_width in_height.
            let e : 0 + j ≡ j = omega arith in
            let cells : get_or (map pieces_cells rows) j [] ≡ penned_cells (penned_chars (row j)) =
            get_or-map pieces_cells rows j []
            ∙ ap pieces_cells (row_at row 0 area.height j in_height ∙ ap row e)
            ∙ sym (cells_of_pieces (row j) (fill j in_height).shown) in
            shows.inside i j in_width (omega (arith, count, in_height)) ∙ ap (λ (gs : List Glyph). get_or gs i blank) cells;
        outside = λ x y in_width out. shows.outside x y in_width (subst (λ (h : ℕ). IsOutside area.left area.top area.width h x y) (sym count) out);
      },
    )
