-- A row whose cells all fit is laid out as itself, with its cells at their places.
use Rattle.std.proofs.Common.{◌≡◌, ℕ, suc, ◌<◌, ◌≤◌, List, [], ◌∷◌, map, length, get_or, inl, refl, arith}
use Rattle.mad_measure.specs.declared.spacing.Spacing.{Spacing}
use Rattle.mad_format.specs.LineRules.{LineRules}
use Rattle.mad_format.specs.WrappedLines.{Wrap}
use Rattle.mad_format.specs.declared.composite.FmtComposite.{FmtComposite}
use Rattle.mad_format.specs.declared.table.FmtTableRow.{FmtTableRow}
use Rattle.mad_blocks.specs.Tables.{in_column, tallest, AreCellsLaidOut, IsLineAcross, IsRowLaidOutBy}
use Rattle.mad_blocks.specs.FittingRows.{AllFit, ArePlaced}

abbrev alone : List FmtComposite → List (List FmtComposite)
alone cells = map (λ x. x ∷ []) cells

across : (columns : List Spacing) (cells placed : List FmtComposite) → length cells ≡ length columns → length placed ≡ length columns
    → ((k : ℕ) (c : Spacing) (x : FmtComposite) → k < length columns → get_or placed k x ≡ in_column (get_or columns k c) (get_or cells k x)) → IsLineAcross columns (alone cells) placed
across [] [] [] a b h = tt
across [] [] (y ∷ ys) a b h = absurd (omega (arith, b))
across [] (x ∷ xs) ys a b h = absurd (omega (arith, a))
across (c ∷ cs) [] ys a b h = absurd (omega (arith, a))
across (c ∷ cs) (x ∷ xs) [] a b h = absurd (omega (arith, b))
across (c ∷ cs) (x ∷ xs) (y ∷ ys) a b h = (h 0 c x (omega arith), across cs xs ys (omega (arith, a)) (omega (arith, b)) (λ k e d l. h (suc k) e d (omega (arith, l))))

laid_out : (wraps : Wrap) (skin : LineRules) (columns : List Spacing) (cells : List FmtComposite) → length cells ≡ length columns
    → ((k : ℕ) (c : Spacing) (x : FmtComposite) → k < length columns → (get_or cells k x).visible_length ≤ (get_or columns k c).width) → AreCellsLaidOut wraps skin columns cells (alone cells)
laid_out wraps skin [] [] a h = tt
laid_out wraps skin [] (x ∷ xs) a h = absurd (omega (arith, a))
laid_out wraps skin (c ∷ cs) [] a h = absurd (omega (arith, a))
laid_out wraps skin (c ∷ cs) (x ∷ xs) a h = (inl (h 0 c x (omega arith), refl), laid_out wraps skin cs xs (omega (arith, a)) (λ k e d l. h (suc k) e d (omega (arith, l))))

at_most_one : (cells : List FmtComposite) → tallest (alone cells) ≤ 1
at_most_one [] = omega arith
at_most_one (x ∷ xs) = omega (arith, at_most_one xs)

-- a row whose cells all fit is laid out as one row, with each cell in its place
pub row_stays : (wraps : Wrap) (skin : LineRules) (columns : List Spacing) (cells : List FmtComposite) (row : FmtTableRow) → AllFit columns cells → ArePlaced columns cells row.cells.items → IsRowLaidOutBy wraps skin columns cells (row ∷ [])
row_stays wraps skin columns cells row fit placed = record {
  lines = alone cells;
  laid_out = laid_out wraps skin columns cells fit.count fit.fit;
  count = omega (arith, at_most_one cells);
  rows_are = (across columns cells row.cells.items fit.count (omega (arith, placed.count, fit.count)) placed.are, tt);
}
