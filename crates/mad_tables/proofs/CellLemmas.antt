-- Cells as full rows.
use Rattle.std.proofs.Common.{◌≡◌, ◌≢◌, ℕ, suc, ◌+◌, ◌*◌, ◌%◌, List, [], ◌∷◌, ◌++◌, length, length-append, drop, refl, ap, sym, ◌∙◌, inr, arith}
use Rattle.std.specs.List.{AllByRecursion, flat_map}
use Rattle.std.proofs.Math.Nat.{mul-mod_left, suc-mul}
use Rattle.std.proofs.lemmas.List.{append-nil}
use Rattle.std.proofs.lemmas.Nat.{mod-mul-add}
use Rattle.mad_tables.specs.Cells.{AreRows, IsCut, cells_cut}
use Rattle.mad_tables.specs.DataTables.{AreCells, AreNoCells}

-- full rows have a multiple of their columns of cells
cells_in : {T : Type 0} (columns : ℕ) (rows : List (List T)) → AllByRecursion (λ row. length row ≡ columns) rows → length (flat_map (λ row. row) rows) ≡ length rows * columns
cells_in columns [] h = let none : 0 ≡ 0 * columns = omega arith in none
cells_in columns (row ∷ rows) h =
    let here : length row + length (flat_map (λ r. r) rows) ≡ columns + length rows * columns = ap (λ n. n + length (flat_map (λ r. r) rows)) h.0 ∙ ap (λ n. columns + n) (cells_in columns rows h.1) in
    let more : columns + length rows * columns ≡ suc (length rows) * columns = omega (arith, suc-mul (length rows) columns) in
    length-append row (flat_map (λ r. r) rows) ∙ here ∙ more

count_cut : (text lengths : List ℕ) → length (cells_cut text lengths) ≡ length lengths
count_cut text [] = refl
count_cut text (n ∷ ns) = ap suc (count_cut (drop n text) ns)

none_over : {T : Type 0} (over : List T) → length over ≡ 0 → over ≡ []
none_over [] p = refl
none_over (x ∷ xs) p = absurd (omega (arith, p))

-- there are none, where the cells fill no whole rows
pub no_cells : (text lengths : List ℕ) (columns : ℕ) → length lengths % columns ≢ 0 → AreNoCells text lengths columns
no_cells text lengths columns uneven = inr (λ rows cells.
    let count : length rows * columns ≡ length lengths = sym (cells_in columns rows cells.even) ∙ ap length cells.all ∙ count_cut text lengths in
    uneven (ap (λ n. n % columns) (sym count) ∙ mul-mod_left (length rows) columns))

-- there are none, where the text can't be cut so
pub none_cut : (text lengths : List ℕ) (columns : ℕ) → ¬ (IsCut text lengths) → AreNoCells text lengths columns
none_cut text lengths columns uncut = inr (λ rows cells. uncut cells.cut)

-- the rows of cells that fill whole rows
pub full_rows : (text lengths : List ℕ) (columns : ℕ) (cells : List (List ℕ)) (rows : List (List (List ℕ))) → length lengths % columns ≡ 0 → IsCut text lengths → cells ≡ cells_cut text lengths → AreRows columns cells rows
    → AreCells text lengths columns rows
full_rows text lengths columns cells rows even cut are made =
    let count : length cells ≡ length rows * columns + length made.over =
    ap length made.all ∙ length-append (flat_map (λ row. row) rows) made.over ∙ ap (λ n. n + length made.over) (cells_in columns rows made.even) in
    let whole : length made.over ≡ 0 =
    sym (mod-mul-add (length rows) columns (length made.over) made.too_few) ∙ ap (λ n. n % columns) (sym count ∙ ap length are ∙ count_cut text lengths) ∙ even in
    let none : made.over ≡ [] = none_over made.over whole in
    record {
      cut = cut;
      even = made.even;
      all = sym (append-nil (flat_map (λ row. row) rows)) ∙ ap (λ o. flat_map (λ row. row) rows ++ o) (sym none) ∙ sym made.all ∙ are;
    }
