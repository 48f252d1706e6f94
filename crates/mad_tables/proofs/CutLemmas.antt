-- Cutting a text into cells, one after another, and cells into rows.
use Rattle.std.proofs.Common.{◌≡◌, ℕ, suc, ◌+◌, ◌<◌, List, [], ◌∷◌, ◌++◌, drop, take, length, get_or, IsCharBoundary, refl, ap, sym, ◌∙◌, subst, append_assoc, arith}
use Rattle.std.specs.List.{AllByRecursion, flat_map}
use Rattle.std.proofs.Math.Seq.{drop-cons}
use Rattle.std.proofs.lemmas.List.{append-nil}
use Rattle.mad_tables.specs.Cells.{IsCut, cells_cut, AreRows}

-- Cells that were cut off a text, and what is left of it: with the cells of the rest they are all, and the rest can be cut exactly where the text can.
pub record IsCutOff (text lengths : List ℕ) (cells : List (List ℕ)) (rest more : List ℕ) : Type 0 where
  pub cells_are : cells ++ cells_cut rest more ≡ cells_cut text lengths
  pub back : IsCut rest more → IsCut text lengths
  pub on : IsCut text lengths → IsCut rest more

pub nothing_cut : (text lengths : List ℕ) → IsCutOff text lengths [] text lengths
nothing_cut text lengths = record { cells_are = refl; back = λ h. h; on = λ h. h }

-- the next length
pub next_length : (lengths : List ℕ) (i : ℕ) → i < length lengths → drop i lengths ≡ get_or lengths i 0 ∷ drop (i + 1) lengths
next_length lengths i h =
    let same : suc i ≡ i + 1 = omega arith in
    drop-cons lengths i 0 h ∙ ap (λ (k : ℕ). get_or lengths i 0 ∷ drop k lengths) same

pub cut_on : (text lengths : List ℕ) (cells : List (List ℕ)) (rest more later : List ℕ) (n : ℕ) (cell after : List ℕ) → more ≡ n ∷ later → IsCutOff text lengths cells rest more
    → IsCharBoundary rest n → cell ≡ take n rest → after ≡ drop n rest → IsCutOff text lengths (cells ++ cell ∷ []) after later
cut_on text lengths cells rest more later n cell after next held edge p q =
    let h = subst (λ (ms : List ℕ). IsCutOff text lengths cells rest ms) next held in
    let whole : IsCutOff text lengths (cells ++ take n rest ∷ []) (drop n rest) later = record {
      cells_are = append_assoc cells (take n rest ∷ []) (cells_cut (drop n rest) later) ∙ h.cells_are;
      back = λ cut. h.back (edge, cut);
      on = λ cut. (h.on cut).1;
    } in
    subst (λ (a : List ℕ). IsCutOff text lengths (cells ++ cell ∷ []) a later) (sym q) (subst (λ (x : List ℕ). IsCutOff text lengths (cells ++ x ∷ []) (drop n rest) later) (sym p) whole)

-- the text can't be cut so where the next cell would end inside a character
pub cant_cut : (text lengths : List ℕ) (cells : List (List ℕ)) (rest more later : List ℕ) (n : ℕ) → more ≡ n ∷ later → IsCutOff text lengths cells rest more → ¬ (IsCharBoundary rest n) → ¬ (IsCut text lengths)
cant_cut text lengths cells rest more later n next held edge cut = edge (subst (IsCut rest) next (held.on cut)).0

-- all cells are cut, and nothing is left
pub all_cut : (text lengths : List ℕ) (cells : List (List ℕ)) (rest more : List ℕ) → more ≡ [] → IsCutOff text lengths cells rest more → rest ≡ [] → IsCut text lengths × (cells ≡ cells_cut text lengths)
all_cut text lengths cells rest more next held p =
    let h = subst (λ (ms : List ℕ). IsCutOff text lengths cells rest ms) next held in
    (h.back p, sym (append-nil cells) ∙ h.cells_are)

-- all cells are cut, and something is left
pub too_long : (text lengths : List ℕ) (cells : List (List ℕ)) (rest more : List ℕ) → more ≡ [] → IsCutOff text lengths cells rest more → (rest ≡ [] → ⊥) → ¬ (IsCut text lengths)
too_long text lengths cells rest more next held p cut = p (subst (IsCut rest) next (held.on cut))

-- Rows that were cut off cells, each of so many: with the cells that are left they are all.
pub record AreCutOff {T : Type 0} (columns : ℕ) (cells : List T) (rows : List (List T)) (rest : List T) : Type 0 where
  pub even : AllByRecursion (λ row. length row ≡ columns) rows
  pub all : cells ≡ flat_map (λ row. row) rows ++ rest

pub no_row_cut : {T : Type 0} (columns : ℕ) (cells rest : List T) → rest ≡ cells → AreCutOff columns cells [] rest
no_row_cut columns cells rest p = record { even = tt; all = sym p }

even_more : {T : Type 0} (columns : ℕ) (rows : List (List T)) (row : List T) → AllByRecursion (λ r. length r ≡ columns) rows → length row ≡ columns → AllByRecursion (λ r. length r ≡ columns) (rows ++ row ∷ [])
even_more columns [] row h p = (p, tt)
even_more columns (r ∷ rows) row h p = (h.0, even_more columns rows row h.1 p)

rows_more : {T : Type 0} (rows : List (List T)) (row : List T) → flat_map (λ r. r) (rows ++ row ∷ []) ≡ flat_map (λ r. r) rows ++ row
rows_more [] row = append-nil row
rows_more (r ∷ rows) row = ap (λ x. r ++ x) (rows_more rows row) ∙ sym (append_assoc r (flat_map (λ x. x) rows) row)

pub row_on : {T : Type 0} (columns : ℕ) (cells : List T) (rows : List (List T)) (row rest after : List T) → AreCutOff columns cells rows rest → rest ≡ row ++ after → length row ≡ columns
    → AreCutOff columns cells (rows ++ row ∷ []) after
row_on columns cells rows row rest after held p q = record {
  even = even_more columns rows row held.even q;
  all = held.all ∙ ap (λ x. flat_map (λ r. r) rows ++ x) p ∙ sym (append_assoc (flat_map (λ r. r) rows) row after) ∙ ap (λ x. x ++ after) (sym (rows_more rows row));
}

pub rows_cut : {T : Type 0} (columns : ℕ) (cells : List T) (rows : List (List T)) (rest : List T) → AreCutOff columns cells rows rest → length rest < columns → AreRows columns cells rows
rows_cut columns cells rows rest held few = record { even = held.even; over = rest; too_few = few; all = held.all }
