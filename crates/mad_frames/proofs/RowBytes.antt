-- What the changes of a row, and of all rows, may take.
use Rattle.std.proofs.Common.{◌≡◌, ℕ, zero, suc, ◌+◌, ◌*◌, ◌-◌, ◌<◌, ◌≤◌, List, [], ◌∷◌, ◌++◌, length, get_or, take, drop, refl, ap, sym, ◌∙◌, subst, arith, length-append, length-drop}
use Rattle.std.proofs.lemmas.List.{get_or-take, get_or-drop, length-take-le}
use Rattle.mad_screen.specs.Glyph.{Glyph, Look}
use Rattle.mad_screen.specs.Grid.{Grid, blank, plain_pen}
use Rattle.mad_screen.specs.Pictures.{cell_text}
use Rattle.mad_frames.specs.Bound.{longest_move, change_bytes, cell_bytes, most_bytes}
use Rattle.mad_frames.specs.RunBytes.{most_to, pen_bytes, pen_before, pieces_to, IsPaid}
use Rattle.mad_frames.specs.Changes.{RowsOf}
use Rattle.mad_frames.proofs.BoundLemmas.{pen_most, most_up}
use Rattle.mad_frames.proofs.HalfwayLemmas.{row_cell, row_columns, old_columns, next_row}

-- ---- a run

slice_at : (gs : List Glyph) (s n i : ℕ) → i < n → get_or (take n (drop s gs)) i blank ≡ get_or gs (s + i) blank
slice_at gs s n i below = get_or-take n (drop s gs) i blank below ∙ get_or-drop s gs i blank

-- cells written as pieces of their own take the pen of the first one besides
slice_most : (gs : List Glyph) (s n k : ℕ) → k < n → pieces_to (take n (drop s gs)) (suc k) + pieces_to gs (s + 1) ≤ pieces_to gs (s + suc k) + 167 + length (cell_text (get_or gs s blank))
slice_most gs s n zero below =
    let cells = take n (drop s gs) in
    let none : s + 0 ≡ s = omega arith in
    let cell : get_or cells 0 blank ≡ get_or gs s blank = slice_at gs s n 0 below ∙ ap (λ i. get_or gs i blank) none in
    sums (pen_bytes plain_pen (get_or cells 0 blank).pen) (length (cell_text (get_or cells 0 blank))) (length (cell_text (get_or gs s blank))) (pieces_to gs (s + 1))
    (pen_most plain_pen (get_or cells 0 blank).pen) (ap (λ (g : Glyph). length (cell_text g)) cell)
  where
    sums : (a b c d : ℕ) → a ≤ 167 → b ≡ c → zero + (a + b) + d ≤ d + 167 + c
    sums a b c d h e = omega arith
slice_most gs s n (suc k) below =
    let cells = take n (drop s gs) in
    let i = s + suc k in
    let place : s + suc (suc k) ≡ suc i = omega arith in
    let last : i ≡ suc (s + k) = omega arith in
    let cell : get_or cells (suc k) blank ≡ get_or gs i blank = slice_at gs s n (suc k) below in
    let before : (get_or cells k blank).pen ≡ pen_before gs i = ap (λ (g : Glyph). g.pen) (slice_at gs s n k (omega arith)) ∙ sym (ap (pen_before gs) last) in
    let pen : pen_bytes (get_or cells k blank).pen (get_or cells (suc k) blank).pen ≡ pen_bytes (pen_before gs i) (get_or gs i blank).pen =
    ap (λ (p : Look). pen_bytes p (get_or cells (suc k) blank).pen) before ∙ ap (λ (g : Glyph). pen_bytes (pen_before gs i) g.pen) cell in
    subst (λ (m : ℕ). pieces_to cells (suc (suc k)) + pieces_to gs (s + 1) ≤ pieces_to gs m + 167 + length (cell_text (get_or gs s blank))) (sym place)
    (sums (pieces_to cells (suc k)) (pen_bytes (get_or cells k blank).pen (get_or cells (suc k) blank).pen) (length (cell_text (get_or cells (suc k) blank))) (pieces_to gs (s + 1)) (pieces_to gs i)
    (pen_bytes (pen_before gs i) (get_or gs i blank).pen) (length (cell_text (get_or gs i blank))) (length (cell_text (get_or gs s blank)))
    (slice_most gs s n k (omega arith)) pen (ap (λ (g : Glyph). length (cell_text g)) cell))
  where
    sums : (a b c d e f g h : ℕ) → a + d ≤ e + 167 + h → b ≡ f → c ≡ g → a + (b + c) + d ≤ e + (f + g) + 167 + h
    sums a b c d e f g h p q r = omega arith

-- a run after unchanged cells
pub run_bound : (os ns : List Glyph) (x s e before : ℕ) (out moved all move : List ℕ) → s < e → e ≤ length ns → x ≤ s → IsPaid os ns s e → moved ≡ out ++ move → length move ≤ longest_move → length all ≤ length moved + pieces_to (take (e - s) (drop s ns)) (length (take (e - s) (drop s ns))) → length out ≤ before + most_to os ns x → length all ≤ before + most_to os ns e
run_bound os ns x s e before out moved all move some within after paid is short cells bound =
    let n = e - s in
    let count : length (take n (drop s ns)) ≡ n = length-take-le n (drop s ns) (omega (arith, length-drop s ns)) in
    let last : n ≡ suc (n - 1) = omega arith in
    let place : s + suc (n - 1) ≡ e = omega arith in
    sums (length out) (length move) (length moved) (length all) (pieces_to (take n (drop s ns)) (length (take n (drop s ns)))) (pieces_to (take n (drop s ns)) (suc (n - 1)))
    (pieces_to ns (s + 1)) (pieces_to ns (s + suc (n - 1))) (pieces_to ns e) (length (cell_text (get_or ns s blank))) (most_to os ns x) (most_to os ns s) (most_to os ns e)
    (ap length is ∙ length-append out move) short cells (ap (pieces_to (take n (drop s ns))) (count ∙ last)) (slice_most ns s n (n - 1) (omega arith)) (ap (pieces_to ns) place) paid (most_up os ns x s after) bound
  where
    sums : (a b c d f g h i j k l m o : ℕ) → c ≡ a + b → b ≤ longest_move → d ≤ c + f → f ≡ g → g + h ≤ i + 167 + k → i ≡ j → change_bytes + k + j + m ≤ h + o → l ≤ m → a ≤ before + l → d ≤ before + o
    sums a b c d f g h i j k l m o p q r t u v w y z = omega arith

-- up to a column where nothing has changed
pub same_bound : (os ns : List Glyph) (x s before : ℕ) (out : List ℕ) → x ≤ s → length out ≤ before + most_to os ns x → length out ≤ before + most_to os ns s
same_bound os ns x s before out after bound = omega (arith, most_up os ns x s after)

-- ---- the rows of a screen

row_of_screen : (old new : Grid) (y x : ℕ) (a b : List Glyph) → RowsOf old new y a b → x ≤ new.width → most_to old.cells new.cells (y * new.width + x) ≡ most_to old.cells new.cells (y * new.width) + most_to a b x
row_of_screen old new y zero a b r within =
    let none : y * new.width + zero ≡ y * new.width = omega arith in
    ap (most_to old.cells new.cells) none ∙ plus_none (most_to old.cells new.cells (y * new.width))
  where
    plus_none : (n : ℕ) → n ≡ n + zero
    plus_none n = omega arith
row_of_screen old new y (suc x) a b r within =
    let i = y * new.width + x in
    let place : y * new.width + suc x ≡ suc i = omega arith in
    let width : old.width ≡ new.width = r.size.width in
    let cell_old : get_or a x blank ≡ get_or old.cells i blank = ap (λ (l : List Glyph). get_or l x blank) r.old_row ∙ row_cell old y x (omega (arith, width)) ∙ ap (λ w. get_or old.cells (y * w + x) blank) width in
    let cell_new : get_or b x blank ≡ get_or new.cells i blank = ap (λ (l : List Glyph). get_or l x blank) r.new_row ∙ row_cell new y x (omega arith) in
    ap (most_to old.cells new.cells) place
    ∙ ap (λ (g : Glyph). most_to old.cells new.cells i + cell_bytes g (get_or new.cells i blank)) (sym cell_old)
    ∙ ap (λ (g : Glyph). most_to old.cells new.cells i + cell_bytes (get_or a x blank) g) (sym cell_new)
    ∙ sums (most_to old.cells new.cells i) (most_to old.cells new.cells (y * new.width)) (most_to a b x) (cell_bytes (get_or a x blank) (get_or b x blank)) (row_of_screen old new y x a b r (omega arith))
  where
    sums : (m n k c : ℕ) → m ≡ n + k → m + c ≡ n + (k + c)
    sums m n k c e = omega arith

-- ---- all cells

first_most : (o n : Glyph) (os ns : List Glyph) (k : ℕ) → most_to (o ∷ os) (n ∷ ns) (suc k) ≡ cell_bytes o n + most_to os ns k
first_most o n os ns zero = plus_none (cell_bytes o n)
  where
    plus_none : (m : ℕ) → zero + m ≡ m + zero
    plus_none m = omega arith
first_most o n os ns (suc k) = sums (most_to (o ∷ os) (n ∷ ns) (suc k)) (cell_bytes o n) (most_to os ns k) _ (first_most o n os ns k)
  where
    sums : (m c t d : ℕ) → m ≡ c + t → m + d ≡ c + (t + d)
    sums m c t d e = omega arith

-- at a row's end the bound counts all of its cells
pub all_most : (os ns : List Glyph) → length os ≡ length ns → most_to os ns (length ns) ≡ most_bytes os ns
all_most [] [] same = refl
all_most [] (n ∷ ns) same = absurd (omega arith)
all_most (o ∷ os) [] same = absurd (omega arith)
all_most (o ∷ os) (n ∷ ns) same = first_most o n os ns (length ns) ∙ ap (λ m. cell_bytes o n + m) (all_most os ns (omega arith))

-- ---- rows

-- one more row
pub row_bound : (old new : Grid) (y : ℕ) (a b : List Glyph) (before after : List ℕ) → RowsOf old new y a b → length after ≤ length before + most_bytes a b → length before ≤ most_to old.cells new.cells (y * new.width) → length after ≤ most_to old.cells new.cells ((y + 1) * new.width)
row_bound old new y a b before after r row bound =
    let columns : length b ≡ new.width = row_columns old new y a b r in
    let same : length a ≡ length b = old_columns old new y a b r ∙ sym columns in
    let place : y * new.width + length b ≡ (y + 1) * new.width = ap (λ k. y * new.width + k) columns ∙ next_row y new.width in
    sums (most_to old.cells new.cells (y * new.width)) (most_to a b (length b)) (most_bytes a b) (most_to old.cells new.cells (y * new.width + length b)) (most_to old.cells new.cells ((y + 1) * new.width))
    (row_of_screen old new y (length b) a b r (omega arith)) (all_most a b same) (ap (most_to old.cells new.cells) place) row bound
  where
    sums : (m k l s t : ℕ) → s ≡ m + k → k ≡ l → s ≡ t → length after ≤ length before + l → length before ≤ m → length after ≤ t
    sums m k l s t p e q h g = omega arith

-- once all rows are written
pub all_bound : (old new : Grid) (n : ℕ) (bytes : List ℕ) → length old.cells ≡ length new.cells → n ≡ length new.cells → length bytes ≤ most_to old.cells new.cells n → length bytes ≤ most_bytes old.cells new.cells
all_bound old new n bytes same all bound = subst (λ (m : ℕ). length bytes ≤ m) (ap (most_to old.cells new.cells) all ∙ all_most old.cells new.cells same) bound
