-- The marks that rows take of columns.
use Rattle.std.proofs.Common.{◌≡◌, ℕ, zero, suc, ◌+◌, ◌-◌, ◌<◌, ◌≤◌, List, [], ◌∷◌, ◌++◌, map, length, take, take_all, drop, set, get_or, refl, sym, ap, ◌∙◌, arith, append_assoc, append-nil, length-append}
use Rattle.std.specs.Borrow.{Bor}
use Rattle.std.specs.Prelude.{slice_index, slice_index_or}
use Rattle.mad_format.specs.declared.composite.FmtComposite.{FmtComposite}
use Rattle.mad_mark_runs.specs.declared.mark_runs.MarkRun.{MarkRun}
use Rattle.mad_marks.specs.LineMarks.{has_mark}
use Rattle.mad_marks.specs.RowNumbers.{count_in}
use Rattle.markdown_linked_pages.specs.CellMarks.{columns_below, first_values, row_values, single_runs}
use Rattle.markdown_linked_pages.specs.ColumnsKept.{values_left}

-- ---- a column

-- a mark, and those behind it
first_taken : (count : ℕ) (values : List ℕ) → first_values (suc count) values ≡ slice_index values 0 ∷ first_values count (drop 1 values)
first_taken count [] = refl
first_taken count (v ∷ vs) = refl

drop_taken : (count : ℕ) (values : List ℕ) → drop (suc count) values ≡ drop count (drop 1 values)
drop_taken zero [] = refl
drop_taken (suc count) [] = refl
drop_taken count (v ∷ vs) = refl

-- a mark more is taken
pub value_taken : (done now all : List MarkRun) (left next : List ℕ) (wanted fewer v end : ℕ) → 0 < wanted → fewer ≡ wanted - 1 → v ≡ slice_index left 0 → end ≡ length done + 1 → next ≡ drop 1 left → now ≡ done ++ record { value = v; end = end } ∷ []
    → done ++ single_runs (length done) (first_values wanted left) ≡ all → now ++ single_runs (length now) (first_values fewer next) ≡ all
value_taken done now all left next zero fewer v end some fewer_is v_is end_is next_is now_is before = absurd (omega (arith, some))
value_taken done now all left next (suc wanted) fewer v end some fewer_is v_is end_is next_is now_is before =
    let less : fewer ≡ wanted = omega (arith, fewer_is) in
    let long : length now ≡ length done + 1 = ap length now_is ∙ length-append done (record { value = v; end = end } ∷ []) in
    ap (λ (l : List MarkRun). l ++ single_runs (length now) (first_values fewer next)) now_is
    ∙ append_assoc done (record { value = v; end = end } ∷ []) (single_runs (length now) (first_values fewer next))
    ∙ ap (λ (k : ℕ). done ++ (record { value = v; end = end } ∷ single_runs k (first_values fewer next))) long
    ∙ ap (λ (k : ℕ). done ++ (record { value = v; end = k } ∷ single_runs (length done + 1) (first_values fewer next))) end_is
    ∙ ap (λ (k : ℕ). done ++ (record { value = k; end = length done + 1 } ∷ single_runs (length done + 1) (first_values fewer next))) v_is
    ∙ ap (λ (k : ℕ). done ++ (record { value = slice_index left 0; end = length done + 1 } ∷ single_runs (length done + 1) (first_values k next))) less
    ∙ ap (λ (l : List ℕ). done ++ (record { value = slice_index left 0; end = length done + 1 } ∷ single_runs (length done + 1) (first_values wanted l))) next_is
    ∙ ap (λ (l : List ℕ). done ++ single_runs (length done) l) (sym (first_taken wanted left)) ∙ before

-- and the others are left
pub value_left : (left next all : List ℕ) (wanted fewer : ℕ) → 0 < wanted → fewer ≡ wanted - 1 → next ≡ drop 1 left → drop wanted left ≡ all → drop fewer next ≡ all
value_left left next all zero fewer some fewer_is next_is before = absurd (omega (arith, some))
value_left left next all (suc wanted) fewer some fewer_is next_is before =
    let less : fewer ≡ wanted = omega (arith, fewer_is) in
    ap (λ (k : ℕ). drop k next) less ∙ ap (drop wanted) next_is ∙ sym (drop_taken wanted left) ∙ before

-- none is wanted any more
pub values_taken : (now all : List MarkRun) (left : List ℕ) (wanted : ℕ) → wanted ≤ 0 → now ++ single_runs (length now) (first_values wanted left) ≡ all → now ≡ all
values_taken now all left zero h before = sym (append-nil now) ∙ before
values_taken now all left (suc wanted) h before = absurd (omega (arith, h))

pub all_left : (left all : List ℕ) (wanted : ℕ) → wanted ≤ 0 → drop wanted left ≡ all → left ≡ all
all_left left all zero h before = before
all_left left all (suc wanted) h before = absurd (omega (arith, h))

-- ---- a row

singles_joined : (n : ℕ) (xs ys : List ℕ) → single_runs n (xs ++ ys) ≡ single_runs n xs ++ single_runs (n + length xs) ys
singles_joined n [] ys = ap (λ (k : ℕ). single_runs k ys) (omega arith)
singles_joined n (x ∷ xs) ys =
    ap (λ (l : List MarkRun). record { value = x; end = n + 1 } ∷ l) (singles_joined (n + 1) xs ys ∙ ap (λ (k : ℕ). single_runs (n + 1) xs ++ single_runs k ys) (omega arith))

singles_long : (n : ℕ) (xs : List ℕ) → length (single_runs n xs) ≡ length xs
singles_long n [] = refl
singles_long n (x ∷ xs) = omega (arith, singles_long (n + 1) xs)

none_taken : (columns : List (List ℕ)) → row_values columns [] ≡ []
none_taken [] = refl
none_taken (c ∷ cs) = refl

pub none_below : (columns : List (List ℕ)) → columns_below columns [] ≡ columns
none_below [] = refl
none_below (c ∷ cs) = refl

row_more : (columns : List (List ℕ)) (cells : List FmtComposite) (i : ℕ) (d : FmtComposite) → i < length cells → i < length columns
    → row_values columns (take (suc i) cells) ≡ row_values columns (take i cells) ++ first_values (count_in has_mark (get_or cells i d)) (slice_index_or (columns_below columns (take i cells)) i [])
row_more columns [] i d h k = absurd (omega (arith, h))
row_more [] (x ∷ xs) i d h k = absurd (omega (arith, k))
row_more (c ∷ cs) (x ∷ xs) zero d h k = ap (λ (l : List ℕ). first_values (count_in has_mark x) c ++ l) (none_taken cs) ∙ append-nil (first_values (count_in has_mark x) c)
row_more (c ∷ cs) (x ∷ xs) (suc i) d h k =
    ap (λ (l : List ℕ). first_values (count_in has_mark x) c ++ l) (row_more cs xs i d (omega (arith, h)) (omega (arith, k)))
    ∙ sym (append_assoc (first_values (count_in has_mark x) c) (row_values cs (take i xs)) (first_values (count_in has_mark (get_or xs i d)) (slice_index_or (columns_below cs (take i xs)) i [])))

below_more : (columns : List (List ℕ)) (cells : List FmtComposite) (i : ℕ) (d : FmtComposite) → i < length cells → i < length columns
    → columns_below columns (take (suc i) cells) ≡ set (columns_below columns (take i cells)) i (drop (count_in has_mark (get_or cells i d)) (slice_index_or (columns_below columns (take i cells)) i []))
below_more columns [] i d h k = absurd (omega (arith, h))
below_more [] (x ∷ xs) i d h k = absurd (omega (arith, k))
below_more (c ∷ cs) (x ∷ xs) zero d h k = ap (λ (l : List (List ℕ)). drop (count_in has_mark x) c ∷ l) (none_below cs)
below_more (c ∷ cs) (x ∷ xs) (suc i) d h k = ap (λ (l : List (List ℕ)). drop (count_in has_mark x) c ∷ l) (below_more cs xs i d (omega (arith, h)) (omega (arith, k)))

-- as many columns are left
pub below_long : (columns : List (List ℕ)) (cells : List FmtComposite) → length (columns_below columns cells) ≡ length columns
below_long [] cells = refl
below_long (c ∷ cs) [] = refl
below_long (c ∷ cs) (x ∷ xs) = omega (arith, below_long cs xs)

-- a cell more takes its marks
pub cell_taken : (old now next : List MarkRun) (columns left : List (List ℕ)) (cells : List FmtComposite) (i : ℕ) (cell : FmtComposite) (count : ℕ) (values : List ℕ) → i < length cells → i < length columns → cell ≡ get_or cells i cell → count ≡ count_in has_mark cell
    → values ≡ slice_index_or left i [] → left ≡ columns_below columns (take i cells) → now ≡ old ++ single_runs (length old) (row_values columns (take i cells)) → next ≡ now ++ single_runs (length now) (first_values count values)
    → next ≡ old ++ single_runs (length old) (row_values columns (take (i + 1) cells))
cell_taken old now next columns left cells i cell count values h k cell_is count_is values_are left_is now_is next_is =
    let up : suc i ≡ i + 1 = omega arith in
    let done = row_values columns (take i cells) in
    let own = first_values (count_in has_mark (get_or cells i cell)) (slice_index_or (columns_below columns (take i cells)) i []) in
    let own_is : first_values count values ≡ own =
    ap (λ (c : ℕ). first_values c values) (count_is ∙ ap (λ (c : FmtComposite). count_in has_mark c) cell_is)
    ∙ ap (first_values (count_in has_mark (get_or cells i cell))) (values_are ∙ ap (λ (l : List (List ℕ)). slice_index_or l i []) left_is) in
    let long : length now ≡ length old + length done = ap length now_is ∙ length-append old (single_runs (length old) done) ∙ ap (λ (j : ℕ). length old + j) (singles_long (length old) done) in
    next_is ∙ ap (λ (l : List ℕ). now ++ single_runs (length now) l) own_is ∙ ap (λ (j : ℕ). now ++ single_runs j own) long ∙ ap (λ (l : List MarkRun). l ++ single_runs (length old + length done) own) now_is
    ∙ append_assoc old (single_runs (length old) done) (single_runs (length old + length done) own)
    ∙ ap (λ (l : List MarkRun). old ++ l) (sym (singles_joined (length old) done own))
    ∙ ap (λ (l : List ℕ). old ++ single_runs (length old) l) (sym (row_more columns cells i cell h k)) ∙ ap (λ (j : ℕ). old ++ single_runs (length old) (row_values columns (take j cells))) up

-- and the others of its column are left
pub cell_left : (columns left next : List (List ℕ)) (cells : List FmtComposite) (i : ℕ) (cell : FmtComposite) (count : ℕ) (values others : List ℕ) → i < length cells → i < length columns → cell ≡ get_or cells i cell → count ≡ count_in has_mark cell
    → values ≡ slice_index_or left i [] → others ≡ drop count values → left ≡ columns_below columns (take i cells) → next ≡ set left i others → next ≡ columns_below columns (take (i + 1) cells)
cell_left columns left next cells i cell count values others h k cell_is count_is values_are others_are left_is next_is =
    let up : suc i ≡ i + 1 = omega arith in
    let counted : count ≡ count_in has_mark (get_or cells i cell) = count_is ∙ ap (λ (c : FmtComposite). count_in has_mark c) cell_is in
    let own : others ≡ drop (count_in has_mark (get_or cells i cell)) (slice_index_or (columns_below columns (take i cells)) i []) =
    others_are ∙ ap (λ (c : ℕ). drop c values) counted ∙ ap (drop (count_in has_mark (get_or cells i cell))) (values_are ∙ ap (λ (l : List (List ℕ)). slice_index_or l i []) left_is) in
    next_is ∙ ap (set left i) own ∙ ap (λ (l : List (List ℕ)). set l i (drop (count_in has_mark (get_or cells i cell)) (slice_index_or (columns_below columns (take i cells)) i []))) left_is
    ∙ sym (below_more columns cells i cell h k) ∙ ap (λ (j : ℕ). columns_below columns (take j cells)) up

-- no cell is left, or no column
pub row_taken : (columns : List (List ℕ)) (cells : List FmtComposite) (i : ℕ) → (i < length cells → i < length columns → ⊥) → row_values columns (take i cells) ≡ row_values columns cells
row_taken [] cells i h = refl
row_taken (c ∷ cs) [] i h = ap (row_values (c ∷ cs)) (take_all i [] (omega arith))
row_taken (c ∷ cs) (x ∷ xs) zero h = absurd (h (omega arith) (omega arith))
row_taken (c ∷ cs) (x ∷ xs) (suc i) h = ap (λ (l : List ℕ). first_values (count_in has_mark x) c ++ l) (row_taken cs xs i (λ a b. h (omega (arith, a)) (omega (arith, b))))

pub row_left : (columns : List (List ℕ)) (cells : List FmtComposite) (i : ℕ) → (i < length cells → i < length columns → ⊥) → columns_below columns (take i cells) ≡ columns_below columns cells
row_left [] cells i h = refl
row_left (c ∷ cs) [] i h = ap (columns_below (c ∷ cs)) (take_all i [] (omega arith))
row_left (c ∷ cs) (x ∷ xs) zero h = absurd (h (omega arith) (omega arith))
row_left (c ∷ cs) (x ∷ xs) (suc i) h = ap (λ (l : List (List ℕ)). drop (count_in has_mark x) c ∷ l) (row_left cs xs i (λ a b. h (omega (arith, a)) (omega (arith, b))))

-- ---- what is left, as the code keeps it

-- the marks that are left of a column
pub left_at : (left : List (Bor (List ℕ))) (i : ℕ) (d : Bor (List ℕ)) → i < length left → (get_or left i d).now ≡ slice_index_or (map values_left left) i []
left_at [] i d h = absurd (omega (arith, h))
left_at (l ∷ ls) zero d h = refl
left_at (l ∷ ls) (suc i) d h = left_at ls i d (omega (arith, h))

-- as many are left
pub lefts_long : (left : List (Bor (List ℕ))) → length (map values_left left) ≡ length left
lefts_long [] = refl
lefts_long (l ∷ ls) = ap suc (lefts_long ls)

-- no cell takes nothing
pub nothing_taken : (old : List MarkRun) (columns : List (List ℕ)) → old ≡ old ++ single_runs (length old) (row_values columns [])
nothing_taken old columns = sym (append-nil old) ∙ ap (λ (l : List ℕ). old ++ single_runs (length old) l) (sym (none_taken columns))
