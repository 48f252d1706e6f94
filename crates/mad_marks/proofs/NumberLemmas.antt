-- The numbers of rows, one composite after the other.
use Rattle.std.proofs.Common.{◌≡◌, ℕ, zero, suc, ◌+◌, ◌-◌, ◌<◌, ◌≤◌, ◌&&◌, Bool, true, false, not, cond, filter, chars, List, [], ◌∷◌, ◌++◌, map, length, take, drop, set, get_or, refl, sym, ap, ◌∙◌, arith, append_assoc, append-nil, length-append}
use Rattle.std.specs.List.{concat}
use Rattle.std.specs.Vec.{vec_len}
use Rattle.std.specs.Char.{is_whitespace}
use Rattle.std.proofs.lemmas.List.{at_drop_more}
use Rattle.std.proofs.lemmas.List.Elements.{filter-append}
use Rattle.mad_md.specs.Flagged.{Flags, FlaggedChar, flagged, flagged_of, flagged_text, flags_of}
use Rattle.mad_md.specs.declared.compound.Compound.{Compound}
use Rattle.mad_format.specs.declared.line.FmtLine.{FmtLine}
use Rattle.mad_mark_runs.specs.Marks.{count_of}
use Rattle.mad_marks.specs.RowMarks.{is_counted, counted}
use Rattle.mad_style.specs.declared.kinds.CompositeKind.{CompositeKind}
use Rattle.mad_format.specs.declared.composite.FmtComposite.{FmtComposite}
use Rattle.mad_marks.specs.declared.numbers.RowNumbers.{RowNumbers}
use Rattle.mad_marks.specs.RowNumbers.{cells_of, count_in, row_numbers, rows_numbers, passed, starts_from, Holds}

-- ---- a row

-- one composite more
pub row_more : (ns : List ℕ) (xs : List FmtComposite) (i : ℕ) → i < length xs → row_numbers ns (take (suc i) xs) ≡ row_numbers ns (take i xs) ++ get_or ns i 0 ∷ []
row_more ns [] i h = absurd (omega arith)
row_more [] (x ∷ xs) zero h = refl
row_more (n ∷ ns) (x ∷ xs) zero h = refl
row_more [] (x ∷ xs) (suc i) h = ap (λ l. 0 ∷ l) (row_more [] xs i (omega arith))
row_more (n ∷ ns) (x ∷ xs) (suc i) h = ap (λ l. n ∷ l) (row_more ns xs i (omega arith))

-- where no composite is passed, the numbers stay
pub passed_none : (has : CompositeKind → Flags → Bool) (ns : List ℕ) → passed has ns [] ≡ ns
passed_none has [] = refl
passed_none has (n ∷ ns) = refl

-- the numbers of columns that weren't passed yet are as they were
pub passed_at : (has : CompositeKind → Flags → Bool) (ns : List ℕ) (xs : List FmtComposite) (i : ℕ) → get_or (passed has ns (take i xs)) i 0 ≡ get_or ns i 0
passed_at has [] xs i = refl
passed_at has (n ∷ ns) [] zero = refl
passed_at has (n ∷ ns) [] (suc i) = refl
passed_at has (n ∷ ns) (x ∷ xs) zero = refl
passed_at has (n ∷ ns) (x ∷ xs) (suc i) = passed_at has ns xs i

-- one more composite adds what is counted in it to the number of its column
pub passed_more : (has : CompositeKind → Flags → Bool) (ns : List ℕ) (xs : List FmtComposite) (i : ℕ) (d : FmtComposite) → i < length xs
    → passed has ns (take (suc i) xs) ≡ set (passed has ns (take i xs)) i (get_or (passed has ns (take i xs)) i 0 + count_in has (get_or xs i d))
passed_more has ns [] i d h = absurd (omega arith)
passed_more has [] (x ∷ xs) i d h = refl
passed_more has (n ∷ ns) (x ∷ xs) zero d h = ap (λ l. (n + count_in has x) ∷ l) (passed_none has ns)
passed_more has (n ∷ ns) (x ∷ xs) (suc i) d h = ap (λ l. (n + count_in has x) ∷ l) (passed_more has ns xs i d (omega arith))

-- ---- rows

concat_more : (rows : List (List ℕ)) (ns : List ℕ) → concat (rows ++ ns ∷ []) ≡ concat rows ++ ns
concat_more [] ns = append-nil ns
concat_more (r ∷ rows) ns = ap (λ l. r ++ l) (concat_more rows ns) ∙ sym (append_assoc r (concat rows) ns)

starts_more : (at : ℕ) (rows : List (List ℕ)) (ns : List ℕ) → starts_from at (rows ++ ns ∷ []) ≡ starts_from at rows ++ (at + length (concat rows)) ∷ []
starts_more at [] ns = ap (λ (k : ℕ). k ∷ []) (omega arith)
starts_more at (r ∷ rows) ns =
    ap (λ l. at ∷ l) (starts_more (at + length r) rows ns ∙ ap (λ (k : ℕ). starts_from (at + length r) rows ++ k ∷ []) (omega (arith, length-append r (concat rows))))

-- a row more
pub holds_more : (old new : RowNumbers) (rows : List (List ℕ)) (ns : List ℕ) → Holds old rows → new.numbers.items ≡ old.numbers.items ++ ns → new.starts.items ≡ old.starts.items ++ length old.numbers.items ∷ []
    → Holds new (rows ++ ns ∷ [])
holds_more old new rows ns held numbers starts = record {
  all = numbers ∙ ap (λ l. l ++ ns) held.all ∙ sym (concat_more rows ns);
  starts = starts ∙ ap (λ l. l ++ length old.numbers.items ∷ []) held.starts ∙ ap (λ (k : ℕ). starts_from 0 rows ++ k ∷ []) (ap length held.all ∙ sym (omega arith)) ∙ sym (starts_more 0 rows ns);
}

-- ---- a row, read back

-- each row has one start
pub starts_long : (at : ℕ) (rows : List (List ℕ)) → length (starts_from at rows) ≡ length rows
starts_long at [] = refl
starts_long at (r ∷ rows) = ap suc (starts_long (at + length r) rows)

front_taken : (xs ys : List ℕ) (n : ℕ) → n ≡ length xs → take n (xs ++ ys) ≡ xs
front_taken [] ys n e = ap (λ (k : ℕ). take k ys) e
front_taken (x ∷ xs) ys n e = ap (λ (k : ℕ). take k (x ∷ (xs ++ ys))) e ∙ ap (λ l. x ∷ l) (front_taken xs ys (length xs) refl)

front_dropped : (xs ys : List ℕ) (n k : ℕ) → n ≡ length xs + k → drop n (xs ++ ys) ≡ drop k ys
front_dropped [] ys n k e = ap (λ (m : ℕ). drop m ys) (omega arith)
front_dropped (x ∷ xs) ys zero k e = absurd (omega arith)
front_dropped (x ∷ xs) ys (suc n) k e = front_dropped xs ys n k (omega arith)

-- how many numbers are before a row
abbrev before_row : ℕ → List (List ℕ) → ℕ
before_row row rows = length (concat (take row rows))

-- a row starts behind the numbers of the rows before it
pub start_at : (at row : ℕ) (rows : List (List ℕ)) (d : ℕ) → row < length rows → get_or (starts_from at rows) row d ≡ at + before_row row rows
start_at at row [] d h = absurd (omega arith)
start_at at zero (r ∷ rows) d h = omega arith
start_at at (suc row) (r ∷ rows) d h = start_at (at + length r) row rows d (omega arith) ∙ omega (arith, length-append r (concat (take row rows)))

-- it ends where the next row starts, or where all numbers end
pub end_at : (at row : ℕ) (rows : List (List ℕ)) (d : ℕ) → row < length rows → d ≡ at + length (concat rows) → get_or (starts_from at rows) (suc row) d ≡ at + before_row (suc row) rows
end_at at row [] d h e = absurd (omega arith)
end_at at zero (r ∷ []) d h e = e
end_at at zero (r ∷ q ∷ rows) d h e = omega (arith, length-append r [])
end_at at (suc row) (r ∷ rows) d h e =
    end_at (at + length r) row rows d (omega arith) (e ∙ omega (arith, length-append r (concat rows))) ∙ omega (arith, length-append r (concat (take (suc row) rows)))

-- the numbers from there up to there are the row's
pub slice_at : (row : ℕ) (rows : List (List ℕ)) → row < length rows → take (before_row (suc row) rows - before_row row rows) (drop (before_row row rows) (concat rows)) ≡ get_or rows row []
slice_at row [] h = absurd (omega arith)
slice_at zero (r ∷ rows) h = front_taken r (concat rows) (length (r ++ []) - 0) (omega (arith, length-append r []))
slice_at (suc row) (r ∷ rows) h =
    ap (λ (k : ℕ). take k (drop (length (r ++ concat (take row rows))) (r ++ concat rows))) (omega (arith, length-append r (concat (take (suc row) rows)), length-append r (concat (take row rows))))
    ∙ ap (λ l. take (before_row (suc row) rows - before_row row rows) l) (front_dropped r (concat rows) (length (r ++ concat (take row rows))) (before_row row rows) (length-append r (concat (take row rows))))
    ∙ slice_at row rows (omega arith)

before_all : (row : ℕ) (rows : List (List ℕ)) → before_row row rows ≤ length (concat rows)
before_all zero rows = omega arith
before_all (suc row) [] = omega arith
before_all (suc row) (r ∷ rows) = omega (arith, before_all row rows, length-append r (concat (take row rows)), length-append r (concat rows))

before_next : (row : ℕ) (rows : List (List ℕ)) → before_row row rows ≤ before_row (suc row) rows
before_next zero rows = omega arith
before_next (suc row) [] = omega arith
before_next (suc row) (r ∷ rows) = omega (arith, before_next row rows, length-append r (concat (take row rows)), length-append r (concat (take (suc row) rows)))

-- where a row's numbers begin and end
start_of : (numbers : RowNumbers) (rows : List (List ℕ)) (row start : ℕ) → Holds numbers rows → row < length rows → start ≡ get_or numbers.starts.items row start → start ≡ before_row row rows
start_of numbers rows row start held h start_is = start_is ∙ ap (λ (l : List ℕ). get_or l row start) held.starts ∙ start_at 0 row rows start h ∙ omega arith

end_of : (numbers : RowNumbers) (rows : List (List ℕ)) (row end : ℕ) → Holds numbers rows → row < length rows → end ≡ get_or numbers.starts.items (row + 1) (vec_len numbers.numbers) → end ≡ before_row (suc row) rows
end_of numbers rows row end held h end_is =
    let long : vec_len numbers.numbers ≡ 0 + length (concat rows) = omega (arith, numbers.numbers.ok.0, ap length held.all) in
    end_is ∙ ap (λ (l : List ℕ). get_or l (row + 1) (vec_len numbers.numbers)) held.starts ∙ ap (λ (k : ℕ). get_or (starts_from 0 rows) k (vec_len numbers.numbers)) (omega arith)
    ∙ end_at 0 row rows (vec_len numbers.numbers) h long ∙ omega arith

-- they are the row's
pub row_is : (numbers : RowNumbers) (rows : List (List ℕ)) (row start end : ℕ) → Holds numbers rows → row < length rows → start ≡ get_or numbers.starts.items row start → end ≡ get_or numbers.starts.items (row + 1) (vec_len numbers.numbers)
    → take (end - start) (drop start numbers.numbers.items) ≡ get_or rows row []
row_is numbers rows row start end held h start_is end_is =
    ap (λ l. take (end - start) (drop start l)) held.all
    ∙ ap (λ (k : ℕ). take (k - start) (drop start (concat rows))) (end_of numbers rows row end held h end_is)
    ∙ ap (λ (k : ℕ). take (before_row (suc row) rows - k) (drop k (concat rows))) (start_of numbers rows row start held h start_is) ∙ slice_at row rows h

-- and they are within
pub row_within : (numbers : RowNumbers) (rows : List (List ℕ)) (row start end : ℕ) → Holds numbers rows → row < length rows → start ≡ get_or numbers.starts.items row start → end ≡ get_or numbers.starts.items (row + 1) (vec_len numbers.numbers)
    → (start ≤ end) × (end ≤ vec_len numbers.numbers)
row_within numbers rows row start end held h start_is end_is =
    let s = start_of numbers rows row start held h start_is in
    let e = end_of numbers rows row end held h end_is in
    (omega (arith, before_next row rows, s, e), omega (arith, before_all (suc row) rows, numbers.numbers.ok.0, ap length held.all, e))

-- each row has a start
pub rows_known : (numbers : RowNumbers) (rows : List (List ℕ)) → Holds numbers rows → vec_len numbers.starts ≡ length rows
rows_known numbers rows held = numbers.starts.ok.0 ∙ ap length held.starts ∙ starts_long 0 rows

-- ---- what is counted of a composite

by_blank : (has : Flags → Bool) (flags : Flags) (c : ℕ) (cs : List ℕ) (w : Bool) → length (filter (is_counted has) (flagged flags cs)) ≡ count_of cs
    → length (cond (not w) (record { char = c; flags = flags } ∷ filter (is_counted has) (flagged flags cs)) (filter (is_counted has) (flagged flags cs)))
    ≡ length (cond (not w) (c ∷ filter (λ x. not (is_whitespace x)) cs) (filter (λ x. not (is_whitespace x)) cs))
by_blank has flags c cs true more = more
by_blank has flags c cs false more = ap suc more

flagged_count : (has : Flags → Bool) (flags : Flags) (cs : List ℕ) (t : Bool) → has flags ≡ t → length (filter (is_counted has) (flagged flags cs)) ≡ cond t (count_of cs) 0
flagged_count has flags [] true e = refl
flagged_count has flags [] false e = refl
flagged_count has flags (c ∷ cs) true e =
    ap (λ t. length (cond (t && not (is_whitespace c)) (record { char = c; flags = flags } ∷ filter (is_counted has) (flagged flags cs)) (filter (is_counted has) (flagged flags cs)))) e
    ∙ by_blank has flags c cs (is_whitespace c) (flagged_count has flags cs true e)
flagged_count has flags (c ∷ cs) false e =
    ap (λ t. length (cond (t && not (is_whitespace c)) (record { char = c; flags = flags } ∷ filter (is_counted has) (flagged flags cs)) (filter (is_counted has) (flagged flags cs)))) e
    ∙ flagged_count has flags cs false e

-- of a compound
pub compound_count : (has : Flags → Bool) (k : Compound) (t : Bool) → has (flags_of k) ≡ t → counted has (flagged_of k) ≡ cond t (count_of (chars k.src.now)) 0
compound_count has k t e = flagged_count has (flags_of k) (chars k.src.now) t e

counted_joined : (has : Flags → Bool) (xs ys : List FlaggedChar) → counted has (xs ++ ys) ≡ counted has xs + counted has ys
counted_joined has xs ys = ap length (filter-append (is_counted has) xs ys) ∙ length-append (filter (is_counted has) xs) (filter (is_counted has) ys)

-- of the compounds from one on
pub count_next : (has : Flags → Bool) (ks : List Compound) (i : ℕ) (d : Compound) (count n next t : ℕ) → i < length ks → n ≡ counted has (flagged_of (get_or ks i d)) → next ≡ count + n
    → count + counted has (flagged_text (drop i ks)) ≡ t → next + counted has (flagged_text (drop (i + 1) ks)) ≡ t
count_next has ks i d count n next t h n_is next_is before =
    let split : counted has (flagged_text (drop i ks)) ≡ n + counted has (flagged_text (drop (i + 1) ks)) =
    at_drop_more (λ l. counted has (flagged_text l)) ks i d h
    ∙ counted_joined has (flagged_of (get_or ks i d)) (flagged_text (drop (i + 1) ks)) ∙ ap (λ (m : ℕ). m + counted has (flagged_text (drop (i + 1) ks))) (sym n_is) in
    omega arith

-- the same where the compounds go by another name
pub count_at : (has : Flags → Bool) (all ks : List Compound) (i : ℕ) (d : Compound) (count n next t : ℕ) → all ≡ ks → i < length all → n ≡ counted has (flagged_of (get_or all i d)) → next ≡ count + n
    → count + counted has (flagged_text (drop i ks)) ≡ t → next + counted has (flagged_text (drop (i + 1) ks)) ≡ t
count_at has all ks i d count n next t same h n_is next_is before =
    let within : i < length ks = omega (arith, h, ap length same) in
    count_next has ks i d count n next t within (n_is ∙ ap (λ (l : List Compound). counted has (flagged_of (get_or l i d))) same) next_is before

-- ---- steps of loops

-- one more composite of a row has the number of its column
pub cell_numbers : (has : CompositeKind → Flags → Bool) (old numbers new ns now : List ℕ) (xs : List FmtComposite) (i n : ℕ) → i < length xs → now ≡ passed has ns (take i xs) → n ≡ get_or now i 0 → numbers ≡ old ++ row_numbers ns (take i xs)
    → new ≡ numbers ++ n ∷ [] → new ≡ old ++ row_numbers ns (take (i + 1) xs)
cell_numbers has old numbers new ns now xs i n h now_is n_is numbers_are new_is =
    let up : suc i ≡ i + 1 = omega arith in
    let same : n ≡ get_or ns i 0 = n_is ∙ ap (λ (l : List ℕ). get_or l i 0) now_is ∙ passed_at has ns xs i in
    new_is ∙ ap (λ l. l ++ n ∷ []) numbers_are ∙ append_assoc old (row_numbers ns (take i xs)) (n ∷ [])
    ∙ ap (λ (k : ℕ). old ++ (row_numbers ns (take i xs) ++ k ∷ [])) same
    ∙ ap (λ l. old ++ l) (sym (row_more ns xs i h)) ∙ ap (λ (k : ℕ). old ++ row_numbers ns (take k xs)) up

-- one more composite is passed, and what is counted in it is added
pub cell_passed : (has : CompositeKind → Flags → Bool) (ns now next : List ℕ) (xs : List FmtComposite) (i count : ℕ) (x : FmtComposite) → i < length xs → now ≡ passed has ns (take i xs) → x ≡ get_or xs i x → count ≡ count_in has x
    → next ≡ set now i (get_or now i 0 + count) → next ≡ passed has ns (take (i + 1) xs)
cell_passed has ns now next xs i count x h now_is x_is count_is next_is =
    let up : suc i ≡ i + 1 = omega arith in
    let same : count ≡ count_in has (get_or xs i x) = count_is ∙ ap (λ (y : FmtComposite). count_in has y) x_is in
    next_is ∙ ap (λ (l : List ℕ). set l i (get_or l i 0 + count)) now_is
    ∙ ap (λ (k : ℕ). set (passed has ns (take i xs)) i (get_or (passed has ns (take i xs)) i 0 + k)) same
    ∙ sym (passed_more has ns xs i x h) ∙ ap (λ (k : ℕ). passed has ns (take k xs)) up

-- one more row has its numbers, and those behind it go on from there
pub row_pushed : (has : CompositeKind → Flags → Bool) (done all : List (List ℕ)) (f next : List ℕ) (rows : List FmtLine) (i : ℕ) (row : FmtLine) → i < length rows → row ≡ get_or rows i row → next ≡ passed has f (cells_of row)
    → done ++ rows_numbers has f (map cells_of (drop i rows)) ≡ all → (done ++ row_numbers f (cells_of row) ∷ []) ++ rows_numbers has next (map cells_of (drop (i + 1) rows)) ≡ all
row_pushed has done all f next rows i row h row_is next_is before =
    append_assoc done (row_numbers f (cells_of row) ∷ []) (rows_numbers has next (map cells_of (drop (i + 1) rows)))
    ∙ ap (λ l. done ++ (row_numbers f (cells_of row) ∷ rows_numbers has l (map cells_of (drop (i + 1) rows)))) next_is
    ∙ ap (λ (r : FmtLine). done ++ rows_numbers has f (map cells_of (r ∷ drop (i + 1) rows))) row_is
    ∙ sym (at_drop_more (λ rs. done ++ rows_numbers has f (map cells_of rs)) rows i row h) ∙ before
