-- Tables, line by line and column by column.
use Rattle.std.proofs.Common.{◌≡◌, ℕ, zero, suc, ◌+◌, ◌-◌, ◌^◌, ◌<◌, ◌≤◌, max, nat_le, Bool, true, false, List, [], ◌∷◌, ◌++◌, length, map, take, drop, sum, get_or, refl, ap, sym, ◌∙◌, arith}
use Rattle.std.specs.List.{flat_map}
use Rattle.std.proofs.lemmas.List.{map-append, drop-map, at_drop_more}
use Rattle.std.proofs.lemmas.List.Concat.{flat_map-append}
use Rattle.std.proofs.lemmas.List.Sums.{sum_by-cons}
use Rattle.std.proofs.lemmas.Bool.Decides.{nat_tests}
use Rattle.mad_md.specs.Flagged.{flagged_of, flagged_text, run_of}
use Rattle.mad_md.specs.Lines.{StyledRuns, LineContent, normal, table_row, table_rule, horizontal_rule, styled_runs, content_of}
use Rattle.mad_md.specs.declared.compound.Compound.{Compound}
use Rattle.mad_md.specs.declared.composite.Composite.{Composite}
use Rattle.mad_md.specs.declared.line.Line.{Line}
use Rattle.mad_sections.specs.CellWords.{capped, longest_word}
use Rattle.mad_sections.specs.declared.table_rooms.TableRules.{TableRules}
use Rattle.mad_sections.specs.TableTexts.{runs_text, cell_text, rows_in, columns_in, columns_count, longest_in, least_width, least_widths, stand_in}
use Rattle.mad_sections.proofs.Choices.{by_bool}

-- ---- line by line

-- the longest word that the cells of a column have
abbrev pub longest_at : ℕ → List LineContent → ℕ
longest_at column lines = longest_in (flat_map (take 1) (map (drop column) (rows_in lines)))

rows_more : (line : LineContent) (lines : List LineContent) → rows_in (line ∷ lines) ≡ rows_in (line ∷ []) ++ rows_in lines
rows_more (normal said) lines = refl
rows_more (table_row cells) lines = refl
rows_more (table_rule aligns) lines = refl
rows_more horizontal_rule lines = refl

longest_both : (xs ys : List StyledRuns) → longest_in (xs ++ ys) ≡ max (longest_in xs) (longest_in ys)
longest_both [] ys = omega arith
longest_both (x ∷ xs) ys = let more = longest_both xs ys in omega (arith, more)

longest_more : (column : ℕ) (line : LineContent) (lines : List LineContent) → longest_at column (line ∷ lines) ≡ max (longest_at column (line ∷ [])) (longest_at column lines)
longest_more column line lines =
    ap (λ (rows : List (List StyledRuns)). longest_in (flat_map (take 1) (map (drop column) rows))) (rows_more line lines)
    ∙ ap (λ (rows : List (List StyledRuns)). longest_in (flat_map (take 1) rows)) (map-append (drop column) (rows_in (line ∷ [])) (rows_in lines))
    ∙ ap longest_in (flat_map-append (take 1) (map (drop column) (rows_in (line ∷ []))) (map (drop column) (rows_in lines)))
    ∙ longest_both (flat_map (take 1) (map (drop column) (rows_in (line ∷ [])))) (flat_map (take 1) (map (drop column) (rows_in lines)))

-- one line more
pub longest_on : (column i before word : ℕ) (lines : List Line) (line : Line) → i < length lines → line ≡ get_or lines i line → word ≡ capped (longest_at column (content_of line ∷ []))
    → max (max before word) (capped (longest_at column (map content_of (drop (i + 1) lines)))) ≡ max before (capped (longest_at column (map content_of (drop i lines))))
longest_on column i before word lines line inside is words =
    let next : longest_at column (map content_of (drop i lines)) ≡ longest_at column (content_of line ∷ map content_of (drop (i + 1) lines)) =
    at_drop_more (λ (ls : List Line). longest_at column (map content_of ls)) lines i line inside ∙ ap (λ (l : Line). longest_at column (content_of l ∷ map content_of (drop (i + 1) lines))) (sym is) in
    let more = longest_more column (content_of line) (map content_of (drop (i + 1) lines)) in
    omega (arith, next, more, words)

-- one more line counts with the columns that it has
pub count_on : (i before own : ℕ) (lines : List Line) (line : Line) → i < length lines → line ≡ get_or lines i line → own ≡ columns_in (content_of line)
    → max (max before own) (columns_count (map content_of (drop (i + 1) lines))) ≡ max before (columns_count (map content_of (drop i lines)))
count_on i before own lines line inside is columns =
    let next : columns_count (map content_of (drop i lines)) ≡ max (columns_in (content_of line)) (columns_count (map content_of (drop (i + 1) lines))) =
    at_drop_more (λ (ls : List Line). columns_count (map content_of ls)) lines i line inside ∙ ap (λ (l : Line). columns_count (content_of l ∷ map content_of (drop (i + 1) lines))) (sym is) in
    omega (arith, next, columns)

-- ---- cells

-- the text of compounds is what they say
pub text_is_said : (ps : List Compound) → flagged_text ps ≡ runs_text (map run_of ps)
text_is_said [] = refl
text_is_said (p ∷ ps) = ap (λ xs. flagged_of p ++ xs) (text_is_said ps)

-- the longest word of a cell is the longest that its row has in the column
pub word_at : (cells : List Composite) (column word : ℕ) (cell : Composite) → column < length cells → cell ≡ get_or cells column cell → word ≡ capped (longest_word (flagged_text cell.compounds.items))
    → word ≡ capped (longest_in (flat_map (take 1) (map (drop column) (map styled_runs cells ∷ []))))
word_at cells column word cell inside is words =
    let next : drop column (map styled_runs cells) ≡ styled_runs cell ∷ map styled_runs (drop (column + 1) cells) =
    drop-map styled_runs column cells ∙ at_drop_more (map styled_runs) cells column cell inside ∙ ap (λ (x : Composite). styled_runs x ∷ map styled_runs (drop (column + 1) cells)) (sym is) in
    let only : longest_in (flat_map (take 1) (map (drop column) (map styled_runs cells ∷ []))) ≡ longest_in (take 1 (styled_runs cell ∷ map styled_runs (drop (column + 1) cells)) ++ []) =
    ap (λ (xs : List StyledRuns). longest_in (take 1 xs ++ [])) next in
    let text : longest_word (flagged_text cell.compounds.items) ≡ longest_word (cell_text (styled_runs cell)) = ap longest_word (text_is_said cell.compounds.items) in
    omega (arith, words, only, text)

nothing_left : {A : Type 0} (n : ℕ) (xs : List A) → length xs ≤ n → drop n xs ≡ []
nothing_left zero [] h = refl
nothing_left zero (x ∷ xs) h = absurd (omega arith)
nothing_left (suc n) [] h = refl
nothing_left (suc n) (x ∷ xs) h = nothing_left n xs (omega arith)

-- where a row has no cell in a column, it has no word there
pub no_cell_at : (cells : List Composite) (column : ℕ) → length cells ≤ column → longest_in (flat_map (take 1) (map (drop column) (map styled_runs cells ∷ []))) ≡ 0
no_cell_at cells column past =
    ap (λ (xs : List StyledRuns). longest_in (take 1 xs ++ [])) (drop-map styled_runs column cells ∙ ap (map styled_runs) (nothing_left column cells past))

-- ---- column by column

drop_one : {A : Type 0} (k : ℕ) (xs : List A) → drop 1 (drop k xs) ≡ drop (suc k) xs
drop_one zero [] = refl
drop_one zero (x ∷ xs) = refl
drop_one (suc k) [] = refl
drop_one (suc k) (x ∷ xs) = drop_one k xs

-- rows without one more column are those from the next column on
pub rows_on : (k : ℕ) (rows : List (List StyledRuns)) → map (drop 1) (map (drop k) rows) ≡ map (drop (k + 1)) rows
rows_on k [] = refl
rows_on k (row ∷ rows) =
    let one : suc k ≡ k + 1 = omega arith in
    ap (λ (xs : List StyledRuns). xs ∷ map (drop 1) (map (drop k) rows)) (drop_one k row ∙ ap (λ (n : ℕ). drop n row) one) ∙ ap (λ (more : List (List StyledRuns)). drop (k + 1) row ∷ more) (rows_on k rows)

rows_all : (rows : List (List StyledRuns)) → map (drop 0) rows ≡ rows
rows_all [] = refl
rows_all (row ∷ rows) = ap (λ (more : List (List StyledRuns)). row ∷ more) (rows_all rows)

-- each column has a least width
pub widths_count : (whole : TableRules) (n : ℕ) (rows : List (List StyledRuns)) → length (least_widths whole n rows) ≡ n
widths_count whole zero rows = refl
widths_count whole (suc n) rows = ap suc (widths_count whole n (map (drop 1) rows))

-- the columns from one on fit side by side in what is left, a border before each
unfoldable pub fit_from : TableRules → ℕ → List (List StyledRuns) → ℕ → ℕ → Bool
fit_from whole count rows column left = nat_le (sum (least_widths whole (count - column) (map (drop column) rows)) + (count - column)) left

is_within : (m n : ℕ) → m ≤ n → nat_le m n ≡ true
is_within m n h = grind (arith, nat_tests)

not_within : (m n : ℕ) → n < m → nat_le m n ≡ false
not_within m n h = grind (arith, nat_tests)

within_by : (m n : ℕ) → nat_le m n ≡ true → m ≤ n
within_by m n on = grind (arith, nat_tests, on)

past_by : (m n : ℕ) → nat_le m n ≡ false → n < m
past_by m n off = grind (arith, nat_tests, off)

-- two tests of the same
same_test : (a b c d : ℕ) → (a ≤ b → c ≤ d) → (c ≤ d → a ≤ b) → nat_le a b ≡ nat_le c d
same_test a b c d to back =
    by_bool (λ t. t ≡ nat_le c d) (nat_le a b) (λ on. sym (is_within c d (to (within_by a b on))))
    (λ off. sym (by_bool (λ t. t ≡ false) (nat_le c d) (λ on. let less = past_by a b off in let more = back (within_by c d on) in absurd (omega (arith, less, more))) (λ e. refl)))

-- all columns fit where they stand side by side in the room
pub fit_first : (whole : TableRules) (count room : ℕ) (rows : List (List StyledRuns)) → 0 < room → fit_from whole count rows 0 (room - 1) ≡ stand_in room (least_widths whole count rows)
unfolding fit_from
fit_first whole count room rows some =
    let all : least_widths whole (count - 0) (map (drop 0) rows) ≡ least_widths whole count rows =
    ap (λ (n : ℕ). least_widths whole n (map (drop 0) rows)) (omega arith) ∙ ap (least_widths whole count) (rows_all rows) in
    let total = ap sum all in
    let n = widths_count whole count rows in
    same_test (sum (least_widths whole (count - 0) (map (drop 0) rows)) + (count - 0)) (room - 1) (sum (least_widths whole count rows) + length (least_widths whole count rows) + 1) room
    (λ h. omega (arith, total, n, h)) (λ h. omega (arith, total, n, h))

-- no columns stand where there is no room
pub fits_never : (ws : List ℕ) (room : ℕ) → room ≡ 0 → stand_in room ws ≡ false
fits_never ws room none = not_within (sum ws + length ws + 1) room (omega arith)

-- behind the last column all columns fit
pub fit_last : (whole : TableRules) (count column left : ℕ) (rows : List (List StyledRuns)) → count ≤ column → fit_from whole count rows column left ≡ true
unfolding fit_from
fit_last whole count column left rows past =
    let none : count - column ≡ 0 = omega arith in
    let total : sum (least_widths whole (count - column) (map (drop column) rows)) ≡ 0 = ap (λ (n : ℕ). sum (least_widths whole n (map (drop column) rows))) none in
    is_within (sum (least_widths whole (count - column) (map (drop column) rows)) + (count - column)) left (omega (arith, total, none))

-- the next column, and those behind it
one_column : (whole : TableRules) (count column : ℕ) (rows : List (List StyledRuns)) → column < count
    → sum (least_widths whole (count - column) (map (drop column) rows)) ≡ least_width whole (flat_map (take 1) (map (drop column) rows)) + sum (least_widths whole (count - (column + 1)) (map (drop (column + 1)) rows))
one_column whole count column rows inside =
    let more : count - column ≡ suc (count - (column + 1)) = omega arith in
    let first = ap (λ (n : ℕ). sum (least_widths whole n (map (drop column) rows))) more in
    let both = sum_by-cons (λ x. x) (least_width whole (flat_map (take 1) (map (drop column) rows))) (least_widths whole (count - (column + 1)) (map (drop 1) (map (drop column) rows))) in
    let rest = ap (λ (rest : List (List StyledRuns)). sum (least_widths whole (count - (column + 1)) rest)) (rows_on column rows) in
    omega (arith, first, both, rest)

-- where a column and its border have room, those behind it fit in what is left exactly where all do
pub fit_on : (whole : TableRules) (count column left width : ℕ) (rows : List (List StyledRuns)) → column < count → left < 2 ^ 64 → width ≡ capped (least_width whole (flat_map (take 1) (map (drop column) rows))) → width < left
    → fit_from whole count rows (column + 1) (left - (width + 1)) ≡ fit_from whole count rows column left
unfolding fit_from
fit_on whole count column left width rows inside bound is some =
    let one = one_column whole count column rows inside in
    same_test (sum (least_widths whole (count - (column + 1)) (map (drop (column + 1)) rows)) + (count - (column + 1))) (left - (width + 1)) (sum (least_widths whole (count - column) (map (drop column) rows)) + (count - column)) left
    (λ h. omega (arith, one, is, h)) (λ h. omega (arith, one, is, h))

-- where a column leaves nothing for its border, the columns don't fit
pub fit_no_more : (whole : TableRules) (count column left width : ℕ) (rows : List (List StyledRuns)) → column < count → width ≡ capped (least_width whole (flat_map (take 1) (map (drop column) rows))) → left ≤ width
    → fit_from whole count rows column left ≡ false
unfolding fit_from
fit_no_more whole count column left width rows inside is past =
    let one = one_column whole count column rows inside in
    not_within (sum (least_widths whole (count - column) (map (drop column) rows)) + (count - column)) left (omega (arith, one, is))
