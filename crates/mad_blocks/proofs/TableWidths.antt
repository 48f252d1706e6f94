-- The cells that a table's columns have seen, and the widths that it keeps.
use Rattle.std.proofs.Common.{◌≡◌, ℕ, zero, suc, ◌+◌, ◌-◌, ◌*◌, ◌/◌, ◌^◌, ◌<◌, ◌≤◌, List, [], ◌∷◌, ◌++◌, map, length, length-append, take, drop, get_or, sum, replicate, refl, ap, sym, ◌∙◌, subst, arith, append_assoc, Result, Ok, Err, IfOk, Bool, true, false, All}
use Rattle.std.specs.Global.{Vec}
use Rattle.std.specs.List.{AllByRecursion, flat_map}
use Rattle.std.proofs.lemmas.Bool.{false≢true}
use Rattle.std.proofs.Math.Seq.{set-append_seam}
use Rattle.std.proofs.lemmas.List.{append-nil, set_past, map-append, length-map}
use Rattle.std.proofs.lemmas.List.Sums.{sum_by-cons}
use Rattle.std.proofs.lemmas.List.Elements.{All-from_recursion, recursion_from_All}
use Rattle.mad_widths.specs.ColumnWidths.{needs_of, natural_widths, column_widths, AreShared}
use Rattle.mad_widths.specs.SeenCells.{cell_added, TableHasSeen}
use Rattle.mad_widths.specs.TableFits.{IsFit, IsTableFit}
use Rattle.mad_widths.specs.WordWidths.{least_of, word_widths, IsWordFit, IsTableWordFit}
use Rattle.mad_widths.specs.declared.tbl_fit.TblFit.{TblFit}
use Rattle.mad_widths.specs.declared.tbl_fit.TblFitResult.{TblFitResult}
use Rattle.mad_format.specs.FmtLines.{bordered}
use Rattle.mad_format.specs.LineRules.{around_cell}
use Rattle.mad_blocks.specs.Tables.{rows_among, first_columns, measure_of, measures_in, lengths_in, words_in, widths_by, least_room, most_columns, rule_width, with_blanks, without_blanks, AreWhole, AreKeptWidths, AreSetWidths}
use Rattle.mad_format.specs.declared.composite.FmtComposite.{FmtComposite}
use Rattle.mad_format.specs.declared.line.FmtLine.{FmtLine}
use Rattle.mad_format.specs.declared.line.FmtLine.TheVariants.{Normal, TableRow, TableRule, HorizontalRule}
use Rattle.mad_format.specs.declared.table.FmtTableRow.{FmtTableRow}

-- ---- the cells of one row

-- cells that are seen one after the other, from a column on
abbrev pub cells_seen : Bool → List (List ℕ) → ℕ → List FmtComposite → List (List ℕ)
cells_seen b seen column [] = seen
cells_seen b seen column (cell ∷ cells) = cells_seen b (cell_added seen column (measure_of b cell)) (column + 1) cells

-- the lengths in columns, with those of a row
abbrev row_added : List (List ℕ) → List ℕ → List (List ℕ)
row_added [] ws = []
row_added (c ∷ cs) [] = c ∷ cs
row_added (c ∷ cs) (w ∷ ws) = (c ++ w ∷ []) ∷ row_added cs ws

nothing_added : (cs : List (List ℕ)) → row_added cs [] ≡ cs
nothing_added [] = refl
nothing_added (c ∷ cs) = refl

seen_past : (b : Bool) → (seen : List (List ℕ)) (column : ℕ) (cells : List FmtComposite) → length seen ≤ column → cells_seen b seen column cells ≡ seen
seen_past b seen column [] past = refl
seen_past b seen column (cell ∷ cells) past =
    let same : cell_added seen column (measure_of b cell) ≡ seen = set_past seen column _ past in
    ap (λ s. cells_seen b s (column + 1) cells) same ∙ seen_past b seen (column + 1) cells (omega (arith, past))

get_at_seam : (done : List (List ℕ)) (c : List ℕ) (cs : List (List ℕ)) (d : List ℕ) → get_or (done ++ c ∷ cs) (length done) d ≡ c
get_at_seam [] c cs d = refl
get_at_seam (x ∷ done) c cs d = get_at_seam done c cs d

added_at_seam : (done : List (List ℕ)) (c : List ℕ) (cs : List (List ℕ)) (w : ℕ) → cell_added (done ++ c ∷ cs) (length done) w ≡ (done ++ (c ++ w ∷ []) ∷ []) ++ cs
added_at_seam done c cs w =
    set-append_seam done c cs (get_or (done ++ c ∷ cs) (length done) [] ++ w ∷ []) ∙ ap (λ x. done ++ (x ++ w ∷ []) ∷ cs) (get_at_seam done c cs [])
    ∙ sym (append_assoc done ((c ++ w ∷ []) ∷ []) cs)

row_seen : (b : Bool) → (done seen : List (List ℕ)) (cells : List FmtComposite) → cells_seen b (done ++ seen) (length done) cells ≡ done ++ row_added seen (map (measure_of b) cells)
row_seen b done seen [] = ap (λ s. done ++ s) (sym (nothing_added seen))
row_seen b done [] (cell ∷ cells) =
    let same : done ++ [] ≡ done = append-nil done in
    let past : length (done ++ []) ≤ length done = subst (λ (s : List (List ℕ)). length s ≤ length done) (sym same) (omega arith) in
    seen_past b (done ++ []) (length done) (cell ∷ cells) past
row_seen b done (c ∷ cs) (cell ∷ cells) =
    let w : ℕ = measure_of b cell in
    let one : List (List ℕ) = (c ++ w ∷ []) ∷ [] in
    let longer : length done + 1 ≡ length (done ++ one) = sym (length-append done one) in
    ap (λ s. cells_seen b s (length done + 1) cells) (added_at_seam done c cs w) ∙ ap (λ n. cells_seen b ((done ++ one) ++ cs) n cells) longer
    ∙ row_seen b (done ++ one) cs cells ∙ append_assoc done one (row_added cs (map (measure_of b) cells))

first_more : (rows : List (List ℕ)) (w : ℕ) (ws : List ℕ) → flat_map (take 1) (rows ++ (w ∷ ws) ∷ []) ≡ flat_map (take 1) rows ++ w ∷ []
first_more [] w ws = refl
first_more ([] ∷ rows) w ws = first_more rows w ws
first_more ((x ∷ xs) ∷ rows) w ws = ap (λ (l : List ℕ). x ∷ l) (first_more rows w ws)

first_same : (rows : List (List ℕ)) → flat_map (take 1) (rows ++ [] ∷ []) ≡ flat_map (take 1) rows
first_same [] = refl
first_same ([] ∷ rows) = first_same rows
first_same ((x ∷ xs) ∷ rows) = ap (λ (l : List ℕ). x ∷ l) (first_same rows)

columns_more : (n : ℕ) (rows : List (List ℕ)) (ws : List ℕ) → first_columns n (rows ++ ws ∷ []) ≡ row_added (first_columns n rows) ws
columns_more zero rows ws = refl
columns_more (suc n) rows [] =
    let later : List (List ℕ) = map (drop 1) rows in
    ap (λ c. c ∷ first_columns n (map (drop 1) (rows ++ [] ∷ []))) (first_same rows)
    ∙ ap (λ rs. flat_map (take 1) rows ∷ first_columns n rs) (map-append (drop 1) rows ([] ∷ []))
    ∙ ap (λ cs. flat_map (take 1) rows ∷ cs) (columns_more n later [] ∙ nothing_added (first_columns n later))
columns_more (suc n) rows (w ∷ ws) =
    let first : List ℕ = flat_map (take 1) rows ++ w ∷ [] in
    ap (λ c. c ∷ first_columns n (map (drop 1) (rows ++ (w ∷ ws) ∷ []))) (first_more rows w ws)
    ∙ ap (λ rs. first ∷ first_columns n rs) (map-append (drop 1) rows ((w ∷ ws) ∷ []))
    ∙ ap (λ cs. first ∷ cs) (columns_more n (map (drop 1) rows) ws)

-- a row that is seen cell by cell
pub row_is_seen : (b : Bool) → (n : ℕ) (rows : List (List FmtComposite)) (cells : List FmtComposite) → cells_seen b (measures_in b n rows) 0 cells ≡ measures_in b n (rows ++ cells ∷ [])
row_is_seen b n rows cells =
    row_seen b [] (measures_in b n rows) cells ∙ sym (ap (first_columns n) (map-append (λ xs. map (measure_of b) xs) rows (cells ∷ [])) ∙ columns_more n (map (λ xs. map (measure_of b) xs) rows) (map (measure_of b) cells))

-- the cells of a row so far, with the rest of them, are all
abbrev pub CellsSeen : Bool → TblFit → TblFit → List FmtComposite → ℕ → Type 0
CellsSeen b before fit cells column =
    (width n : ℕ) (rows : List (List FmtComposite)) → TableHasSeen before width (measures_in b n rows)
    → (seen : List (List ℕ)) × TableHasSeen fit width seen × (cells_seen b seen column (drop column cells) ≡ cells_seen b (measures_in b n rows) 0 cells)

-- one more cell of a row is seen
pub seen_more : (b : Bool) → (before fit after : TblFit) (cells : List FmtComposite) (column : ℕ) (cell : FmtComposite) → CellsSeen b before fit cells column → drop column cells ≡ cell ∷ drop (column + 1) cells
    → ((width : ℕ) (seen : List (List ℕ)) → TableHasSeen fit width seen → TableHasSeen after width (cell_added seen column (measure_of b cell))) → CellsSeen b before after cells (column + 1)
seen_more b before fit after cells column cell held next sees width n rows start =
    let so_far = held width n rows start in (
      cell_added so_far.0 column (measure_of b cell),
      sees width so_far.0 so_far.1,
      sym (ap (cells_seen b so_far.0 column) next) ∙ so_far.2,
    )

-- where no cell is left, the row is seen
pub seen_all : (b : Bool) → (before fit : TblFit) (cells : List FmtComposite) (column : ℕ) → CellsSeen b before fit cells column → drop column cells ≡ []
    → (width n : ℕ) (rows : List (List FmtComposite)) → TableHasSeen before width (measures_in b n rows) → TableHasSeen fit width (measures_in b n (rows ++ cells ∷ []))
seen_all b before fit cells column held none width n rows start =
    let so_far = held width n rows start in
    let same : so_far.0 ≡ measures_in b n (rows ++ cells ∷ []) = sym (ap (cells_seen b so_far.0 column) none) ∙ so_far.2 ∙ row_is_seen b n rows cells in
    subst (TableHasSeen fit width) same so_far.1

-- ---- the rows of a table

-- the rows so far, with the rest of them, are all
abbrev pub RowsSeen : Bool → TblFit → TblFit → List FmtLine → ℕ → Type 0
RowsSeen b before fit table i =
    (width n : ℕ) (rows : List (List FmtComposite)) → TableHasSeen before width (measures_in b n rows)
    → (seen : List (List FmtComposite)) × TableHasSeen fit width (measures_in b n seen) × (seen ++ rows_among (drop i table) ≡ rows ++ rows_among table)

-- no row of a table is seen yet
pub rows_seen_start : (b : Bool) → (before : TblFit) (table : List FmtLine) → RowsSeen b before before table 0
rows_seen_start b before table width n rows start = (rows, start, refl)

-- one more row is seen
pub rows_seen_more : (b : Bool) → (before fit after : TblFit) (table : List FmtLine) (i : ℕ) (row : FmtTableRow) → RowsSeen b before fit table i → drop i table ≡ TableRow row ∷ drop (i + 1) table
    → ((width n : ℕ) (rows : List (List FmtComposite)) → TableHasSeen fit width (measures_in b n rows) → TableHasSeen after width (measures_in b n (rows ++ row.cells.items ∷ []))) → RowsSeen b before after table (i + 1)
rows_seen_more b before fit after table i row held next sees width n rows start =
    let so_far = held width n rows start in (
      so_far.0 ++ row.cells.items ∷ [],
      sees width n so_far.0 so_far.1,
      append_assoc so_far.0 (row.cells.items ∷ []) (rows_among (drop (i + 1) table)) ∙ ap (λ ls. so_far.0 ++ rows_among ls) (sym next) ∙ so_far.2,
    )

no_row : (l : FmtLine) (ls : List FmtLine) → ((row : FmtTableRow) → l ≡ TableRow row → ⊥) → rows_among (l ∷ ls) ≡ rows_among ls
no_row (TableRow row) ls h = absurd (h row refl)
no_row _ ls h = refl

-- a line that is no row is passed
pub rows_seen_other : (b : Bool) → (before fit : TblFit) (table : List FmtLine) (i : ℕ) (l : FmtLine) → RowsSeen b before fit table i → drop i table ≡ l ∷ drop (i + 1) table → ((row : FmtTableRow) → l ≡ TableRow row → ⊥)
    → RowsSeen b before fit table (i + 1)
rows_seen_other b before fit table i l held next other width n rows start =
    let so_far = held width n rows start in
    (so_far.0, so_far.1, ap (λ rs. so_far.0 ++ rs) (sym (ap rows_among next ∙ no_row l (drop (i + 1) table) other)) ∙ so_far.2)

-- where no line is left, all rows are seen
pub rows_seen_all : (b : Bool) → (before fit : TblFit) (table : List FmtLine) (i : ℕ) → RowsSeen b before fit table i → drop i table ≡ []
    → (width n : ℕ) (rows : List (List FmtComposite)) → TableHasSeen before width (measures_in b n rows) → TableHasSeen fit width (measures_in b n (rows ++ rows_among table))
rows_seen_all b before fit table i held none width n rows start =
    let so_far = held width n rows start in
    let same : so_far.0 ≡ rows ++ rows_among table = sym (append-nil so_far.0) ∙ ap (λ ls. so_far.0 ++ rows_among ls) (sym none) ∙ so_far.2 in
    subst (λ (rs : List (List FmtComposite)). TableHasSeen fit width (measures_in b n rs)) same so_far.1

-- before the first row no column has a cell
pub lengths_start : (b : Bool) → (n : ℕ) → replicate {A = List ℕ} n [] ≡ measures_in b n []
lengths_start b zero = refl
lengths_start b (suc n) = ap (λ ls. [] ∷ ls) (lengths_start b n)

-- ---- the kept widths

column_count : (n : ℕ) (rows : List (List ℕ)) → length (first_columns n rows) ≡ n
column_count zero rows = refl
column_count (suc n) rows = ap suc (column_count n (map (drop 1) rows))

first-le : (rows : List (List ℕ)) → length (flat_map (take 1) rows) ≤ length rows
first-le [] = omega arith
first-le ([] ∷ rows) = omega (arith, first-le rows)
first-le ((x ∷ xs) ∷ rows) = omega (arith, first-le rows)

few_each : (n : ℕ) (rows : List (List ℕ)) → length rows < 2 ^ 64 → AllByRecursion (λ (c : List ℕ). length c < 2 ^ 64) (first_columns n rows)
few_each zero rows few = tt
few_each (suc n) rows few = (omega (arith, few, first-le rows), few_each n (map (drop 1) rows) (omega (arith, few, length-map rows (drop 1))))

rows-le : (ls : List FmtLine) → length (rows_among ls) ≤ length ls
rows-le [] = omega arith
rows-le (Normal l ∷ ls) = omega (arith, rows-le ls)
rows-le (TableRow row ∷ ls) = omega (arith, rows-le ls)
rows-le (TableRule rule ∷ ls) = omega (arith, rows-le ls)
rows-le (HorizontalRule ∷ ls) = omega (arith, rows-le ls)

bordered_is : (ws : List ℕ) → bordered ws ≡ sum ws + length ws
bordered_is [] = refl
bordered_is (w ∷ ws) =
    let rest : bordered ws ≡ sum ws + length ws = bordered_is ws in
    let first : sum (w ∷ ws) ≡ w + sum ws = sum_by-cons (λ (x : ℕ). x) w ws in
    omega (arith, rest, first)

bordered_threes : (k : ℕ) → bordered (replicate k 3) ≡ 4 * k
bordered_threes zero = refl
bordered_threes (suc k) = let rest : bordered (replicate k 3) ≡ 4 * k = bordered_threes k in omega (arith, rest)

all_threes : (k : ℕ) → AllByRecursion (λ (w : ℕ). 3 ≤ w) (replicate k 3)
all_threes zero = tt
all_threes (suc k) = (omega arith, all_threes k)

-- the widths that a table keeps, by what all column widths are
kept_of : (b : Bool) (n width : ℕ) (table : List FmtLine) (ws : List ℕ) (reduced : Bool) → 4 * n + 1 ≤ width → length ws ≡ n → All (λ w. 3 ≤ w) ws → sum ws + n + 1 ≤ width
    → ws ≡ widths_by b (width - 1 - n) (lengths_in n (rows_among table)) (words_in n (rows_among table)) → AreShared (width - 1 - n) (natural_widths (map needs_of (lengths_in n (rows_among table)))) reduced ws
    → (b ≡ true → AreWhole (width - 1 - n) (lengths_in n (rows_among table)) (words_in n (rows_among table)) ws) → AreKeptWidths b n width table ws
kept_of b n width table ws reduced wide count least within are shared whole =
    let borders : bordered ws ≡ sum ws + length ws = bordered_is ws in
    record {
      least = recursion_from_All (λ w. 3 ≤ w) ws least;
      fit = omega (arith, borders, count, within);
      kept = λ _. count;
      are = λ _. are;
      shared = λ _. (reduced, shared);
      whole = λ on _. whole on;
      narrow = λ less. absurd (omega (arith, wide, less));
    }

-- the columns of a table have few cells each
few_cells : (b : Bool) (n : ℕ) (table : List FmtLine) → length table < 2 ^ 64 → All (λ (c : List ℕ). length c < 2 ^ 64) (measures_in b n (rows_among table))
few_cells b n table few =
    let rows : List (List ℕ) = map (λ cells. map (measure_of b) cells) (rows_among table) in
    All-from_recursion (λ c. length c < 2 ^ 64) (first_columns n rows) (few_each n rows (omega (arith, few, rows-le table, length-map (rows_among table) (λ cells. map (measure_of b) cells))))

-- fitted widths are those that a table keeps
pub kept_fitted : (n width : ℕ) (table : List FmtLine) (fitted : TblFitResult) → 4 * n + 1 ≤ width → length table < 2 ^ 64 → IsTableFit width (lengths_in n (rows_among table)) fitted
    → AreKeptWidths false n width table fitted.col_widths.items
kept_fitted n width table fitted wide few fit =
    let cells : List (List ℕ) = lengths_in n (rows_among table) in
    let ws : List ℕ = fitted.col_widths.items in
    let count : length cells ≡ n = column_count n _ in
    let each : IsFit (width - 1 - length cells) (map needs_of cells) fitted = fit.exact (few_cells false n table few) in
    let same_count : length ws ≡ length cells = fit.count in
    let within : sum ws + length cells + 1 ≤ width = fit.within in
    kept_of false n width table ws fitted.reduced wide (same_count ∙ count) fit.least (omega (arith, count, within)) (each.widths ∙ ap (λ k. column_widths (width - 1 - k) (map needs_of cells)) count)
    (subst (λ (k : ℕ). AreShared (width - 1 - k) (natural_widths (map needs_of cells)) fitted.reduced ws) count fit.shared) (λ on. absurd (false≢true on))

-- so are those that are fitted with regard to words
pub kept_whole : (n width : ℕ) (table : List FmtLine) (fitted : TblFitResult) → 4 * n + 1 ≤ width → length table < 2 ^ 64 → IsTableWordFit width (lengths_in n (rows_among table)) (words_in n (rows_among table)) fitted
    → AreKeptWidths true n width table fitted.col_widths.items
kept_whole n width table fitted wide few fit =
    let cells : List (List ℕ) = lengths_in n (rows_among table) in
    let words : List (List ℕ) = words_in n (rows_among table) in
    let ws : List ℕ = fitted.col_widths.items in
    let count : length cells ≡ n = column_count n _ in
    let each : IsWordFit (width - 1 - length cells) (map needs_of cells) (least_of cells words) fitted = fit.exact (few_cells false n table few) in
    let same_count : length ws ≡ length cells = fit.count in
    let within : sum ws + length cells + 1 ≤ width = fit.within in
    kept_of true n width table ws fitted.reduced wide (same_count ∙ count) fit.least (omega (arith, count, within)) (each.widths ∙ ap (λ k. word_widths (width - 1 - k) (map needs_of cells) (least_of cells words)) count)
    (subst (λ (k : ℕ). AreShared (width - 1 - k) (natural_widths (map needs_of cells)) fitted.reduced ws) count fit.shared)
    (λ _. subst (λ (k : ℕ). AreWhole (width - 1 - k) cells words ws) count fit.whole)

-- ---- with blanks beside cells

-- each column takes two more for its blanks
bordered_blanked : (ws : List ℕ) → bordered (with_blanks true ws) ≡ bordered ws + 2 * length ws
bordered_blanked [] = refl
bordered_blanked (w ∷ ws) = let rest : bordered (with_blanks true ws) ≡ bordered ws + 2 * length ws = bordered_blanked ws in omega (arith, rest)

blanked_threes : (k : ℕ) → bordered (with_blanks true (replicate k 3)) ≡ 6 * k
blanked_threes zero = refl
blanked_threes (suc k) = let rest : bordered (with_blanks true (replicate k 3)) ≡ 6 * k = blanked_threes k in omega (arith, rest)

-- rules across columns that fit are as wide as these with their blanks
pub rule_widths : (b : Bool) (ws : List ℕ) → bordered (with_blanks b ws) < 2 ^ 64 → map (rule_width b) ws ≡ with_blanks b ws
rule_widths true [] fit = refl
rule_widths true (w ∷ ws) fit =
    let inside : w + 2 + 1 + bordered (with_blanks true ws) < 2 ^ 64 = fit in
    let one : rule_width true w ≡ w + 2 = omega (arith, inside) in
    ap (λ (v : ℕ). v ∷ map (rule_width true) ws) one ∙ ap (λ (vs : List ℕ). (w + 2) ∷ vs) (rule_widths true ws (omega (arith, inside)))
rule_widths false [] fit = refl
rule_widths false (w ∷ ws) fit = ap (λ (vs : List ℕ). w ∷ vs) (rule_widths false ws (omega (arith, fit)))

-- no columns take none
pub blanked_none : (b : Bool) → bordered (with_blanks b []) ≡ 0
blanked_none true = refl
blanked_none false = refl

-- the first column takes its width, its blanks and a border
pub blanked_first : (b : Bool) (w : ℕ) (ws : List ℕ) → bordered (with_blanks b (w ∷ ws)) ≡ w + around_cell b + 1 + bordered (with_blanks b ws)
blanked_first true w ws = omega arith
blanked_first false w ws = omega arith

-- with blanks columns take as much as without or more
pub blanked_least : (b : Bool) (ws : List ℕ) → bordered ws ≤ bordered (with_blanks b ws)
blanked_least true ws = omega (arith, bordered_blanked ws)
blanked_least false ws = omega arith

-- columns with their blanks are as many
pub blanks_count : (b : Bool) (ws : List ℕ) → length (with_blanks b ws) ≡ length ws
blanks_count true ws = length-map ws (λ w. w + 2)
blanks_count false ws = refl

-- where columns have room with their blanks, what is left beside these has room for three of each
pub room_left : (b : Bool) (n width : ℕ) → least_room b n ≤ width → 4 * n + 1 ≤ without_blanks b n width
room_left true n width room = omega (arith, room)
room_left false n width room = room

-- where columns have room, fewer have it too
pub least_more : (b : Bool) (m n width : ℕ) → m ≤ n → least_room b n ≤ width → least_room b m ≤ width
least_more true m n width fewer room = omega (arith, fewer, room)
least_more false m n width fewer room = omega (arith, fewer, room)

-- no columns take one border
pub least_none : (b : Bool) → least_room b 0 ≡ 1
least_none true = refl
least_none false = refl

-- so it has where they are as many as have room
pub room_beside : (b : Bool) (n width : ℕ) → 0 < width → n ≤ most_columns b width → 4 * n + 1 ≤ without_blanks b n width
room_beside true n width some few = omega (arith, some, few)
room_beside false n width some few = omega (arith, some, few)

-- the widths that a table keeps beside its blanks are those that it has
pub set_wide : (w b : Bool) (n width : ℕ) (table : List FmtLine) (ws : List ℕ) → 0 < width → n ≤ most_columns b width → AreKeptWidths w n (without_blanks b n width) table ws → AreSetWidths w b n width table ws
set_wide w true n width table ws some few kept =
    let room : 6 * n + 1 ≤ width = omega (arith, some, few) in
    let inside : bordered ws + 1 ≤ width - 2 * n = kept.fit in
    let count : length ws ≡ n = kept.kept (omega (arith, room)) in
    let borders : bordered (with_blanks true ws) ≡ bordered ws + 2 * length ws = bordered_blanked ws in
    record {
      least = kept.least;
      fit = omega (arith, inside, count, borders, room);
      wide = λ _. kept;
      narrow = λ less. absurd (omega (arith, room, less));
    }
set_wide w false n width table ws some few kept =
    let room : 4 * n + 1 ≤ width = omega (arith, some, few) in
    record {
      least = kept.least;
      fit = kept.fit;
      wide = λ _. kept;
      narrow = λ less. absurd (omega (arith, room, less));
    }

-- where not all columns have room, those that have get three columns each
pub set_narrow : (w b : Bool) (n width : ℕ) (table : List FmtLine) (ws : List ℕ) → 0 < width → most_columns b width < n → ws ≡ replicate (most_columns b width) 3 → AreSetWidths w b n width table ws
set_narrow w true n width table ws some few is =
    let k : ℕ = (width - 1) / 6 in
    let borders : bordered (with_blanks true (replicate k 3)) ≡ 6 * k = blanked_threes k in
    subst (AreSetWidths w true n width table) (sym is) (record {
      least = all_threes k;
      fit = omega (arith, borders, some);
      wide = λ wide. absurd (omega (arith, few, wide, some));
      narrow = λ less. refl;
    })
set_narrow w false n width table ws some few is =
    let k : ℕ = (width - 1) / 4 in
    let borders : bordered (replicate k 3) ≡ 4 * k = bordered_threes k in
    subst (AreSetWidths w false n width table) (sym is) (record {
      least = all_threes k;
      fit = omega (arith, borders, some);
      wide = λ wide. absurd (omega (arith, few, wide, some));
      narrow = λ less. refl;
    })

-- so it is where a call answers these widths
pub ok_narrow : {E : Type 0} (r : Result (Vec ℕ) E) (w b : Bool) (n width : ℕ) (table : List FmtLine) → 0 < width → most_columns b width < n → IfOk r (λ ws. ws.items ≡ replicate (most_columns b width) 3) → IfOk r (λ ws. AreSetWidths w b n width table ws.items)
ok_narrow {E} (Ok ws) w b n width table some few is = set_narrow w b n width table ws.items some few is
ok_narrow {E} (Err e) w b n width table some few is = tt

-- and where it answers those that are kept beside the blanks
pub ok_wide : {E : Type 0} (r : Result (Vec ℕ) E) (w b : Bool) (n width : ℕ) (table : List FmtLine) → 0 < width → n ≤ most_columns b width → IfOk r (λ ws. AreKeptWidths w n (without_blanks b n width) table ws.items)
    → IfOk r (λ ws. AreSetWidths w b n width table ws.items)
ok_wide {E} (Ok ws) w b n width table some few kept = set_wide w b n width table ws.items some few kept
ok_wide {E} (Err e) w b n width table some few kept = tt
