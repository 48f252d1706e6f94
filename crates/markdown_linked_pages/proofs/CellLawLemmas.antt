-- The marks of links down the columns of tables.
use Rattle.std.proofs.Common.{◌≡◌, ℕ, zero, suc, ◌+◌, ◌-◌, ◌<◌, ◌≤◌, Bool, true, false, cond, List, [], ◌∷◌, ◌++◌, map, length, drop, get_or, filter, refl, sym, ap, ◌∙◌, arith, append_assoc, append-nil, length-append}
use Rattle.std.specs.Prelude.{nat_lt, slice_index_or}
use Rattle.std.specs.List.{flat_map}
use Rattle.std.proofs.lemmas.Bool.Decides.{nat_tests}
use Rattle.std.proofs.lemmas.List.{drop_all, get_or_past}
use Rattle.mad_md.specs.Flagged.{FlaggedChar, flagged_text}
use Rattle.mad_format.specs.declared.composite.FmtComposite.{FmtComposite}
use Rattle.mad_format.specs.declared.line.FmtLine.{FmtLine}
use Rattle.mad_format.specs.declared.line.FmtLine.TheVariants.{Normal, TableRow, TableRule, HorizontalRule}
use Rattle.mad_mark_runs.specs.Marks.{value_at}
use Rattle.mad_mark_runs.specs.declared.mark_runs.MarkRun.{MarkRun}
use Rattle.mad_marks.specs.LineMarks.{counted_in, has_mark}
use Rattle.mad_marks.specs.RowMarks.{MarkedChar, counted_marked, marked, numbered}
use Rattle.mad_marks.specs.RowNumbers.{count_in}
use Rattle.mad_marks.proofs.MarkLemmas.{are_numbered}
use Rattle.mad_pages.specs.PageRows.{RowContent}
use Rattle.markdown_linked_pages.specs.CellMarks.{columns_below, first_values, left_by, own_row, row_values, single_runs, with_cell_marks}
use Rattle.markdown_linked_pages.specs.CellLaws.{CellsHaveTheirMarks, cells_marked, column_counted, column_marked, given, row_cells, table_cells}

-- ---- single runs

-- a character of a number has the mark at that place
single_at : (n : ℕ) (values : List ℕ) (k : ℕ) → value_at (single_runs n values) (n + k) ≡ slice_index_or values k 0
single_at n [] k = refl
single_at n (v ∷ vs) zero = by_test (nat_lt (n + zero) (n + 1)) refl
  where
    by_test : (t : Bool) → nat_lt (n + zero) (n + 1) ≡ t → cond t v (value_at (single_runs (n + 1) vs) (n + zero)) ≡ v
    by_test true is = refl
    by_test false is = absurd (grind (arith, nat_tests, is))
single_at n (v ∷ vs) (suc k) = by_test (nat_lt (n + suc k) (n + 1)) refl (ap (value_at (single_runs (n + 1) vs)) (omega arith) ∙ single_at (n + 1) vs k)
  where
    by_test : (t : Bool) → nat_lt (n + suc k) (n + 1) ≡ t → value_at (single_runs (n + 1) vs) (n + suc k) ≡ slice_index_or vs k 0 → cond t v (value_at (single_runs (n + 1) vs) (n + suc k)) ≡ slice_index_or vs k 0
    by_test true is more = absurd (grind (arith, nat_tests, is))
    by_test false is more = more

-- ---- a cell

-- runs give the characters from this number on these marks, and none past the last
abbrev Say : List MarkRun → ℕ → List ℕ → Type 0
Say runs n values = (k : ℕ) → value_at runs (n + k) ≡ slice_index_or values k 0

single_say : (values : List ℕ) → Say (single_runs 0 values) 0 values
single_say values k = single_at 0 values k

-- so they do behind some of these
say_behind : (runs : List MarkRun) (n count : ℕ) (column values : List ℕ) → Say runs n (first_values count column ++ values) → Say runs (n + count) values
say_behind runs n count column values say k =
    ap (value_at runs) (omega arith) ∙ say (count + k) ∙ behind_first count column k
  where
    behind_first : (count : ℕ) (column : List ℕ) (k : ℕ) → slice_index_or (first_values count column ++ values) (count + k) 0 ≡ slice_index_or values k 0
    behind_first zero column k = let none : zero + k ≡ k = omega arith in ap (λ (j : ℕ). slice_index_or values j 0) none
    behind_first (suc count) [] k = let one : suc count + k ≡ suc (count + k) = omega arith in ap (λ (j : ℕ). slice_index_or (0 ∷ (first_values count [] ++ values)) j 0) one ∙ behind_first count [] k
    behind_first (suc count) (v ∷ vs) k = let one : suc count + k ≡ suc (count + k) = omega arith in ap (λ (j : ℕ). slice_index_or (v ∷ (first_values count vs ++ values)) j 0) one ∙ behind_first count vs k

-- where none are said, none are behind
none_behind : (runs : List MarkRun) (n count : ℕ) → Say runs n [] → Say runs (n + count) []
none_behind runs n count say k = ap (value_at runs) (omega arith) ∙ say (count + k) ∙ get_or_past [] (count + k) 0 (omega arith) ∙ sym (get_or_past [] k 0 (omega arith))

-- characters with the marks that runs say, where these begin with those of a column
say_given : (runs : List MarkRun) (n : ℕ) (column values : List ℕ) (cs : List FlaggedChar) → Say runs n (first_values (length cs) column ++ values) → numbered runs n cs ≡ given column cs
say_given runs n column values [] say = refl
say_given runs n [] values (c ∷ cs) say =
    ap (λ (v : ℕ). record { value = v; char = c } ∷ numbered runs (n + 1) cs) (ap (value_at runs) (omega arith) ∙ say 0)
    ∙ ap (λ (l : List MarkedChar). record { value = 0; char = c } ∷ l) (say_given runs (n + 1) [] values cs (λ k. ap (value_at runs) (omega arith) ∙ say (suc k)))
say_given runs n (v ∷ vs) values (c ∷ cs) say =
    ap (λ (x : ℕ). record { value = x; char = c } ∷ numbered runs (n + 1) cs) (ap (value_at runs) (omega arith) ∙ say 0)
    ∙ ap (λ (l : List MarkedChar). record { value = v; char = c } ∷ l) (say_given runs (n + 1) vs values cs (λ k. ap (value_at runs) (omega arith) ∙ say (suc k)))

-- without marks
say_none : (runs : List MarkRun) (n : ℕ) (cs : List FlaggedChar) → Say runs n [] → numbered runs n cs ≡ given [] cs
say_none runs n [] say = refl
say_none runs n (c ∷ cs) say =
    ap (λ (v : ℕ). record { value = v; char = c } ∷ numbered runs (n + 1) cs) (ap (value_at runs) (omega arith) ∙ say 0)
    ∙ ap (λ (l : List MarkedChar). record { value = 0; char = c } ∷ l) (say_none runs (n + 1) cs (none_behind runs n 1 say))

cell_numbered : (runs : List MarkRun) (n : ℕ) (c : FmtComposite) → counted_marked (has_mark c.kind) (marked (has_mark c.kind) runs n (flagged_text c.compounds.items)) ≡ numbered runs n (counted_in has_mark c)
cell_numbered runs n c = are_numbered (has_mark c.kind) runs n (flagged_text c.compounds.items)

-- ---- a row

-- the cells of a row past the last column
cells_none : (runs : List MarkRun) (n : ℕ) (cells : List FmtComposite) (column : ℕ) → Say runs n [] → slice_index_or (cells_marked runs n cells) column [] ≡ given [] (slice_index_or (map (counted_in has_mark) cells) column [])
cells_none runs n [] zero say = refl
cells_none runs n [] (suc column) say = refl
cells_none runs n (c ∷ cs) zero say = cell_numbered runs n c ∙ say_none runs n (counted_in has_mark c) say
cells_none runs n (c ∷ cs) (suc column) say = cells_none runs (n + count_in has_mark c) cs column (none_behind runs n (count_in has_mark c) say)

-- a cell of a row has the first marks of its column
cells_given : (runs : List MarkRun) (n : ℕ) (columns : List (List ℕ)) (cells : List FmtComposite) (column : ℕ) → Say runs n (row_values columns cells)
    → slice_index_or (cells_marked runs n cells) column [] ≡ given (slice_index_or columns column []) (slice_index_or (map (counted_in has_mark) cells) column [])
cells_given runs n [] cells zero say = cells_none runs n cells zero say
cells_given runs n [] cells (suc column) say = cells_none runs n cells (suc column) say
cells_given runs n (v ∷ vs) [] zero say = refl
cells_given runs n (v ∷ vs) [] (suc column) say = refl
cells_given runs n (v ∷ vs) (c ∷ cs) zero say = cell_numbered runs n c ∙ say_given runs n v (row_values vs cs) (counted_in has_mark c) say
cells_given runs n (v ∷ vs) (c ∷ cs) (suc column) say = cells_given runs (n + count_in has_mark c) vs cs column (say_behind runs n (count_in has_mark c) v (row_values vs cs) say)

-- what it leaves of the column
column_left : (columns : List (List ℕ)) (cells : List FmtComposite) (column : ℕ) → slice_index_or (columns_below columns cells) column [] ≡ drop (length (slice_index_or (map (counted_in has_mark) cells) column [])) (slice_index_or columns column [])
column_left [] [] zero = refl
column_left [] [] (suc column) = refl
column_left [] (c ∷ cs) zero = sym (drop_all (count_in has_mark c) [] (omega arith))
column_left [] (c ∷ cs) (suc column) = column_left [] cs column
column_left (v ∷ vs) [] zero = refl
column_left (v ∷ vs) [] (suc column) = refl
column_left (v ∷ vs) (c ∷ cs) zero = refl
column_left (v ∷ vs) (c ∷ cs) (suc column) = column_left vs cs column

-- ---- rows

given_joined : (values : List ℕ) (cs ds : List FlaggedChar) → given values (cs ++ ds) ≡ given values cs ++ given (drop (length cs) values) ds
given_joined values [] ds = refl
given_joined [] (c ∷ cs) ds = ap (λ (l : List MarkedChar). record { value = 0; char = c } ∷ l) (given_joined [] cs ds ∙ ap (λ (l : List ℕ). given [] cs ++ given l ds) (drop_all (length cs) [] (omega arith)))
given_joined (v ∷ vs) (c ∷ cs) ds = ap (λ (l : List MarkedChar). record { value = v; char = c } ∷ l) (given_joined vs cs ds)

record IsRowGiven (columns : List (List ℕ)) (row : RowContent) (line : FmtLine) (column : ℕ) : Type 0 where
  marks : slice_index_or (cells_marked (own_row columns row line).marks (own_row columns row line).number (table_cells line)) column [] ≡ given (slice_index_or columns column []) (slice_index_or (map (counted_in has_mark) (table_cells line)) column [])
  left : slice_index_or (left_by columns line) column [] ≡ drop (length (slice_index_or (map (counted_in has_mark) (table_cells line)) column [])) (slice_index_or columns column [])

-- a row keeps its line
row_marked : (columns : List (List ℕ)) (row : RowContent) (line : FmtLine) (column : ℕ) (rest : List MarkedChar) → row.line ≡ line
    → slice_index_or (row_cells (own_row columns row line)) column [] ++ rest ≡ slice_index_or (cells_marked (own_row columns row line).marks (own_row columns row line).number (table_cells line)) column [] ++ rest
row_marked columns row (Normal l) column rest is = ap (λ (x : FmtLine). slice_index_or (cells_marked row.marks row.number (table_cells x)) column [] ++ rest) is
row_marked columns row (TableRow table) column rest is = ap (λ (x : FmtLine). slice_index_or (cells_marked (single_runs 0 (row_values columns table.cells.items)) 0 (table_cells x)) column [] ++ rest) is
row_marked columns row (TableRule rule) column rest is = ap (λ (x : FmtLine). slice_index_or (cells_marked row.marks row.number (table_cells x)) column [] ++ rest) is
row_marked columns row HorizontalRule column rest is = ap (λ (x : FmtLine). slice_index_or (cells_marked row.marks row.number (table_cells x)) column [] ++ rest) is

row_given : (columns : List (List ℕ)) (row : RowContent) (line : FmtLine) (column : ℕ) → IsRowGiven columns row line column
row_given columns row (TableRow table) column =
    record {
      marks = cells_given (single_runs 0 (row_values columns table.cells.items)) 0 columns table.cells.items column (single_say (row_values columns table.cells.items));
      left = column_left columns table.cells.items column;
    }
row_given columns row (Normal l) column = record { marks = refl; left = refl }
row_given columns row (TableRule rule) column = record { marks = refl; left = refl }
row_given columns row HorizontalRule column = record { marks = refl; left = refl }

-- THE LAW
pub cells_have_marks : CellsHaveTheirMarks
cells_have_marks columns [] column = refl
cells_have_marks columns (row ∷ rows) column =
    let cs : List FlaggedChar = slice_index_or (map (counted_in has_mark) (table_cells row.line)) column [] in
    let column_values : List ℕ = slice_index_or columns column [] in
    let here = row_given columns row row.line column in
    let rest : column_marked column (with_cell_marks (left_by columns row.line) rows) ≡ given (drop (length cs) column_values) (column_counted column rows) =
    cells_have_marks (left_by columns row.line) rows column ∙ ap (λ (l : List ℕ). given l (column_counted column rows)) here.left in
    row_marked columns row row.line column (column_marked column (with_cell_marks (left_by columns row.line) rows)) refl
    ∙ ap (λ (l : List MarkedChar). l ++ column_marked column (with_cell_marks (left_by columns row.line) rows)) here.marks
    ∙ ap (λ (l : List MarkedChar). given column_values cs ++ l) rest ∙ sym (given_joined column_values cs (column_counted column rows))
