-- The marks of columns, cell by cell.
use Rattle.std.proofs.Common.{◌≡◌, ℕ, zero, suc, ◌+◌, ◌-◌, ◌<◌, ◌≤◌, Bool, true, false, cond, List, [], ◌∷◌, ◌++◌, map, length, take, drop, set, get_or, filter, chars, refl, sym, ap, ◌∙◌, arith, append_assoc, append-nil, length-append}
use Rattle.std.specs.Prelude.{nat_lt, slice_index_or, Result, Ok, Err, OnOk}
use Rattle.std.specs.List.{flat_map}
use Rattle.std.proofs.lemmas.Bool.Decides.{nat_tests}
use Rattle.std.proofs.lemmas.List.{at_drop_more, drop_all, map-set}
use Rattle.std.specs.Global.{Vec}
use Rattle.mad_mark_runs.specs.Marks.{value_at}
use Rattle.mad_mark_runs.specs.declared.mark_runs.MarkRun.{MarkRun}
use Rattle.mad_marks.specs.LineMarks.{has_mark, said_counted}
use Rattle.mad_marked_rows.specs.MarkedTexts.{SameFrom}
use Rattle.mad_md.specs.Flagged.{Run, flagged, flagged_of, flagged_text, run_of}
use Rattle.mad_md.specs.Lines.{LineContent, StyledRuns, normal, table_row, table_rule, horizontal_rule, content_of, styled_runs}
use Rattle.mad_md.specs.declared.composite.Composite.{Composite}
use Rattle.mad_md.specs.declared.compound.Compound.{Compound}
use Rattle.mad_md.specs.declared.line.Line.{Line}
use Rattle.mad_sections.specs.Sections.{SectionContent}
use Rattle.markdown_linked_pages.specs.LinkedPageRows.{lead}
use Rattle.mad_marks.specs.RowMarks.{counted}
use Rattle.mad_style.specs.Kinds.{kind_of}
use Rattle.mad_style.specs.declared.kinds.CompositeKind.{CompositeKind}
use Rattle.markdown_linked_pages.specs.CellMarks.{cells_values, column_marks, columns_values, counted_said, line_past, line_values, number_past, on_top, values_at}
use Rattle.markdown_linked_pages.specs.ColumnsKept.{column_values, with_cell}

-- ---- runs that say the same from here on

values_same : (runs here : List MarkRun) (n count : ℕ) → SameFrom runs here n → values_at here n count ≡ values_at runs n count
values_same runs here n zero same = refl
values_same runs here n (suc count) same =
    ap (λ (v : ℕ). v ∷ values_at here (n + 1) count) (same n (omega arith)) ∙ ap (λ (l : List ℕ). value_at runs n ∷ l) (values_same runs here (n + 1) count (λ k le. same k (omega (arith, le))))

cells_same : (runs here : List MarkRun) (n : ℕ) (cells : List StyledRuns) → SameFrom runs here n → cells_values here n cells ≡ cells_values runs n cells
cells_same runs here n [] same = refl
cells_same runs here n (cell ∷ cells) same =
    ap (λ (l : List ℕ). l ∷ cells_values here (n + counted_said cell) cells) (values_same runs here n (counted_said cell) same)
    ∙ ap (λ (l : List (List ℕ)). values_at runs n (counted_said cell) ∷ l) (cells_same runs here (n + counted_said cell) cells (λ k le. same k (omega (arith, le))))

line_same : (runs here : List MarkRun) (n : ℕ) (line : LineContent) → SameFrom runs here n → line_values here n line ≡ line_values runs n line
line_same runs here n (normal said) same = refl
line_same runs here n (table_row cells) same = cells_same runs here n cells same
line_same runs here n (table_rule aligns) same = refl
line_same runs here n horizontal_rule same = refl

-- ---- numbers go up

cells_up : (n : ℕ) (cells : List StyledRuns) → n ≤ number_past n cells
cells_up n [] = omega arith
cells_up n (cell ∷ cells) = omega (arith, cells_up (n + counted_said cell) cells)

-- behind a line no fewer characters are passed
pub line_up : (n : ℕ) (line : LineContent) → n ≤ line_past n line
line_up n (normal said) = omega arith
line_up n (table_row cells) = cells_up n cells
line_up n (table_rule aligns) = omega arith
line_up n horizontal_rule = omega arith

-- ---- a cell

-- the mark of a character more
pub values_on : (runs here : List MarkRun) (done now all : List ℕ) (n m v left next : ℕ) → 0 < left → next ≡ left - 1 → SameFrom runs here n → v ≡ value_at here n → m ≡ n + 1 → now ≡ done ++ v ∷ [] → done ++ values_at runs n left ≡ all → now ++ values_at runs m next ≡ all
values_on runs here done now all n m v zero next some next_is same v_is m_is now_is before = absurd (omega (arith, some))
values_on runs here done now all n m v (suc left) next some next_is same v_is m_is now_is before =
    let fewer : next ≡ left = omega (arith, next_is) in
    ap (λ (l : List ℕ). l ++ values_at runs m next) now_is ∙ append_assoc done (v ∷ []) (values_at runs m next)
    ∙ ap (λ (k : ℕ). done ++ (v ∷ values_at runs k next)) m_is ∙ ap (λ (k : ℕ). done ++ (v ∷ values_at runs (n + 1) k)) fewer
    ∙ ap (λ (k : ℕ). done ++ (k ∷ values_at runs (n + 1) left)) (v_is ∙ same n (omega arith)) ∙ before

-- no character is left
pub values_done : (runs : List MarkRun) (now all : List ℕ) (n left : ℕ) → left ≤ 0 → now ++ values_at runs n left ≡ all → now ≡ all
values_done runs now all n zero h before = sym (append-nil now) ∙ before
values_done runs now all n (suc left) h before = absurd (omega (arith, h))

-- ---- columns

-- nothing is below
pub on_nothing : (columns : List (List ℕ)) → on_top columns [] ≡ columns
on_nothing [] = refl
on_nothing (c ∷ cs) = refl

on_top_joined : (a b c : List (List ℕ)) → on_top (on_top a b) c ≡ on_top a (on_top b c)
on_top_joined [] b c = refl
on_top_joined (x ∷ xs) [] c = refl
on_top_joined (x ∷ xs) (y ∷ ys) [] = refl
on_top_joined (x ∷ xs) (y ∷ ys) (z ∷ zs) =
    ap (λ (l : List ℕ). l ∷ on_top (on_top xs ys) zs) (append_assoc x y z) ∙ ap (λ (l : List (List ℕ)). (x ++ (y ++ z)) ∷ l) (on_top_joined xs ys zs)

below_last : (cs vs : List (List ℕ)) (v : List ℕ) → length vs < length (on_top cs vs) → set (on_top cs vs) (length vs) (slice_index_or (on_top cs vs) (length vs) [] ++ v) ≡ on_top cs (vs ++ v ∷ [])
below_last [] vs v h = absurd (omega (arith, h))
below_last (c ∷ cs) [] v h = ap (λ (l : List (List ℕ)). (c ++ v) ∷ l) (sym (on_nothing cs))
below_last (c ∷ cs) (w ∷ ws) v h = ap (λ (l : List (List ℕ)). (c ++ w) ∷ l) (below_last cs ws v (omega (arith, h)))

behind_last : (cs vs : List (List ℕ)) (v : List ℕ) → length (on_top cs vs) ≤ length vs → on_top cs vs ++ v ∷ [] ≡ on_top cs (vs ++ v ∷ [])
behind_last [] vs v h = refl
behind_last (c ∷ cs) [] v h = absurd (omega (arith, h))
behind_last (c ∷ cs) (w ∷ ws) v h = ap (λ (l : List (List ℕ)). (c ++ w) ∷ l) (behind_last cs ws v (omega (arith, h)))

cell_below : (cs vs : List (List ℕ)) (v : List ℕ) → with_cell (length vs) v (on_top cs vs) ≡ on_top cs (vs ++ v ∷ [])
cell_below cs vs v = by_test (nat_lt (length vs) (length (on_top cs vs))) refl
  where
    by_test : (t : Bool) → nat_lt (length vs) (length (on_top cs vs)) ≡ t → cond t (set (on_top cs vs) (length vs) (slice_index_or (on_top cs vs) (length vs) [] ++ v)) (on_top cs vs ++ v ∷ []) ≡ on_top cs (vs ++ v ∷ [])
    by_test true is = below_last cs vs v (grind (arith, nat_tests, is))
    by_test false is = behind_last cs vs v (grind (arith, nat_tests, is))

cells_long : (runs : List MarkRun) (n : ℕ) (cells : List StyledRuns) → length (cells_values runs n cells) ≡ length cells
cells_long runs n [] = refl
cells_long runs n (cell ∷ cells) = omega (arith, cells_long runs (n + counted_said cell) cells)

cells_more : (runs : List MarkRun) (n : ℕ) (cells : List StyledRuns) (i : ℕ) (d : StyledRuns) → i < length cells
    → cells_values runs n (take (suc i) cells) ≡ cells_values runs n (take i cells) ++ values_at runs (number_past n (take i cells)) (counted_said (get_or cells i d)) ∷ []
cells_more runs n [] i d h = absurd (omega (arith, h))
cells_more runs n (cell ∷ cells) zero d h = refl
cells_more runs n (cell ∷ cells) (suc i) d h = ap (λ (l : List (List ℕ)). values_at runs n (counted_said cell) ∷ l) (cells_more runs (n + counted_said cell) cells i d (omega (arith, h)))

past_more : (n : ℕ) (cells : List StyledRuns) (i : ℕ) (d : StyledRuns) → i < length cells → number_past n (take (suc i) cells) ≡ number_past n (take i cells) + counted_said (get_or cells i d)
past_more n [] i d h = absurd (omega (arith, h))
past_more n (cell ∷ cells) zero d h = refl
past_more n (cell ∷ cells) (suc i) d h = past_more (n + counted_said cell) cells i d (omega (arith, h))

taken_long : (cells : List StyledRuns) (i : ℕ) → i < length cells → length (take i cells) ≡ i
taken_long [] i h = absurd (omega (arith, h))
taken_long (cell ∷ cells) zero h = refl
taken_long (cell ∷ cells) (suc i) h = omega (arith, taken_long cells i (omega (arith, h)))

-- the marks of a cell more are below those of its column
pub cell_put : (runs here : List MarkRun) (old now next : List (List ℕ)) (n m : ℕ) (cells : List StyledRuns) (i : ℕ) (cell : StyledRuns) → i < length cells → cell ≡ get_or cells i cell → m ≡ number_past n (take i cells) → SameFrom runs here m
    → now ≡ on_top old (cells_values runs n (take i cells)) → next ≡ with_cell i (values_at here m (counted_said cell)) now → next ≡ on_top old (cells_values runs n (take (i + 1) cells))
cell_put runs here old now next n m cells i cell h cell_is m_is same now_is next_is =
    let vs = cells_values runs n (take i cells) in
    let up : suc i ≡ i + 1 = omega arith in
    let long : i ≡ length vs = sym (cells_long runs n (take i cells) ∙ taken_long cells i h) in
    let v = values_at runs (number_past n (take i cells)) (counted_said (get_or cells i cell)) in
    let own : values_at here m (counted_said cell) ≡ v =
    values_same runs here m (counted_said cell) same ∙ ap (λ (k : ℕ). values_at runs k (counted_said cell)) m_is
    ∙ ap (λ (c : StyledRuns). values_at runs (number_past n (take i cells)) (counted_said c)) cell_is in
    next_is ∙ ap (λ (w : List ℕ). with_cell i w now) own ∙ ap (with_cell i v) now_is ∙ ap (λ (k : ℕ). with_cell k v (on_top old vs)) long ∙ cell_below old vs v
    ∙ ap (on_top old) (sym (cells_more runs n cells i cell h)) ∙ ap (λ (k : ℕ). on_top old (cells_values runs n (take k cells))) up

-- and it is passed
pub cell_counted : (n m next : ℕ) (cells : List StyledRuns) (i : ℕ) (cell : StyledRuns) → i < length cells → cell ≡ get_or cells i cell → m ≡ number_past n (take i cells) → next ≡ m + counted_said cell → next ≡ number_past n (take (i + 1) cells)
cell_counted n m next cells i cell h cell_is m_is next_is =
    let up : suc i ≡ i + 1 = omega arith in
    next_is ∙ ap (λ (k : ℕ). k + counted_said cell) m_is ∙ ap (λ (c : StyledRuns). number_past n (take i cells) + counted_said c) cell_is
    ∙ sym (past_more n cells i cell h) ∙ ap (λ (k : ℕ). number_past n (take k cells)) up

-- nothing is put below columns
pub nothing_on : (columns : List (List ℕ)) → columns ≡ on_top columns []
nothing_on columns = sym (on_nothing columns)

-- ---- columns, as the code keeps them

column_at : (columns : List (Vec ℕ)) (i : ℕ) (d : Vec ℕ) → i < length columns → (get_or columns i d).items ≡ slice_index_or (map column_values columns) i []
column_at [] i d h = absurd (omega (arith, h))
column_at (c ∷ cs) zero d h = refl
column_at (c ∷ cs) (suc i) d h = column_at cs i d (omega (arith, h))

columns_long : (columns : List (Vec ℕ)) → length (map column_values columns) ≡ length columns
columns_long [] = refl
columns_long (c ∷ cs) = ap suc (columns_long cs)

-- marks are put behind those of a column
pub put_below : {T E : Type 0} (r : Result T E) (columns : List (Vec ℕ)) (i len : ℕ) (old new : Vec ℕ) (values : List ℕ) → i < len → len ≡ length columns → old ≡ get_or columns i old → OnOk r (new.items ≡ old.items ++ values)
    → OnOk r (map column_values (set columns i new) ≡ with_cell i values (map column_values columns))
put_below {T} {E} (Ok x) columns i len old new values h len_is old_is is =
    let within : i < length columns = omega (arith, h, len_is) in
    let all : List (List ℕ) = map column_values columns in
    let test : true ≡ nat_lt i (length all) = grind (arith, nat_tests, within, columns_long columns) in
    map-set column_values columns i new ∙ ap (set all i) (is ∙ ap (λ (l : List ℕ). l ++ values) (ap (λ (v : Vec ℕ). v.items) old_is ∙ column_at columns i old within))
    ∙ ap (λ (t : Bool). cond t (set all i (slice_index_or all i [] ++ values)) (all ++ values ∷ [])) test
put_below {T} {E} (Err x) columns i len old new values h len_is old_is is = tt

-- what a cell of a row says
pub cell_at : (cells : List Composite) (i : ℕ) (x d : Composite) → x ≡ get_or cells i d → styled_runs x ≡ get_or (map styled_runs cells) i (styled_runs d)
cell_at [] i x d is = ap styled_runs is
cell_at (c ∷ cs) zero x d is = ap styled_runs is
cell_at (c ∷ cs) (suc i) x d is = cell_at cs i x d is

-- as many are said
pub cells_said_long : (cells : List Composite) → length (map styled_runs cells) ≡ length cells
cells_said_long [] = refl
cells_said_long (c ∷ cs) = ap suc (cells_said_long cs)

-- ---- lines

line_found : (lines : List Line) (i : ℕ) (x d : Line) → x ≡ get_or lines i d → content_of x ≡ get_or (map content_of lines) i (content_of d)
line_found [] i x d is = ap content_of is
line_found (l ∷ ls) zero x d is = ap content_of is
line_found (l ∷ ls) (suc i) x d is = line_found ls i x d is

-- what a line of a text says
pub line_at : (found lines : List Line) (i : ℕ) (x : Line) → found ≡ lines → x ≡ get_or found i x → content_of x ≡ get_or (map content_of lines) i (content_of x)
line_at found lines i x same is = line_found lines i x x (is ∙ ap (λ (ls : List Line). get_or ls i x) same)

-- as many lines are said
pub lines_long : (found lines : List Line) → found ≡ lines → length (map content_of lines) ≡ length found
lines_long found lines same = long lines ∙ ap (λ (ls : List Line). length ls) (sym same)
  where
    long : (ls : List Line) → length (map content_of ls) ≡ length ls
    long [] = refl
    long (l ∷ ls) = ap suc (long ls)

-- columns of a section whose marks are those of links
pub are_marks : (t : Bool) (section : SectionContent) (now : List (List ℕ)) → t ≡ lead section.marks → t ≡ true → now ≡ columns_values section.marks 0 section.lines → now ≡ column_marks section
are_marks t section now t_is holds is = is ∙ ap (λ (u : Bool). cond u (columns_values section.marks 0 section.lines) []) (sym holds ∙ t_is)

-- a line more is on top of those below it
pub line_put : (runs here : List MarkRun) (now next all : List (List ℕ)) (n m : ℕ) (lines : List LineContent) (i : ℕ) (line : LineContent) → i < length lines → line ≡ get_or lines i line → SameFrom runs here n → next ≡ on_top now (line_values here n line)
    → m ≡ line_past n line → on_top now (columns_values runs n (drop i lines)) ≡ all → on_top next (columns_values runs m (drop (i + 1) lines)) ≡ all
line_put runs here now next all n m lines i line h line_is same next_is m_is before =
    let rest = drop (i + 1) lines in
    ap (λ (c : List (List ℕ)). on_top c (columns_values runs m rest)) (next_is ∙ ap (on_top now) (line_same runs here n line same))
    ∙ ap (λ (k : ℕ). on_top (on_top now (line_values runs n line)) (columns_values runs k rest)) m_is
    ∙ on_top_joined now (line_values runs n line) (columns_values runs (line_past n line) rest)
    ∙ ap (λ (l : LineContent). on_top now (columns_values runs n (l ∷ rest))) line_is
    ∙ sym (at_drop_more (λ (ls : List LineContent). on_top now (columns_values runs n ls)) lines i line h) ∙ before

-- below the last line nothing is
pub lines_put : (runs : List MarkRun) (now all : List (List ℕ)) (n : ℕ) (lines : List LineContent) → lines ≡ [] → on_top now (columns_values runs n lines) ≡ all → now ≡ all
lines_put runs now all n lines none before = sym (on_nothing now) ∙ ap (λ (ls : List LineContent). on_top now (columns_values runs n ls)) (sym none) ∙ before

-- ---- what a composite says

flat_runs : (ps : List Compound) → flat_map (λ (r : Run). flagged r.flags (chars r.text)) (map run_of ps) ≡ flagged_text ps
flat_runs [] = refl
flat_runs (p ∷ ps) = ap (λ l. flagged_of p ++ l) (flat_runs ps)

-- it counts what its compounds do, by what the code found
pub said_counts : (said : Composite) (kind : CompositeKind) (count : ℕ) → kind ≡ kind_of said.style → count ≡ counted (has_mark kind) (flagged_text said.compounds.items) → count ≡ counted_said (styled_runs said)
said_counts said kind count kind_is is =
    is ∙ ap (λ (k : CompositeKind). counted (has_mark k) (flagged_text said.compounds.items)) kind_is ∙ ap (counted (has_mark (kind_of said.style))) (sym (flat_runs said.compounds.items))

-- none of its compounds is left
pub all_counted : (kind : CompositeKind) (ps : List Compound) (i count all : ℕ) → length ps ≤ i → count + counted (has_mark kind) (flagged_text (drop i ps)) ≡ all → count ≡ all
all_counted kind ps i count all h before = omega (arith, ap (λ (l : List Compound). counted (has_mark kind) (flagged_text l)) (drop_all i ps h), before)
