-- The columns of a table as it is drawn, and as its text says them.
use Rattle.std.proofs.Common.{◌≡◌, ℕ, zero, suc, ◌+◌, ◌<◌, ◌≤◌, max, Bool, true, false, cond, List, [], ◌∷◌, ◌++◌, map, length, drop, filter, chars, refl, sym, ap, ◌∙◌, subst, arith, append_assoc, append-nil, length-append, inl, inr}
use Rattle.std.specs.Prelude.{◌==◌, slice_index_or}
use Rattle.std.specs.List.{AllByRecursion, flat_map}
use Rattle.std.proofs.lemmas.Grind.{flat_map-append}
use Rattle.std.proofs.lemmas.List.{nil_from_length}
use Rattle.mad_md.specs.Flagged.{FlaggedChar, Run, flagged, flagged_of, flagged_text, run_of}
use Rattle.mad_md.specs.Lines.{LineContent, StyledRuns, normal, table_row, table_rule, horizontal_rule}
use Rattle.mad_md.specs.declared.alignment.Alignment.{Alignment}
use Rattle.mad_md.specs.declared.compound.Compound.{Compound}
use Rattle.mad_measure.specs.declared.spacing.Spacing.{Spacing}
use Rattle.mad_style.specs.Kinds.{kind_of}
use Rattle.mad_format.specs.CompositeWraps.{IsCompositeWrap}
use Rattle.mad_format.specs.FmtLines.{AreCompositesRead, IsCompositeRead, IsLineRead}
use Rattle.mad_format.specs.LineRules.{LineRules}
use Rattle.mad_format.specs.declared.composite.FmtComposite.{FmtComposite}
use Rattle.mad_format.specs.declared.line.FmtLine.{FmtLine}
use Rattle.mad_format.specs.declared.line.FmtLine.TheVariants.{Normal, TableRow, TableRule, HorizontalRule}
use Rattle.mad_format.specs.declared.table.FmtTableRow.{FmtTableRow}
use Rattle.mad_format.specs.declared.table.RelativePosition.{RelativePosition}
use Rattle.mad_blocks.specs.Layouts.{AreRead}
use Rattle.mad_blocks.specs.Tables.{AreDown, AreTableLinesBy, IsLineAcross, IsRowLaidOutBy, IsTableLineBy, below, centered, columns_from, columns_with, position_at, tallest}
use Rattle.mad_mark_runs.specs.Marks.{value_at}
use Rattle.mad_mark_runs.specs.declared.mark_runs.MarkRun.{MarkRun}
use Rattle.mad_marks.specs.LineMarks.{counted_in, has_mark, said_counted, text_counted, text_of, texts_marked}
use Rattle.mad_marks.specs.RowMarks.{MarkedChar, is_counted, numbered}
use Rattle.mad_marks.specs.RowNumbers.{AreMarked, NothingCounted, column, count_in, right_of}
use Rattle.mad_marks.proofs.MarkLemmas.{are_numbered}
use Rattle.mad_mark_laws.proofs.TableLemmas.{row_marked}
use Rattle.mad_mark_laws.proofs.TextLemmas.{cells_texts, has_mark_follows, texts_numbered}
use Rattle.mad_pages.specs.PageRows.{behind, heads_behind, marks_from, number_behind}
use Rattle.mad_pages.specs.WholeTables.{IsWholeTable}
use Rattle.mad_sections.specs.Sections.{SectionContent}
use Rattle.mad_sections.specs.TableTexts.{columns_count, columns_in}
use Rattle.mad_sections.specs.declared.gutters.Gutter.{Gutter}
use Rattle.markdown_linked_pages.specs.CellMarks.{cells_values, columns_values, counted_said, line_past, line_values, on_top, values_at}
use Rattle.markdown_linked_pages.specs.CellLaws.{TablesHaveTheirMarks, cells_said, column_counted, column_said, given, line_said, table_cells}
use Rattle.markdown_linked_pages.specs.LinkedPageRows.{lead}
use Rattle.markdown_linked_pages.proofs.CellLawLemmas.{cells_have_marks}

-- ---- columns of characters

-- those of this number in rows of cells
abbrev rows_column : ℕ → List (List FmtComposite) → List FlaggedChar
rows_column j rows = flat_map (λ (row : List FmtComposite). slice_index_or (map (counted_in has_mark) row) j []) rows

-- in lines
abbrev lines_column : ℕ → List FmtLine → List FlaggedChar
lines_column j lines = flat_map (λ (line : FmtLine). slice_index_or (map (counted_in has_mark) (table_cells line)) j []) lines

-- the cells of what a line says
abbrev content_cells : LineContent → List StyledRuns
content_cells (table_row cells) = cells
content_cells line = []

-- in what lines say
abbrev text_column : ℕ → List LineContent → List FlaggedChar
text_column j lines = flat_map (λ (line : LineContent). slice_index_or (map (said_counted has_mark) (content_cells line)) j []) lines

-- behind gutters a line's cells are the same
column_behind : (gutters : List Gutter) (fresh : ℕ) (marks : List MarkRun) (n : ℕ) (heads : Bool) (lines : List FmtLine) (j : ℕ) → column_counted j (behind gutters fresh marks n heads lines) ≡ lines_column j lines
column_behind gutters fresh marks n heads [] j = refl
column_behind gutters fresh marks n heads (line ∷ lines) j =
    ap (λ (cs : List FlaggedChar). slice_index_or (map (counted_in has_mark) (table_cells line)) j [] ++ cs)
    (column_behind gutters 0 (marks_from marks (number_behind marks n line)) (number_behind marks n line) (heads_behind heads line) lines j)

-- ---- the marks of the text

values_long : (runs : List MarkRun) (n count : ℕ) → length (values_at runs n count) ≡ count
values_long runs n zero = refl
values_long runs n (suc count) = ap suc (values_long runs (n + 1) count)

values_given : (runs : List MarkRun) (n : ℕ) (cs : List FlaggedChar) → given (values_at runs n (length cs)) cs ≡ numbered runs n cs
values_given runs n [] = refl
values_given runs n (c ∷ cs) = ap (λ (l : List MarkedChar). record { value = value_at runs n; char = c } ∷ l) (values_given runs (n + 1) cs)

cells_given : (runs : List MarkRun) (n : ℕ) (cells : List StyledRuns) (j : ℕ) → given (slice_index_or (cells_values runs n cells) j []) (slice_index_or (map (said_counted has_mark) cells) j []) ≡ slice_index_or (cells_said runs n cells) j []
cells_given runs n [] j = refl
cells_given runs n (cell ∷ cells) zero = values_given runs n (said_counted has_mark cell)
cells_given runs n (cell ∷ cells) (suc j) = cells_given runs (n + counted_said cell) cells j

cells_even : (runs : List MarkRun) (n : ℕ) (cells : List StyledRuns) (j : ℕ) → length (slice_index_or (cells_values runs n cells) j []) ≡ length (slice_index_or (map (said_counted has_mark) cells) j [])
cells_even runs n [] j = refl
cells_even runs n (cell ∷ cells) zero = values_long runs n (counted_said cell)
cells_even runs n (cell ∷ cells) (suc j) = cells_even runs (n + counted_said cell) cells j

on_top_at : (a b : List (List ℕ)) (j : ℕ) → slice_index_or (on_top a b) j [] ≡ slice_index_or a j [] ++ slice_index_or b j []
on_top_at [] b j = refl
on_top_at (x ∷ xs) [] zero = sym (append-nil x)
on_top_at (x ∷ xs) [] (suc j) = sym (append-nil (slice_index_or xs j []))
on_top_at (x ∷ xs) (y ∷ ys) zero = refl
on_top_at (x ∷ xs) (y ∷ ys) (suc j) = on_top_at xs ys j

given_both : (vs ws : List ℕ) (cs ds : List FlaggedChar) → length vs ≡ length cs → given (vs ++ ws) (cs ++ ds) ≡ given vs cs ++ given ws ds
given_both [] ws [] ds h = refl
given_both [] ws (c ∷ cs) ds h = absurd (omega (arith, h))
given_both (v ∷ vs) ws [] ds h = absurd (omega (arith, h))
given_both (v ∷ vs) ws (c ∷ cs) ds h = ap (λ (l : List MarkedChar). record { value = v; char = c } ∷ l) (given_both vs ws cs ds (omega (arith, h)))

record IsLineGiven (runs : List MarkRun) (n : ℕ) (line : LineContent) (j : ℕ) : Type 0 where
  given_is : given (slice_index_or (line_values runs n line) j []) (slice_index_or (map (said_counted has_mark) (content_cells line)) j []) ≡ slice_index_or (line_said runs n line) j []
  even : length (slice_index_or (line_values runs n line) j []) ≡ length (slice_index_or (map (said_counted has_mark) (content_cells line)) j [])

line_given : (runs : List MarkRun) (n : ℕ) (line : LineContent) (j : ℕ) → IsLineGiven runs n line j
line_given runs n (normal said) j = record { given_is = refl; even = refl }
line_given runs n (table_row cells) j = record { given_is = cells_given runs n cells j; even = cells_even runs n cells j }
line_given runs n (table_rule aligns) j = record { given_is = refl; even = refl }
line_given runs n horizontal_rule j = record { given_is = refl; even = refl }

text_given : (runs : List MarkRun) (n : ℕ) (lines : List LineContent) (j : ℕ) → given (slice_index_or (columns_values runs n lines) j []) (text_column j lines) ≡ column_said runs n j lines
text_given runs n [] j = refl
text_given runs n (line ∷ lines) j =
    let own = slice_index_or (line_values runs n line) j [] in
    let rest = slice_index_or (columns_values runs (line_past n line) lines) j [] in
    let cs = slice_index_or (map (said_counted has_mark) (content_cells line)) j [] in
    let here = line_given runs n line j in
    ap (λ (vs : List ℕ). given vs (cs ++ text_column j lines)) (on_top_at (line_values runs n line) (columns_values runs (line_past n line) lines) j)
    ∙ given_both own rest cs (text_column j lines) here.even
    ∙ ap (λ (l : List MarkedChar). l ++ given rest (text_column j lines)) here.given_is
    ∙ ap (λ (l : List MarkedChar). slice_index_or (line_said runs n line) j [] ++ l) (text_given runs (line_past n line) lines j)

-- ---- the rows of a row

chars_off : (runs : List MarkRun) (n : ℕ) (cs : List FlaggedChar) → map (λ (m : MarkedChar). m.char) (numbered runs n cs) ≡ cs
chars_off runs n [] = refl
chars_off runs n (c ∷ cs) = ap (λ (l : List FlaggedChar). c ∷ l) (chars_off runs (n + 1) cs)

nothing_column : (rows : List (List FmtComposite)) (j : ℕ) → NothingCounted has_mark rows → rows_column j rows ≡ []
nothing_column [] j h = refl
nothing_column (row ∷ rows) j h = ap (λ (cs : List FlaggedChar). cs ++ rows_column j rows) (none_in row j h.0) ∙ nothing_column rows j h.1
  where
    none_in : (row : List FmtComposite) (j : ℕ) → AllByRecursion (λ x. count_in has_mark x ≡ 0) row → slice_index_or (map (counted_in has_mark) row) j [] ≡ []
    none_in [] j h = refl
    none_in (x ∷ xs) zero h = nil_from_length (counted_in has_mark x) h.0
    none_in (x ∷ xs) (suc j) h = none_in xs j h.1

first_column : (rows : List (List FmtComposite)) → rows_column 0 rows ≡ flat_map (counted_in has_mark) (column rows)
first_column [] = refl
first_column ([] ∷ rows) = first_column rows
first_column ((x ∷ xs) ∷ rows) = ap (λ (cs : List FlaggedChar). counted_in has_mark x ++ cs) (first_column rows)

next_column : (rows : List (List FmtComposite)) (j : ℕ) → rows_column (suc j) rows ≡ rows_column j (right_of rows)
next_column [] j = refl
next_column ([] ∷ rows) j = next_column rows j
next_column ((x ∷ xs) ∷ rows) j = ap (λ (cs : List FlaggedChar). slice_index_or (map (counted_in has_mark) xs) j [] ++ cs) (next_column rows j)

-- there are rows, each with more cells than so many
abbrev Reach : ℕ → List (List FmtComposite) → Type 0
Reach j [] = ⊥
Reach j (row ∷ rows) = (j < length row) × AllByRecursion (λ (r : List FmtComposite). j < length r) rows

reach_right : (j : ℕ) (rows : List (List FmtComposite)) → Reach (suc j) rows → Reach j (right_of rows)
reach_right j [] h = h
reach_right j ([] ∷ rows) h = absurd (omega (arith, h.0))
reach_right j ((x ∷ xs) ∷ rows) h = (omega (arith, h.0), all_right rows h.1)
  where
    all_right : (rows : List (List FmtComposite)) → AllByRecursion (λ (r : List FmtComposite). suc j < length r) rows → AllByRecursion (λ (r : List FmtComposite). j < length r) (right_of rows)
    all_right [] h = tt
    all_right ([] ∷ rows) h = absurd (omega (arith, h.0))
    all_right ((x ∷ xs) ∷ rows) h = (omega (arith, h.0), all_right rows h.1)

some_column : (rows : List (List FmtComposite)) → Reach 0 rows → column rows ≡ [] → ⊥
some_column [] h e = h
some_column ([] ∷ rows) h e = absurd (omega (arith, h.0))
some_column ((x ∷ xs) ∷ rows) h e = cc

-- rows have the column that their cells say
marked_column : (n : ℕ) (cells : List FmtComposite) (rows : List (List FmtComposite)) (j : ℕ) → AreMarked has_mark [] n cells rows → (j < length cells → Reach j rows) → rows_column j rows ≡ slice_index_or (map (counted_in has_mark) cells) j []
marked_column n [] rows j h reach = nothing_column rows j h
marked_column n (c ∷ cs) rows zero (inl e, more) reach =
    first_column rows ∙ sym (cells_texts has_mark (column rows)) ∙ sym (chars_off [] n (flat_map (text_counted has_mark) (map text_of (column rows))))
    ∙ ap (map (λ (m : MarkedChar). m.char)) (sym (texts_numbered has_mark [] n (map text_of (column rows))) ∙ e ∙ are_numbered (has_mark c.kind) [] n (flagged_text c.compounds.items))
    ∙ chars_off [] n (counted_in has_mark c)
marked_column n (c ∷ cs) rows zero (inr none, more) reach = absurd (some_column rows (reach (omega arith)) none)
marked_column n (c ∷ cs) rows (suc j) (first, more) reach =
    next_column rows j ∙ marked_column (n + count_in has_mark c) cs (right_of rows) j more (λ few. reach_right j rows (reach (omega (arith, few))))

-- ---- how many cells rows have

-- the cells of a row
abbrev fmt_cells : FmtTableRow → List FmtComposite
fmt_cells row = row.cells.items

across_long : (columns : List Spacing) (lines : List (List FmtComposite)) (row : List FmtComposite) → IsLineAcross columns lines row → length row ≡ length columns
across_long [] [] [] h = refl
across_long (c ∷ cs) (ls ∷ lines) (x ∷ xs) h = ap suc (across_long cs lines xs h.1)
across_long _ _ _ h = absurd h

down_long : (columns : List Spacing) (lines : List (List FmtComposite)) (rows : List FmtTableRow) (j : ℕ) → AreDown columns lines rows → j < length columns → AllByRecursion (λ (r : List FmtComposite). j < length r) (map fmt_cells rows)
down_long columns lines [] j h few = tt
down_long columns lines (row ∷ rows) j h few = (omega (arith, across_long columns lines row.cells.items h.0, few), down_long columns (map below lines) rows j h.1 few)

rows_reach : (columns : List Spacing) (lines : List (List FmtComposite)) (rows : List FmtTableRow) (j : ℕ) → length rows ≡ max (tallest lines) 1 → AreDown columns lines rows → j < length columns → Reach j (map fmt_cells rows)
rows_reach columns lines [] j some h few = absurd (omega (arith, some))
rows_reach columns lines (row ∷ rows) j some h few = down_long columns lines (row ∷ rows) j h few

-- ---- lines

rows_lines : (rows : List FmtTableRow) (j : ℕ) → lines_column j (map TableRow rows) ≡ rows_column j (map fmt_cells rows)
rows_lines [] j = refl
rows_lines (row ∷ rows) j = ap (λ (cs : List FlaggedChar). slice_index_or (map (counted_in has_mark) row.cells.items) j [] ++ cs) (rows_lines rows j)

flat_runs : (ps : List Compound) → flat_map (λ (r : Run). flagged r.flags (chars r.text)) (map run_of ps) ≡ flagged_text ps
flat_runs [] = refl
flat_runs (p ∷ ps) = ap (λ l. flagged_of p ++ l) (flat_runs ps)

composite_read : (rules : LineRules) (said : StyledRuns) (l : FmtComposite) → IsCompositeRead rules said l → counted_in has_mark l ≡ said_counted has_mark said
composite_read rules said l h =
    ap (λ k. filter (is_counted (has_mark k)) (flagged_text l.compounds.items)) h.kind
    ∙ ap (filter (is_counted (has_mark (kind_of said.style)))) (sym (flat_runs l.compounds.items) ∙ ap (flat_map (λ (r : Run). flagged r.flags (chars r.text))) h.text)

cells_read : (rules : LineRules) (said : List StyledRuns) (cells : List FmtComposite) (j : ℕ) → AreCompositesRead rules said cells
    → slice_index_or (map (counted_in has_mark) cells) j [] ≡ slice_index_or (map (said_counted has_mark) said) j []
cells_read rules [] [] j h = refl
cells_read rules (s ∷ said) (c ∷ cells) zero h = composite_read rules s c h.0
cells_read rules (s ∷ said) (c ∷ cells) (suc j) h = cells_read rules said cells j h.1
cells_read rules _ _ j h = absurd h

cells_many : (rules : LineRules) (said : List StyledRuns) (cells : List FmtComposite) → AreCompositesRead rules said cells → length cells ≡ length said
cells_many rules [] [] h = refl
cells_many rules (s ∷ said) (c ∷ cells) h = ap suc (cells_many rules said cells h.1)
cells_many rules _ _ h = absurd h

no_cells : (own lines : List FmtLine) (j : ℕ) → own ≡ lines → lines_column j lines ≡ [] → lines_column j own ≡ []
no_cells own lines j is none = ap (lines_column j) is ∙ none

line_column : (rules : LineRules) (columns : List Spacing) (position : RelativePosition) (said : LineContent) (l : FmtLine) (own : List FmtLine) (j : ℕ) → IsLineRead rules said l → columns_in said ≤ length columns → IsTableLineBy IsCompositeWrap rules columns position l own
    → lines_column j own ≡ slice_index_or (map (said_counted has_mark) (content_cells said)) j []
line_column rules columns position (normal said) (Normal l) own j read fits h = no_cells own (Normal l ∷ []) j h refl
line_column rules columns position (table_row said) (TableRow row) own j read fits (rows, same, laid) =
    ap (lines_column j) same ∙ rows_lines rows j
    ∙ marked_column 0 row.cells.items (map fmt_cells rows) j (row_marked has_mark [] 0 rules columns row.cells.items rows has_mark_follows laid)
    (λ few. rows_reach columns laid.lines rows j laid.count laid.rows_are (omega (arith, few, fits, cells_many rules said row.cells.items read)))
    ∙ cells_read rules said row.cells.items j read
line_column rules columns position (table_rule aligns) (TableRule rule) own j read fits (made, same, is) = no_cells own (TableRule made ∷ []) j same refl
line_column rules columns position horizontal_rule HorizontalRule own j read fits h = no_cells own (HorizontalRule ∷ []) j h refl
line_column rules columns position _ _ own j read fits h = absurd read

with_long : (widths : List ℕ) (aligns : List Alignment) → length (columns_with widths aligns) ≡ length widths
with_long [] aligns = refl
with_long (w ∷ ws) [] = ap suc (with_long ws [])
with_long (w ∷ ws) (a ∷ aligns) = ap suc (with_long ws aligns)

from_long : (widths : List ℕ) (columns : List Spacing) (l : FmtLine) → length columns ≡ length widths → length (columns_from widths columns l) ≡ length widths
from_long widths columns (Normal l) h = h
from_long widths columns (TableRow row) h = h
from_long widths columns (TableRule rule) h = with_long widths rule.aligns.items
from_long widths columns HorizontalRule h = h

lines_are : (rules : LineRules) (widths : List ℕ) (columns : List Spacing) (first : Bool) (table : List LineContent) (read lines : List FmtLine) (j : ℕ) → length columns ≡ length widths → columns_count table ≤ length widths → AreRead rules table read
    → AreTableLinesBy IsCompositeWrap rules widths columns first read lines → lines_column j lines ≡ text_column j table
lines_are rules widths columns first [] [] lines j long fits read h = ap (lines_column j) h
lines_are rules widths columns first (said ∷ table) (l ∷ ls) lines j long fits read (own, others, joins, becomes, more) =
    let here = columns_from widths columns l in
    let here_long : length here ≡ length widths = from_long widths columns l long in
    ap (lines_column j) joins ∙ flat_map-append (λ (line : FmtLine). slice_index_or (map (counted_in has_mark) (table_cells line)) j []) own others
    ∙ ap (λ (cs : List FlaggedChar). cs ++ lines_column j others) (line_column rules here (position_at first (length ls == 0)) said l own j read.0 (omega (arith, fits, here_long)) becomes)
    ∙ ap (λ (cs : List FlaggedChar). slice_index_or (map (said_counted has_mark) (content_cells said)) j [] ++ cs) (lines_are rules widths here false table ls others j here_long (omega (arith, fits)) read.1 more)
lines_are rules widths columns first _ _ lines j long fits read h = absurd read

-- ---- a table

centered_long : (widths : List ℕ) → length (centered widths) ≡ length widths
centered_long [] = refl
centered_long (w ∷ ws) = ap suc (centered_long ws)

by_lead : (t : Bool) (values : List (List ℕ)) → t ≡ true → cond t values [] ≡ values
by_lead t values h = ap (λ (u : Bool). cond u values []) h

-- THE LAW
pub tables_have_marks : TablesHaveTheirMarks
tables_have_marks rules room section gutters fresh lines j leads whole =
    let runs = section.marks in
    let rows = behind gutters fresh runs 0 true lines in
    let columns = columns_values runs 0 section.lines in
    let said : column_counted j rows ≡ text_column j section.lines =
    column_behind gutters fresh runs 0 true lines j ∙ lines_are rules whole.widths (centered whole.widths) true section.lines whole.read lines j (centered_long whole.widths) (omega (arith, whole.all)) whole.reads whole.laid in
    cells_have_marks (cond (lead runs) columns []) rows j
    ∙ ap (λ (cs : List (List ℕ)). given (slice_index_or cs j []) (column_counted j rows)) (by_lead (lead runs) columns leads)
    ∙ ap (given (slice_index_or columns j [])) said ∙ text_given runs 0 section.lines j
