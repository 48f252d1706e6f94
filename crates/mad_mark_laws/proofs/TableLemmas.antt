-- Each row's composites have the marks that the text says, also in tables.
use Rattle.std.proofs.Common.{◌≡◌, ℕ, suc, ◌+◌, ◌≤◌, Bool, List, [], ◌∷◌, ◌++◌, map, length, Option, Some, None, refl, sym, ap, ◌∙◌, arith, filter, inl, inr, subst}
use Rattle.std.specs.List.{AllByRecursion, flat_map}
use Rattle.mad_md.specs.Flagged.{Flags, flagged_text}
use Rattle.mad_style.specs.declared.kinds.CompositeKind.{CompositeKind}
use Rattle.mad_measure.specs.declared.spacing.Spacing.{Spacing}
use Rattle.mad_wrap.proofs.WrapModes.{by_keeps}
use Rattle.mad_format.specs.CompositeWraps.{IsCompositeWrap, line_compounds, HaveKinds}
use Rattle.mad_format.specs.Indents.{follow_up, room_of}
use Rattle.mad_format.specs.LineRules.{LineRules}
use Rattle.mad_format.specs.Lists.{most}
use Rattle.mad_format.specs.WrappedLines.{IsLaidOutBy, line_with, style_margins}
use Rattle.mad_format.specs.declared.composite.FmtComposite.{FmtComposite}
use Rattle.mad_format.specs.declared.line.FmtLine.{FmtLine}
use Rattle.mad_format.specs.declared.line.FmtLine.TheVariants.{Normal, TableRow, TableRule, HorizontalRule}
use Rattle.mad_format.specs.declared.table.FmtTableRow.{FmtTableRow}
use Rattle.mad_format.specs.declared.table.RelativePosition.{RelativePosition}
use Rattle.mad_blocks.specs.LayoutParts.{IsLineAt}
use Rattle.mad_blocks.specs.Tables.{IsCellLaidOut, AreCellsLaidOut, IsBlankIn, IsLineAcross, AreDown, IsRowLaidOutBy, IsTableLineBy, below}
use Rattle.mad_mark_runs.specs.declared.mark_runs.MarkRun.{MarkRun}
use Rattle.mad_marks.specs.LineMarks.{Follows, counted_in, all_counted, text_of, texts_marked}
use Rattle.mad_marks.specs.RowMarks.{is_counted, counted_marked, marked, numbered}
use Rattle.mad_marks.specs.RowNumbers.{cells_of, count_in, column, right_of, NothingCounted, AreMarked}
use Rattle.mad_marks.proofs.MarkLemmas.{kept_counted, are_numbered}
use Rattle.mad_mark_laws.proofs.LayoutLemmas.{laid_counted, plus_none}
use Rattle.mad_mark_laws.proofs.TextLemmas.{cells_texts, texts_numbered}

-- ---- a column has what its cell says, by number

column_marks : (has : CompositeKind → Flags → Bool) (runs : List MarkRun) (n : ℕ) (c : FmtComposite) (xs : List FmtComposite) → flat_map (counted_in has) xs ≡ counted_in has c
    → texts_marked has runs n (map text_of xs) ≡ counted_marked (has c.kind) (marked (has c.kind) runs n (flagged_text c.compounds.items))
column_marks has runs n c xs e =
    texts_numbered has runs n (map text_of xs) ∙ ap (numbered runs n) (cells_texts has xs ∙ e) ∙ sym (are_numbered (has c.kind) runs n (flagged_text c.compounds.items))

-- ---- lines that are no table's

normal_column : (has : CompositeKind → Flags → Bool) (margins : ℕ × ℕ) (ls : List FmtComposite) → flat_map (counted_in has) (column (map cells_of (map (line_with margins) ls))) ≡ all_counted has (map (line_with margins) ls)
normal_column has margins [] = refl
normal_column has margins (l ∷ ls) = ap (λ x. counted_in has l ++ x) (normal_column has margins ls)

normal_right : (has : CompositeKind → Flags → Bool) (margins : ℕ × ℕ) (ls : List FmtComposite) → NothingCounted has (right_of (map cells_of (map (line_with margins) ls)))
normal_right has margins [] = tt
normal_right has margins (l ∷ ls) = (tt, normal_right has margins ls)

one_marked : (has : CompositeKind → Flags → Bool) (runs : List MarkRun) (n : ℕ) (source l : FmtComposite) → counted_in has l ≡ counted_in has source → AreMarked has runs n (source ∷ []) ((l ∷ []) ∷ [])
one_marked has runs n source l same = (inl (column_marks has runs n source (l ∷ []) (plus_none (counted_in has l) ∙ same)), (tt, tt))

laid_marked : (has : CompositeKind → Flags → Bool) (runs : List MarkRun) (n : ℕ) (skin : LineRules) (width : ℕ) (source : FmtComposite) (lines : List FmtLine) → Follows has → IsLaidOutBy IsCompositeWrap skin width source lines
    → AreMarked has runs n (source ∷ []) (map cells_of lines)
laid_marked has runs n skin width source lines follows (inl (fits, same)) = subst (λ ls. AreMarked has runs n (source ∷ []) (map cells_of ls)) (sym same) (one_marked has runs n source (record source { margins = Some (style_margins skin width source) }) refl)
laid_marked has runs n skin width source lines follows (inr (wide, (wrap, wraps, same))) =
    let margins = style_margins skin width source in
    let counted_is = sym (ap (all_counted has) same) ∙ laid_counted has skin width source lines follows (inr (wide, (wrap, wraps, same))) in
    subst (λ ls. AreMarked has runs n (source ∷ []) (map cells_of ls)) (sym same)
    (inl (column_marks has runs n source (column (map cells_of (map (line_with margins) wrap))) (normal_column has margins wrap ∙ counted_is)), normal_right has margins wrap)

-- cells that stay: each row has its own
pub stay_marked : (has : CompositeKind → Flags → Bool) (runs : List MarkRun) (n : ℕ) (cells : List FmtComposite) → AreMarked has runs n cells (cells ∷ [])
stay_marked has runs n [] = (tt, tt)
stay_marked has runs n (c ∷ cs) = (inl (column_marks has runs n c (c ∷ []) (plus_none (counted_in has c))), stay_marked has runs (n + count_in has c) cs)

-- the rows of a line have the marks that it says
pub line_marked : (has : CompositeKind → Flags → Bool) (runs : List MarkRun) (n : ℕ) (skin : LineRules) (width : Option ℕ) (l : FmtLine) (lines : List FmtLine) → Follows has → IsLineAt IsCompositeWrap skin width l lines
    → AreMarked has runs n (cells_of l) (map cells_of lines)
line_marked has runs n skin None l lines follows h = subst (λ ls. AreMarked has runs n (cells_of l) (map cells_of ls)) (sym h) (stay_marked has runs n (cells_of l))
line_marked has runs n skin (Some width) (Normal source) lines follows h = laid_marked has runs n skin width source lines follows h
line_marked has runs n skin (Some width) (TableRow row) lines follows h = subst (λ ls. AreMarked has runs n row.cells.items (map cells_of ls)) (sym h) (stay_marked has runs n row.cells.items)
line_marked has runs n skin (Some width) (TableRule rule) lines follows h = subst (λ ls. AreMarked has runs n [] (map cells_of ls)) (sym h) (tt, tt)
line_marked has runs n skin (Some width) HorizontalRule lines follows h = subst (λ ls. AreMarked has runs n [] (map cells_of ls)) (sym h) (tt, tt)

-- ---- rows of a table

-- the rows, by their cells
abbrev AreCellsDown : List Spacing → List (List FmtComposite) → List (List FmtComposite) → Type 0
AreCellsDown columns lines [] = Unit {0}
AreCellsDown columns lines (row ∷ rows) = IsLineAcross columns lines row × AreCellsDown columns (map below lines) rows

abbrev row_cells : FmtTableRow → List FmtComposite
row_cells row = row.cells.items

by_cells : (columns : List Spacing) (lines : List (List FmtComposite)) (rows : List FmtTableRow) → AreDown columns lines rows → AreCellsDown columns lines (map row_cells rows)
by_cells columns lines [] h = tt
by_cells columns lines (row ∷ rows) h = (h.0, by_cells columns (map below lines) rows h.1)

blank_counts : (has : CompositeKind → Flags → Bool) (c : Spacing) (x : FmtComposite) → IsBlankIn c x → counted_in has x ≡ []
blank_counts has c x h = ap (λ ks. filter (is_counted (has x.kind)) (flagged_text ks)) h.empty

-- the first column has what its cell's lines have
heads_counted : (has : CompositeKind → Flags → Bool) (c : Spacing) (cs : List Spacing) (ls : List FmtComposite) (lines rows : List (List FmtComposite)) → AreCellsDown (c ∷ cs) (ls ∷ lines) rows → length ls ≤ length rows
    → flat_map (counted_in has) (column rows) ≡ flat_map (counted_in has) ls
heads_counted has c cs [] lines [] h few = refl
heads_counted has c cs (l ∷ ls) lines [] h few = absurd (omega arith)
heads_counted has c cs ls lines ([] ∷ rows) h few = absurd h.0
heads_counted has c cs [] lines ((x ∷ xs) ∷ rows) h few =
    ap (λ t. t ++ flat_map (counted_in has) (column rows)) (blank_counts has c x h.0.0) ∙ heads_counted has c cs [] (map below lines) rows h.1 (omega arith)
heads_counted has c cs (l ∷ ls) lines ((x ∷ xs) ∷ rows) h few =
    ap (λ (t : FmtComposite). counted_in has t ++ flat_map (counted_in has) (column rows)) h.0.0 ∙ ap (λ t. counted_in has l ++ t) (heads_counted has c cs ls (map below lines) rows h.1 (omega arith))

-- and what is right of it goes on
rest_down : (c : Spacing) (cs : List Spacing) (ls : List FmtComposite) (lines rows : List (List FmtComposite)) → AreCellsDown (c ∷ cs) (ls ∷ lines) rows → AreCellsDown cs lines (right_of rows)
rest_down c cs ls lines [] h = tt
rest_down c cs ls lines ([] ∷ rows) h = absurd h.0
rest_down c cs ls lines ((x ∷ xs) ∷ rows) h = (h.0.1, rest_down c cs (below ls) (map below lines) rows h.1)

-- without columns no row has a composite
none_marked : (has : CompositeKind → Flags → Bool) (runs : List MarkRun) (n : ℕ) (cells : List FmtComposite) (rows : List (List FmtComposite)) → AreCellsDown [] [] rows → AreMarked has runs n cells rows
none_marked has runs n [] rows h = none_counted rows h
  where
    none_counted : (rows : List (List FmtComposite)) → AreCellsDown [] [] rows → NothingCounted has rows
    none_counted [] h = tt
    none_counted ([] ∷ rows) h = (tt, none_counted rows h.1)
    none_counted ((x ∷ xs) ∷ rows) h = absurd h.0
none_marked has runs n (c ∷ cs) rows h = (inr (none_in rows h), none_marked has runs (n + count_in has c) cs (right_of rows) (none_right rows h))
  where
    none_in : (rows : List (List FmtComposite)) → AreCellsDown [] [] rows → column rows ≡ []
    none_in [] h = refl
    none_in ([] ∷ rows) h = none_in rows h.1
    none_in ((x ∷ xs) ∷ rows) h = absurd h.0

    none_right : (rows : List (List FmtComposite)) → AreCellsDown [] [] rows → AreCellsDown [] [] (right_of rows)
    none_right [] h = tt
    none_right ([] ∷ rows) h = (h.0, none_right rows h.1)
    none_right ((x ∷ xs) ∷ rows) h = absurd h.0

-- of missing cells nothing is counted
blank_row : (has : CompositeKind → Flags → Bool) (columns : List Spacing) (lines : List (List FmtComposite)) (row : List FmtComposite) → AllByRecursion (λ ls. ls ≡ []) lines → IsLineAcross columns lines row → AllByRecursion (λ x. count_in has x ≡ 0) row
blank_row has [] [] [] none h = tt
blank_row has (c ∷ cs) ([] ∷ lines) (x ∷ xs) none h = (ap length (blank_counts has c x h.0), blank_row has cs lines xs none.1 h.1)
blank_row has (c ∷ cs) ((l ∷ ls) ∷ lines) (x ∷ xs) none h = (let e = none.0 in cc, blank_row has cs lines xs none.1 h.1)
blank_row has _ _ _ none h = absurd h

still_none : (lines : List (List FmtComposite)) → AllByRecursion (λ ls. ls ≡ []) lines → AllByRecursion (λ ls. ls ≡ []) (map below lines)
still_none [] h = tt
still_none ([] ∷ lines) h = (refl, still_none lines h.1)
still_none ((l ∷ ls) ∷ lines) h = (let e = h.0 in cc, still_none lines h.1)

blank_rows : (has : CompositeKind → Flags → Bool) (columns : List Spacing) (lines rows : List (List FmtComposite)) → AllByRecursion (λ ls. ls ≡ []) lines → AreCellsDown columns lines rows → NothingCounted has rows
blank_rows has columns lines [] none h = tt
blank_rows has columns lines (row ∷ rows) none h = (blank_row has columns lines row none h.0, blank_rows has columns (map below lines) rows (still_none lines none) h.1)

missing : (skin : LineRules) (columns : List Spacing) (lines : List (List FmtComposite)) → AreCellsLaidOut IsCompositeWrap skin columns [] lines → AllByRecursion (λ ls. ls ≡ []) lines
missing skin [] [] h = tt
missing skin (c ∷ cs) (ls ∷ lines) h = (h.0, missing skin cs lines h.1)
missing skin _ _ h = absurd h

-- the lines of a cell count what the cell counts
wrapped_kinds : (has : CompositeKind → Flags → Bool) (first other : CompositeKind) (flags : Flags → Bool) (ls : List FmtComposite) → has first ≡ flags → has other ≡ flags → HaveKinds first other ls
    → flat_map (counted_in has) ls ≡ flat_map (filter (is_counted flags)) (map flagged_text (line_compounds ls))
wrapped_kinds has first other flags [] f o kinds = refl
wrapped_kinds has first other flags (l ∷ ls) f o kinds =
    ap (λ (g : Flags → Bool). filter (is_counted g) (flagged_text l.compounds.items) ++ flat_map (counted_in has) ls) (ap has kinds.0 ∙ f)
    ∙ ap (λ x. filter (is_counted flags) (flagged_text l.compounds.items) ++ x) (wrapped_kinds has other other flags ls o o kinds.1)

cell_lines : (has : CompositeKind → Flags → Bool) (skin : LineRules) (width : ℕ) (cell : FmtComposite) (ls : List FmtComposite) → Follows has → IsCellLaidOut IsCompositeWrap skin width cell ls → flat_map (counted_in has) ls ≡ counted_in has cell
cell_lines has skin width cell ls follows (inl (fits, same)) = ap (flat_map (counted_in has)) same ∙ plus_none (counted_in has cell)
cell_lines has skin width cell ls follows (inr (wide, wraps)) =
    let room = room_of skin cell.kind width in
    wrapped_kinds has cell.kind (follow_up cell.kind) (has cell.kind) ls refl (follows cell.kind) wraps.made.kinds
    ∙ sym (kept_counted (has cell.kind) (flagged_text cell.compounds.items) (map flagged_text (line_compounds ls)) (by_keeps room.whole_words room cell.compounds.items (line_compounds ls) wraps.wrap))

as_long : (rows : List (List FmtComposite)) → length (right_of rows) ≡ length rows
as_long [] = refl
as_long (row ∷ rows) = ap suc (as_long rows)

few_right : (rows : List (List FmtComposite)) (lines : List (List FmtComposite)) → AllByRecursion (λ ls. length ls ≤ length rows) lines → AllByRecursion (λ ls. length ls ≤ length (right_of rows)) lines
few_right rows [] h = tt
few_right rows (ls ∷ lines) h = (omega (arith, as_long rows, h.0), few_right rows lines h.1)

columns_marked : (has : CompositeKind → Flags → Bool) (runs : List MarkRun) (n : ℕ) (skin : LineRules) (columns : List Spacing) (cells : List FmtComposite) (lines rows : List (List FmtComposite)) → Follows has
    → AreCellsLaidOut IsCompositeWrap skin columns cells lines → AreCellsDown columns lines rows → AllByRecursion (λ ls. length ls ≤ length rows) lines → AreMarked has runs n cells rows
columns_marked has runs n skin [] cells [] rows follows laid down few = none_marked has runs n cells rows down
columns_marked has runs n skin (c ∷ cs) [] (ls ∷ lines) rows follows laid down few = blank_rows has (c ∷ cs) (ls ∷ lines) rows (missing skin (c ∷ cs) (ls ∷ lines) laid) down
columns_marked has runs n skin (c ∷ cs) (cell ∷ cells) (ls ∷ lines) rows follows laid down few = (
  inl (column_marks has runs n cell (column rows) (heads_counted has c cs ls lines rows down few.0 ∙ cell_lines has skin c.width cell ls follows laid.0)),
  columns_marked has runs (n + count_in has cell) skin cs cells lines (right_of rows) follows laid.1 (rest_down c cs ls lines rows down) (few_right rows lines few.1),
)
columns_marked has runs n skin _ cells _ rows follows laid down few = absurd laid

at_most : (k : ℕ) (lines : List (List FmtComposite)) → most length lines ≤ k → AllByRecursion (λ ls. length ls ≤ k) lines
at_most k [] h = tt
at_most k (ls ∷ lines) h = (omega arith, at_most k lines (omega arith))

cells_in : (rows : List FmtTableRow) → map cells_of (map TableRow rows) ≡ map row_cells rows
cells_in [] = refl
cells_in (row ∷ rows) = ap (λ l. row.cells.items ∷ l) (cells_in rows)

rows_long : (rows : List FmtTableRow) → length (map row_cells rows) ≡ length rows
rows_long [] = refl
rows_long (row ∷ rows) = ap suc (rows_long rows)

-- THE LAW of a row of a table: its rows have the marks that it says
pub row_marked : (has : CompositeKind → Flags → Bool) (runs : List MarkRun) (n : ℕ) (skin : LineRules) (columns : List Spacing) (cells : List FmtComposite) (rows : List FmtTableRow) → Follows has
    → IsRowLaidOutBy IsCompositeWrap skin columns cells rows → AreMarked has runs n cells (map row_cells rows)
row_marked has runs n skin columns cells rows follows h =
    columns_marked has runs n skin columns cells h.lines (map row_cells rows) follows h.laid_out (by_cells columns h.lines rows h.rows_are)
    (at_most (length (map row_cells rows)) h.lines (omega (arith, h.count, rows_long rows)))

-- so have the rows of a table's line
pub table_line_marked : (has : CompositeKind → Flags → Bool) (runs : List MarkRun) (n : ℕ) (skin : LineRules) (columns : List Spacing) (position : RelativePosition) (l : FmtLine) (lines : List FmtLine) → Follows has
    → IsTableLineBy IsCompositeWrap skin columns position l lines → AreMarked has runs n (cells_of l) (map cells_of lines)
table_line_marked has runs n skin columns position (Normal l) lines follows h = subst (λ ls. AreMarked has runs n (l ∷ []) (map cells_of ls)) (sym h) (stay_marked has runs n (l ∷ []))
table_line_marked has runs n skin columns position (TableRow row) lines follows (rows, same, laid) =
    subst (λ ls. AreMarked has runs n row.cells.items (map cells_of ls)) (sym same)
    (subst (AreMarked has runs n row.cells.items) (sym (cells_in rows)) (row_marked has runs n skin columns row.cells.items rows follows laid))
table_line_marked has runs n skin columns position (TableRule source) lines follows (rule, same, laid) = subst (λ ls. AreMarked has runs n [] (map cells_of ls)) (sym same) (tt, tt)
table_line_marked has runs n skin columns position HorizontalRule lines follows h = subst (λ ls. AreMarked has runs n [] (map cells_of ls)) (sym h) (tt, tt)
