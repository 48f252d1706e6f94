-- Tables, laid out row by row and line by line.
use Rattle.std.proofs.Common.{◌≡◌, ℕ, zero, suc, ◌+◌, ◌-◌, ◌<◌, ◌≤◌, set, ◌==◌, inl, inr, Bool, true, false, List, [], ◌∷◌, ◌++◌, map, length, length-append, take, drop, get_or, max, refl, Some, ap, sym, ◌∙◌, subst, arith, append_assoc}
use Rattle.std.specs.Prelude.{slice_get, unwrap_or}
use Rattle.std.specs.List.{AllByRecursion}
use Rattle.std.proofs.lemmas.List.{append-nil, map-append, length-map, drop_more, drop_all, drop-drop, take_all, get_or_at, set_at}
use Rattle.mad_md.specs.declared.alignment.Alignment.{Alignment}
use Rattle.mad_md.specs.declared.alignment.Alignment.TheVariants.{Unspecified}
use Rattle.mad_measure.specs.declared.spacing.Spacing.{Spacing}
use Rattle.mad_measure.proofs.AllLemmas.{all_push}
use Rattle.mad_format.specs.CompositeWraps.{IsCompositeWrap}
use Rattle.mad_blocks.specs.LayoutParts.{Part, IsTableFixedBy, AreTablesLaidOut}
use Rattle.mad_blocks.proofs.PartRuns.{AllTableLines, NoTableFirst, one_table, line_stays}
use Rattle.mad_blocks.specs.Tables.{columns_with, centered, columns_from, below, tallest, IsTop, IsNextLaidOut, AreCellsLaidOut, IsLineAcross, AreDown, IsRowLaidOutBy, position_at, IsTableLineBy, AreTableLinesBy, IsTableLaidOutBy, columns_count}
use Rattle.mad_format.specs.FmtLines.{is_table_line}
use Rattle.mad_blocks.specs.TableRows.{lines_to_come, columns_left, cell_lines_left, AreCellsLeft, TakesRow}
use Rattle.mad_format.specs.WrappedLines.{AllMeasured, IsLineMeasured}
use Rattle.mad_format.specs.Wraps.{IsMeasured}
use Rattle.mad_format.specs.LineRules.{LineRules}
use Rattle.mad_format.proofs.ListLemmas.{most_push}
use Rattle.mad_format.specs.Lists.{EachBecomes}
use Rattle.mad_format.specs.declared.composite.FmtComposite.{FmtComposite}
use Rattle.mad_format.specs.declared.line.FmtLine.{FmtLine}
use Rattle.mad_format.specs.declared.line.FmtLine.TheVariants.{Normal, TableRow, TableRule, HorizontalRule}
use Rattle.mad_format.specs.declared.table.FmtTableRow.{FmtTableRow}
use Rattle.mad_format.specs.declared.table.FmtTableRule.{FmtTableRule}
use Rattle.mad_format.specs.declared.table.RelativePosition.{RelativePosition}
use Rattle.mad_blocks.specs.declared.table_rows.CellLines.{CellLines}

-- ---- lists

-- a function of each element, one element more
pub more_mapped : {A B : Type 0} (f : A → B) (xs : List A) (i : ℕ) (d : A) (done all : List B) → i < length xs
    → done ++ map f (drop i xs) ≡ all → (done ++ f (get_or xs i d) ∷ []) ++ map f (drop (i + 1) xs) ≡ all
more_mapped {A} {B} f xs i d done all inside held =
    append_assoc done (f (get_or xs i d) ∷ []) (map f (drop (i + 1) xs)) ∙ ap (λ rest. done ++ map f rest) (sym (drop_more xs i d inside)) ∙ held

-- ---- the cells of a row

-- What the cells have become so far, with whatever the rest of them become, is what all of them become.
pub record CellsSoFar (skin : LineRules) (columns : List Spacing) (cells : List FmtComposite) (i : ℕ) (rest : List FmtComposite) (parts : List CellLines) (height : ℕ) : Type 0 where
  pub measured : AllByRecursion (IsMeasured skin) rest
  pub columns_are : columns_left parts ++ drop i columns ≡ columns
  pub so_far : (more : List (List FmtComposite)) → AreCellsLaidOut IsCompositeWrap skin (drop i columns) rest more → AreCellsLaidOut IsCompositeWrap skin columns cells (cell_lines_left parts ++ more)
  pub height_is : height ≡ max (tallest (cell_lines_left parts)) 1

-- no cell is laid out yet
pub cells_start : (skin : LineRules) (columns : List Spacing) (cells : List FmtComposite) → AllByRecursion (IsMeasured skin) cells → CellsSoFar skin columns cells 0 cells [] 1
cells_start skin columns cells measured = record {
  measured = measured;
  columns_are = refl;
  so_far = λ more h. h;
  height_is = omega arith;
}

below_measured : (skin : LineRules) (rest : List FmtComposite) → AllByRecursion (IsMeasured skin) rest → AllByRecursion (IsMeasured skin) (below rest)
below_measured skin [] h = tt
below_measured skin (l ∷ ls) h = h.1

-- one more cell is laid out in its column
pub cells_more : (skin : LineRules) (columns : List Spacing) (cells : List FmtComposite) (i : ℕ) (d : Spacing) (rest after : List FmtComposite) (parts new : List CellLines) (p : CellLines) (lines : List FmtComposite) (height taller : ℕ)
    → i < length columns → CellsSoFar skin columns cells i rest parts height → p.column ≡ get_or columns i d → lines_to_come p ≡ lines → IsNextLaidOut IsCompositeWrap skin (get_or columns i d).width rest lines
    → after ≡ below rest → new ≡ parts ++ p ∷ [] → taller ≡ max (length lines) height → CellsSoFar skin columns cells (i + 1) after new taller
cells_more skin columns cells i d rest after parts new p lines height taller inside held column lines_are laid_lines next pushed longer =
    let laid : IsNextLaidOut IsCompositeWrap skin (get_or columns i d).width rest (lines_to_come p) = subst (λ (ls : List FmtComposite). IsNextLaidOut IsCompositeWrap skin (get_or columns i d).width rest ls) (sym lines_are) laid_lines in
    let taller_is : taller ≡ max (length (lines_to_come p)) height = longer ∙ ap (λ (ls : List FmtComposite). max (length ls) height) (sym lines_are) in
    let here : drop i columns ≡ get_or columns i d ∷ drop (i + 1) columns = drop_more columns i d inside in
    let lines_pushed : cell_lines_left new ≡ cell_lines_left parts ++ lines_to_come p ∷ [] = ap cell_lines_left pushed ∙ map-append lines_to_come parts (p ∷ []) in
    let columns_pushed : columns_left new ≡ columns_left parts ++ p.column ∷ [] = ap columns_left pushed ∙ map-append (λ (q : CellLines). q.column) parts (p ∷ []) in
    let most : tallest (cell_lines_left new) ≡ max (length (lines_to_come p)) (tallest (cell_lines_left parts)) = ap tallest lines_pushed ∙ most_push length (cell_lines_left parts) (lines_to_come p) in
    record {
      measured = subst (AllByRecursion (IsMeasured skin)) (sym next) (below_measured skin rest held.measured);
      columns_are =
          ap (λ cs. cs ++ drop (i + 1) columns) columns_pushed ∙ append_assoc (columns_left parts) (p.column ∷ []) (drop (i + 1) columns)
          ∙ ap (λ c. columns_left parts ++ c ∷ drop (i + 1) columns) column ∙ ap (λ cs. columns_left parts ++ cs) (sym here) ∙ held.columns_are;
      so_far = λ more h.
          let rest_laid : AreCellsLaidOut IsCompositeWrap skin (drop (i + 1) columns) (below rest) more = subst (λ (ls : List FmtComposite). AreCellsLaidOut IsCompositeWrap skin (drop (i + 1) columns) ls more) next h in
          let all_laid : AreCellsLaidOut IsCompositeWrap skin (drop i columns) rest (lines_to_come p ∷ more) = subst (λ (cs : List Spacing). AreCellsLaidOut IsCompositeWrap skin cs rest (lines_to_come p ∷ more)) (sym here) (laid, rest_laid) in
          subst (λ (ls : List (List FmtComposite)). AreCellsLaidOut IsCompositeWrap skin columns cells ls) (sym (append_assoc (cell_lines_left parts) (lines_to_come p ∷ []) more) ∙ ap (λ ls. ls ++ more) (sym lines_pushed))
          (held.so_far (lines_to_come p ∷ more) all_laid);
      height_is = let before : height ≡ max (tallest (cell_lines_left parts)) 1 = held.height_is in omega (arith, before, most, taller_is);
    }

-- where no column is left, all cells are laid out
pub cells_all : (skin : LineRules) (columns : List Spacing) (cells : List FmtComposite) (i : ℕ) (rest : List FmtComposite) (parts : List CellLines) (height : ℕ)
    → drop i columns ≡ [] → CellsSoFar skin columns cells i rest parts height → AreCellsLeft skin columns cells parts
cells_all skin columns cells i rest parts height none held = record {
  columns_are = sym (append-nil (columns_left parts)) ∙ ap (λ cs. columns_left parts ++ cs) (sym none) ∙ held.columns_are;
  laid_out = subst (λ (ls : List (List FmtComposite)). AreCellsLaidOut IsCompositeWrap skin columns cells ls) (append-nil (cell_lines_left parts))
      (held.so_far [] (subst (λ (cs : List Spacing). AreCellsLaidOut IsCompositeWrap skin cs rest []) (sym none) tt));
}

-- ---- a row taken off the cells

-- What was taken off the first cells, with whatever is taken off the rest, is a row taken off all.
abbrev pub TakesSoFar : List CellLines → List CellLines → List FmtComposite → List CellLines → Type 0
TakesSoFar all there cells rest = (xs : List FmtComposite) (qs : List CellLines) → TakesRow there xs qs → TakesRow all (cells ++ xs) (rest ++ qs)

takes_more : (all there after : List CellLines) (p : CellLines) (cells more_cells : List FmtComposite) (x : FmtComposite) (rest more_rest : List CellLines) (q : CellLines)
    → TakesSoFar all there cells rest → there ≡ p ∷ after → IsTop p.column (lines_to_come p) x → q.column ≡ p.column → lines_to_come q ≡ below (lines_to_come p)
    → more_cells ≡ cells ++ x ∷ [] → more_rest ≡ rest ++ q ∷ [] → TakesSoFar all after more_cells more_rest
takes_more all there after p cells more_cells x rest more_rest q held next top column later cells_pushed rest_pushed xs qs h =
    let here : TakesRow there (x ∷ xs) (q ∷ qs) = subst (λ (ps : List CellLines). TakesRow ps (x ∷ xs) (q ∷ qs)) (sym next) (top, column, later, h) in
    let both : TakesRow all (cells ++ x ∷ xs) (rest ++ q ∷ qs) = held (x ∷ xs) (q ∷ qs) here in
    let cells_are : more_cells ++ xs ≡ cells ++ x ∷ xs = ap (λ ys. ys ++ xs) cells_pushed ∙ append_assoc cells (x ∷ []) xs in
    let rest_are : more_rest ++ qs ≡ rest ++ q ∷ qs = ap (λ ys. ys ++ qs) rest_pushed ∙ append_assoc rest (q ∷ []) qs in
    subst (λ (ys : List FmtComposite). TakesRow all ys (more_rest ++ qs)) (sym cells_are) (subst (λ (ys : List CellLines). TakesRow all (cells ++ x ∷ xs) ys) (sym rest_are) both)

takes_all : (all there : List CellLines) (cells : List FmtComposite) (rest : List CellLines) → there ≡ [] → TakesSoFar all there cells rest → TakesRow all cells rest
takes_all all there cells rest none held =
    let both : TakesRow all (cells ++ []) (rest ++ []) = held [] [] (subst (λ (ps : List CellLines). TakesRow ps [] []) (sym none) tt) in
    subst (λ (ys : List FmtComposite). TakesRow all ys rest) (append-nil cells) (subst (λ (ys : List CellLines). TakesRow all (cells ++ []) ys) (append-nil rest) both)

-- A row is taken off the first cells, and the others are as they were.
pub record TakenSoFar (all cells : List CellLines) (i : ℕ) (row : List FmtComposite) : Type 0 where
  pub done : List CellLines
  pub long : length done ≡ i
  pub is : cells ≡ done ++ drop i all
  pub so_far : TakesSoFar all (drop i all) row done

-- nothing was taken yet
pub taken_none : (all cells : List CellLines) (row : List FmtComposite) → cells ≡ all → row ≡ [] → TakenSoFar all cells 0 row
taken_none all cells row same none = record {
  done = [];
  long = refl;
  is = same;
  so_far = subst (λ (r : List FmtComposite). TakesSoFar all all r []) (sym none) (λ xs qs h. h);
}

-- the first line of the next cell is taken
pub taken_next : (all cells : List CellLines) (i : ℕ) (row new_row : List FmtComposite) (x : FmtComposite) (p q : CellLines) → i < length all → TakenSoFar all cells i row → p ≡ get_or cells i p
    → IsTop p.column (lines_to_come p) x → q.column ≡ p.column → lines_to_come q ≡ below (lines_to_come p) → new_row ≡ row ++ x ∷ [] → TakenSoFar all (set cells i q) (i + 1) new_row
taken_next all cells i row new_row x p q inside held there top column rest pushed =
    let first : CellLines = get_or all i p in
    let later : List CellLines = drop (i + 1) all in
    let split : drop i all ≡ first ∷ later = drop_more all i p inside in
    let parts : cells ≡ held.done ++ first ∷ later = held.is ∙ ap (λ (l : List CellLines). held.done ++ l) split in
    let read : p ≡ first = there ∙ ap (λ (l : List CellLines). get_or l i p) parts ∙ get_or_at held.done first later p i held.long in
    record {
      done = held.done ++ q ∷ [];
      long = let before : length held.done ≡ i = held.long in omega (arith, before, length-append held.done (q ∷ []));
      is = ap (λ (l : List CellLines). set l i q) parts ∙ set_at held.done first later q i held.long ∙ sym (append_assoc held.done (q ∷ []) later);
      so_far = takes_more all (drop i all) later first row new_row x held.done (held.done ++ q ∷ []) q held.so_far split (subst (λ (r : CellLines). IsTop r.column (lines_to_come r) x) read top)
          (subst (λ (r : CellLines). q.column ≡ r.column) read column) (subst (λ (r : CellLines). lines_to_come q ≡ below (lines_to_come r)) read rest) pushed refl;
    }

-- past the last cell a row is taken
pub taken_all : (all cells : List CellLines) (i : ℕ) (row : List FmtComposite) → length all ≤ i → TakenSoFar all cells i row → TakesRow all row cells
taken_all all cells i row past held =
    let none : drop i all ≡ [] = drop_all i all past in
    subst (TakesRow all row) (sym (held.is ∙ ap (λ (l : List CellLines). held.done ++ l) none ∙ append-nil held.done)) (takes_all all (drop i all) row held.done none held.so_far)

-- ---- the rows

takes_across : (ps : List CellLines) (xs : List FmtComposite) (qs : List CellLines) → TakesRow ps xs qs → IsLineAcross (columns_left ps) (cell_lines_left ps) xs
takes_across [] [] [] h = tt
takes_across (p ∷ ps) (x ∷ xs) (q ∷ qs) h = (h.0, takes_across ps xs qs h.3)
takes_across _ _ _ h = absurd h

takes_columns : (ps : List CellLines) (xs : List FmtComposite) (qs : List CellLines) → TakesRow ps xs qs → columns_left qs ≡ columns_left ps
takes_columns [] [] [] h = refl
takes_columns (p ∷ ps) (x ∷ xs) (q ∷ qs) h = ap (λ c. c ∷ columns_left qs) h.1 ∙ ap (λ cs. p.column ∷ cs) (takes_columns ps xs qs h.3)
takes_columns _ _ _ h = absurd h

-- the cells, back from the slice that they were
pub taken_back : (ps : List CellLines) (xs : List FmtComposite) (qs : List CellLines) (n : ℕ) → TakesRow ps xs qs → length ps ≡ n → take n (qs ++ drop (length qs) ps) ≡ qs
taken_back ps xs qs n h long =
    let same : length qs ≡ length ps = sym (length-map qs (λ q. q.column)) ∙ ap length (takes_columns ps xs qs h) ∙ length-map ps (λ p. p.column) in
    ap (λ (rest : List CellLines). take n (qs ++ rest)) (drop_all (length qs) ps (omega (arith, same))) ∙ ap (take n) (append-nil qs) ∙ take_all n qs (omega (arith, same, long))

takes_below : (ps : List CellLines) (xs : List FmtComposite) (qs : List CellLines) → TakesRow ps xs qs → cell_lines_left qs ≡ map below (cell_lines_left ps)
takes_below [] [] [] h = refl
takes_below (p ∷ ps) (x ∷ xs) (q ∷ qs) h = ap (λ ls. ls ∷ cell_lines_left qs) h.2 ∙ ap (λ ls. below (lines_to_come p) ∷ ls) (takes_below ps xs qs h.3)
takes_below _ _ _ h = absurd h

-- The rows so far, with whatever rows the lines that are left become, are the rows of all lines.
pub record RowsSoFar (columns : List Spacing) (all parts : List CellLines) (rows : List FmtTableRow) (n : ℕ) : Type 0 where
  pub columns_are : columns_left parts ≡ columns
  pub count : length rows ≡ n
  pub so_far : (more : List FmtTableRow) → AreDown columns (cell_lines_left parts) more → AreDown columns (cell_lines_left all) (rows ++ more)

-- no row was taken yet
pub rows_start : (columns : List Spacing) (all : List CellLines) → columns_left all ≡ columns → RowsSoFar columns all all [] 0
rows_start columns all columns_are = record { columns_are = columns_are; count = refl; so_far = λ more h. h }

-- one more row was taken
pub rows_more : (columns : List Spacing) (all parts rest : List CellLines) (rows new : List FmtTableRow) (n : ℕ) (row : FmtTableRow) → RowsSoFar columns all parts rows n
    → TakesRow parts row.cells.items rest → new ≡ rows ++ row ∷ [] → RowsSoFar columns all rest new (n + 1)
rows_more columns all parts rest rows new n row held taken pushed =
    let across : IsLineAcross columns (cell_lines_left parts) row.cells.items =
    subst (λ (cs : List Spacing). IsLineAcross cs (cell_lines_left parts) row.cells.items) held.columns_are (takes_across parts row.cells.items rest taken) in
    let longer : length new ≡ length rows + 1 = ap length pushed ∙ length-append rows (row ∷ []) in
    record {
      columns_are = takes_columns parts row.cells.items rest taken ∙ held.columns_are;
      count = let before : length rows ≡ n = held.count in omega (arith, longer, before);
      so_far = λ more h.
          let down : AreDown columns (map below (cell_lines_left parts)) more = subst (λ (ls : List (List FmtComposite)). AreDown columns ls more) (takes_below parts row.cells.items rest taken) h in
          subst (λ (rs : List FmtTableRow). AreDown columns (cell_lines_left all) rs) (sym (append_assoc rows (row ∷ []) more) ∙ ap (λ rs. rs ++ more) (sym pushed))
          (held.so_far (row ∷ more) (across, down));
    }

-- after as many rows as the tallest cell has lines, the row of the table is laid out
pub rows_all : (skin : LineRules) (columns : List Spacing) (cells : List FmtComposite) (all parts : List CellLines) (rows : List FmtTableRow) (n : ℕ)
    → AreCellsLeft skin columns cells all → n ≡ max (tallest (cell_lines_left all)) 1 → RowsSoFar columns all parts rows n → IsRowLaidOutBy IsCompositeWrap skin columns cells rows
rows_all skin columns cells all parts rows n laid height held = record {
  lines = cell_lines_left all;
  laid_out = laid.laid_out;
  count = held.count ∙ height;
  rows_are = subst (λ (rs : List FmtTableRow). AreDown columns (cell_lines_left all) rs) (append-nil rows) (held.so_far [] tt);
}

-- ---- columns

drop_none : (i : ℕ) → drop {A = Alignment} i [] ≡ []
drop_none zero = refl
drop_none (suc i) = refl

columns_next : (ws : List ℕ) (aligns : List Alignment) (i : ℕ) (d : ℕ) → i < length ws
    → columns_with (drop i ws) (drop i aligns) ≡ record { width = get_or ws i d; align = unwrap_or (slice_get aligns i) Unspecified } ∷ columns_with (drop (suc i) ws) (drop (suc i) aligns)
columns_next [] aligns i d inside = absurd (omega (arith, inside))
columns_next (w ∷ ws) [] zero d inside = refl
columns_next (w ∷ ws) (a ∷ aligns) zero d inside = refl
columns_next (w ∷ ws) [] (suc i) d inside =
    let less : i < length ws = omega (arith, inside) in
    ap (λ (none : List Alignment). columns_with (drop i ws) none) (sym (drop_none i)) ∙ columns_next ws [] i d less
columns_next (w ∷ ws) (a ∷ aligns) (suc i) d inside = let less : i < length ws = omega (arith, inside) in columns_next ws aligns i d less

-- one more column has its width and its alignment
pub columns_more : (ws : List ℕ) (aligns : List Alignment) (i : ℕ) (d : ℕ) (done new : List Spacing) (w : ℕ) (a : Alignment) → i < length ws
    → done ++ columns_with (drop i ws) (drop i aligns) ≡ columns_with ws aligns → w ≡ get_or ws i d → a ≡ unwrap_or (slice_get aligns i) Unspecified
    → new ≡ done ++ record { width = w; align = a } ∷ [] → new ++ columns_with (drop (i + 1) ws) (drop (i + 1) aligns) ≡ columns_with ws aligns
columns_more ws aligns i d done new w a inside held width_is align_is pushed =
    let e : i + 1 ≡ suc i = omega arith in
    let c : Spacing = record { width = w; align = a } in
    let here : Spacing = record { width = get_or ws i d; align = unwrap_or (slice_get aligns i) Unspecified } in
    let is : c ≡ here = cc in
    ap (λ k. new ++ columns_with (drop k ws) (drop k aligns)) e
    ∙ ap (λ cs. cs ++ columns_with (drop (suc i) ws) (drop (suc i) aligns)) pushed ∙ append_assoc done (c ∷ []) (columns_with (drop (suc i) ws) (drop (suc i) aligns))
    ∙ ap (λ x. done ++ x ∷ columns_with (drop (suc i) ws) (drop (suc i) aligns)) is ∙ ap (λ cs. done ++ cs) (sym (columns_next ws aligns i d inside)) ∙ held

-- ---- lines that are moved

-- one more line is moved from what is left to what was taken
pub taken_more : (xs : List FmtLine) (n : ℕ) (x : FmtLine) (after : List FmtLine) → drop n xs ≡ x ∷ after → (take (suc n) xs ≡ take n xs ++ x ∷ []) × (drop (suc n) xs ≡ after)
taken_more [] zero x after e = absurd (cc)
taken_more [] (suc n) x after e = absurd (cc)
taken_more (y ∷ ys) zero x after e = (cc, cc)
taken_more (y ∷ ys) (suc n) x after e = let rest = taken_more ys n x after e in (ap (λ zs. y ∷ zs) rest.0, rest.1)

-- where none is left, all were moved
pub moved_all : (xs : List FmtLine) (n count : ℕ) → drop n xs ≡ [] → n ≤ count → (take n xs ≡ take count xs) × (drop count xs ≡ [])
moved_all [] zero zero none less = (refl, refl)
moved_all [] zero (suc count) none less = (refl, refl)
moved_all [] (suc n) zero none less = (refl, refl)
moved_all [] (suc n) (suc count) none less = (refl, refl)
moved_all (x ∷ xs) zero count none less = absurd (cc)
moved_all (x ∷ xs) (suc n) zero none less = absurd (omega (arith, less))
moved_all (x ∷ xs) (suc n) (suc count) none less = let rest = moved_all xs n count none (omega (arith, less)) in (ap (λ zs. x ∷ zs) rest.0, rest.1)

-- the lines of a table, after those that were moved before
pub moved_table : (xs : List FmtLine) (start height : ℕ) (rest left empty table : List FmtLine) → rest ≡ xs → left ≡ drop start rest → empty ≡ [] → table ≡ empty ++ take height left → table ≡ take height (drop start xs)
moved_table xs start height rest left empty table read left_is none table_is = table_is ∙ ap (λ ls. ls ++ take height left) none ∙ ap (take height) (left_is ∙ ap (drop start) read)

longer_by : (front own joined : List FmtLine) (before now : ℕ) → joined ≡ front ++ own → before ≡ length front → now ≡ length joined → now - before ≡ length own
longer_by front own joined before now joins before_is now_is = omega (arith, before_is, now_is, ap length joins, length-append front own)

-- what becomes of the table, between the lines before it and those after it
pub table_fixed : (skin : LineRules) (n width : ℕ) (xs : List FmtLine) (start height : ℕ) (none rest front left table after joined new : List FmtLine) (before now : ℕ) → none ≡ [] → rest ≡ xs → front ≡ none ++ take start rest
    → left ≡ drop start rest → table ≡ take height (drop start xs) → after ≡ drop height left → (own : List FmtLine) × (joined ≡ front ++ own) × IsTableLaidOutBy IsCompositeWrap skin n width table own
    → before ≡ length front → now ≡ length joined → new ≡ joined ++ after
    → (own : List FmtLine) × (new ≡ take start xs ++ (own ++ drop (start + height) xs)) × IsTableLaidOutBy IsCompositeWrap skin n width (take height (drop start xs)) own × (now - before ≡ length own)
table_fixed skin n width xs start height none rest front left table after joined new before now begun read front_is left_is table_is after_is (own, joins, laid) before_is now_is pushed =
    let first : front ≡ take start xs = front_is ∙ ap (λ ls. ls ++ take start rest) begun ∙ ap (take start) read in
    let last : after ≡ drop (start + height) xs = after_is ∙ ap (drop height) (left_is ∙ ap (drop start) read) ∙ drop-drop height start xs in (
      own,
      pushed ∙ ap (λ ls. ls ++ after) joins ∙ append_assoc front own after ∙ ap (λ ls. ls ++ (own ++ after)) first ∙ ap (λ ls. take start xs ++ (own ++ ls)) last,
      subst (λ (ls : List FmtLine). IsTableLaidOutBy IsCompositeWrap skin n width ls own) table_is laid,
      longer_by front own joined before now joins before_is now_is,
    )

-- ---- a table

-- a line that is no row and no rule stays
pub other_stays : (skin : LineRules) (columns : List Spacing) (position : RelativePosition) (line : FmtLine) → ((row : FmtTableRow) → line ≡ TableRow row → ⊥) → ((rule : FmtTableRule) → line ≡ TableRule rule → ⊥)
    → IsTableLineBy IsCompositeWrap skin columns position line (line ∷ [])
other_stays skin columns position (Normal l) no_row no_rule = refl
other_stays skin columns position (TableRow row) no_row no_rule = absurd (no_row row refl)
other_stays skin columns position (TableRule rule) no_row no_rule = absurd (no_rule rule refl)
other_stays skin columns position HorizontalRule no_row no_rule = refl

-- What the lines of a table have become so far, with whatever the rest of them become, is what all of them become.
pub record PartsSoFar (skin : LineRules) (widths : List ℕ) (all before : List FmtLine) (columns : List Spacing) (first : Bool) (rest lines : List FmtLine) : Type 0 where
  pub measured : AllMeasured skin rest
  pub done : List FmtLine
  pub lines_are : lines ≡ before ++ done
  pub so_far : (more : List FmtLine) → AreTableLinesBy IsCompositeWrap skin widths columns first rest more → AreTableLinesBy IsCompositeWrap skin widths (centered widths) true all (done ++ more)

-- no line of a table is laid out yet
pub parts_start : (skin : LineRules) (widths : List ℕ) (all before : List FmtLine) (columns : List Spacing) (rest : List FmtLine) → AllMeasured skin all → columns ≡ centered widths → rest ≡ all
    → PartsSoFar skin widths all before columns true rest before
parts_start skin widths all before columns rest measured is same =
    subst (λ (ls : List FmtLine). PartsSoFar skin widths all before columns true ls before) (sym same)
    (record {
      measured = measured;
      done = [];
      lines_are = sym (append-nil before);
      so_far = λ more h. subst (λ (cs : List Spacing). AreTableLinesBy IsCompositeWrap skin widths cs true all more) is h;
    })

-- one more line of it is laid out
pub parts_more : (skin : LineRules) (widths : List ℕ) (all before : List FmtLine) (columns new_columns : List Spacing) (first : Bool) (rest after lines own new : List FmtLine) (line : FmtLine) (cs : List Spacing) (position : RelativePosition) (left : ℕ)
    → PartsSoFar skin widths all before columns first rest lines → rest ≡ line ∷ after → new_columns ≡ columns_from widths columns line → cs ≡ new_columns → left ≡ length after → position ≡ position_at first (left == 0)
    → IsTableLineBy IsCompositeWrap skin cs position line own → new ≡ lines ++ own → PartsSoFar skin widths all before new_columns false after new
parts_more skin widths all before columns new_columns first rest after lines own new line cs position left held next new_columns_is cs_are left_is position_is part_at pushed =
    let place : position ≡ position_at first (length after == 0) = position_is ∙ ap (λ (n : ℕ). position_at first (n == 0)) left_is in
    let here : List Spacing = columns_from widths columns line in
    let part : IsTableLineBy IsCompositeWrap skin here (position_at first (length after == 0)) line own =
    subst (λ (p : RelativePosition). IsTableLineBy IsCompositeWrap skin here p line own) place (subst (λ (xs : List Spacing). IsTableLineBy IsCompositeWrap skin xs position line own) (cs_are ∙ new_columns_is) part_at) in
    let measured : AllMeasured skin (line ∷ after) = subst (AllMeasured skin) next held.measured in
    record {
      measured = measured.1;
      done = held.done ++ own;
      lines_are = pushed ∙ ap (λ ls. ls ++ own) held.lines_are ∙ append_assoc before held.done own;
      so_far = λ more h.
          let rest_laid : AreTableLinesBy IsCompositeWrap skin widths here false after more = subst (λ (xs : List Spacing). AreTableLinesBy IsCompositeWrap skin widths xs false after more) new_columns_is h in
          let both : AreTableLinesBy IsCompositeWrap skin widths columns first (line ∷ after) (own ++ more) = (own, more, refl, part, rest_laid) in
          subst (λ (ls : List FmtLine). AreTableLinesBy IsCompositeWrap skin widths (centered widths) true all ls) (sym (append_assoc held.done own more))
          (held.so_far (own ++ more) (subst (λ (ls : List FmtLine). AreTableLinesBy IsCompositeWrap skin widths columns first ls (own ++ more)) (sym next) both));
    }

-- where no line is left, all lines of the table are laid out
pub parts_all : (skin : LineRules) (widths : List ℕ) (all before : List FmtLine) (columns : List Spacing) (first : Bool) (rest lines : List FmtLine) → rest ≡ []
    → PartsSoFar skin widths all before columns first rest lines
    → (own : List FmtLine) × (lines ≡ before ++ own) × AreTableLinesBy IsCompositeWrap skin widths (centered widths) true all own
parts_all skin widths all before columns first rest lines none held = (
  held.done,
  held.lines_are,
  subst (λ (ls : List FmtLine). AreTableLinesBy IsCompositeWrap skin widths (centered widths) true all ls) (append-nil held.done)
      (held.so_far [] (subst (λ (ls : List FmtLine). AreTableLinesBy IsCompositeWrap skin widths columns first ls []) (sym none) refl)),
)

-- ---- all tables

-- a run of lines of a table, and what follows it
table_laid : (skin : LineRules) (width : ℕ) (run rest own others : List FmtLine) → AllTableLines run → NoTableFirst rest → IsTableLaidOutBy IsCompositeWrap skin (columns_count run) width run own
    → AreTablesLaidOut IsCompositeWrap skin width rest others → AreTablesLaidOut IsCompositeWrap skin width (run ++ rest) (own ++ others)
table_laid skin width [] rest own others parts first (inl none) h = subst (λ (ls : List FmtLine). AreTablesLaidOut IsCompositeWrap skin width rest (ls ++ others)) (sym none.1) h
table_laid skin width [] rest own others parts first (inr some) h = absurd (let less : 0 < 0 = some.0 in omega (arith, less))
table_laid skin width (l ∷ ls) rest own others parts first laid h =
    subst (λ (ps : List Part). EachBecomes (IsTableFixedBy IsCompositeWrap skin width) ps (own ++ others)) (sym (one_table l ls rest parts first)) (own, others, refl, laid, h)

-- What the lines have become so far, with whatever the lines of the table that is open and the rest of them become.
pub record TablesSoFar (skin : LineRules) (width : ℕ) (all open_table rest lines : List FmtLine) : Type 0 where
  pub table_measured : AllMeasured skin open_table
  pub measured : AllMeasured skin rest
  pub parts : AllTableLines open_table
  pub so_far : (more : List FmtLine) → AreTablesLaidOut IsCompositeWrap skin width (open_table ++ rest) more → AreTablesLaidOut IsCompositeWrap skin width all (lines ++ more)

-- no line was passed yet
pub tables_start : (skin : LineRules) (width : ℕ) (all open_table rest lines : List FmtLine) → AllMeasured skin all → open_table ≡ [] → rest ≡ all → lines ≡ [] → TablesSoFar skin width all open_table rest lines
tables_start skin width all open_table rest lines measured no_table same none =
    subst (λ (ts : List FmtLine). TablesSoFar skin width all ts rest lines) (sym no_table)
    (subst (λ (xs : List FmtLine). TablesSoFar skin width all [] xs lines) (sym same)
    (subst (λ (ls : List FmtLine). TablesSoFar skin width all [] all ls) (sym none) (record { table_measured = tt; measured = measured; parts = tt; so_far = λ more h. h })))

-- a line of a table
pub tables_line : (skin : LineRules) (width : ℕ) (all open_table new_table rest after lines : List FmtLine) (line : FmtLine) → TablesSoFar skin width all open_table rest lines
    → rest ≡ line ∷ after → is_table_line line ≡ true → new_table ≡ open_table ++ line ∷ [] → TablesSoFar skin width all new_table after lines
tables_line skin width all open_table new_table rest after lines line held next part pushed =
    let measured : AllMeasured skin (line ∷ after) = subst (AllMeasured skin) next held.measured in
    record {
      table_measured = subst (AllMeasured skin) (sym pushed) (all_push (IsLineMeasured skin) open_table line held.table_measured measured.0);
      measured = measured.1;
      parts = subst AllTableLines (sym pushed) (all_push (λ l. is_table_line l ≡ true) open_table line held.parts part);
      so_far = λ more h.
          let joined : new_table ++ after ≡ open_table ++ rest = ap (λ ls. ls ++ after) pushed ∙ append_assoc open_table (line ∷ []) after ∙ ap (λ ls. open_table ++ ls) (sym next) in
          held.so_far more (subst (λ (ls : List FmtLine). AreTablesLaidOut IsCompositeWrap skin width ls more) joined h);
    }

-- any other line, after the table that was open
tables_then_line : (skin : LineRules) (width : ℕ) (all open_table rest after lines own between new : List FmtLine) (line : FmtLine) → TablesSoFar skin width all open_table rest lines
    → rest ≡ line ∷ after → is_table_line line ≡ false → IsTableLaidOutBy IsCompositeWrap skin (columns_count open_table) width open_table own
    → between ≡ lines ++ own → new ≡ between ++ line ∷ [] → TablesSoFar skin width all [] after new
tables_then_line skin width all open_table rest after lines own between new line held next no_part laid with_table pushed =
    let measured : AllMeasured skin (line ∷ after) = subst (AllMeasured skin) next held.measured in
    record {
      table_measured = tt;
      measured = measured.1;
      parts = tt;
      so_far = λ more h.
          let here : AreTablesLaidOut IsCompositeWrap skin width (line ∷ after) (line ∷ more) = line_stays IsCompositeWrap skin width line after more no_part h in
          let both : AreTablesLaidOut IsCompositeWrap skin width (open_table ++ line ∷ after) (own ++ line ∷ more) = table_laid skin width open_table (line ∷ after) own (line ∷ more) held.parts no_part laid here in
          let lines_are : lines ++ (own ++ line ∷ more) ≡ new ++ more =
          sym (append_assoc lines own (line ∷ more)) ∙ ap (λ ls. ls ++ line ∷ more) (sym with_table) ∙ sym (append_assoc between (line ∷ []) more) ∙ ap (λ ls. ls ++ more) (sym pushed) in
          subst (λ (ls : List FmtLine). AreTablesLaidOut IsCompositeWrap skin width all ls) lines_are
          (held.so_far (own ++ line ∷ more) (subst (λ (ls : List FmtLine). AreTablesLaidOut IsCompositeWrap skin width (open_table ++ ls) (own ++ line ∷ more)) (sym next) both));
    }

-- any other line comes after the table that was open, and none is open then
pub tables_other : (skin : LineRules) (width : ℕ) (all open_table whole begun rest after lines own between new : List FmtLine) (line : FmtLine) → TablesSoFar skin width all open_table rest lines
    → rest ≡ line ∷ after → is_table_line line ≡ false → whole ≡ open_table → IsTableLaidOutBy IsCompositeWrap skin (columns_count whole) width whole own
    → between ≡ lines ++ own → new ≡ between ++ line ∷ [] → begun ≡ [] → TablesSoFar skin width all begun after new
tables_other skin width all open_table whole begun rest after lines own between new line held next no_part whole_is laid_whole with_table pushed begun_is =
    let laid : IsTableLaidOutBy IsCompositeWrap skin (columns_count open_table) width open_table own = subst (λ (ls : List FmtLine). IsTableLaidOutBy IsCompositeWrap skin (columns_count ls) width ls own) whole_is laid_whole in
    subst (λ (ls : List FmtLine). TablesSoFar skin width all ls after new) (sym begun_is)
    (tables_then_line skin width all open_table rest after lines own between new line held next no_part laid with_table pushed)

-- where no line is left, and the last table is laid out, all tables are
pub tables_all : (skin : LineRules) (width : ℕ) (all open_table rest lines own new : List FmtLine) → rest ≡ [] → TablesSoFar skin width all open_table rest lines
    → IsTableLaidOutBy IsCompositeWrap skin (columns_count open_table) width open_table own → new ≡ lines ++ own → AreTablesLaidOut IsCompositeWrap skin width all new
tables_all skin width all open_table rest lines own new none held laid pushed =
    let both : AreTablesLaidOut IsCompositeWrap skin width (open_table ++ []) (own ++ []) = table_laid skin width open_table [] own [] held.parts tt laid refl in
    let lines_are : lines ++ (own ++ []) ≡ new = ap (λ ls. lines ++ ls) (append-nil own) ∙ sym pushed in
    subst (λ (ls : List FmtLine). AreTablesLaidOut IsCompositeWrap skin width all ls) lines_are
    (held.so_far (own ++ []) (subst (λ (ls : List FmtLine). AreTablesLaidOut IsCompositeWrap skin width (open_table ++ ls) (own ++ [])) (sym none) both))

-- what is in a column is in its place
pub top_spacing : (c : Spacing) (ls : List FmtComposite) (x : FmtComposite) → IsTop c ls x → x.spacing ≡ Some c
top_spacing c [] x top = top.spacing
top_spacing c (l ∷ ls) x top = ap (λ (y : FmtComposite). y.spacing) top
