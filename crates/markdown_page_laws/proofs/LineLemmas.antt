-- The rows of a layout keep the characters of its lines.
use Rattle.std.proofs.Common.{◌≡◌, ℕ, suc, ◌+◌, ◌-◌, ◌^◌, ◌<◌, ◌≤◌, max, nat_lt, ◌==◌, Bool, true, false, inl, inr, List, [], ◌∷◌, ◌++◌, map, length, drop, chars, Option, Some, None, if◌then◌else◌, refl, ap, ap₂, sym, ◌∙◌, subst, arith}
use Rattle.std.specs.List.{AllByRecursion, flat_map}
use Rattle.std.proofs.lemmas.Bool.Decides.{nat_tests}
use Rattle.std.proofs.lemmas.List.{length-map}
use Rattle.mad_md.specs.Flagged.{FlaggedChar, Run, flagged, run_of, flagged_of, flagged_text}
use Rattle.mad_md.specs.Lines.{StyledRuns, LineContent, normal, table_row, table_rule, horizontal_rule}
use Rattle.mad_style.specs.Kinds.{kind_of}
use Rattle.mad_style.specs.LineStyles.{width_inside}
use Rattle.mad_style.specs.declared.kinds.CompositeKind.{CompositeKind}
use Rattle.mad_measure.specs.declared.spacing.Spacing.{Spacing}
use Rattle.mad_format.specs.CompositeWraps.{line_compounds, IsCompositeWrap}
use Rattle.mad_format.specs.FmtLines.{bordered, is_table_line, IsCompositeRead, AreCompositesRead, IsLineRead}
use Rattle.mad_format.specs.Indents.{room_of}
use Rattle.mad_format.specs.LineRules.{LineRules}
use Rattle.mad_format.specs.Lists.{EachBecomes}
use Rattle.mad_format.specs.WrappedLines.{style_margins, inner_columns_at, line_with, IsLaidOutBy}
use Rattle.mad_format.specs.Wraps.{text_of, columns_of, IsMeasured}
use Rattle.mad_format.specs.declared.composite.FmtComposite.{FmtComposite}
use Rattle.mad_format.specs.declared.line.FmtLine.{FmtLine}
use Rattle.mad_format.specs.declared.line.FmtLine.TheVariants.{Normal, TableRow, TableRule, HorizontalRule}
use Rattle.mad_format.specs.declared.table.FmtTableRow.{FmtTableRow}
use Rattle.mad_format.proofs.ListLemmas.{both_become}
use Rattle.mad_format.proofs.ReadWraps.{margins-le}
use Rattle.mad_blocks.specs.LayoutParts.{Part, table, block, single, is_code_kind, with_table, with_code, with_composite, with_line, parts_of, code_room, wrap_width, placed_code, block_width, AreLinesAt, IsPartAt, ArePartsAt}
use Rattle.mad_blocks.specs.Layouts.{AreRead, IsLayoutAt}
use Rattle.mad_blocks.proofs.TableWidths.{blanked_least, blanked_none, least_more, room_left}
use Rattle.mad_blocks.specs.Tables.{least_room, with_blanks, centered, IsCellLaidOut, AreCellsLaidOut, below, IsLineAcross, AreDown, tallest, IsRowLaidOutBy, columns_from, columns_count, columns_in, position_at, IsTableLineBy, AreTableLinesBy, IsTableLaidOutBy}
use Rattle.mad_sections.specs.TableTexts as texts
use Rattle.mad_layout.specs.FlaggedLines.{marked_parts}
use Rattle.mad_layout.specs.FlaggedRows.{AreRowsOf}
use Rattle.mad_layout.proofs.DrawableTables.{widths_of, columns_with-widths, centered-widths, widths_small}
use Rattle.mad_layout.proofs.RowsAcross.{parts_are}
use Rattle.mad_layout.proofs.WrapRows.{whole_parts, kept_rows, wrapped_rows}
use Rattle.markdown_page_laws.specs.KeptCharacters.{first_texts, other_columns, AreEmpty, KeepCells, cells_of_rows, IsLineKept}

-- ---- composites

texts_of_lines : (ls : List FmtComposite) → map flagged_text (line_compounds ls) ≡ map text_of ls
texts_of_lines [] = refl
texts_of_lines (l ∷ ls) = ap (λ ts. text_of l ∷ ts) (texts_of_lines ls)

-- a composite says what was read
record IsSaid (rules : LineRules) (said : StyledRuns) (l : FmtComposite) : Type 0 where
  kind : l.kind ≡ kind_of said.style
  text : map run_of l.compounds.items ≡ said.runs
  measured : IsMeasured rules l

is_said : (rules : LineRules) (said : StyledRuns) (l : FmtComposite) → IsCompositeRead rules said l → IsSaid rules said l
is_said rules said l read = record { kind = read.kind; text = read.text; measured = read.measured }

marked_are : (rules : LineRules) (said : StyledRuns) (l : FmtComposite) → IsSaid rules said l → map flagged_of l.compounds.items ≡ marked_parts said
marked_are rules said l read = sym (ap (map (λ (r : Run). flagged r.flags (chars r.text))) (sym read.text) ∙ parts_are l.compounds.items)

abbrev with_margins : ℕ × ℕ → FmtComposite → FmtComposite
with_margins margins l = record l { margins = Some margins }

lines_with : (margins : ℕ × ℕ) (ls : List FmtComposite) → map (line_with margins) ls ≡ map Normal (map (with_margins margins) ls)
lines_with margins [] = refl
lines_with margins (l ∷ ls) = ap (λ (all : List FmtLine). line_with margins l ∷ all) (lines_with margins ls)

texts_with : (margins : ℕ × ℕ) (ls : List FmtComposite) → map flagged_text (line_compounds ls) ≡ map text_of (map (with_margins margins) ls)
texts_with margins [] = refl
texts_with margins (l ∷ ls) = ap (λ ts. text_of l ∷ ts) (texts_with margins ls)

-- lines are composites that are rows of a composite
abbrev AreRowsFrom : LineRules → ℕ → FmtComposite → List FmtLine → Type 0
AreRowsFrom rules width l own =
    (rows : List FmtComposite) × (own ≡ map Normal rows) × AreRowsOf (room_of rules l.kind (inner_columns_at rules width l)) (map flagged_of l.compounds.items) (map text_of rows)

composite_rows : (rules : LineRules) (width : ℕ) (l : FmtComposite) (own : List FmtLine) → width < 2 ^ 64 - 1 → IsMeasured rules l → IsLaidOutBy IsCompositeWrap rules width l own → AreRowsFrom rules width l own
composite_rows rules width l own bound measured (inl (fits, same)) =
    let inside : columns_of rules l ≤ inner_columns_at rules width l = omega (arith, fits, measured, bound, margins-le (rules.line_style l.kind) width) in
    (with_margins (style_margins rules width l) l ∷ [], same, kept_rows (room_of rules l.kind (inner_columns_at rules width l)) (text_of l) (map flagged_of l.compounds.items) (whole_parts l.compounds.items) inside)
composite_rows rules width l own bound measured (inr (wide, (wrap, wraps, same))) =
    let margins = style_margins rules width l in
    let passes : inner_columns_at rules width l < columns_of rules l = omega (arith, wide, measured, margins-le (rules.line_style l.kind) width) in (
      map (with_margins margins) wrap,
      same ∙ lines_with margins wrap,
      subst (AreRowsOf (room_of rules l.kind (inner_columns_at rules width l)) (map flagged_of l.compounds.items)) (texts_with margins wrap)
          (wrapped_rows (room_of rules l.kind (inner_columns_at rules width l)) l.compounds.items (line_compounds wrap) passes wraps.wrap),
    )

-- they are rows of what was read
said_rows : (rules : LineRules) (width count : ℕ) (said : StyledRuns) (l : FmtComposite) (own : List FmtLine) → width < 2 ^ 64 - 1 → IsSaid rules said l → IsLaidOutBy IsCompositeWrap rules width l own
    → IsLineKept rules width count (normal said) own
said_rows rules width count said l own bound read laid =
    let rows = composite_rows rules width l own bound read.measured laid in
    let place : CompositeKind → List (List FlaggedChar) → Type 0 = λ k parts. AreRowsOf (room_of rules k (width_inside (rules.line_style k) width)) parts (map text_of rows.0) in
    (rows.0, rows.1, subst (λ (k : CompositeKind). place k (marked_parts said)) read.kind (subst (place l.kind) (marked_are rules said l read) rows.2))

-- ---- cells

-- the lines of a cell are its rows in a column
cell_rows : (rules : LineRules) (w : ℕ) (cell : FmtComposite) (ls : List FmtComposite) → w < 2 ^ 64 - 1 → IsMeasured rules cell → IsCellLaidOut IsCompositeWrap rules w cell ls
    → AreRowsOf (room_of rules cell.kind w) (map flagged_of cell.compounds.items) (map text_of ls)
cell_rows rules w cell ls bound measured (inl (fits, same)) =
    let inside : columns_of rules cell ≤ w = omega (arith, measured, fits, bound) in
    subst (λ (all : List FmtComposite). AreRowsOf (room_of rules cell.kind w) (map flagged_of cell.compounds.items) (map text_of all)) (sym same)
    (kept_rows (room_of rules cell.kind w) (text_of cell) (map flagged_of cell.compounds.items) (whole_parts cell.compounds.items) inside)
cell_rows rules w cell ls bound measured (inr (wide, wraps)) =
    let passes : w < columns_of rules cell = omega (arith, measured, wide) in
    subst (AreRowsOf (room_of rules cell.kind w) (map flagged_of cell.compounds.items)) (texts_of_lines ls) (wrapped_rows (room_of rules cell.kind w) cell.compounds.items (line_compounds ls) passes wraps.wrap)

said_cell : (rules : LineRules) (w : ℕ) (said : StyledRuns) (cell : FmtComposite) (ls : List FmtComposite) → w < 2 ^ 64 - 1 → IsSaid rules said cell → IsCellLaidOut IsCompositeWrap rules w cell ls
    → AreRowsOf (room_of rules (kind_of said.style) w) (marked_parts said) (map text_of ls)
said_cell rules w said cell ls bound read laid =
    let place : CompositeKind → List (List FlaggedChar) → Type 0 = λ k parts. AreRowsOf (room_of rules k w) parts (map text_of ls) in
    subst (λ (k : CompositeKind). place k (marked_parts said)) read.kind (subst (place cell.kind) (marked_are rules said cell read) (cell_rows rules w cell ls bound read.measured laid))

-- ---- a row of a table

-- rows of cells, one below the other
abbrev StandBelow : List Spacing → List (List FmtComposite) → List (List FmtComposite) → Type 0
StandBelow columns lines [] = Unit {0}
StandBelow columns lines (row ∷ rows) = IsLineAcross columns lines row × StandBelow columns (map below lines) rows

down_of : (columns : List Spacing) (lines : List (List FmtComposite)) (rows : List FmtTableRow) → AreDown columns lines rows → StandBelow columns lines (cells_of_rows rows)
down_of columns lines [] down = tt
down_of columns lines (row ∷ rows) down = (down.0, down_of columns (map below lines) rows down.1)

rest_down : (c : Spacing) (cs : List Spacing) (ls : List FmtComposite) (lines rows : List (List FmtComposite)) → StandBelow (c ∷ cs) (ls ∷ lines) rows → StandBelow cs lines (other_columns rows)
rest_down c cs ls lines [] down = tt
rest_down c cs ls lines ([] ∷ rows) down = absurd down.0
rest_down c cs ls lines ((x ∷ xs) ∷ rows) down = (down.0.1, rest_down c cs (below ls) (map below lines) rows down.1)

none_down : (rows : List (List FmtComposite)) → StandBelow [] [] rows → AllByRecursion (λ (row : List FmtComposite). row ≡ []) rows
none_down [] down = tt
none_down ([] ∷ rows) down = (refl, none_down rows down.1)
none_down ((x ∷ xs) ∷ rows) down = absurd down.0

-- a column has these texts, and below them nothing
abbrev HasTexts : List FmtComposite → List (List FmtComposite) → Type 0
HasTexts ls rows = (others : List (List FlaggedChar)) × (first_texts rows ≡ map text_of ls ++ others) × AreEmpty others

first_down : (c : Spacing) (cs : List Spacing) (ls : List FmtComposite) (lines rows : List (List FmtComposite)) → StandBelow (c ∷ cs) (ls ∷ lines) rows → length ls ≤ length rows → HasTexts ls rows
first_down c cs [] lines [] down long = ([], refl, tt)
first_down c cs (l ∷ ls) lines [] down long = absurd (omega (arith, long))
first_down c cs ls lines ([] ∷ rows) down long = absurd down.0
first_down c cs [] lines ((x ∷ xs) ∷ rows) down long =
    let more = first_down c cs [] (map below lines) rows down.1 (omega arith) in
    (text_of x ∷ more.0, ap (λ (ts : List (List FlaggedChar)). text_of x ∷ ts) more.1, (ap flagged_text down.0.0.empty, more.2))
first_down c cs (l ∷ ls) lines ((x ∷ xs) ∷ rows) down long =
    let more = first_down c cs ls (map below lines) rows down.1 (omega (arith, long)) in
    (more.0, ap₂ (λ (t : List FlaggedChar) (ts : List (List FlaggedChar)). t ∷ ts) (ap text_of down.0.0) more.1, more.2)

cells_keep : (rules : LineRules) (cs : List Spacing) (said : List StyledRuns) (cells : List FmtComposite) (lines rows : List (List FmtComposite)) → AllByRecursion (λ c. c.width < 2 ^ 64 - 1) cs → AreCompositesRead rules said cells
    → AreCellsLaidOut IsCompositeWrap rules cs cells lines → tallest lines ≤ length rows → StandBelow cs lines rows → KeepCells rules (widths_of cs) said rows
cells_keep rules [] said cells [] rows bound read laid tall down = none_down rows down
cells_keep rules [] said cells (ls ∷ lines) rows bound read laid tall down = absurd laid
cells_keep rules (c ∷ cs) said cells [] rows bound read laid tall down = absurd laid
cells_keep rules (c ∷ cs) [] [] (ls ∷ lines) rows bound read laid tall down =
    let count : length (other_columns rows) ≡ length rows = length-map rows (drop 1) in
    let first : HasTexts ls rows = first_down c cs ls lines rows down (omega (arith, tall)) in
    let none : first_texts rows ≡ first.0 = first.1 ∙ ap (λ (own : List FmtComposite). map text_of own ++ first.0) laid.0 in
    (subst AreEmpty (sym none) first.2, cells_keep rules cs [] [] lines (other_columns rows) bound.1 tt laid.1 (omega (arith, tall, count)) (rest_down c cs ls lines rows down))
cells_keep rules (c ∷ cs) (s ∷ said) (cell ∷ cells) (ls ∷ lines) rows bound read laid tall down =
    let count : length (other_columns rows) ≡ length rows = length-map rows (drop 1) in
    let first : HasTexts ls rows = first_down c cs ls lines rows down (omega (arith, tall)) in (
      map text_of ls,
      first.0,
      first.1,
      said_cell rules c.width s cell ls bound.0 (is_said rules s cell read.0) laid.0,
      first.2,
      cells_keep rules cs said cells lines (other_columns rows) bound.1 read.1 laid.1 (omega (arith, tall, count)) (rest_down c cs ls lines rows down),
    )
cells_keep rules (c ∷ cs) [] (cell ∷ cells) (ls ∷ lines) rows bound read laid tall down = absurd read
cells_keep rules (c ∷ cs) (s ∷ said) [] (ls ∷ lines) rows bound read laid tall down = absurd read

row_keeps : (rules : LineRules) (cs : List Spacing) (said : List StyledRuns) (cells : List FmtComposite) (rows : List FmtTableRow) → AllByRecursion (λ c. c.width < 2 ^ 64 - 1) cs → AreCompositesRead rules said cells
    → IsRowLaidOutBy IsCompositeWrap rules cs cells rows → KeepCells rules (widths_of cs) said (cells_of_rows rows)
row_keeps rules cs said cells rows bound read laid =
    let tall : length rows ≡ max (tallest laid.lines) 1 = laid.count in
    let count : length (cells_of_rows rows) ≡ length rows = length-map rows (λ (row : FmtTableRow). row.cells.items) in
    cells_keep rules cs said cells laid.lines (cells_of_rows rows) bound read laid.laid_out (omega (arith, tall, count)) (down_of cs laid.lines rows laid.rows_are)

-- ---- a line

-- a line becomes what keeps all that it may have been read as
abbrev KeepsRead : LineRules → ℕ → ℕ → FmtLine → List FmtLine → Type 0
KeepsRead rules width count l own = (said : LineContent) → IsLineRead rules said l → IsLineKept rules width count said own

cells_count : (rules : LineRules) (said : List StyledRuns) (cells : List FmtComposite) → AreCompositesRead rules said cells → length said ≡ length cells
cells_count rules [] [] read = refl
cells_count rules (s ∷ said) (cell ∷ cells) read = ap suc (cells_count rules said cells read.1)
cells_count rules _ _ read = absurd read

-- the columns of a table that has at most so many in a room, with blanks beside its cells or without
record FitIn (b : Bool) (width count most_cells : ℕ) (ws : List ℕ) : Type 0 where
  fit : bordered (with_blanks b ws) + 1 ≤ width
  bound : width < 2 ^ 64 - 1
  all : least_room b count ≤ width → most_cells ≤ length ws

table_line : (rules : LineRules) (width count n : ℕ) (ws : List ℕ) (cs : List Spacing) (l : FmtLine) (own : List FmtLine) → FitIn rules.cell_blanks width count n ws → widths_of cs ≡ ws → columns_in l ≤ n → is_table_line l ≡ true
    → (position : _) → IsTableLineBy IsCompositeWrap rules cs position l own → KeepsRead rules width count l own
table_line rules width count n ws cs l own fits are few tabled position laid said read = by_said said l few tabled laid read
  where
    by_said : (said : LineContent) (l : FmtLine) → columns_in l ≤ n → is_table_line l ≡ true → IsTableLineBy IsCompositeWrap rules cs position l own → IsLineRead rules said l → IsLineKept rules width count said own
    by_said (table_row cells) (TableRow row) few tabled (rows, same, laid) read =
        let least = blanked_least rules.cell_blanks ws in
        let inside : 1 + bordered (widths_of cs) ≤ width = subst (λ vs. 1 + bordered vs ≤ width) (sym are) (omega (arith, fits.fit, least)) in
        let long = cells_count rules cells row.cells.items read in (
          rows,
          same,
          record {
            widths = ws;
            fit = fits.fit;
            all = λ wide. let has = fits.all wide in omega (arith, has, long, few);
            cells_kept = subst (λ (vs : List ℕ). KeepCells rules vs cells (cells_of_rows rows)) are (row_keeps rules cs cells row.cells.items rows (widths_small width cs fits.bound inside) read laid);
          },
        )
    by_said (table_rule aligns) (TableRule source) few tabled (rule, same, laid) read = (rule, same)
    by_said (normal said) (Normal l) few tabled laid read = absurd (cc)
    by_said horizontal_rule HorizontalRule few tabled laid read = absurd (cc)
    by_said _ _ few tabled laid read = absurd read

-- ---- a table

from-widths : (ws : List ℕ) (cs : List Spacing) (l : FmtLine) → widths_of cs ≡ ws → widths_of (columns_from ws cs l) ≡ ws
from-widths ws cs (TableRule rule) h = columns_with-widths ws rule.aligns.items
from-widths ws cs _ h = h

-- all are lines of a table
abbrev AreOfTable : List FmtLine → Type 0
AreOfTable ls = AllByRecursion (λ (l : FmtLine). is_table_line l ≡ true) ls

table_lines : (rules : LineRules) (width count n : ℕ) (ws : List ℕ) (cs : List Spacing) (first : Bool) (ls own : List FmtLine) → FitIn rules.cell_blanks width count n ws → widths_of cs ≡ ws → columns_count ls ≤ n → AreOfTable ls
    → AreTableLinesBy IsCompositeWrap rules ws cs first ls own → EachBecomes (KeepsRead rules width count) ls own
table_lines rules width count n ws cs first [] own fits are few tabled laid = laid
table_lines rules width count n ws cs first (l ∷ ls) own fits are few tabled (here, there, joins, one, more) =
    let from = from-widths ws cs l are in (
      here,
      there,
      joins,
      table_line rules width count n ws (columns_from ws cs l) l here fits from (omega (arith, few)) tabled.0 (position_at first (length ls == 0)) one,
      table_lines rules width count n ws (columns_from ws cs l) false ls there fits from (omega (arith, few)) tabled.1 more,
    )

no_items : {A : Type 0} (xs : List A) → length xs ≡ 0 → xs ≡ []
no_items {A} [] h = refl
no_items {A} (x ∷ xs) h = absurd (omega (arith, h))

-- a line of a table without columns
bare_line : (rules : LineRules) (width count : ℕ) (said : LineContent) (l : FmtLine) → 3 ≤ width → columns_in l ≡ 0 → is_table_line l ≡ true → IsLineRead rules said l → IsLineKept rules width count said (l ∷ [])
bare_line rules width count (table_row cells) (TableRow row) wide none tabled read =
    let long = cells_count rules cells row.cells.items read in (
      row ∷ [],
      refl,
      record { widths = []; fit = omega (arith, wide, blanked_none rules.cell_blanks); all = λ all. omega (arith, long, none); cells_kept = (no_items row.cells.items none, tt) },
    )
bare_line rules width count (table_rule aligns) (TableRule rule) wide none tabled read = (rule, refl)
bare_line rules width count (normal said) (Normal l) wide none tabled read = absurd (cc)
bare_line rules width count horizontal_rule HorizontalRule wide none tabled read = absurd (cc)
bare_line rules width count _ _ wide none tabled read = absurd read

bare_lines : (rules : LineRules) (width count : ℕ) (ls : List FmtLine) → 3 ≤ width → columns_count ls ≡ 0 → AreOfTable ls → EachBecomes (KeepsRead rules width count) ls ls
bare_lines rules width count [] wide none tabled = refl
bare_lines rules width count (l ∷ ls) wide none tabled =
    (l ∷ [], ls, refl, (λ said read. bare_line rules width count said l wide (omega (arith, none)) tabled.0 read), bare_lines rules width count ls wide (omega (arith, none)) tabled.1)

table_keeps : (rules : LineRules) (width count : ℕ) (ls own : List FmtLine) → 3 ≤ width → width < 2 ^ 64 - 1 → columns_count ls ≤ count → AreOfTable ls → IsTableLaidOutBy IsCompositeWrap rules (columns_count ls) width ls own
    → EachBecomes (KeepsRead rules width count) ls own
table_keeps rules width count ls own wide bound few tabled (inl (inl none, stays)) = subst (EachBecomes (KeepsRead rules width count) ls) (sym stays) (bare_lines rules width count ls wide none tabled)
table_keeps rules width count ls own wide bound few tabled (inl (inr none, stays)) = absurd (omega (arith, none, wide))
table_keeps rules width count ls own wide bound few tabled (inr (some, place, (ws, kept, laid))) =
    let b : Bool = rules.cell_blanks in
    let fits : FitIn b width count (columns_count ls) ws = record {
      fit = kept.fit;
      bound = bound;
      all = λ all.
          let room : least_room b (columns_count ls) ≤ width = least_more b (columns_count ls) count width few all in
          let as_many = (kept.wide room).kept (room_left b (columns_count ls) width room) in
          omega (arith, as_many);
    } in
    table_lines rules width count (columns_count ls) ws (centered ws) true ls own fits (centered-widths ws) (omega arith) tabled laid

-- ---- composites and rules

lines_keep : (rules : LineRules) (width count : ℕ) (ls : List FmtComposite) (own : List FmtLine) → width < 2 ^ 64 - 1 → AreLinesAt IsCompositeWrap rules (Some width) (map Normal ls) own
    → EachBecomes (KeepsRead rules width count) (map Normal ls) own
lines_keep rules width count [] own bound laid = laid
lines_keep rules width count (l ∷ ls) own bound (here, there, joins, one, more) =
    (here, there, joins, (λ said read. composite_read said here one read), lines_keep rules width count ls there bound more)
  where
    composite_read : (said : LineContent) (here : List FmtLine) → IsLaidOutBy IsCompositeWrap rules width l here → IsLineRead rules said (Normal l) → IsLineKept rules width count said here
    composite_read (normal said) here laid read = said_rows rules width count said l here bound (is_said rules said l read) laid
    composite_read _ here laid read = absurd read

-- the lines of a block in its place say what they say without it
code_keep : (rules : LineRules) (width count place : ℕ) (ls : List FmtComposite) (own : List FmtLine) → width < 2 ^ 64 - 1 → AreLinesAt IsCompositeWrap rules (Some width) (map Normal (map (placed_code place) ls)) own
    → EachBecomes (KeepsRead rules width count) (map Normal ls) own
code_keep rules width count place [] own bound laid = laid
code_keep rules width count place (l ∷ ls) own bound (here, there, joins, one, more) =
    (here, there, joins, (λ said read. composite_read said here one read), code_keep rules width count place ls there bound more)
  where
    composite_read : (said : LineContent) (here : List FmtLine) → IsLaidOutBy IsCompositeWrap rules width (placed_code place l) here → IsLineRead rules said (Normal l) → IsLineKept rules width count said here
    composite_read (normal said) here laid read = said_rows rules width count said (placed_code place l) here bound (record { kind = read.kind; text = read.text; measured = read.measured }) laid
    composite_read _ here laid read = absurd read

single_keeps : (rules : LineRules) (width count : ℕ) (l : FmtLine) (own : List FmtLine) → width < 2 ^ 64 - 1 → is_table_line l ≡ false → AreLinesAt IsCompositeWrap rules (Some width) (l ∷ []) own
    → EachBecomes (KeepsRead rules width count) (l ∷ []) own
single_keeps rules width count (Normal l) own bound none laid = lines_keep rules width count (l ∷ []) own bound laid
single_keeps rules width count HorizontalRule own bound none (here, there, joins, one, more) = (here, there, joins, (λ said read. rule_read said here one read), more)
  where
    rule_read : (said : LineContent) (here : List FmtLine) → here ≡ HorizontalRule ∷ [] → IsLineRead rules said HorizontalRule → IsLineKept rules width count said here
    rule_read horizontal_rule here laid read = laid
    rule_read _ here laid read = absurd read
single_keeps rules width count (TableRow row) own bound none laid = absurd (cc)
single_keeps rules width count (TableRule rule) own bound none laid = absurd (cc)

-- ---- parts

-- the lines of a part
abbrev part_lines : Part → List FmtLine
part_lines (table ls) = ls
part_lines (block ls) = map Normal ls
part_lines (single l) = l ∷ []

-- a part has lines as its kind says
abbrev IsFormed : Part → Type 0
IsFormed (table ls) = AreOfTable ls
IsFormed (block ls) = Unit {0}
IsFormed (single l) = is_table_line l ≡ false

abbrev IsFront : FmtLine → List Part → List Part → Type 0
IsFront l ps all = AllByRecursion IsFormed all × (flat_map part_lines all ≡ l ∷ flat_map part_lines ps)

table_front : (l : FmtLine) (ps : List Part) → is_table_line l ≡ true → AllByRecursion IsFormed ps → IsFront l ps (with_table l ps)
table_front l [] tabled formed = (((tabled, tt), tt), refl)
table_front l (table ls ∷ ps) is formed = (((is, formed.0), formed.1), refl)
table_front l (block ls ∷ ps) tabled formed = (((tabled, tt), formed), refl)
table_front l (single m ∷ ps) tabled formed = (((tabled, tt), formed), refl)

code_front : (l : FmtComposite) (ps : List Part) → AllByRecursion IsFormed ps → IsFront (Normal l) ps (with_code l ps)
code_front l [] formed = ((tt, tt), refl)
code_front l (table ls ∷ ps) formed = ((tt, formed), refl)
code_front l (block ls ∷ ps) formed = ((tt, formed.1), refl)
code_front l (single m ∷ ps) formed = ((tt, formed), refl)

composite_front : (b : Bool) (l : FmtComposite) (ps : List Part) → AllByRecursion IsFormed ps → IsFront (Normal l) ps (with_composite b l ps)
composite_front true l ps formed = code_front l ps formed
composite_front false l ps formed = ((refl, formed), refl)

line_front : (l : FmtLine) (ps : List Part) → AllByRecursion IsFormed ps → IsFront l ps (with_line l ps)
line_front (Normal l) ps formed = composite_front (is_code_kind l.kind) l ps formed
line_front (TableRow row) ps formed = table_front (TableRow row) ps refl formed
line_front (TableRule rule) ps formed = table_front (TableRule rule) ps refl formed
line_front HorizontalRule ps formed = ((refl, formed), refl)

-- the parts of lines have these lines
parts_are_formed : (ls : List FmtLine) → AllByRecursion IsFormed (parts_of ls) × (flat_map part_lines (parts_of ls) ≡ ls)
parts_are_formed [] = (tt, refl)
parts_are_formed (l ∷ ls) =
    let more = parts_are_formed ls in
    let front = line_front l (parts_of ls) more.0 in
    (front.0, front.1 ∙ ap (λ (all : List FmtLine). l ∷ all) more.1)

count_both : (xs ys : List FmtLine) → columns_count (xs ++ ys) ≡ max (columns_count xs) (columns_count ys)
count_both [] ys = omega arith
count_both (x ∷ xs) ys = let more = count_both xs ys in omega (arith, more)

part_keeps : (rules : LineRules) (width count : ℕ) (p : Part) (own : List FmtLine) → 3 ≤ width → width < 2 ^ 64 - 1 → IsFormed p → columns_count (part_lines p) ≤ count → IsPartAt IsCompositeWrap rules width (Some width) p own
    → EachBecomes (KeepsRead rules width count) (part_lines p) own
part_keeps rules width count (table ls) own wide bound formed few laid = table_keeps rules width count ls own wide bound few formed laid
part_keeps rules width count (block ls) own wide bound formed few laid = code_keep rules width count (block_width (code_room rules (Some width)) ls) ls own bound laid
part_keeps rules width count (single l) own wide bound formed few laid = single_keeps rules width count l own bound formed laid

parts_keep : (rules : LineRules) (width count : ℕ) (ps : List Part) (own : List FmtLine) → 3 ≤ width → width < 2 ^ 64 - 1 → AllByRecursion IsFormed ps → columns_count (flat_map part_lines ps) ≤ count
    → ArePartsAt IsCompositeWrap rules width (Some width) ps own → EachBecomes (KeepsRead rules width count) (flat_map part_lines ps) own
parts_keep rules width count [] own wide bound formed few laid = laid
parts_keep rules width count (p ∷ ps) own wide bound formed few (here, there, joins, one, more) =
    let both = count_both (part_lines p) (flat_map part_lines ps) in
    subst (EachBecomes (KeepsRead rules width count) (part_lines p ++ flat_map part_lines ps)) (sym joins)
    (both_become (KeepsRead rules width count) (part_lines p) (flat_map part_lines ps) here there (part_keeps rules width count p here wide bound formed.0 (omega (arith, both, few)) one)
    (parts_keep rules width count ps there wide bound formed.1 (omega (arith, both, few)) more))

-- ---- a layout

count_read : (rules : LineRules) (text : List LineContent) (read : List FmtLine) → AreRead rules text read → columns_count read ≡ texts.columns_count text
count_read rules [] [] h = refl
count_read rules (c ∷ cs) (l ∷ ls) h = ap₂ max (one_count c l h.0) (count_read rules cs ls h.1)
  where
    one_count : (c : LineContent) (l : FmtLine) → IsLineRead rules c l → columns_in l ≡ texts.columns_in c
    one_count (normal said) (Normal l) h = refl
    one_count (table_row cells) (TableRow row) h = sym (cells_count rules cells row.cells.items h)
    one_count (table_rule aligns) (TableRule rule) h = ap length h.aligns_are
    one_count horizontal_rule HorizontalRule h = refl
    one_count _ _ h = absurd h
count_read rules _ _ h = absurd h

read_keeps : (rules : LineRules) (width count : ℕ) (text : List LineContent) (read own : List FmtLine) → AreRead rules text read → EachBecomes (KeepsRead rules width count) read own → EachBecomes (IsLineKept rules width count) text own
read_keeps rules width count [] [] own reads keeps = keeps
read_keeps rules width count (c ∷ cs) (l ∷ ls) own reads (here, there, joins, one, more) = (here, there, joins, one c reads.0, read_keeps rules width count cs ls there reads.1 more)
read_keeps rules width count _ _ own reads keeps = absurd reads

wide_wrap : (width : ℕ) → 3 ≤ width → wrap_width (Some width) ≡ Some width
wide_wrap width wide = let test : nat_lt width 3 ≡ false = grind (arith, nat_tests) in ap (λ (b : Bool). if b then None else Some width) test

-- the lines of a layout keep those of its text
pub layout_keeps : (rules : LineRules) (width : ℕ) (text : List LineContent) (own : List FmtLine) → 3 ≤ width → width < 2 ^ 64 - 1 → IsLayoutAt rules (Some width) text own
    → EachBecomes (IsLineKept rules width (texts.columns_count text)) text own
layout_keeps rules width text own wide bound layout =
    let formed = parts_are_formed layout.read in
    let count : columns_count (flat_map part_lines (parts_of layout.read)) ≡ texts.columns_count text = ap columns_count formed.1 ∙ count_read rules text layout.read layout.reads in
    let laid = subst (λ (w : Option ℕ). ArePartsAt IsCompositeWrap rules width w (parts_of layout.read) own) (wide_wrap width wide) layout.laid in
    let keeps = parts_keep rules width (texts.columns_count text) (parts_of layout.read) own wide bound formed.0 (omega (arith, count)) laid in
    read_keeps rules width (texts.columns_count text) text layout.read own layout.reads (subst (λ (ls : List FmtLine). EachBecomes (KeepsRead rules width (texts.columns_count text)) ls own) formed.1 keeps)
