-- What a screen shows of a list.
use Rattle.std.proofs.Common.{◌≡◌, ◌⊎◌, inl, inr, ⊎_elim, ℕ, zero, suc, min, ◌+◌, ◌-◌, ◌<◌, ◌≤◌, Bool, true, false, ◌&&◌, cond, eqb, leb, ltb, List, [], ◌∷◌, ◌++◌, length, map, replicate, take, Option, Some, None, Result, refl, ap, sym, ◌∙◌, subst, arith, append_assoc, length-append, chars, string_bytes}
use Rattle.std.specs.Prelude.{IfSome, slice_get, encode_utf8, option_map, unwrap_or}
use Rattle.std.specs.List.{AllByRecursion, range_with_len, repeat, sum, sum_by}
use Rattle.std.specs.Str.{bytes_eq}
use Rattle.std.specs.declared.alloc.AllocError.{AllocError}
use Rattle.std.proofs.lemmas.Bool.{cases_lt}
use Rattle.std.proofs.lemmas.Bool.Decides.{nat_tests}
use Rattle.std.proofs.lemmas.List.{length-map, length-take, take_all}
use Rattle.std.proofs.lemmas.List.FromFn.{length-map-range_with_len}
use Rattle.std.proofs.lemmas.List.Sums.{sum_by-cons}
use Rattle.std.proofs.lemmas.Option.{slice_get_within}
use Rattle.unicode_width.specs.Width.{char_width}
use Rattle.unicode_width.proofs.Computing.{unicode_width}
use Rattle.mad_characters.specs.Columns.{char_columns}
use Rattle.mad_md.specs.declared.alignment.Alignment.TheVariants.{Center}
use Rattle.mad_term.specs.Commands.{move_to_bytes}
use Rattle.mad_term.specs.Styles.{IsStyle}
use Rattle.mad_screen.specs.Drawing.{drawing, IsOutside}
use Rattle.mad_screen.specs.Glyph.{Glyph, Look}
use Rattle.mad_screen.specs.Grid.{blank, cell_at}
use Rattle.mad_screen.specs.Painting.{attach, cells_of, look_of_style, Paints, piece_cells, shown_color}
use Rattle.mad_style.specs.CompoundStyles.{background_set}
use Rattle.mad_style.specs.Repeats.{styled_char_bytes}
use Rattle.mad_style.specs.StyledChars.{char_alone, char_style, styled_char}
use Rattle.mad_style.specs.declared.compound_styles.CompoundStyle.{CompoundStyle}
use Rattle.mad_style.specs.declared.styled_chars.StyledChar.{StyledChar}
use Rattle.mad_measure.specs.Areas.{IsWithinLimits}
use Rattle.mad_measure.specs.declared.area.Area.{Area}
use Rattle.mad_draw.specs.BesideBar.{bar_char, char_cell, IsBarShown}
use Rattle.mad_draw.specs.Pieces.{IsColumnChar, IsColumnPiece, char_piece}
use Rattle.mad_draw.specs.declared.scroll_bars.ScrollBar.{ScrollBar}
use Rattle.mad_draw.proofs.BarLemmas.{bar_column}
use Rattle.mad_draw.proofs.BorderLemmas.{u2500_column, u2502_column}
use Rattle.mad_draw.proofs.ColumnChars.{column_piece, one_char}
use Rattle.mad_list_rows.specs.States.{ListState}
use Rattle.mad_list_rows.specs.declared.list_rows.ListRow.{ListRow}
use Rattle.mad_list_columns.specs.Bodies.{body_bar, list_bar}
use Rattle.mad_list_columns.specs.Cells.{DrawnCell, IsMadeCell}
use Rattle.mad_list_columns.specs.Drawing.{AreDrawn, DrawnRow, IsDrawnRow, Title, bar_bytes, between_cells, body_row, border, cell_bytes, cell_style, cell_text, is_selected, list_bytes, row_bytes, row_or_erasure, rule_bytes, rule_row, selected_background, separated, shown_from, title_bytes, title_row, title_text, title_width, titles, with_column}
use Rattle.mad_list_columns.specs.Shown.{FitsItsArea, IsKnownLook, IsListShown, StaysInPlace, bar_after, between_style, cell_after, cell_outside, from_column, is_past_last, line_cell, row_after, row_cells, row_or_blanks, rule_cells, title_cells}
use Rattle.mad_list_columns.specs.declared.cells.ListViewCell.{ListViewCell}
use Rattle.mad_list_columns.specs.declared.columns.ListViewColumn.{ListViewColumn}
use Rattle.mad_list_columns.specs.declared.drawing.ListStyle.{ListStyle}
use Rattle.mad_list_columns.proofs.PenLemmas.{look_between, look_over, marked_cells, marked_paints}
use Rattle.mad_list_columns.proofs.PlaceLemmas.{ShowsWithin, in_place}
use Rattle.mad_list_columns.proofs.RowLemmas.{past_none}
use Rattle.mad_list_columns.proofs.TerminalSteps.{AreChanged, Changes, both_in_row, changed_both, erasing, erasure_changes, in_row, in_rows, left_of_cells, no_change, nothing_changes, painting_changes, past_cells, rows_change, same_change}
use Rattle.mad_list_columns.proofs.WithinLemmas.{PaintsEach, PaintsWithin, length-text_cells, separated_by_one, spread, within_more, within_piece, within_repeat, within_separated}

-- ---- characters of lines

one_of : (o : Option ℕ) → unwrap_or o 0 ≡ 1 → o ≡ Some 1
one_of None h = absurd (omega (arith, h))
one_of (Some n) h = ap Some h

one_wide : (c : ℕ) → char_columns c ≡ 1 → char_width false c ≡ Some 1
unfolding char_columns
one_wide c h = one_of (char_width false c) h

one_cell : (pen : Look) (c : ℕ) → IsColumnChar c → cells_of pen (chars (encode_utf8 c)) ≡ record { chars = c ∷ []; pen = pen } ∷ []
one_cell pen c h = ap (cells_of pen) (one_char c h.scalar) ∙ ap (λ (o : Option ℕ). (attach o pen c ([], [])).1) (one_wide c h.one)

char_within : (c : StyledChar) → IsColumnChar (char_alone c) → ShowsWithin 1 (encode_utf8 (char_alone c))
char_within c h = let piece : IsColumnPiece (char_piece c) = column_piece c h in record { utf8 = piece.shown.utf8; shown = piece.shown.shown; most = omega (arith, piece.one) }

char_painted : (c : StyledChar) → IsStyle (char_style c).object_style → IsColumnChar (char_alone c) → PaintsWithin 1 (styled_char_bytes c) (char_cell c ∷ [])
char_painted c known h =
    subst (λ (gs : List Glyph). PaintsWithin 1 (styled_char_bytes c) gs) (one_cell (look_of_style (char_style c).object_style) (char_alone c) h)
    (within_piece (char_style c).object_style (encode_utf8 (char_alone c)) 1 known (char_within c h))

by_width : (c : ℕ) → char_width false c ≡ Some 1 → char_columns c ≡ 1
unfolding char_columns
by_width c width = ap (λ o. unwrap_or o 0) width

-- ┬
u252c_column : IsColumnChar 0x252C
unfolding unicode_width
u252c_column = record { scalar = refl; one = by_width 0x252C refl }

-- ┼
u253c_column : IsColumnChar 0x253C
unfolding unicode_width
u253c_column = record { scalar = refl; one = by_width 0x253C refl }

-- a line's character
line_painted : (table : CompoundStyle) (c : ℕ) → IsStyle table.object_style → IsColumnChar c → PaintsWithin 1 (border table c) (line_cell table c ∷ [])
line_painted table c known h = char_painted (styled_char table c) known h

-- ---- titles

-- a title over some columns, whose text stays in its place
record IsFine (t : Title) : Type 0 where
  pub text : StaysInPlace t.measure t.text
  pub some : 0 < length t.widths

abbrev own : ℕ → ℕ
own w = w

-- the columns of a title
abbrev title_columns : Title → ℕ
title_columns t = spread own t.widths - 1

-- all of them
abbrev all_columns : List Title → ℕ
all_columns [] = 0
all_columns (t ∷ ts) = spread own t.widths + all_columns ts

with_fine : {E : Type 0} (c : ListViewColumn E) (ts : List Title) → StaysInPlace c.measure (string_bytes c.title) → AllByRecursion IsFine ts → AllByRecursion IsFine (with_column c ts) × (all_columns (with_column c ts) ≡ c.spacing.width + 1 + all_columns ts)
with_fine c [] text fine = ((record { text = text; some = omega arith }, tt), omega arith)
with_fine c (t ∷ ts) text fine = by (bytes_eq (string_bytes c.title) t.text)
  where
    by : (b : Bool) → AllByRecursion IsFine (cond b (record { text = string_bytes c.title; widths = c.spacing.width ∷ t.widths; measure = c.measure } ∷ ts) (record { text = string_bytes c.title; widths = c.spacing.width ∷ []; measure = c.measure } ∷ (t ∷ ts)))
        × (all_columns (cond b (record { text = string_bytes c.title; widths = c.spacing.width ∷ t.widths; measure = c.measure } ∷ ts) (record { text = string_bytes c.title; widths = c.spacing.width ∷ []; measure = c.measure } ∷ (t ∷ ts))) ≡ c.spacing.width + 1 + (spread own t.widths + all_columns ts))
    by true = ((record { text = text; some = omega arith }, fine.1), omega arith)
    by false = ((record { text = text; some = omega arith }, fine), omega arith)

abbrev width_of : {E : Type 0} → ListViewColumn E → ℕ
width_of c = c.spacing.width

fine_titles : {E : Type 0} (columns : List (ListViewColumn E)) → AllByRecursion (λ c. StaysInPlace c.measure (string_bytes c.title)) columns → AllByRecursion IsFine (titles columns) × (all_columns (titles columns) ≡ spread width_of columns)
fine_titles [] h = (tt, refl)
fine_titles (c ∷ cs) h =
    let rest = fine_titles cs h.1 in
    let more = with_fine c (titles cs) h.0 rest.0 in
    (more.0, more.1 ∙ ap (λ (n : ℕ). c.spacing.width + 1 + n) rest.1)

-- as the sum is told
sum_spread : {X : Type 0} (n : X → ℕ) (xs : List X) → spread n xs ≡ sum_by n xs + length xs
sum_spread n [] = refl
sum_spread n (x ∷ xs) = let rest = sum_spread n xs in let first = sum_by-cons n x xs in omega (arith, rest, first)

spread_titles : (ts : List Title) → AllByRecursion IsFine ts → spread title_columns ts ≡ all_columns ts
spread_titles [] h = refl
spread_titles (t ∷ ts) h = let rest = spread_titles ts h.1 in let some = sum_spread own t.widths in omega (arith, rest, some, h.0.some)

title_fits : (t : Title) → IsFine t → title_width t ≤ title_columns t
title_fits t h = let all = sum_spread own t.widths in omega (arith, all, sums t.widths, h.some)
  where
    sums : (ws : List ℕ) → sum ws ≡ sum_by own ws
    sums ws = refl

titles_within : (header : CompoundStyle) (ts : List Title) → IsStyle header.object_style → AllByRecursion IsFine ts → AllByRecursion (λ t. PaintsWithin (title_columns t) (title_bytes header t) (piece_cells header.object_style (title_text t))) ts
titles_within header [] known h = tt
titles_within header (t ∷ ts) known h = (
  within_more (title_width t) (title_columns t) (title_bytes header t) (piece_cells header.object_style (title_text t)) (title_fits t h.0)
      (within_piece header.object_style (title_text t) (title_width t) known (in_place t.measure (record { width = title_width t; align = Center }) t.text h.0.text)),
  titles_within header ts known h.1,
)

row_of_titles : {E : Type 0} (header table : CompoundStyle) (columns : List (ListViewColumn E)) → IsStyle header.object_style → IsStyle table.object_style → AllByRecursion (λ c. StaysInPlace c.measure (string_bytes c.title)) columns → PaintsWithin (spread width_of columns - 1) (title_row header table columns) (title_cells header table columns)
row_of_titles header table columns known lines h =
    let fine = fine_titles columns h in
    let count = spread_titles (titles columns) fine.0 in
    within_more (spread title_columns (titles columns) - 1) _ (title_row header table columns) (title_cells header table columns) (omega (arith, count, fine.1))
    (separated_by_one (border table 0x2502) (line_cell table 0x2502) (title_bytes header) (λ t. piece_cells header.object_style (title_text t)) title_columns (titles columns) (line_painted table 0x2502 lines u2502_column) (titles_within header (titles columns) known fine.0))

widths_within : (table : CompoundStyle) (ws : List ℕ) → IsStyle table.object_style → AllByRecursion (λ w. PaintsWithin (own w) (repeat w (border table 0x2500)) (replicate w (line_cell table 0x2500))) ws
widths_within table [] lines = tt
widths_within table (w ∷ ws) lines = (within_repeat w (border table 0x2500) (line_cell table 0x2500) (line_painted table 0x2500 lines u2500_column), widths_within table ws lines)

abbrev rule_part : CompoundStyle → Title → List Glyph
rule_part table t = separated (line_cell table 0x252C ∷ []) (map (λ w. replicate w (line_cell table 0x2500)) t.widths)

rules_within : (table : CompoundStyle) (ts : List Title) → IsStyle table.object_style → AllByRecursion (λ t. PaintsWithin (title_columns t) (rule_bytes table t) (rule_part table t)) ts
rules_within table [] lines = tt
rules_within table (t ∷ ts) lines = (
  separated_by_one (border table 0x252C) (line_cell table 0x252C) (λ w. repeat w (border table 0x2500)) (λ w. replicate w (line_cell table 0x2500)) own t.widths (line_painted table 0x252C lines u252c_column) (widths_within table t.widths lines),
  rules_within table ts lines,
)

row_of_rules : {E : Type 0} (table : CompoundStyle) (columns : List (ListViewColumn E)) → IsStyle table.object_style → AllByRecursion (λ c. StaysInPlace c.measure (string_bytes c.title)) columns → PaintsWithin (spread width_of columns - 1) (rule_row table columns) (rule_cells table columns)
row_of_rules table columns lines h =
    let fine = fine_titles columns h in
    let count = spread_titles (titles columns) fine.0 in
    within_more (spread title_columns (titles columns) - 1) _ (rule_row table columns) (rule_cells table columns) (omega (arith, count, fine.1))
    (separated_by_one (border table 0x253C) (line_cell table 0x253C) (rule_bytes table) (rule_part table) title_columns (titles columns) (line_painted table 0x253C lines u253c_column) (rules_within table (titles columns) lines))

-- ---- rows of cells

-- a cell whose text stays in its column
record IsColumnCell {E : Type 0} (cell : DrawnCell E) : Type 0 where
  pub text : StaysInPlace cell.column.measure cell.shown.text
  pub known : IsStyle cell.shown.style.object_style

column_cells : {T E : Type 0} (extracts : E → T → Result ListViewCell AllocError → Type 0) (row : T) (cells : List (DrawnCell E)) → AllByRecursion (λ c. StaysInPlace c.column.measure c.shown.text) cells → AllByRecursion (λ c. IsMadeCell extracts c.column.extract row c.shown) cells → AllByRecursion IsColumnCell cells
column_cells extracts row [] stay made = tt
column_cells extracts row (c ∷ cs) stay made = (record { text = stay.0; known = made.0.known }, column_cells extracts row cs stay.1 made.1)

abbrev cell_width : {E : Type 0} → DrawnCell E → ℕ
cell_width c = c.column.spacing.width

-- what a cell shows
abbrev cell_glyphs : {E : Type 0} → Bool → DrawnCell E → List Glyph
cell_glyphs selected c = piece_cells (cell_style selected c.shown.style).object_style (cell_text c)

known_in : (selected : Bool) (style : CompoundStyle) → IsStyle style.object_style → IsStyle (cell_style selected style).object_style
known_in true style h = record { foreground = h.foreground; background = omega arith; underline = h.underline }
known_in false style h = h

cell_within : {E : Type 0} (selected : Bool) (c : DrawnCell E) → IsColumnCell c → PaintsWithin (cell_width c) (cell_bytes selected c) (cell_glyphs selected c)
cell_within selected c h = within_piece (cell_style selected c.shown.style).object_style (cell_text c) (cell_width c) (known_in selected c.shown.style h.known) (in_place c.column.measure c.column.spacing c.shown.text h.text)

plain_cells : {E : Type 0} (cells : List (DrawnCell E)) → AllByRecursion IsColumnCell cells → AllByRecursion (λ c. PaintsWithin (cell_width c) (cell_bytes false c) (cell_glyphs false c)) cells
plain_cells [] h = tt
plain_cells (c ∷ cs) h = (cell_within false c h.0, plain_cells cs h.1)

-- a cell of the selected row after the line before it
marked_cell : {E : Type 0} (table : CompoundStyle) (c : DrawnCell E) → IsStyle table.object_style → IsColumnCell c → PaintsWithin (cell_width c + 1) (between_cells table true ++ cell_bytes true c) (line_cell (between_style table true) 0x2502 ∷ cell_glyphs true c)
marked_cell table c lines h =
    let style : CompoundStyle = cell_style true c.shown.style in
    let line : List ℕ = encode_utf8 0x2502 in
    let one : ShowsWithin 1 line = char_within (styled_char table 0x2502) u2502_column in
    let text : ShowsWithin (cell_width c) (cell_text c) = in_place c.column.measure c.column.spacing c.shown.text h.text in
    let first : marked_cells selected_background table.object_style line ≡ line_cell (between_style table true) 0x2502 ∷ [] =
    one_cell (look_over (shown_color selected_background) table.object_style) 0x2502 u2502_column
    ∙ ap (λ (pen : Look). record { chars = 0x2502 ∷ []; pen = pen } ∷ []) (look_between table) in
    record {
      paints =
          subst (λ (gs : List Glyph). Paints (between_cells table true ++ cell_bytes true c) (gs ++ cell_glyphs true c)) first
          (marked_paints selected_background table.object_style style.object_style line (cell_text c) (omega arith) lines (known_in true c.shown.style h.known) refl one.utf8 text.utf8 one.shown text.shown);
      within = omega (arith, length-text_cells (look_of_style style.object_style) (cell_text c), text.most);
    }

marked_row : {E : Type 0} (table : CompoundStyle) (cells : List (DrawnCell E)) → IsStyle table.object_style → AllByRecursion IsColumnCell cells → AllByRecursion (PaintsEach (between_cells table true) (line_cell (between_style table true) 0x2502) (cell_bytes true) (cell_glyphs true) cell_width) cells
marked_row table [] lines h = tt
marked_row table (c ∷ cs) lines h = (record { alone = cell_within true c h.0; after = marked_cell table c lines h.0 }, marked_row table cs lines h.1)

row_of_cells : {E : Type 0} (table : CompoundStyle) (selected : Bool) (cells : List (DrawnCell E)) → IsStyle table.object_style → AllByRecursion IsColumnCell cells → PaintsWithin (spread cell_width cells - 1) (row_bytes table selected cells) (row_cells table selected cells)
row_of_cells table true cells lines h = within_separated (between_cells table true) (line_cell (between_style table true) 0x2502) (cell_bytes true) (cell_glyphs true) cell_width cells (marked_row table cells lines h)
row_of_cells table false cells lines h = separated_by_one (between_cells table false) (line_cell table 0x2502) (cell_bytes false) (cell_glyphs false) cell_width cells (line_painted table 0x2502 lines u2502_column) (plain_cells cells h)

spread_map : {X Y : Type 0} (v : X → Y) (n : Y → ℕ) (xs : List X) → spread (λ x. n (v x)) xs ≡ spread n (map v xs)
spread_map v n [] = refl
spread_map v n (x ∷ xs) = ap (λ (m : ℕ). n (v x) + 1 + m) (spread_map v n xs)

-- ---- the list, its rows and its area

-- what the proof speaks of: a list that fits its area
record IsFitting {T E F O : Type 0} (extracts : E → T → Result ListViewCell AllocError → Type 0) (style : ListStyle) (columns : List (ListViewColumn E)) (area : Area) (list : ListState T F O) (drawn : List (DrawnRow T E)) : Type 0 where
  pub limits : IsWithinLimits area
  pub known : IsKnownLook style
  pub are : AreDrawn extracts columns (area.height - 2) list drawn
  pub fits : FitsItsArea style columns area list drawn

columns_fit : {T E F O : Type 0} {extracts : E → T → Result ListViewCell AllocError → Type 0} {style : ListStyle} {columns : List (ListViewColumn E)} {area : Area} {list : ListState T F O} {drawn : List (DrawnRow T E)} → IsFitting extracts style columns area list drawn → spread width_of columns - 1 ≤ area.width
columns_fit {T} {E} {F} {O} {extracts} {style} {columns} {area} {list} {drawn} h =
    omega (arith, sum_spread width_of columns, h.fits.widths, some_columns columns)
  where
    some_columns : (cs : List (ListViewColumn E)) → (sum_by width_of cs + length cs) - 1 ≤ sum_by width_of cs + (length cs - 1)
    some_columns [] = omega arith
    some_columns (c ∷ cs) = omega arith

all_at : {X : Type 0} (P : X → Type 0) (xs : List X) (i : ℕ) (x : X) → AllByRecursion P xs → slice_get xs i ≡ Some x → P x
all_at P [] i x h e = absurd (cc)
all_at P (y ∷ ys) zero x h e = let same : y ≡ x = cc in subst P same h.0
all_at P (y ∷ ys) (suc i) x h e = all_at P ys i x h.1 e

-- what a drawn row paints
row_within : {T E F O : Type 0} {extracts : E → T → Result ListViewCell AllocError → Type 0} {style : ListStyle} {columns : List (ListViewColumn E)} {area : Area} {list : ListState T F O} {drawn : List (DrawnRow T E)} → IsFitting extracts style columns area list drawn → (selected : Bool) (r : ℕ) (row : DrawnRow T E) → slice_get drawn r ≡ Some row
    → PaintsWithin area.width (row_bytes style.table selected row.cells) (row_cells style.table selected row.cells)
row_within {T} {E} {F} {O} {extracts} {style} {columns} {area} {list} {drawn} h selected r row there =
    let are = all_at (IsDrawnRow extracts columns) drawn r row h.are.cells there in
    let stay : AllByRecursion (λ c. StaysInPlace c.column.measure c.shown.text) row.cells = all_at (λ d. AllByRecursion (λ c. StaysInPlace c.column.measure c.shown.text) d.cells) drawn r row h.fits.cells there in
    let count : spread cell_width row.cells ≡ spread width_of columns = spread_map (λ (c : DrawnCell E). c.column) width_of row.cells ∙ ap (spread width_of) are.columns_are in
    within_more (spread cell_width row.cells - 1) area.width (row_bytes style.table selected row.cells) (row_cells style.table selected row.cells) (omega (arith, count, columns_fit h))
    (row_of_cells style.table selected row.cells h.known.table (column_cells extracts row.row.1.content row.cells stay are.made))

titles_painted : {T E F O : Type 0} {extracts : E → T → Result ListViewCell AllocError → Type 0} {style : ListStyle} {columns : List (ListViewColumn E)} {area : Area} {list : ListState T F O} {drawn : List (DrawnRow T E)} → IsFitting extracts style columns area list drawn → PaintsWithin area.width (title_row style.title style.table columns) (title_cells style.title style.table columns)
titles_painted {T} {E} {F} {O} {extracts} {style} {columns} {area} {list} {drawn} h =
    within_more (spread width_of columns - 1) area.width (title_row style.title style.table columns) (title_cells style.title style.table columns) (columns_fit h) (row_of_titles style.title style.table columns h.known.title h.known.table h.fits.titles)

rule_painted : {T E F O : Type 0} {extracts : E → T → Result ListViewCell AllocError → Type 0} {style : ListStyle} {columns : List (ListViewColumn E)} {area : Area} {list : ListState T F O} {drawn : List (DrawnRow T E)} → IsFitting extracts style columns area list drawn → PaintsWithin area.width (rule_row style.table columns) (rule_cells style.table columns)
rule_painted {T} {E} {F} {O} {extracts} {style} {columns} {area} {list} {drawn} h =
    within_more (spread width_of columns - 1) area.width (rule_row style.table columns) (rule_cells style.table columns) (columns_fit h) (row_of_rules style.table columns h.known.table h.fits.titles)

-- ---- what each row changes

-- bytes of no more columns than the area, from its left on
line_changes : (area : Area) (y : ℕ) (bytes : List ℕ) (cells : List Glyph) → IsWithinLimits area → area.top ≤ y → y < area.top + area.height → PaintsWithin area.width bytes cells → Changes area (in_row y (from_column area.left cells)) (move_to_bytes area.left y ++ bytes)
line_changes area y bytes cells limits low high p =
    painting_changes area area.left y bytes cells limits (record { from_left = omega arith; some = λ some. omega (arith, some); to_right = omega (arith, p.within); from_top = low; to_bottom = high }) p.paints

abbrev bar_of : ListStyle → Area → ℕ × ℕ → ScrollBar
bar_of style area thumb = record { style = style.bar; top = area.top; thumb = thumb }

bar_known : (style : ListStyle) (area : Area) (thumb : ℕ × ℕ) (r : ℕ) → IsKnownLook style → IsStyle (char_style (bar_char (bar_of style area thumb) r)).object_style
bar_known style area thumb r known =
    elim (leb thumb.0 (area.top + r) && leb (area.top + r) thumb.1) as (λ b. IsStyle (char_style (cond b style.bar.thumb style.bar.track)).object_style) [ true ↦ known.thumb | false ↦ known.track ]

bar_changes : (style : ListStyle) (area : Area) (thumb : Option (ℕ × ℕ)) (r : ℕ) → IsWithinLimits area → IsKnownLook style → r < area.height - 2 → IfSome (option_map (bar_of style area) thumb) (IsBarShown area.width) → Changes area (in_row (area.top + (r + 2)) (bar_after area (option_map (bar_of style area) thumb) r)) (bar_bytes area (option_map (bar_of style area) thumb) r)
bar_changes style area None r limits known inside shown = same_change area no_change (in_row (area.top + (r + 2)) (bar_after area None r)) [] (λ x y c. by (eqb y (area.top + (r + 2))) c) (nothing_changes area)
  where
    by : (b : Bool) (c : Glyph) → c ≡ cond b c c
    by true c = refl
    by false c = refl
bar_changes style area (Some thumb) r limits known inside shown =
    let bar : ScrollBar = bar_of style area thumb in
    painting_changes area (area.left + area.width - 1) (area.top + (r + 2)) (styled_char_bytes (bar_char bar r)) (char_cell (bar_char bar r) ∷ []) limits
    (record {
      from_left = omega (arith, shown.column);
      some = λ _. omega (arith, shown.column);
      to_right = omega (arith, shown.column);
      from_top = omega arith;
      to_bottom = omega (arith, inside);
    })
    (char_painted (bar_char bar r) (bar_known style area thumb r known) (bar_column bar area.width r shown)).paints

-- a row of the list, or the erasure past the last one
part_changes : {T E F O : Type 0} {extracts : E → T → Result ListViewCell AllocError → Type 0} {style : ListStyle} {columns : List (ListViewColumn E)} {area : Area} {list : ListState T F O} {drawn : List (DrawnRow T E)} → IsFitting extracts style columns area list drawn → (r : ℕ) (o : Option (DrawnRow T E)) → slice_get drawn r ≡ o → r < area.height - 2
    → Changes area (in_row (area.top + (r + 2)) (row_or_blanks style.table area list.selection o)) (move_to_bytes area.left (area.top + (r + 2)) ++ row_or_erasure style.table list.selection o)
part_changes {T} {E} {F} {O} {extracts} {style} {columns} {area} {list} {drawn} h r None is inside = erasure_changes area (area.top + (r + 2)) h.limits (omega (arith, inside))
part_changes {T} {E} {F} {O} {extracts} {style} {columns} {area} {list} {drawn} h r (Some row) is inside =
    line_changes area (area.top + (r + 2)) (row_bytes style.table (is_selected list.selection row.row.0) row.cells) (row_cells style.table (is_selected list.selection row.row.0) row.cells) h.limits (omega arith) (omega (arith, inside)) (row_within h (is_selected list.selection row.row.0) r row is)

-- with the bar beside it
body_row_changes : {T E F O : Type 0} {extracts : E → T → Result ListViewCell AllocError → Type 0} {style : ListStyle} {columns : List (ListViewColumn E)} {area : Area} {list : ListState T F O} {drawn : List (DrawnRow T E)} → IsFitting extracts style columns area list drawn → (r : ℕ) → r < area.height - 2
    → Changes area (in_row (area.top + (r + 2)) (row_after style columns area list drawn (suc (suc r)))) (move_to_bytes area.left (area.top + (r + 2)) ++ body_row style area list drawn r)
body_row_changes {T} {E} {F} {O} {extracts} {style} {columns} {area} {list} {drawn} h r inside =
    let y : ℕ = area.top + (r + 2) in
    let move : List ℕ = move_to_bytes area.left y in
    let part : List ℕ = row_or_erasure style.table list.selection (slice_get drawn r) in
    let bar : List ℕ = bar_bytes area (body_bar style.bar area list) r in
    subst (λ (bytes : List ℕ). Changes area (in_row y (row_after style columns area list drawn (suc (suc r)))) bytes) (append_assoc move part bar)
    (both_in_row area y (row_or_blanks style.table area list.selection (slice_get drawn r)) (bar_after area (body_bar style.bar area list) r) (move ++ part) bar (part_changes h r (slice_get drawn r) refl inside)
    (bar_changes style area (list_bar area list) r h.limits h.known inside h.fits.bar))

-- the body's rows
body_changes : {T E F O : Type 0} {extracts : E → T → Result ListViewCell AllocError → Type 0} {style : ListStyle} {columns : List (ListViewColumn E)} {area : Area} {list : ListState T F O} {drawn : List (DrawnRow T E)} → IsFitting extracts style columns area list drawn → (k r : ℕ) → r + k ≤ area.height - 2
    → AreChanged area (row_after style columns area list drawn) (area.top + (r + 2)) (suc (suc r)) (map (body_row style area list drawn) (range_with_len r k))
body_changes h zero r within = tt
body_changes {T} {E} {F} {O} {extracts} {style} {columns} {area} {list} {drawn} h (suc k) r within =
    let f = row_after style columns area list drawn in
    let rest : List (List ℕ) = map (body_row style area list drawn) (range_with_len (r + 1) k) in
    let y : area.top + ((r + 1) + 2) ≡ suc (area.top + (r + 2)) = omega arith in
    let j : suc (suc (r + 1)) ≡ suc (suc (suc r)) = omega arith in (
      body_row_changes h r (omega (arith, within)),
      subst (λ (i : ℕ). AreChanged area f (suc (area.top + (r + 2))) i rest) j
          (subst (λ (z : ℕ). AreChanged area f z (suc (suc (r + 1))) rest) y (body_changes h k (r + 1) (omega (arith, within)))),
    )

-- ---- the whole

-- all rows, of which there are as many as the area has
rows_changed : {T E F O : Type 0} {extracts : E → T → Result ListViewCell AllocError → Type 0} {style : ListStyle} {columns : List (ListViewColumn E)} {area : Area} {list : ListState T F O} {drawn : List (DrawnRow T E)} → IsFitting extracts style columns area list drawn → (height : ℕ) → height ≡ area.height
    → AreChanged area (row_after style columns area list drawn) area.top 0 (take height (title_row style.title style.table columns ∷ (rule_row style.table columns ∷ [])) ++ map (body_row style area list drawn) (range_with_len 0 (height - 2)))
rows_changed h zero is = tt
rows_changed {T} {E} {F} {O} {extracts} {style} {columns} {area} {list} {drawn} h (suc zero) is =
    (line_changes area area.top (title_row style.title style.table columns) (title_cells style.title style.table columns) h.limits (omega arith) (omega (arith, is)) (titles_painted h), tt)
rows_changed {T} {E} {F} {O} {extracts} {style} {columns} {area} {list} {drawn} h (suc (suc n)) is =
    let f = row_after style columns area list drawn in
    let title : List ℕ = title_row style.title style.table columns in
    let rule : List ℕ = rule_row style.table columns in
    let body : List (List ℕ) = map (body_row style area list drawn) (range_with_len 0 (suc (suc n) - 2)) in
    let all : take (suc (suc n)) (title ∷ (rule ∷ [])) ≡ title ∷ (rule ∷ []) = take_all (suc (suc n)) (title ∷ (rule ∷ [])) (omega arith) in
    let y : area.top + (0 + 2) ≡ suc (suc area.top) = omega arith in
    subst (λ (rows : List (List ℕ)). AreChanged area f area.top 0 (rows ++ body)) (sym all) (
      line_changes area area.top title (title_cells style.title style.table columns) h.limits (omega arith) (omega (arith, is)) (titles_painted h),
      (
        line_changes area (suc area.top) rule (rule_cells style.table columns) h.limits (omega arith) (omega (arith, is)) (rule_painted h),
        subst (λ (z : ℕ). AreChanged area f z 2 body) y (body_changes h (suc (suc n) - 2) 0 (omega (arith, is))),
      ),
    )

count_rows : (height : ℕ) (title rule : List ℕ) (row : ℕ → List ℕ) → length (take height (title ∷ (rule ∷ [])) ++ map row (range_with_len 0 (height - 2))) ≡ height
count_rows height title rule row =
    length-append (take height (title ∷ (rule ∷ []))) (map row (range_with_len 0 (height - 2)))
    ∙ omega (arith, length-take height (title ∷ (rule ∷ [])), length-map-range_with_len row 0 (height - 2))

-- what the list's bytes change
list_changes : {T E F O : Type 0} {extracts : E → T → Result ListViewCell AllocError → Type 0} {style : ListStyle} {columns : List (ListViewColumn E)} {area : Area} {list : ListState T F O} {drawn : List (DrawnRow T E)} → IsFitting extracts style columns area list drawn
    → Changes area (cell_after style columns area list drawn) (list_bytes style columns area list drawn)
list_changes {T} {E} {F} {O} {extracts} {style} {columns} {area} {list} {drawn} h =
    let f = row_after style columns area list drawn in
    let title : List ℕ = title_row style.title style.table columns in
    let rule : List ℕ = rule_row style.table columns in
    let rows : List (List ℕ) = take area.height (title ∷ (rule ∷ [])) ++ map (body_row style area list drawn) (range_with_len 0 (area.height - 2)) in
    let count : length rows ≡ area.height = count_rows area.height title rule (body_row style area list drawn) in
    same_change area (in_rows area.top 0 (length rows) f) (cell_after style columns area list drawn) (drawing area.left area.top rows)
    (λ x y c.
    ap (λ (n : ℕ). in_rows area.top 0 n f x y c) count
    ∙ (let number : 0 + (y - area.top) ≡ y - area.top = omega arith in ap (λ (j : ℕ). cond (leb area.top y && ltb y (area.top + area.height)) (f j x c) c) number))
    (rows_change area f area.top 0 rows (rows_changed h area.height refl))

-- ---- outside the area

first_false : (p q : Bool) → p ≡ false → (p && q) ≡ false
first_false true q e = absurd (cc)
first_false false q e = refl

kept_outside : {T F O : Type 0} (area : Area) (list : ListState T F O) (x y : ℕ) (c : Glyph) → (leb (area.left + area.width) x && is_past_last area list y) ≡ false → c ≡ cell_outside area list x y c
kept_outside area list x y c test = sym (ap (λ (b : Bool). cond b blank c) test)

both_false : (p q : Bool) → q ≡ false → (p && q) ≡ false
both_false true q e = e
both_false false q e = refl

-- rows above the area and below it
beyond_rows : {T F O : Type 0} (area : Area) (list : ListState T F O) (x y : ℕ) (c d : Glyph) → (leb area.top y && ltb y (area.top + area.height)) ≡ false → cond (leb area.top y && ltb y (area.top + area.height)) d c ≡ cell_outside area list x y c
beyond_rows area list x y c d test =
    let past : ℕ = area.top + 2 + length (shown_from list.rows list.scroll) in
    let none : (leb past y && ltb y (area.top + area.height)) ≡ false =
    ⊎_elim (λ (above : y < past). first_false (leb past y) (ltb y (area.top + area.height)) (grind (arith, nat_tests)))
    (λ (reached : past ≤ y). ⊎_elim
    (λ (inside : y < area.top + area.height). absurd_of (leb area.top y) (ltb y (area.top + area.height)) (grind (arith, nat_tests)) (grind (arith, nat_tests)) test)
    (λ (below : area.top + area.height ≤ y). both_false (leb past y) (ltb y (area.top + area.height)) (grind (arith, nat_tests)))
    (cases_lt y (area.top + area.height)))
    (cases_lt y past) in
    ap (λ (b : Bool). cond b d c) test ∙ kept_outside area list x y c (both_false (leb (area.left + area.width) x) (is_past_last area list y) none)
  where
    absurd_of : {A : Type 0} (p q : Bool) → p ≡ true → q ≡ true → (p && q) ≡ false → A
    absurd_of true true e f g = absurd (cc)
    absurd_of false q e f g = absurd (cc)
    absurd_of true false e f g = absurd (cc)

-- the bar is in the area
bar_kept : (area : Area) (bar : Option ScrollBar) (r x : ℕ) (c : Glyph) → 0 < area.width → (x < area.left) ⊎ (area.left + area.width ≤ x) → bar_after area bar r x c ≡ c
bar_kept area None r x c some out = refl
bar_kept area (Some bar) r x c some out =
    ⊎_elim (λ (before : x < area.left). left_of_cells (area.left + area.width - 1) (char_cell (bar_char bar r) ∷ []) x c (omega (arith, before, some)))
    (λ (past : area.left + area.width ≤ x). past_cells (area.left + area.width - 1) (char_cell (bar_char bar r) ∷ []) x c (omega (arith, past, some)))
    out

-- left of the area no row changes anything
row_left : {T E F O : Type 0} (style : ListStyle) (columns : List (ListViewColumn E)) (area : Area) (list : ListState T F O) (drawn : List (DrawnRow T E)) (j x : ℕ) (c : Glyph) → 0 < area.width → x < area.left → row_after style columns area list drawn j x c ≡ c
row_left style columns area list drawn zero x c some before = left_of_cells area.left (title_cells style.title style.table columns) x c before
row_left style columns area list drawn (suc zero) x c some before = left_of_cells area.left (rule_cells style.table columns) x c before
row_left {T} {E} style columns area list drawn (suc (suc r)) x c some before =
    bar_kept area (body_bar style.bar area list) r x (row_or_blanks style.table area list.selection (slice_get drawn r) x c) some (inl before) ∙ part_left (slice_get drawn r)
  where
    part_left : (o : Option (DrawnRow T E)) → row_or_blanks style.table area list.selection o x c ≡ c
    part_left None = let test : leb area.left x ≡ false = grind (arith, nat_tests) in ap (λ (b : Bool). cond b blank c) test
    part_left (Some row) = left_of_cells area.left (row_cells style.table (is_selected list.selection row.row.0) row.cells) x c before

-- as many rows are drawn as are shown, up to the area's last row
count_drawn : {T E F O : Type 0} {extracts : E → T → Result ListViewCell AllocError → Type 0} {style : ListStyle} {columns : List (ListViewColumn E)} {area : Area} {list : ListState T F O} {drawn : List (DrawnRow T E)} → IsFitting extracts style columns area list drawn → length drawn ≡ min (area.height - 2) (length (shown_from list.rows list.scroll))
count_drawn {T} {E} {F} {O} {extracts} {style} {columns} {area} {list} {drawn} h =
    sym (length-map drawn (λ (d : DrawnRow T E). d.row)) ∙ ap length h.are.rows ∙ length-take (area.height - 2) (shown_from list.rows list.scroll)

-- right of it only erased ones do
row_right : {T E F O : Type 0} {extracts : E → T → Result ListViewCell AllocError → Type 0} {style : ListStyle} {columns : List (ListViewColumn E)} {area : Area} {list : ListState T F O} {drawn : List (DrawnRow T E)} → IsFitting extracts style columns area list drawn → (j x y : ℕ) (c : Glyph) → 0 < area.width → area.left + area.width ≤ x → y ≡ area.top + j → j < area.height
    → row_after style columns area list drawn j x c ≡ cell_outside area list x y c
row_right {T} {E} {F} {O} {extracts} {style} {columns} {area} {list} {drawn} h zero x y c some past is inside =
    let above : leb (area.top + 2 + length (shown_from list.rows list.scroll)) y ≡ false = grind (arith, nat_tests, is) in
    past_cells area.left (title_cells style.title style.table columns) x c (omega (arith, past, (titles_painted h).within))
    ∙ kept_outside area list x y c (both_false (leb (area.left + area.width) x) (is_past_last area list y) (first_false _ (ltb y (area.top + area.height)) above))
row_right {T} {E} {F} {O} {extracts} {style} {columns} {area} {list} {drawn} h (suc zero) x y c some past is inside =
    let above : leb (area.top + 2 + length (shown_from list.rows list.scroll)) y ≡ false = grind (arith, nat_tests, is) in
    past_cells area.left (rule_cells style.table columns) x c (omega (arith, past, (rule_painted h).within))
    ∙ kept_outside area list x y c (both_false (leb (area.left + area.width) x) (is_past_last area list y) (first_false _ (ltb y (area.top + area.height)) above))
row_right {T} {E} {F} {O} {extracts} {style} {columns} {area} {list} {drawn} h (suc (suc r)) x y c some past is inside =
    bar_kept area (body_bar style.bar area list) r x (row_or_blanks style.table area list.selection (slice_get drawn r) x c) some (inr past) ∙ part_right (slice_get drawn r) refl
  where
    shown : ℕ
    shown = length (shown_from list.rows list.scroll)

    part_right : (o : Option (DrawnRow T E)) → slice_get drawn r ≡ o → row_or_blanks style.table area list.selection o x c ≡ cell_outside area list x y c
    part_right None none =
        let all : shown ≤ r = omega (arith, past_none drawn r none, count_drawn h, inside) in
        let test : leb area.left x ≡ true = grind (arith, nat_tests, past) in
        let right : leb (area.left + area.width) x ≡ true = grind (arith, nat_tests) in
        let low : leb (area.top + 2 + shown) y ≡ true = (let l : area.top + 2 + shown ≤ y = omega (arith, all, is) in grind (arith, nat_tests)) in
        let high : ltb y (area.top + area.height) ≡ true = (let l : y < area.top + area.height = omega (arith, inside, is) in grind (arith, nat_tests)) in
        ap (λ (b : Bool). cond b blank c) test
        ∙ sym (ap (λ (b : Bool). cond (b && (leb (area.top + 2 + shown) y && ltb y (area.top + area.height))) blank c) right
        ∙ ap (λ (b : Bool). cond (b && ltb y (area.top + area.height)) blank c) low
        ∙ ap (λ (b : Bool). cond b blank c) high)
    part_right (Some row) there =
        let within : r < length drawn = slice_get_within drawn r row there in
        let above : leb (area.top + 2 + shown) y ≡ false = (let l : y < area.top + 2 + shown = omega (arith, within, count_drawn h, is) in grind (arith, nat_tests)) in
        past_cells area.left (row_cells style.table (is_selected list.selection row.row.0) row.cells) x c (omega (arith, past, (row_within h (is_selected list.selection row.row.0) r row there).within))
        ∙ kept_outside area list x y c (both_false (leb (area.left + area.width) x) (is_past_last area list y) (first_false (leb (area.top + 2 + shown) y) (ltb y (area.top + area.height)) above))

outside_same : {T E F O : Type 0} {extracts : E → T → Result ListViewCell AllocError → Type 0} {style : ListStyle} {columns : List (ListViewColumn E)} {area : Area} {list : ListState T F O} {drawn : List (DrawnRow T E)} → IsFitting extracts style columns area list drawn → (x y : ℕ) (c : Glyph) → 0 < area.width → IsOutside area.left area.top area.width area.height x y
    → cell_after style columns area list drawn x y c ≡ cell_outside area list x y c
outside_same {T} {E} {F} {O} {extracts} {style} {columns} {area} {list} {drawn} h x y c some out =
    let d : Glyph = row_after style columns area list drawn (y - area.top) x c in
    let off : (leb area.top y && ltb y (area.top + area.height)) ≡ false → cell_after style columns area list drawn x y c ≡ cell_outside area list x y c = λ test. beyond_rows area list x y c d test in
    let on : (area.top ≤ y) → (y < area.top + area.height) → d ≡ cell_outside area list x y c → cell_after style columns area list drawn x y c ≡ cell_outside area list x y c =
    λ low high e. (let test : (leb area.top y && ltb y (area.top + area.height)) ≡ true = grind (arith, nat_tests) in ap (λ (b : Bool). cond b d c) test ∙ e) in
    ⊎_elim
    (λ (above : y < area.top). off (grind (arith, nat_tests)))
    (λ (low : area.top ≤ y). ⊎_elim
    (λ (high : y < area.top + area.height). on low high
    (⊎_elim
    (λ (before : x < area.left).
    let right : leb (area.left + area.width) x ≡ false = grind (arith, nat_tests) in
    row_left style columns area list drawn (y - area.top) x c some before ∙ kept_outside area list x y c (first_false (leb (area.left + area.width) x) (is_past_last area list y) right))
    (λ rest. ⊎_elim
    (λ (past : area.left + area.width ≤ x). row_right h (y - area.top) x y c some past (omega (arith, low)) (omega (arith, low, high)))
    (λ rows. absurd (⊎_elim (λ (a : y < area.top). omega (arith, a, low)) (λ (b : area.top + area.height ≤ y). omega (arith, b, high)) rows))
    rest)
    out))
    (λ (below : area.top + area.height ≤ y). off (grind (arith, nat_tests)))
    (cases_lt y (area.top + area.height)))
    (cases_lt y area.top)

-- a list that fits its area is shown there
pub list_shown : {T E F O : Type 0} (extracts : E → T → Result ListViewCell AllocError → Type 0) (style : ListStyle) (columns : List (ListViewColumn E)) (area : Area) (list : ListState T F O) (drawn : List (DrawnRow T E)) → IsWithinLimits area → IsKnownLook style → AreDrawn extracts columns (area.height - 2) list drawn → FitsItsArea style columns area list drawn
    → IsListShown style columns area list drawn (list_bytes style columns area list drawn)
list_shown extracts style columns area list drawn limits known are fits g on_screen =
    let h : IsFitting extracts style columns area list drawn = record { limits = limits; known = known; are = are; fits = fits } in
    let done = list_changes h g on_screen in
    let cells : (x y : ℕ) → x < g.width → cell_at done.0 x y ≡ cell_after style columns area list drawn x y (cell_at g x y) = done.5 in
    let outside : (x y : ℕ) → x < g.width → IsOutside area.left area.top area.width area.height x y → cell_at done.0 x y ≡ cell_outside area list x y (cell_at g x y) =
    λ x y in_width out. cells x y in_width ∙ outside_same h x y (cell_at g x y) on_screen.some out in (
      done.0,
      done.1,
      done.2.grid,
      done.2.pen,
      record {
        width = done.3;
        height = done.4;
        cells = cells;
        outside = outside;
        at_edge = λ edge x y in_width out.
            let right : leb (area.left + area.width) x ≡ false = (let inside : x < area.left + area.width = omega (arith, edge, in_width) in grind (arith, nat_tests)) in
            outside x y in_width out ∙ sym (kept_outside area list x y (cell_at g x y) (first_false (leb (area.left + area.width) x) (is_past_last area list y) right));
      },
    )
