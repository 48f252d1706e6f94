-- Rows of a list, one after the other.
use Rattle.std.proofs.Common.{◌≡◌, ◌≤◌, ◌<◌, ◌+◌, ◌-◌, ℕ, zero, suc, min, Bool, true, false, cond, List, [], ◌∷◌, ◌++◌, length, get_or, map, take, drop, Option, None, Some, Result, Ok, Err, string_bytes, refl, ap, sym, subst, ◌∙◌, arith, append_assoc, append-nil}
use Rattle.std.specs.Prelude.{nat_eq, option_map, OnOk}
use Rattle.std.specs.Option.{option_eq}
use Rattle.std.specs.List.{enumerate_from, filter, position_from, range_with_len, slice_get}
use Rattle.std.specs.declared.alloc.AllocError.{AllocError}
use Rattle.std.proofs.lemmas.List.{drop-drop, at_drop_all, take_all, take_more, map-append, length-take, length-map}
use Rattle.std.proofs.lemmas.List.FromFn.{length-map-range_with_len, map-range_with_len_more}
use Rattle.std.proofs.lemmas.Option.{slice_get_past, slice_get_within, get_or_from_slice_get}
use Rattle.mad_term.specs.Commands.{move_to_bytes}
use Rattle.mad_term.specs.Styles.{IsStyle, piece_bytes}
use Rattle.mad_screen.specs.Drawing.{drawing}
use Rattle.mad_screen.proofs.RowLoops.{drawing-append}
use Rattle.mad_style.specs.declared.compound_styles.CompoundStyle.{CompoundStyle}
use Rattle.mad_measure.specs.declared.area.Area.{Area}
use Rattle.mad_measure.proofs.AllLemmas.{all_push}
use Rattle.mad_draw.specs.declared.scroll_bars.ScrollBar.{ScrollBar}
use Rattle.mad_list_rows.specs.declared.list_rows.ListRow.{ListRow}
use Rattle.mad_list_rows.specs.Selecting.{first_from}
use Rattle.mad_list_rows.specs.States.{ListState, is_shown, row_content}
use Rattle.mad_list_columns.specs.Bodies.{body_bar}
use Rattle.mad_list_columns.specs.Cells.{AreCells, DrawnCell, IsMadeCell, ShownCell, shown_cell}
use Rattle.mad_list_columns.specs.declared.cells.ListViewCell.{ListViewCell}
use Rattle.mad_list_columns.specs.declared.columns.ListViewColumn.{ListViewColumn}
use Rattle.mad_list_columns.specs.declared.drawing.ListStyle.{ListStyle}
use Rattle.mad_list_columns.specs.Drawing.{AreDrawn, DrawnRow, IsDrawnRow, bar_bytes, between_cells, body_row, cell_bytes, cell_style, head_rows, is_selected, row_bytes, row_or_erasure, rule_row, shown_from, title_row}
use Rattle.mad_list_columns.specs.Places.{spaced}
use Rattle.mad_list_columns.specs.Writing.{HasBody, HasCell, HasCells, HasList, HasRow, IsDrawnOf}
use Rattle.mad_list_columns.proofs.JoinLemmas.{HasCellsAfter, each_after, grown_twice, joined_push}

-- ---- of any rows, numbered from n on

-- those that are shown
abbrev numbered : {T : Type 0} → ℕ → List (ListRow T) → List (ℕ × ListRow T)
numbered n rows = filter (λ p. p.1.shown) (enumerate_from n rows)

none_numbered : {T : Type 0} (n : ℕ) (rows : List (ListRow T)) → position_from is_shown n rows ≡ None → numbered n rows ≡ []
none_numbered n [] e = refl
none_numbered {T} n (r ∷ rs) e = by r.shown e (none_numbered (n + 1) rs)
  where
    by : (b : Bool) → cond b (Some n) (position_from is_shown (n + 1) rs) ≡ None → (position_from is_shown (n + 1) rs ≡ None → numbered (n + 1) rs ≡ []) → cond b ((n, r) ∷ numbered (n + 1) rs) (numbered (n + 1) rs) ≡ []
    by true e none = absurd (cc)
    by false e none = none e

-- the first of them, its place among the rows, and the others
record FirstIs {T : Type 0} (n : ℕ) (rows : List (ListRow T)) (i : ℕ) : Type 0 where
  pub place : ℕ
  pub row : ListRow T
  pub index : i ≡ n + place
  pub there : slice_get rows place ≡ Some row
  pub parts : numbered n rows ≡ (i, row) ∷ numbered (i + 1) (drop (place + 1) rows)

first_numbered : {T : Type 0} (n : ℕ) (rows : List (ListRow T)) (i : ℕ) → position_from is_shown n rows ≡ Some i → FirstIs n rows i
first_numbered n [] i e = absurd (cc)
first_numbered {T} n (r ∷ rs) i e = by r.shown e refl (first_numbered (n + 1) rs i)
  where
    by : (b : Bool) → cond b (Some n) (position_from is_shown (n + 1) rs) ≡ Some i → r.shown ≡ b → (position_from is_shown (n + 1) rs ≡ Some i → FirstIs (n + 1) rs i) → FirstIs n (r ∷ rs) i
    by true e shown first =
        let same : n ≡ i = cc in
        record {
          place = 0;
          row = r;
          index = omega arith;
          there = refl;
          parts =
              ap (λ (b : Bool). cond b ((n, r) ∷ numbered (n + 1) rs) (numbered (n + 1) rs)) shown
              ∙ ap {B = List (ℕ × ListRow T)} (λ (k : ℕ). (k, r) ∷ numbered (k + 1) rs) same;
        }
    by false e shown first =
        let f : FirstIs (n + 1) rs i = first e in
        let next : suc (f.place + 1) ≡ suc f.place + 1 = omega arith in
        record {
          place = suc f.place;
          row = f.row;
          index = omega (arith, f.index);
          there = f.there;
          parts =
              ap (λ (b : Bool). cond b ((n, r) ∷ numbered (n + 1) rs) (numbered (n + 1) rs)) shown
              ∙ f.parts
              ∙ ap {B = List (ℕ × ListRow T)} (λ (k : ℕ). (i, f.row) ∷ numbered (i + 1) (drop k (r ∷ rs))) next;
        }

-- ---- of a list, from an index on

drop_numbers : {T : Type 0} (k n : ℕ) (rows : List (ListRow T)) → drop k (enumerate_from n rows) ≡ enumerate_from (n + k) (drop k rows)
drop_numbers zero n rows = let e : n ≡ n + 0 = omega arith in ap (λ (m : ℕ). enumerate_from m rows) e
drop_numbers (suc k) n [] = refl
drop_numbers (suc k) n (r ∷ rs) = let e : n + 1 + k ≡ n + suc k = omega arith in drop_numbers k (n + 1) rs ∙ ap (λ (m : ℕ). enumerate_from m (drop k rs)) e

numbered_from : {T : Type 0} (rows : List (ListRow T)) (from : ℕ) → shown_from rows from ≡ numbered from (drop from rows)
numbered_from {T} rows from =
    let e : 0 + from ≡ from = omega arith in
    ap (λ (ps : List (ℕ × ListRow T)). filter (λ p. p.1.shown) ps) (drop_numbers from 0 rows)
    ∙ ap (λ (m : ℕ). numbered m (drop from rows)) e

get_past : {T : Type 0} (rows : List (ListRow T)) (k j : ℕ) → slice_get (drop k rows) j ≡ slice_get rows (k + j)
get_past rows zero j = let e : j ≡ 0 + j = omega arith in ap (slice_get rows) e
get_past [] (suc k) j = refl
get_past (r ∷ rs) (suc k) j = let e : suc (k + j) ≡ suc k + j = omega arith in get_past rs k j ∙ ap (slice_get (r ∷ rs)) e

-- where no row from an index on is shown
pub none_from : {T : Type 0} (rows : List (ListRow T)) (from : ℕ) → first_from rows from ≡ None → shown_from rows from ≡ []
none_from rows from e = numbered_from rows from ∙ none_numbered from (drop from rows) e

-- past the last row
pub none_past : {T : Type 0} (rows : List (ListRow T)) → shown_from rows (length rows) ≡ []
none_past {T} rows =
    numbered_from rows (length rows) ∙ at_drop_all (λ (rs : List (ListRow T)). numbered (length rows) rs) rows (length rows) (omega arith)

-- where one is, it is the first, and the others are those from the next index on
pub record FirstRow {T : Type 0} (rows : List (ListRow T)) (from i : ℕ) : Type 0 where
  pub row : ListRow T
  pub there : slice_get rows i ≡ Some row
  pub parts : shown_from rows from ≡ (i, row) ∷ shown_from rows (i + 1)

-- the row that is found is the first shown one from there on
pub some_from : {T : Type 0} (rows : List (ListRow T)) (from i : ℕ) → first_from rows from ≡ Some i → FirstRow rows from i
some_from {T} rows from i e =
    let f : FirstIs from (drop from rows) i = first_numbered from (drop from rows) i e in
    let next : from + (f.place + 1) ≡ i + 1 = omega (arith, f.index) in
    let rest : drop (f.place + 1) (drop from rows) ≡ drop (i + 1) rows = drop-drop (f.place + 1) from rows ∙ ap (λ (k : ℕ). drop k rows) next in
    record {
      row = f.row;
      there = ap (slice_get rows) f.index ∙ sym (get_past rows from f.place) ∙ f.there;
      parts =
          numbered_from rows from
          ∙ f.parts
          ∙ ap {B = List (ℕ × ListRow T)} (λ (rs : List (ListRow T)). (i, f.row) ∷ numbered (i + 1) rs) rest
          ∙ ap {B = List (ℕ × ListRow T)} (λ (ps : List (ℕ × ListRow T)). (i, f.row) ∷ ps) (sym (numbered_from rows (i + 1)));
    }

-- whether a row is the selected one
pub selected_is : (selection : Option ℕ) (i : ℕ) (b : Bool) → b ≡ option_eq nat_eq selection (Some i) → b ≡ is_selected selection i
selected_is None i b e = e
selected_is (Some s) i b e = e

-- ---- cells one after the other

-- a cell that was made, written
pub cell_written : {T E A X : Type 0} (extracts : E → T → Result ListViewCell AllocError → Type 0) (column : ListViewColumn E) (selected : Bool) (content : T) (cell : ListViewCell) (style : CompoundStyle) (text old new : List ℕ) (r : Result A X) → extracts column.extract content (Ok cell) → IsStyle cell.style.object_style → style ≡ cell_style selected cell.style → text ≡ string_bytes cell.text
    → OnOk r (new ≡ old ++ piece_bytes style.object_style (spaced column.measure column.spacing text)) → OnOk r (HasCell extracts column selected content old new)
cell_written extracts column selected content cell style text old new (Ok x) made known is says written = (
  shown_cell cell,
  record { cell = cell; made = made; shows = refl; known = known },
  written
      ∙ ap (λ (s : CompoundStyle). old ++ piece_bytes s.object_style (spaced column.measure column.spacing text)) is
      ∙ ap (λ (t : List ℕ). old ++ piece_bytes (cell_style selected cell.style).object_style (spaced column.measure column.spacing t)) says,
)
cell_written extracts column selected content cell style text old new (Err e) made known is says written = tt

-- one cell more, of the column that a loop has
pub cells_more : {T E : Type 0} (extracts : E → T → Result ListViewCell AllocError → Type 0) (content : T) (columns : List (ListViewColumn E)) (i : ℕ) (column : ListViewColumn E) (shown : ShownCell) (cells : List (DrawnCell E)) → i < length columns → column ≡ get_or columns i column
    → AreCells extracts (take i columns) content cells → IsMadeCell extracts column.extract content shown → AreCells extracts (take (i + 1) columns) content (cells ++ record { column = column; shown = shown } ∷ [])
cells_more {T} {E} extracts content columns i column shown cells within is are made = record {
  columns_are =
      map-append (λ (c : DrawnCell E). c.column) cells (record { column = column; shown = shown } ∷ [])
      ∙ ap (λ (cs : List (ListViewColumn E)). cs ++ column ∷ []) are.columns_are
      ∙ ap (λ (c : ListViewColumn E). take i columns ++ c ∷ []) is
      ∙ sym (take_more columns i column within);
  made = all_push (λ (c : DrawnCell E). IsMadeCell extracts c.column.extract content c.shown) cells (record { column = column; shown = shown }) are.made made;
}

-- what was written with it
pub row_more : {T E : Type 0} (extracts : E → T → Result ListViewCell AllocError → Type 0) (table : CompoundStyle) (selected : Bool) (content : T) (columns : List (ListViewColumn E)) (i : ℕ) (column : ListViewColumn E) (old bytes mid new : List ℕ) → i < length columns → column ≡ get_or columns i column
    → HasCellsAfter extracts table (take i columns) selected content old bytes → mid ≡ bytes ++ between_cells table selected → HasCell extracts column selected content mid new → HasCellsAfter extracts table (take (i + 1) columns) selected content old new
row_more {T} {E} extracts table selected content columns i column old bytes mid new within is done line cell =
    let drawn : DrawnCell E = record { column = column; shown = cell.0 } in
    let between : List ℕ = between_cells table selected in
    let f : DrawnCell E → List ℕ = cell_bytes selected in (
      done.0 ++ drawn ∷ [],
      cells_more extracts content columns i column cell.0 done.0 within is done.1 cell.1,
      grown_twice old (each_after between (map f done.0)) between (f drawn) mid new bytes done.2 line cell.2
          ∙ ap (λ (bs : List ℕ). old ++ bs) (sym (joined_push between f done.0 drawn)),
    )

-- all of them, after the first
pub row_whole : {T E : Type 0} (extracts : E → T → Result ListViewCell AllocError → Type 0) (table : CompoundStyle) (selected : Bool) (content : T) (first : ListViewColumn E) (others columns : List (ListViewColumn E)) (i : ℕ) (old pushed new : List ℕ) → length others ≤ i → columns ≡ first ∷ others
    → HasCell extracts first selected content old pushed → HasCellsAfter extracts table (take i others) selected content pushed new → HasCells extracts table columns selected content old new
row_whole {T} {E} extracts table selected content first others columns i old pushed new past is one done =
    let drawn : DrawnCell E = record { column = first; shown = one.0 } in
    let rest : List ℕ = each_after (between_cells table selected) (map (cell_bytes selected) done.0) in (
      drawn ∷ done.0,
      record {
        columns_are = ap (λ (cs : List (ListViewColumn E)). first ∷ cs) (done.1.columns_are ∙ take_all i others past) ∙ sym is;
        made = (one.1, done.1.made);
      },
      done.2 ∙ ap (λ (bs : List ℕ). bs ++ rest) one.2 ∙ append_assoc old (cell_bytes selected drawn) rest,
    )

-- a row without columns
pub row_empty : {T E : Type 0} (extracts : E → T → Result ListViewCell AllocError → Type 0) (table : CompoundStyle) (selected : Bool) (content : T) (columns : List (ListViewColumn E)) (old : List ℕ) → length columns ≡ 0 → HasCells extracts table columns selected content old old
row_empty extracts table selected content [] old none = ([], record { columns_are = refl; made = tt }, sym (append-nil old))
row_empty extracts table selected content (c ∷ cs) old none = absurd (omega (arith, none))

-- the row that is looked for, written
pub row_written : {E T : Type 0} (extracts : E → T → Result ListViewCell AllocError → Type 0) (table : CompoundStyle) (columns : List (ListViewColumn E)) (selection : Option ℕ) (rows : List (ListRow T)) (from i : ℕ) (content : T) (selected : Bool) (old new : List ℕ) → first_from rows from ≡ Some i → option_map row_content (slice_get rows i) ≡ Some content → selected ≡ is_selected selection i
    → HasCells extracts table columns selected content old new → HasRow extracts table columns selection (slice_get (shown_from rows from) 0) old new
row_written {E} {T} extracts table columns selection rows from i content selected old new e holds is done =
    let f : FirstRow rows from i = some_from rows from i e in
    let whole : Some f.row.content ≡ Some content = sym (ap (option_map row_content) f.there) ∙ holds in
    let same : f.row.content ≡ content = cc in
    let drawn : DrawnRow T E = record { row = (i, f.row); cells = done.0 } in (
      Some drawn,
      (
        ap (λ (ps : List (ℕ × ListRow T)). slice_get ps 0) f.parts,
        subst (λ (x : T). AreCells extracts columns x done.0) (sym same) done.1,
      ),
      done.2 ∙ ap (λ (b : Bool). old ++ row_bytes table b done.0) is,
    )

-- the first element of what is left of a list
pub first_left : {X : Type 0} (xs ys : List X) (k : ℕ) → ys ≡ drop k xs → slice_get ys 0 ≡ slice_get xs k
first_left {X} xs ys k e = ap (λ (zs : List X). slice_get zs 0) e ∙ first_past xs k
  where
    first_past : (zs : List X) (j : ℕ) → slice_get (drop j zs) 0 ≡ slice_get zs j
    first_past zs zero = refl
    first_past [] (suc j) = refl
    first_past (z ∷ zs) (suc j) = first_past zs j

-- ---- a row more in the body

-- one row more of the body
pub body_more : (left top r : ℕ) (row : ℕ → List ℕ) (old bytes mid written new a b : List ℕ) → bytes ≡ old ++ drawing left (top + 2) (map row (range_with_len 0 r)) → mid ≡ bytes ++ move_to_bytes left (top + (r + 2)) → written ≡ mid ++ a → new ≡ written ++ b → a ++ b ≡ row r → new ≡ old ++ drawing left (top + 2) (map row (range_with_len 0 (r + 1)))
body_more left top r row old bytes mid written new a b before moves writes bars is =
    let done : List (List ℕ) = map row (range_with_len 0 r) in
    let at : List ℕ = move_to_bytes left (top + (r + 2)) in
    let y : top + 2 + length done ≡ top + (r + 2) = omega (arith, length-map-range_with_len row 0 r) in
    let n : 0 + r ≡ r = omega arith in
    let rows : drawing left (top + 2) (map row (range_with_len 0 (r + 1))) ≡ drawing left (top + 2) done ++ (at ++ (row r ++ [])) =
    ap (drawing left (top + 2)) (map-range_with_len_more row 0 r r n)
    ∙ drawing-append left (top + 2) done (row r ∷ [])
    ∙ ap (λ (k : ℕ). drawing left (top + 2) done ++ (move_to_bytes left k ++ (row r ++ []))) y in
    let now : new ≡ ((bytes ++ at) ++ a) ++ b = bars ∙ ap (λ (bs : List ℕ). bs ++ b) (writes ∙ ap (λ (bs : List ℕ). bs ++ a) moves) in
    now
    ∙ append_assoc (bytes ++ at) a b
    ∙ append_assoc bytes at (a ++ b)
    ∙ ap (λ (bs : List ℕ). bytes ++ (at ++ bs)) (is ∙ sym (append-nil (row r)))
    ∙ ap (λ (bs : List ℕ). bs ++ (at ++ (row r ++ []))) before
    ∙ append_assoc old (drawing left (top + 2) done) (at ++ (row r ++ []))
    ∙ ap (λ (bs : List ℕ). old ++ bs) (sym rows)

get_front : {X : Type 0} (xs ys : List X) (i : ℕ) → i < length xs → slice_get (xs ++ ys) i ≡ slice_get xs i
get_front [] ys i within = absurd (omega (arith, within))
get_front (x ∷ xs) ys zero within = refl
get_front (x ∷ xs) ys (suc i) within = get_front xs ys i (omega (arith, within))

get_last : {X : Type 0} (xs : List X) (x : X) → slice_get (xs ++ x ∷ []) (length xs) ≡ Some x
get_last [] x = refl
get_last (y ∷ xs) x = get_last xs x

rows_same : {X : Type 0} (f g : ℕ → X) (k from : ℕ) → ((i : ℕ) → i < from + k → f i ≡ g i) → map f (range_with_len from k) ≡ map g (range_with_len from k)
rows_same f g zero from same = refl
rows_same {X} f g (suc k) from same =
    ap (λ (x : X). x ∷ map f (range_with_len (from + 1) k)) (same from (omega arith))
    ∙ ap (λ (xs : List X). g from ∷ xs) (rows_same f g k (from + 1) (λ i within. same i (omega (arith, within))))

-- an index at which there is no value is past the last one
pub past_none : {X : Type 0} (xs : List X) (i : ℕ) → slice_get xs i ≡ None → length xs ≤ i
past_none [] i e = omega arith
past_none (x ∷ xs) zero e = absurd (cc)
past_none (x ∷ xs) (suc i) e = omega (arith, past_none xs i e)

-- the rows drawn so far are as many as there are, and `count` at most
count_drawn : {T E F O : Type 0} {extracts : E → T → Result ListViewCell AllocError → Type 0} {columns : List (ListViewColumn E)} {count : ℕ} {list : ListState T F O} {drawn : List (DrawnRow T E)} → AreDrawn extracts columns count list drawn → length drawn ≡ min count (length (shown_from list.rows list.scroll))
count_drawn {T} {E} {F} {O} {extracts} {columns} {count} {list} {drawn} are =
    sym (length-map drawn (λ (d : DrawnRow T E). d.row)) ∙ ap length are.rows ∙ length-take count (shown_from list.rows list.scroll)

-- one more, or none where there is none
grown_by : {T E F O : Type 0} (extracts : E → T → Result ListViewCell AllocError → Type 0) (style : ListStyle) (columns : List (ListViewColumn E)) (area : Area) (list : ListState T F O) (r : ℕ) (row : Option (ℕ × ListRow T)) (drawn : Option (DrawnRow T E)) (old bytes mid written new : List ℕ) → HasBody extracts style columns area list r old bytes
    → mid ≡ bytes ++ move_to_bytes area.left (area.top + (r + 2)) → row ≡ slice_get (shown_from list.rows list.scroll) r → IsDrawnOf extracts columns row drawn → written ≡ mid ++ row_or_erasure style.table list.selection drawn → new ≡ written ++ bar_bytes area (body_bar style.bar area list) r → HasBody extracts style columns area list (r + 1) old new
grown_by {T} {E} extracts style columns area list r row None old bytes mid written new done moves is none writes bars =
    let shown : List (ℕ × ListRow T) = shown_from list.rows list.scroll in
    let past : length shown ≤ r = past_none shown r (sym is ∙ none) in
    let over : slice_get done.0 r ≡ None = slice_get_past done.0 r (omega (arith, past, count_drawn done.1)) in (
      done.0,
      record { rows = done.1.rows ∙ take_all r shown past ∙ sym (take_all (r + 1) shown (omega (arith, past))); cells = done.1.cells },
      body_more area.left area.top r (body_row style area list done.0) old bytes mid written new _ _ done.2 moves writes bars
          (ap (λ (o : Option (DrawnRow T E)). row_or_erasure style.table list.selection o ++ bar_bytes area (body_bar style.bar area list) r) (sym over)),
    )
grown_by {T} {E} extracts style columns area list r row (Some drawn) old bytes mid written new done moves is some writes bars =
    let shown : List (ℕ × ListRow T) = shown_from list.rows list.scroll in
    let there : slice_get shown r ≡ Some drawn.row = sym is ∙ some.0 in
    let inside : r < length shown = slice_get_within shown r drawn.row there in
    let count : length done.0 ≡ r = omega (arith, inside, count_drawn done.1) in
    let all : List (DrawnRow T E) = done.0 ++ drawn ∷ [] in
    let last : slice_get all r ≡ Some drawn = ap (slice_get all) (sym count) ∙ get_last done.0 drawn in
    let body : List (DrawnRow T E) → ℕ → List ℕ = body_row style area list in
    let same : map (body done.0) (range_with_len 0 r) ≡ map (body all) (range_with_len 0 r) =
    rows_same (body done.0) (body all) r 0 (λ i within.
    ap (λ (o : Option (DrawnRow T E)). row_or_erasure style.table list.selection o ++ bar_bytes area (body_bar style.bar area list) i) (sym (get_front done.0 (drawn ∷ []) i (omega (arith, within, count))))) in (
      all,
      record {
        rows =
            map-append (λ (d : DrawnRow T E). d.row) done.0 (drawn ∷ [])
            ∙ ap (λ (ps : List (ℕ × ListRow T)). ps ++ drawn.row ∷ []) done.1.rows
            ∙ ap (λ (p : ℕ × ListRow T). take r shown ++ p ∷ []) (sym (get_or_from_slice_get shown r drawn.row drawn.row there))
            ∙ sym (take_more shown r drawn.row inside);
        cells = all_push (IsDrawnRow extracts columns) done.0 drawn done.1.cells some.1;
      },
      body_more area.left area.top r (body all) old bytes mid written new _ _ (done.2 ∙ ap (λ (rows : List (List ℕ)). old ++ drawing area.left (area.top + 2) rows) same) moves writes bars
          (ap (λ (o : Option (DrawnRow T E)). row_or_erasure style.table list.selection o ++ bar_bytes area (body_bar style.bar area list) r) (sym last)),
    )

-- a row's cells and its bar are the next row of the body
pub body_grows : {T E F O : Type 0} (extracts : E → T → Result ListViewCell AllocError → Type 0) (style : ListStyle) (columns : List (ListViewColumn E)) (area : Area) (list : ListState T F O) (r : ℕ) (row : Option (ℕ × ListRow T)) (bar : Option ScrollBar) (old bytes mid written new : List ℕ) → HasBody extracts style columns area list r old bytes
    → mid ≡ bytes ++ move_to_bytes area.left (area.top + (r + 2)) → row ≡ slice_get (shown_from list.rows list.scroll) r → HasRow extracts style.table columns list.selection row mid written → bar ≡ body_bar style.bar area list → new ≡ written ++ bar_bytes area bar r → HasBody extracts style columns area list (r + 1) old new
body_grows extracts style columns area list r row bar old bytes mid written new done moves is part beside bars =
    grown_by extracts style columns area list r row part.0 old bytes mid written new done moves is part.1 part.2 (bars ∙ ap (λ (b : Option ScrollBar). written ++ bar_bytes area b r) beside)

-- no row of the body is written yet
pub body_starts : {T E F O : Type 0} (extracts : E → T → Result ListViewCell AllocError → Type 0) (style : ListStyle) (columns : List (ListViewColumn E)) (area : Area) (list : ListState T F O) (old : List ℕ) → HasBody extracts style columns area list 0 old old
body_starts extracts style columns area list old = ([], record { rows = refl; cells = tt }, sym (append-nil old))

-- ---- the titles, the rule, and the body

-- titles and rule, each after its move, are the head
pub head_written : (left top height : ℕ) (old a b c new titles rule : List ℕ) → 2 ≤ height → a ≡ old ++ move_to_bytes left top → b ≡ a ++ titles → c ≡ b ++ move_to_bytes left (top + 1) → new ≡ c ++ rule → new ≡ old ++ drawing left top (take height (titles ∷ (rule ∷ [])))
head_written left top height old a b c new titles rule tall first title second ruled =
    let all : take height (titles ∷ (rule ∷ [])) ≡ titles ∷ (rule ∷ []) = take_all height (titles ∷ (rule ∷ [])) tall in
    let below : top + 1 ≡ suc top = omega arith in
    let up : List ℕ = move_to_bytes left top in
    let down : List ℕ = move_to_bytes left (suc top) in
    let moved : c ≡ b ++ down = second ∙ ap (λ (y : ℕ). b ++ move_to_bytes left y) below in
    let titled : b ≡ old ++ (up ++ titles) = title ∙ ap (λ (bs : List ℕ). bs ++ titles) first ∙ append_assoc old up titles in
    ruled
    ∙ ap (λ (bs : List ℕ). bs ++ rule) moved
    ∙ append_assoc b down rule
    ∙ ap (λ (bs : List ℕ). bs ++ (down ++ rule)) titled
    ∙ append_assoc old (up ++ titles) (down ++ rule)
    ∙ ap (λ (bs : List ℕ). old ++ bs) (append_assoc up titles (down ++ rule))
    ∙ ap (λ (bs : List ℕ). old ++ (up ++ (titles ++ (down ++ bs)))) (sym (append-nil rule))
    ∙ ap (λ (rs : List (List ℕ)). old ++ drawing left top rs) (sym all)

-- head and body are one drawing
pub whole_drawn : (left top height : ℕ) (titles rule : List ℕ) (row : ℕ → List ℕ) → drawing left top (take height (titles ∷ (rule ∷ [])) ++ map row (range_with_len 0 (height - 2))) ≡ drawing left top (take height (titles ∷ (rule ∷ []))) ++ drawing left (top + 2) (map row (range_with_len 0 (height - 2)))
whole_drawn left top zero titles rule row = refl
whole_drawn left top (suc zero) titles rule row = sym (append-nil (drawing left top (titles ∷ [])))
whole_drawn left top (suc (suc h)) titles rule row =
    let body : List (List ℕ) = map row (range_with_len 0 (suc (suc h) - 2)) in
    let head : List (List ℕ) = take (suc (suc h)) (titles ∷ (rule ∷ [])) in
    let all : head ≡ titles ∷ (rule ∷ []) = take_all (suc (suc h)) (titles ∷ (rule ∷ [])) (omega arith) in
    let two : top + length head ≡ top + 2 = ap (λ (rs : List (List ℕ)). top + length rs) all in
    drawing-append left top head body ∙ ap (λ (y : ℕ). drawing left top head ++ drawing left y body) two

-- a head and then a body are the list
pub list_written : {T E F O : Type 0} (extracts : E → T → Result ListViewCell AllocError → Type 0) (style : ListStyle) (columns : List (ListViewColumn E)) (area : Area) (list : ListState T F O) (old mid new : List ℕ) → mid ≡ old ++ drawing area.left area.top (head_rows style columns area) → HasBody extracts style columns area list (area.height - 2) mid new → HasList extracts style columns area list old new
list_written extracts style columns area list old mid new head body =
    let above : List ℕ = drawing area.left area.top (head_rows style columns area) in
    let below : List ℕ = drawing area.left (area.top + 2) (map (body_row style area list body.0) (range_with_len 0 (area.height - 2))) in (
      body.0,
      body.1,
      body.2
          ∙ ap (λ (bs : List ℕ). bs ++ below) head
          ∙ append_assoc old above below
          ∙ ap (λ (bs : List ℕ). old ++ bs) (sym (whole_drawn area.left area.top area.height (title_row style.title style.table columns) (rule_row style.table columns) (body_row style area list body.0))),
    )
