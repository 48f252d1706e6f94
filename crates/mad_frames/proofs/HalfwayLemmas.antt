-- From one screen to another: what a run of written cells does, and what unchanged cells need.
use Rattle.std.proofs.Common.{◌≡◌, ℕ, zero, suc, ◌+◌, ◌-◌, ◌*◌, ◌^◌, ◌<◌, ◌≤◌, List, [], ◌∷◌, ◌++◌, length, get_or, take, drop, Some, refl, ap, sym, ◌∙◌, subst, arith, append_assoc, length-append, length-drop, add-one}
use Rattle.std.proofs.Math.Seq.{take-add}
use Rattle.std.proofs.lemmas.List.{set_at, length-take-le, take-append-drop, drop-drop, drop-take, ext_get_or, get_or-take, get_or-drop, take_all, drop_all, append-nil}
use Rattle.std.proofs.Math.Nat.{suc-mul}
use Rattle.std.proofs.lemmas.Nat.{row_fits}
use Rattle.std.proofs.lemmas.Str.{IsUtf8-nil, chars-nil}
use Rattle.mad_term.specs.Commands.{move_to_bytes}
use Rattle.mad_screen.specs.Glyph.{Glyph}
use Rattle.mad_screen.specs.Grid.{Grid, IsGrid, painted, put_list, blank}
use Rattle.mad_screen.specs.Pictures.{row_cells}
use Rattle.mad_screen.specs.Terminal.{after_bytes, Leads, resting}
use Rattle.mad_screen.specs.Painting.{HasColumns, Paints}
use Rattle.mad_screen.proofs.CommandsRead.{move_read}
use Rattle.mad_screen.proofs.PaintingLemmas.{painted_is_grid}
use Rattle.mad_screen.proofs.Paints.{read_leads}
use Rattle.mad_screen.proofs.Reading.{nothing_leads}
use Rattle.mad_screen.proofs.ReadingBack.{read_in_turn}
use Rattle.mad_frames.specs.Changes.{SameSize, ShowsCells, LeadTo, halfway, RowsOf, AddsCells, AddsPaint}

-- cells laid after the first ones take the place of as many others
pub over : (a b cs : List Glyph) → length cs ≤ length b → put_list (a ++ b) (length a) cs ≡ a ++ (cs ++ drop (length cs) b)
over a b [] h = refl
over a [] (c ∷ cs) h = absurd (omega arith)
over a (d ∷ b) (c ∷ cs) h =
    let next : suc (length a) ≡ length (a ++ c ∷ []) = omega (arith, length-append a (c ∷ [])) in
    ap (λ (l : List Glyph). put_list l (suc (length a)) cs) (set_at a d b c (length a) refl ∙ sym (append_assoc a (c ∷ []) b))
    ∙ ap (λ i. put_list ((a ++ c ∷ []) ++ b) i cs) next ∙ over (a ++ c ∷ []) b cs (omega arith) ∙ append_assoc a (c ∷ []) (cs ++ drop (length cs) b)

-- new cells over those that are still old
halfway_over : (old new : List Glyph) (k n : ℕ) → length old ≡ length new → k + n ≤ length new → put_list (take k new ++ drop k old) k (take n (drop k new)) ≡ take (k + n) new ++ drop (k + n) old
halfway_over old new k n same fits =
    let cells = take n (drop k new) in
    let at : length (take k new) ≡ k = length-take-le k new (omega arith) in
    let count : length cells ≡ n = length-take-le n (drop k new) (omega (arith, length-drop k new)) in
    ap (λ i. put_list (take k new ++ drop k old) i cells) (sym at)
    ∙ over (take k new) (drop k old) cells (omega (arith, count, length-drop k old))
    ∙ ap (λ i. take k new ++ (cells ++ drop i (drop k old))) count
    ∙ ap (λ (l : List Glyph). take k new ++ (cells ++ l)) (drop-drop n k old)
    ∙ sym (append_assoc (take k new) cells (drop (k + n) old))
    ∙ ap (λ (l : List Glyph). l ++ drop (k + n) old) (sym (take-add k n new))

-- cells that are the same
halfway_same : (old new : List Glyph) (k n : ℕ) → length old ≡ length new → k + n ≤ length new → ((i : ℕ) → i < n → get_or old (k + i) blank ≡ get_or new (k + i) blank) → take k new ++ drop k old ≡ take (k + n) new ++ drop (k + n) old
halfway_same old new k n same fits h =
    let count_old : length (take n (drop k old)) ≡ n = length-take-le n (drop k old) (omega (arith, length-drop k old)) in
    let count_new : length (take n (drop k new)) ≡ n = length-take-le n (drop k new) (omega (arith, length-drop k new)) in
    let each : (i : ℕ) → i < length (take n (drop k old)) → get_or (take n (drop k old)) i blank ≡ get_or (take n (drop k new)) i blank =
    λ i below.
    let here : i < n = omega arith in
    get_or-take n (drop k old) i blank here ∙ get_or-drop k old i blank ∙ h i here ∙ sym (get_or-drop k new i blank) ∙ sym (get_or-take n (drop k new) i blank here) in
    let cells : take n (drop k old) ≡ take n (drop k new) = ext_get_or blank (take n (drop k old)) (take n (drop k new)) (count_old ∙ sym count_new) each in
    ap (λ (l : List Glyph). take k new ++ l) (sym (take-append-drop n (drop k old)))
    ∙ ap (λ (l : List Glyph). take k new ++ (l ++ drop n (drop k old))) cells
    ∙ sym (append_assoc (take k new) (take n (drop k new)) (drop n (drop k old)))
    ∙ ap (λ (l : List Glyph). l ++ drop n (drop k old)) (sym (take-add k n new))
    ∙ ap (λ (l : List Glyph). take (k + n) new ++ l) (drop-drop n k old)

-- the cells of a row, at their positions on the screen
pub row_cell : (g : Grid) (y i : ℕ) → i < g.width → get_or (row_cells g y) i blank ≡ get_or g.cells (y * g.width + i) blank
row_cell g y i below = get_or-take g.width (drop (y * g.width) g.cells) i blank below ∙ get_or-drop (y * g.width) g.cells i blank

-- the unchanged cells of a row ask for no bytes
pub same_leads : (old new : Grid) (y x n : ℕ) (bytes : List ℕ) → SameSize old new → length old.cells ≡ length new.cells → y * new.width + x + n ≤ length new.cells → ((i : ℕ) → i < n → get_or old.cells (y * new.width + x + i) blank ≡ get_or new.cells (y * new.width + x + i) blank) → LeadTo old (halfway old new (y * new.width + x)) bytes → LeadTo old (halfway old new (y * new.width + (x + n))) bytes
same_leads old new y x n bytes size same fits h leads =
    let k = y * new.width + x in
    let place : k + n ≡ y * new.width + (x + n) = omega arith in
    subst (λ (g : Grid). LeadTo old g bytes)
    (ap (λ (l : List Glyph). record old { cells = l }) (halfway_same old.cells new.cells k n same fits h) ∙ ap (halfway old new) place)
    leads

-- a run of new cells, after a move to its first column
run_shown : (old new t : Grid) (x y n : ℕ) (paint : List ℕ) (cells : List Glyph) → SameSize old new → length old.cells ≡ length new.cells → y < new.height → 0 < n → x + n ≤ new.width → x < 2 ^ 16 → y < 2 ^ 16 → y * new.width + x + n ≤ length new.cells → cells ≡ take n (drop (y * new.width + x) new.cells) → Paints paint cells → ShowsCells (halfway old new (y * new.width + x)) t → (after : Grid) × (after_bytes t (move_to_bytes x y ++ paint) ≡ Some after) × ShowsCells (halfway old new (y * new.width + (x + n))) after
unfolding painted
run_shown old new t x y n paint cells size same row some columns small_x small_y fits are paints shows =
    let k = y * new.width + x in
    let width : t.width ≡ new.width = sym shows.size.width ∙ size.width in
    let height : t.height ≡ new.height = sym shows.size.height ∙ size.height in
    let at : Grid = record t { x = x; y = y } in
    let count : length cells ≡ n = ap length are ∙ length-take-le n (drop k new.cells) (omega (arith, length-drop k new.cells)) in
    let grid : IsGrid at = record { full = shows.grid.full; column = omega arith; row = omega arith } in
    let free : HasColumns at (length cells) = record { grid = grid; row = omega arith; columns = omega arith } in
    let moved : after_bytes t (move_to_bytes x y) ≡ Some at = move_read t x y (omega arith) (omega arith) small_x small_y in
    let drawn : after_bytes at paint ≡ Some (painted at cells) = read_leads at (painted at cells) paint paints.text (paints.paints at free shows.pen) in
    let place : k + n ≡ y * new.width + (x + n) = omega arith in
    let written : put_list t.cells (y * t.width + x) cells ≡ (halfway old new (y * new.width + (x + n))).cells =
    ap (λ (w : ℕ). put_list t.cells (y * w + x) cells) width
    ∙ ap (λ (l : List Glyph). put_list l k cells) shows.cells
    ∙ ap (λ (l : List Glyph). put_list (take k new.cells ++ drop k old.cells) k l) are
    ∙ halfway_over old.cells new.cells k n same fits
    ∙ ap (λ i. take i new.cells ++ drop i old.cells) place in (
      painted at cells,
      read_in_turn t at (painted at cells) (move_to_bytes x y) paint moved drawn,
      record {
        grid = painted_is_grid at cells grid (omega arith);
        pen = shows.pen;
        size = record { width = shows.size.width; height = shows.size.height };
        cells = written;
      },
    )

-- a run's move and its cells lead from halfway before it to halfway after it
pub run_leads : (old new : Grid) (y x n : ℕ) (bytes moved all : List ℕ) (cells : List Glyph) → SameSize old new → length old.cells ≡ length new.cells → y < new.height → 0 < n → x + n ≤ new.width → x < 2 ^ 16 → y < 2 ^ 16 → y * new.width + x + n ≤ length new.cells → cells ≡ take n (drop (y * new.width + x) new.cells) → moved ≡ bytes ++ move_to_bytes x y → AddsPaint moved cells all → LeadTo old (halfway old new (y * new.width + x)) bytes → LeadTo old (halfway old new (y * new.width + (x + n))) all
run_leads old new y x n bytes moved all cells size same row some columns small_x small_y fits are e adds leads t shows =
    let first = leads t shows in
    let then = run_shown old new first.0 x y n adds.0 cells size same row some columns small_x small_y fits are adds.2 first.2 in
    let joined : bytes ++ (move_to_bytes x y ++ adds.0) ≡ all = sym (append_assoc bytes (move_to_bytes x y) adds.0) ∙ ap (λ l. l ++ adds.0) (sym e) ∙ sym adds.1 in (
      then.0,
      subst (λ (l : List ℕ). after_bytes t l ≡ Some then.0) joined (read_in_turn t first.0 then.0 bytes (move_to_bytes x y ++ adds.0) first.1 then.1),
      then.2,
    )

-- cells of a row, as cells of the screen
pub row_part : (g : Grid) (y x n : ℕ) → x + n ≤ g.width → take n (drop x (row_cells g y)) ≡ take n (drop (y * g.width + x) g.cells)
row_part g y x n fits =
    let rest = drop (y * g.width) g.cells in
    let whole : x + (g.width - x) ≡ g.width = omega arith in
    ap (λ (l : List Glyph). take n l) (ap (λ (w : ℕ). drop x (take w rest)) (sym whole) ∙ drop-take x (g.width - x) rest)
    ∙ take_front n (g.width - x) (drop x rest) (omega arith)
    ∙ ap (take n) (drop-drop x (y * g.width) g.cells)
  where
    take_front : (n m : ℕ) (l : List Glyph) → n ≤ m → take n (take m l) ≡ take n l
    take_front zero m l h = refl
    take_front (suc n) zero l h = absurd (omega arith)
    take_front (suc n) (suc m) [] h = refl
    take_front (suc n) (suc m) (g ∷ l) h = ap (λ (r : List Glyph). g ∷ r) (take_front n m l (omega arith))

-- no bytes change nothing
pub no_bytes : (t : Grid) → after_bytes t [] ≡ Some t
no_bytes t = read_leads t t [] IsUtf8-nil (subst (λ (cs : List ℕ). Leads (resting t) cs (resting t)) (sym chars-nil) (nothing_leads (resting t)))

-- at first nothing has been written
pub none_leads : (old new : Grid) (n : ℕ) (bytes : List ℕ) → n ≡ 0 → bytes ≡ [] → LeadTo old (halfway old new n) bytes
none_leads old new n bytes none e t shows =
    (t, ap (after_bytes t) e ∙ no_bytes t, subst (λ (i : ℕ). ShowsCells (halfway old new i) t) (sym none) shows)

-- as many cells as columns
pub row_length : (cells : List Glyph) (y w h : ℕ) → y < h → length cells ≡ h * w → length (take w (drop (y * w) cells)) ≡ w
row_length cells y w h below full =
    length-take-le w (drop (y * w) cells) (omega (arith, length-drop (y * w) cells, full, row_fits y w h w below (omega arith)))

-- the next row begins where this one ends
pub next_row : (y w : ℕ) → y * w + w ≡ (y + 1) * w
next_row y w = sym (suc-mul y w) ∙ ap (λ n. n * w) (sym (add-one y))

-- once all cells are the new ones, the screen is
pub all_leads : (old new : Grid) (n : ℕ) (bytes : List ℕ) → SameSize old new → length old.cells ≡ length new.cells → length new.cells ≤ n → LeadTo old (halfway old new n) bytes → LeadTo old new bytes
all_leads old new n bytes size same all leads t shows =
    let r = leads t shows in
    let cells : take n new.cells ++ drop n old.cells ≡ new.cells =
    ap (λ (l : List Glyph). l ++ drop n old.cells) (take_all n new.cells all) ∙ ap (λ (l : List Glyph). new.cells ++ l) (drop_all n old.cells (omega arith)) ∙ append-nil new.cells in (
      r.0,
      r.1,
      record {
        grid = r.2.grid;
        pen = r.2.pen;
        size = record { width = sym size.width ∙ r.2.size.width; height = sym size.height ∙ r.2.size.height };
        cells = r.2.cells ∙ cells;
      },
    )

row_same : (old new : Grid) (y x n : ℕ) (a b : List Glyph) → SameSize old new → a ≡ row_cells old y → b ≡ row_cells new y → x + n ≤ new.width → ((i : ℕ) → x ≤ i → i < x + n → get_or a i blank ≡ get_or b i blank) → (i : ℕ) → i < n → get_or old.cells (y * new.width + x + i) blank ≡ get_or new.cells (y * new.width + x + i) blank
row_same old new y x n a b size a_is b_is fits h i below =
    let j = x + i in
    let place : y * new.width + x + i ≡ y * new.width + j = omega arith in
    let width : old.width ≡ new.width = size.width in
    ap (λ (k : ℕ). get_or old.cells k blank) (place ∙ ap (λ (v : ℕ). y * v + j) (sym width))
    ∙ sym (row_cell old y j (omega arith)) ∙ ap (λ (l : List Glyph). get_or l j blank) (sym a_is)
    ∙ h j (omega arith) (omega arith)
    ∙ ap (λ (l : List Glyph). get_or l j blank) b_is ∙ row_cell new y j (omega arith) ∙ ap (λ (k : ℕ). get_or new.cells k blank) (sym place)

-- up to a column, a row has not changed
pub gap_leads : (old new : Grid) (y x s : ℕ) (a b : List Glyph) (bytes : List ℕ) → SameSize old new → length old.cells ≡ length new.cells → length new.cells ≡ new.height * new.width → y < new.height → a ≡ row_cells old y → b ≡ row_cells new y → x ≤ s → s ≤ new.width → ((i : ℕ) → x ≤ i → i < s → get_or a i blank ≡ get_or b i blank) → LeadTo old (halfway old new (y * new.width + x)) bytes → LeadTo old (halfway old new (y * new.width + s)) bytes
gap_leads old new y x s a b bytes size same full row a_is b_is after within h leads =
    let n = s - x in
    let place : x + n ≡ s = omega arith in
    let fits : y * new.width + x + n ≤ length new.cells = omega (arith, full, row_fits y new.width new.height new.width row (omega arith)) in
    subst (λ (k : ℕ). LeadTo old (halfway old new (y * new.width + k)) bytes) place
    (same_leads old new y x n bytes size same fits (row_same old new y x n a b size a_is b_is (omega arith) (λ i low high. h i low (omega arith))) leads)

-- from a column up to another, the new cells are written
pub written_leads : (old new : Grid) (y s e : ℕ) (b : List Glyph) (bytes moved all : List ℕ) → SameSize old new → length old.cells ≡ length new.cells → length new.cells ≡ new.height * new.width → y < new.height → b ≡ row_cells new y → s < e → e ≤ new.width → s < 2 ^ 16 → y < 2 ^ 16 → moved ≡ bytes ++ move_to_bytes s y → AddsPaint moved (take (e - s) (drop s b)) all → LeadTo old (halfway old new (y * new.width + s)) bytes → LeadTo old (halfway old new (y * new.width + e)) all
written_leads old new y s e b bytes moved all size same full row b_is some within small_x small_y is adds leads =
    let n = e - s in
    let place : s + n ≡ e = omega arith in
    let fits : y * new.width + s + n ≤ length new.cells = omega (arith, full, row_fits y new.width new.height new.width row (omega arith)) in
    let are : take n (drop s b) ≡ take n (drop (y * new.width + s) new.cells) = ap (λ (l : List Glyph). take n (drop s l)) b_is ∙ row_part new y s n (omega arith) in
    subst (λ (k : ℕ). LeadTo old (halfway old new (y * new.width + k)) all) place
    (run_leads old new y s n bytes moved all (take n (drop s b)) size same row (omega arith) (omega arith) small_x small_y fits are is adds leads)

-- equal screens have equal rows
pub same_rows : (old new : Grid) (y : ℕ) → SameSize old new → old.cells ≡ new.cells → row_cells old y ≡ row_cells new y
same_rows old new y size cells =
    ap (λ (v : ℕ). take v (drop (y * v) old.cells)) size.width ∙ ap (λ (l : List Glyph). take new.width (drop (y * new.width) l)) cells

-- ---- rows of whichever screens

-- as many cells as columns
pub row_columns : (old new : Grid) (y : ℕ) (a b : List Glyph) → RowsOf old new y a b → length b ≡ new.width
row_columns old new y a b r = ap length r.new_row ∙ row_length new.cells y new.width new.height r.row r.full

-- an old row has as many cells as the new screen has columns
pub old_columns : (old new : Grid) (y : ℕ) (a b : List Glyph) → RowsOf old new y a b → length a ≡ new.width
old_columns old new y a b r =
    let full : length old.cells ≡ old.height * old.width = r.same ∙ r.full ∙ ap (λ h. h * new.width) (sym r.size.height) ∙ ap (λ w. old.height * w) (sym r.size.width) in
    ap length r.old_row ∙ row_length old.cells y old.width old.height (omega (arith, r.row, r.size.height)) full ∙ r.size.width

-- before a row
pub cells_none : (a b : List Glyph) (y : ℕ) (before : List ℕ) → AddsCells a b y 0 before before
cells_none a b y before old new r leads =
    let place : y * new.width ≡ y * new.width + 0 = omega arith in
    subst (λ (n : ℕ). LeadTo old (halfway old new n) before) place leads

-- up to a column the row has not changed
pub cells_same : (a b : List Glyph) (y x s : ℕ) (before bytes : List ℕ) → x ≤ s → s ≤ length b → ((i : ℕ) → x ≤ i → i < s → get_or a i blank ≡ get_or b i blank) → AddsCells a b y x before bytes → AddsCells a b y s before bytes
cells_same a b y x s before bytes after within h adds old new r leads =
    gap_leads old new y x s a b bytes r.size r.same r.full r.row r.old_row r.new_row after (omega (arith, row_columns old new y a b r)) h (adds old new r leads)

-- up to a column the new cells are written
pub cells_written : (a b : List Glyph) (y s e : ℕ) (before bytes moved all : List ℕ) → s < e → e ≤ length b → s < 2 ^ 16 → y < 2 ^ 16 → moved ≡ bytes ++ move_to_bytes s y → AddsPaint moved (take (e - s) (drop s b)) all → AddsCells a b y s before bytes → AddsCells a b y e before all
cells_written a b y s e before bytes moved all some within small_x small_y is paints adds old new r leads =
    written_leads old new y s e b bytes moved all r.size r.same r.full r.row r.new_row some (omega (arith, row_columns old new y a b r)) small_x small_y is paints (adds old new r leads)

-- the whole row
pub row_done : (old new : Grid) (y n : ℕ) (a b : List Glyph) (before after : List ℕ) → RowsOf old new y a b → n ≡ length b → AddsCells a b y n before after → LeadTo old (halfway old new (y * new.width)) before → LeadTo old (halfway old new ((y + 1) * new.width)) after
row_done old new y n a b before after r count adds leads =
    let place : y * new.width + n ≡ (y + 1) * new.width = ap (λ (k : ℕ). y * new.width + k) (count ∙ row_columns old new y a b r) ∙ next_row y new.width in
    subst (λ (k : ℕ). LeadTo old (halfway old new k) after) place (adds old new r leads)
