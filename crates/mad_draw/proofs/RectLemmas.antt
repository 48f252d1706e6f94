-- What a screen shows of a rectangle.
use Rattle.std.proofs.Common.{◌≡◌, ◌≢◌, ◌⊎◌, inl, inr, ⊎_elim, ℕ, zero, suc, ◌+◌, ◌-◌, ◌<◌, ◌≤◌, ◌==◌, if◌then◌else◌, Bool, true, false, cond, List, [], ◌∷◌, ◌++◌, map, replicate, length, get_or, Option, Some, None, refl, ap, sym, ◌∙◌, subst, arith, length-append}
use Rattle.std.specs.List.{AllByRecursion}
use Rattle.std.proofs.lemmas.Bool.{cases_eq, cases_lt}
use Rattle.std.proofs.lemmas.Bool.Decides.{nat_tests}
use Rattle.std.proofs.lemmas.List.{map-append, length-replicate, get_or_append_left, get_or-replicate, get_or_at}
use Rattle.mad_characters.specs.Columns.{char_columns}
use Rattle.mad_characters.proofs.CharColumns.{char_columns-ascii}
use Rattle.mad_term.specs.Styles.{IsStyle}
use Rattle.mad_screen.specs.Drawing.{Strip, covers, cell_under}
use Rattle.mad_screen.specs.Glyph.{Glyph, Look}
use Rattle.mad_screen.specs.Grid.{cell_at, blank}
use Rattle.mad_screen.specs.Painting.{look_of_style}
use Rattle.mad_style.specs.StyledChars.{styled_char}
use Rattle.mad_style.specs.declared.styled_chars.StyledChar.{StyledChar}
use Rattle.mad_measure.specs.Areas.{IsWithinLimits}
use Rattle.mad_draw.specs.Pieces.{IsColumnChar}
use Rattle.mad_draw.specs.Pieces.{RowPiece, AreKnown, single_chars, spaces, pieces_columns, penned_chars}
use Rattle.mad_draw.specs.PennedCells.{penned_cells}
use Rattle.mad_draw.specs.PlacedPieces.{Placed, placed_bytes, placed_strip, IsPlacedIn, ShowsPlaced}
use Rattle.mad_draw.specs.Rects.{border, edge, filled_sides, open_sides, sides, sides_below, top_edge, bottom_edge, rect_pieces, AreBorderChars, edge_char, border_at, colored_cell, inner_cell, cell_with, IsRectShown}
use Rattle.mad_draw.specs.declared.rects.Rect.{Rect}
use Rattle.mad_draw.specs.declared.rects.RectBorderStyle.{RectBorderStyle}
use Rattle.mad_draw.proofs.CharLemmas.{column_piece, single_shown, single_columns, single_chars_known, penned, in_cell, penned_both, penned_piece, penned_single, penned_spaces, cells_of_chars}
use Rattle.mad_draw.proofs.PieceLemmas.{columns-both, spaces_columns, shown_spaces, spaces_known}
use Rattle.mad_draw.proofs.PlacedLemmas.{placed_shown, not_under}

-- ---- a row of three characters, the middle one over all columns between

-- its characters, and its pieces
abbrev row_chars : ℕ → ℕ → ℕ → ℕ → List ℕ
row_chars first middle last n = first ∷ (replicate n middle ++ last ∷ [])

all_both : {X : Type 0} (P : X → Type 0) (xs ys : List X) → AllByRecursion P xs → AllByRecursion P ys → AllByRecursion P (xs ++ ys)
all_both {X} P [] ys h k = k
all_both {X} P (x ∷ xs) ys h k = (h.0, all_both P xs ys h.1 k)

all_same : {X : Type 0} (P : X → Type 0) (n : ℕ) (x : X) → P x → AllByRecursion P (replicate n x)
all_same {X} P zero x h = tt
all_same {X} P (suc n) x h = (h, all_same P n x h)

map-replicate : {X Y : Type 0} (f : X → Y) (n : ℕ) (x : X) → map f (replicate n x) ≡ replicate n (f x)
map-replicate {X} {Y} f zero x = refl
map-replicate {X} {Y} f (suc n) x = ap (λ ys. f x ∷ ys) (map-replicate f n x)

-- what is in column i of it
row_at : {X : Type 0} (first middle last d : X) (n i : ℕ) → i < n + 2 → get_or (first ∷ (replicate n middle ++ last ∷ [])) i d ≡ (if i == 0 then first else if i + 1 == n + 2 then last else middle)
row_at {X} first middle last d n zero inside = refl
row_at {X} first middle last d n (suc k) inside =
    ⊎_elim
    (λ (before : k < n).
    let other : (suc k + 1 == n + 2) ≡ false = grind (arith, nat_tests) in
    let some : (suc k == 0) ≡ false = grind (arith, nat_tests) in
    get_or_append_left (replicate n middle) (last ∷ []) d k (omega (arith, before, length-replicate n middle))
    ∙ get_or-replicate n k middle d before
    ∙ sym (ap (λ t. if t then first else if suc k + 1 == n + 2 then last else middle) some ∙ ap (λ t. if t then last else middle) other))
    (λ (past : n ≤ k).
    let is_last : n ≡ k = omega (arith, past, inside) in
    let same : (suc k + 1 == n + 2) ≡ true = grind (arith, nat_tests) in
    let some : (suc k == 0) ≡ false = grind (arith, nat_tests) in
    get_or_at (replicate n middle) last [] d k (length-replicate n middle ∙ is_last)
    ∙ sym (ap (λ t. if t then first else if suc k + 1 == n + 2 then last else middle) some ∙ ap (λ t. if t then last else middle) same))
    (cases_lt k n)

length_row : {X : Type 0} (first middle last : X) (n : ℕ) → length (first ∷ (replicate n middle ++ last ∷ [])) ≡ n + 2
length_row {X} first middle last n = omega (arith, length-append (replicate n middle) (last ∷ []), length-replicate n middle)

map_if : {X Y : Type 0} (f : X → Y) (s t : Bool) (x y z : X) → (if s then f x else if t then f y else f z) ≡ f (if s then x else if t then y else z)
map_if {X} {Y} f true t x y z = refl
map_if {X} {Y} f false true x y z = refl
map_if {X} {Y} f false false x y z = refl

-- ---- the cells of an edge and of sides

abbrev pen_of : Rect → Look
pen_of r = look_of_style r.colors.object_style

-- cells of such a row
row_cells : (pen : Look) (first middle last n : ℕ) → char_columns first ≡ 1 → char_columns middle ≡ 1 → char_columns last ≡ 1
    → penned_cells (map (penned pen) (row_chars first middle last n)) ≡ in_cell pen first ∷ (replicate n (in_cell pen middle) ++ in_cell pen last ∷ [])
row_cells pen first middle last n a b c =
    cells_of_chars pen (row_chars first middle last n) (a, all_both (λ d. char_columns d ≡ 1) (replicate n middle) (last ∷ []) (all_same (λ d. char_columns d ≡ 1) n middle b) (c, tt))
    ∙ ap (λ cells. in_cell pen first ∷ cells) (map-append (in_cell pen) (replicate n middle) (last ∷ []) ∙ ap (λ cells. cells ++ in_cell pen last ∷ []) (map-replicate (in_cell pen) n middle))

edge_cells : (r : Rect) (y first middle last : ℕ) → IsColumnChar first → IsColumnChar middle → IsColumnChar last
    → (placed_strip (edge r y first middle last)).cells ≡ colored_cell r first ∷ (replicate (r.area.width - 2) (colored_cell r middle) ++ colored_cell r last ∷ [])
edge_cells r y first middle last a b c =
    let n : ℕ = r.area.width - 2 in
    let pen : Look = pen_of r in
    ap penned_cells
    (penned_piece (styled_char r.colors first) (single_chars (styled_char r.colors middle) n ++ border r last ∷ []) a.scalar
    ∙ ap (λ cs. penned pen first ∷ cs)
    (penned_both (single_chars (styled_char r.colors middle) n) (border r last ∷ [])
    ∙ ap (λ cs. cs ++ penned_chars (border r last ∷ [])) (penned_single (styled_char r.colors middle) n b.scalar)
    ∙ ap (λ cs. map (penned pen) (replicate n middle) ++ cs) (penned_piece (styled_char r.colors last) [] c.scalar)
    ∙ sym (map-append (penned pen) (replicate n middle) (last ∷ []))))
    ∙ row_cells pen first middle last n a.one b.one c.one

filled_cells : (r : Rect) (left right : ℕ) → IsColumnChar left → IsColumnChar right
    → penned_cells (penned_chars (border r left ∷ (spaces r.colors (r.area.width - 2) ++ border r right ∷ [])))
    ≡ colored_cell r left ∷ (replicate (r.area.width - 2) (colored_cell r 32) ++ colored_cell r right ∷ [])
filled_cells r left right a c =
    let n : ℕ = r.area.width - 2 in
    let pen : Look = pen_of r in
    ap penned_cells
    (penned_piece (styled_char r.colors left) (spaces r.colors n ++ border r right ∷ []) a.scalar
    ∙ ap (λ cs. penned pen left ∷ cs)
    (penned_both (spaces r.colors n) (border r right ∷ [])
    ∙ ap (λ cs. cs ++ penned_chars (border r right ∷ [])) (penned_spaces r.colors n)
    ∙ ap (λ cs. map (penned pen) (replicate n 32) ++ cs) (penned_piece (styled_char r.colors right) [] c.scalar)
    ∙ sym (map-append (penned pen) (replicate n 32) (right ∷ []))))
    ∙ row_cells pen left 32 right n a.one (char_columns-ascii 32 (omega arith) (omega arith)) c.one

one_cell : (r : Rect) (c : ℕ) → IsColumnChar c → penned_cells (penned_chars (border r c ∷ [])) ≡ colored_cell r c ∷ []
one_cell r c h = ap penned_cells (penned_piece (styled_char r.colors c) [] h.scalar) ∙ cells_of_chars (pen_of r) (c ∷ []) (h.one, tt)

-- ---- cells under strips

under_both : (ss ts : List Strip) (x y : ℕ) (before : Glyph) → cell_under (ss ++ ts) x y before ≡ cell_under ts x y (cell_under ss x y before)
under_both [] ts x y before = refl
under_both (s ∷ ss) ts x y before = under_both ss ts x y (cond (covers s x y) (get_or s.cells (x - s.x) blank) before)

-- a strip covers column i of its cells
under_here : (s : Strip) (x y i : ℕ) (cells : List Glyph) (before : Glyph) → s.cells ≡ cells → y ≡ s.y → x ≡ s.x + i → i < length cells → cond (covers s x y) (get_or s.cells (x - s.x) blank) before ≡ get_or cells i blank
under_here s x y i cells before e row column inside =
    let count : length s.cells ≡ length cells = ap length e in
    let covered : covers s x y ≡ true = grind (arith, nat_tests, count) in
    let index : x - s.x ≡ i = omega (arith, column) in
    ap (λ t. cond t (get_or s.cells (x - s.x) blank) before) covered
    ∙ ap (λ k. get_or s.cells k blank) index
    ∙ ap (λ (gs : List Glyph). get_or gs i blank) e

under_other_row : (s : Strip) (x y : ℕ) (before : Glyph) → y ≢ s.y → cond (covers s x y) (get_or s.cells (x - s.x) blank) before ≡ before
under_other_row s x y before other = not_under s x y before (grind (arith, nat_tests))

-- a strip whose cells are such a row shows its characters
under_row : (r : Rect) (s : Strip) (first middle last i : ℕ) (before : Glyph) → 2 ≤ r.area.width → i < r.area.width → s.x ≡ r.area.left
    → s.cells ≡ colored_cell r first ∷ (replicate (r.area.width - 2) (colored_cell r middle) ++ colored_cell r last ∷ [])
    → cond (covers s (r.area.left + i) s.y) (get_or s.cells (r.area.left + i - s.x) blank) before ≡ colored_cell r (edge_char first middle last r.area.width i)
under_row r s first middle last i before wide inside start cells =
    let n : ℕ = r.area.width - 2 in
    let columns : n + 2 ≡ r.area.width = omega (arith, wide) in
    let count : length (colored_cell r first ∷ (replicate n (colored_cell r middle) ++ colored_cell r last ∷ [])) ≡ n + 2 = length_row (colored_cell r first) (colored_cell r middle) (colored_cell r last) n in
    under_here s (r.area.left + i) s.y i (colored_cell r first ∷ (replicate n (colored_cell r middle) ++ colored_cell r last ∷ [])) before cells refl (ap (λ x. x + i) (sym start)) (omega (arith, count, columns, inside))
    ∙ row_at (colored_cell r first) (colored_cell r middle) (colored_cell r last) blank n i (omega (arith, columns, inside))
    ∙ ap (λ w. if i == 0 then colored_cell r first else if i + 1 == w then colored_cell r last else colored_cell r middle) columns
    ∙ map_if (colored_cell r) (i == 0) (i + 1 == r.area.width) first last middle

-- ---- sides

-- what the sides show in column i
abbrev side_at : Rect → ℕ → Option ℕ
side_at r i = if i == 0 then Some r.border_style.left else if i + 1 == r.area.width then Some r.border_style.right else None

bool_cases : (b : Bool) → (b ≡ true) ⊎ (b ≡ false)
bool_cases true = inl refl
bool_cases false = inr refl

-- with a character between, where the rectangle is filled
side_filled : (r : Rect) (i : ℕ) (before : Glyph) → r.fill ≡ true → colored_cell r (edge_char r.border_style.left 32 r.border_style.right r.area.width i) ≡ cell_with r (side_at r i) before
side_filled r i before is = by_tests (i == 0) (i + 1 == r.area.width)
  where
    by_tests : (s t : Bool) → colored_cell r (if s then r.border_style.left else if t then r.border_style.right else 32) ≡ cell_with r (if s then Some r.border_style.left else if t then Some r.border_style.right else None) before
    by_tests true t = refl
    by_tests false true = refl
    by_tests false false = sym (ap (λ f. if f then colored_cell r 32 else before) is)

side_open : (r : Rect) (before : Glyph) → r.fill ≡ false → inner_cell r before ≡ before
side_open r before is = ap (λ f. if f then colored_cell r 32 else before) is

filled_here : (r : Rect) (y i : ℕ) (before : Glyph) → r.fill ≡ true → AreBorderChars r.border_style → 2 ≤ r.area.width → i < r.area.width
    → cell_under (map placed_strip (filled_sides r y)) (r.area.left + i) y before ≡ cell_with r (side_at r i) before
filled_here r y i before is chars wide inside =
    let placed : Placed = record { x = r.area.left; y = y; pieces = border r r.border_style.left ∷ (spaces r.colors (r.area.width - 2) ++ border r r.border_style.right ∷ []) } in
    under_row r (placed_strip placed) r.border_style.left 32 r.border_style.right i before wide inside refl (filled_cells r r.border_style.left r.border_style.right chars.left chars.right)
    ∙ side_filled r i before is

open_here : (r : Rect) (y i : ℕ) (before : Glyph) → r.fill ≡ false → AreBorderChars r.border_style → 2 ≤ r.area.width → i < r.area.width
    → cell_under (map placed_strip (open_sides r y)) (r.area.left + i) y before ≡ cell_with r (side_at r i) before
open_here r y i before is chars wide inside =
    ⊎_elim
    (λ (first : i ≡ 0).
    let tested : (i == 0) ≡ true = grind (arith, nat_tests) in
    let not_right : covers right (r.area.left + i) y ≡ false = grind (arith, nat_tests) in
    not_under right (r.area.left + i) y (cond (covers left (r.area.left + i) y) (get_or left.cells (r.area.left + i - left.x) blank) before) not_right
    ∙ under_here left (r.area.left + i) y 0 (colored_cell r r.border_style.left ∷ []) before (one_cell r r.border_style.left chars.left) refl (omega (arith, first)) (omega arith)
    ∙ sym (ap (λ t. cell_with r (if t then Some r.border_style.left else if i + 1 == r.area.width then Some r.border_style.right else None) before) tested))
    (λ (later : i ≢ 0).
    let tested : (i == 0) ≡ false = grind (arith, nat_tests) in
    let left_count : length left.cells ≡ 1 = ap length (one_cell r r.border_style.left chars.left) in
    let not_left : covers left (r.area.left + i) y ≡ false = grind (arith, nat_tests, left_count) in
    let past_left : cond (covers left (r.area.left + i) y) (get_or left.cells (r.area.left + i - left.x) blank) before ≡ before = not_under left (r.area.left + i) y before not_left in
    ap (λ b. cond (covers right (r.area.left + i) y) (get_or right.cells (r.area.left + i - right.x) blank) b) past_left
    ∙ ⊎_elim
    (λ (last : i + 1 ≡ r.area.width).
    let ended : (i + 1 == r.area.width) ≡ true = grind (arith, nat_tests) in
    under_here right (r.area.left + i) y 0 (colored_cell r r.border_style.right ∷ []) before (one_cell r r.border_style.right chars.right) refl (omega (arith, last)) (omega arith)
    ∙ sym (ap (λ t. cell_with r (if t then Some r.border_style.left else if i + 1 == r.area.width then Some r.border_style.right else None) before) tested
    ∙ ap (λ t. cell_with r (if t then Some r.border_style.right else None) before) ended))
    (λ (between : i + 1 ≢ r.area.width).
    let ended : (i + 1 == r.area.width) ≡ false = grind (arith, nat_tests) in
    let not_right : covers right (r.area.left + i) y ≡ false = grind (arith, nat_tests) in
    not_under right (r.area.left + i) y before not_right
    ∙ sym (ap (λ t. cell_with r (if t then Some r.border_style.left else if i + 1 == r.area.width then Some r.border_style.right else None) before) tested
    ∙ ap (λ t. cell_with r (if t then Some r.border_style.right else None) before) ended
    ∙ side_open r before is))
    (cases_eq (i + 1) r.area.width))
    (cases_eq i 0)
  where
    left : Strip
    left = placed_strip (record { x = r.area.left; y = y; pieces = border r r.border_style.left ∷ [] })

    right : Strip
    right = placed_strip (record { x = r.area.left + (r.area.width - 1); y = y; pieces = border r r.border_style.right ∷ [] })

sides_here : (r : Rect) (y i : ℕ) (before : Glyph) → AreBorderChars r.border_style → 2 ≤ r.area.width → i < r.area.width
    → cell_under (map placed_strip (sides r y)) (r.area.left + i) y before ≡ cell_with r (side_at r i) before
sides_here r y i before chars wide inside =
    ⊎_elim
    (λ (is : r.fill ≡ true). ap (λ f. cell_under (map placed_strip (if f then filled_sides r y else open_sides r y)) (r.area.left + i) y before) is ∙ filled_here r y i before is chars wide inside)
    (λ (is : r.fill ≡ false). ap (λ f. cell_under (map placed_strip (if f then filled_sides r y else open_sides r y)) (r.area.left + i) y before) is ∙ open_here r y i before is chars wide inside)
    (bool_cases r.fill)

sides_other_row : (r : Rect) (y x z : ℕ) (before : Glyph) → z ≢ y → cell_under (map placed_strip (sides r y)) x z before ≡ before
sides_other_row r y x z before other =
    ⊎_elim
    (λ (is : r.fill ≡ true).
    let placed : Placed = record { x = r.area.left; y = y; pieces = border r r.border_style.left ∷ (spaces r.colors (r.area.width - 2) ++ border r r.border_style.right ∷ []) } in
    ap (λ f. cell_under (map placed_strip (if f then filled_sides r y else open_sides r y)) x z before) is ∙ under_other_row (placed_strip placed) x z before other)
    (λ (is : r.fill ≡ false).
    let left : Placed = record { x = r.area.left; y = y; pieces = border r r.border_style.left ∷ [] } in
    let right : Placed = record { x = r.area.left + (r.area.width - 1); y = y; pieces = border r r.border_style.right ∷ [] } in
    ap (λ f. cell_under (map placed_strip (if f then filled_sides r y else open_sides r y)) x z before) is
    ∙ under_other_row (placed_strip right) x z (cond (covers (placed_strip left) x z) (get_or (placed_strip left).cells (x - r.area.left) blank) before) other
    ∙ under_other_row (placed_strip left) x z before other)
    (bool_cases r.fill)

-- the sides of all rows
below_both : (r : Rect) (count x y : ℕ) (before : Glyph) → cell_under (map placed_strip (sides_below r (suc count))) x y before ≡ cell_under (map placed_strip (sides r (r.area.top + suc count))) x y (cell_under (map placed_strip (sides_below r count)) x y before)
below_both r count x y before =
    ap (λ ss. cell_under ss x y before) (map-append placed_strip (sides_below r count) (sides r (r.area.top + suc count)))
    ∙ under_both (map placed_strip (sides_below r count)) (map placed_strip (sides r (r.area.top + suc count))) x y before

below_other : (r : Rect) (count x j : ℕ) (before : Glyph) → (j ≡ 0) ⊎ (count < j) → cell_under (map placed_strip (sides_below r count)) x (r.area.top + j) before ≡ before
below_other r zero x j before out = refl
below_other r (suc count) x j before out =
    below_both r count x (r.area.top + j) before
    ∙ sides_other_row r (r.area.top + suc count) x (r.area.top + j) (cell_under (map placed_strip (sides_below r count)) x (r.area.top + j) before) (⊎_elim (λ (a : j ≡ 0). λ e. omega (arith, a, e)) (λ (a : suc count < j). λ e. omega (arith, a, e)) out)
    ∙ below_other r count x j before (⊎_elim (λ (a : j ≡ 0). inl a) (λ (a : suc count < j). inr (omega (arith, a))) out)

below_here : (r : Rect) (count i j : ℕ) (before : Glyph) → AreBorderChars r.border_style → 2 ≤ r.area.width → i < r.area.width → 1 ≤ j → j ≤ count
    → cell_under (map placed_strip (sides_below r count)) (r.area.left + i) (r.area.top + j) before ≡ cell_with r (side_at r i) before
below_here r zero i j before chars wide inside low high = absurd (omega arith)
below_here r (suc count) i j before chars wide inside low high =
    below_both r count (r.area.left + i) (r.area.top + j) before
    ∙ ⊎_elim
    (λ (last : j ≡ suc count).
    ap (λ (k : ℕ). cell_under (map placed_strip (sides r (r.area.top + suc count))) (r.area.left + i) (r.area.top + k) (cell_under (map placed_strip (sides_below r count)) (r.area.left + i) (r.area.top + j) before)) last
    ∙ sides_here r (r.area.top + suc count) i (cell_under (map placed_strip (sides_below r count)) (r.area.left + i) (r.area.top + j) before) chars wide inside
    ∙ ap (cell_with r (side_at r i)) (below_other r count (r.area.left + i) j before (inr (omega (arith, last)))))
    (λ (other : j ≢ suc count).
    sides_other_row r (r.area.top + suc count) (r.area.left + i) (r.area.top + j) (cell_under (map placed_strip (sides_below r count)) (r.area.left + i) (r.area.top + j) before) (λ e. other (omega (arith, e)))
    ∙ below_here r count i j before chars wide inside low (omega (arith, other, high)))
    (cases_eq j (suc count))

-- ---- the whole

edge_here : (r : Rect) (y i first middle last : ℕ) (before : Glyph) → IsColumnChar first → IsColumnChar middle → IsColumnChar last → 2 ≤ r.area.width → i < r.area.width
    → cell_under (placed_strip (edge r y first middle last) ∷ []) (r.area.left + i) y before ≡ colored_cell r (edge_char first middle last r.area.width i)
edge_here r y i first middle last before a b c wide inside = under_row r (placed_strip (edge r y first middle last)) first middle last i before wide inside refl (edge_cells r y first middle last a b c)

-- one after the other: the top edge, the sides, the bottom edge
rect_under : (r : Rect) (x y : ℕ) (before : Glyph)
    → cell_under (map placed_strip (rect_pieces r)) x y before
    ≡ cell_under (placed_strip (bottom_edge r) ∷ []) x y (cell_under (map placed_strip (sides_below r (r.area.height - 2))) x y (cell_under (placed_strip (top_edge r) ∷ []) x y before))
rect_under r x y before =
    let first : Glyph = cell_under (placed_strip (top_edge r) ∷ []) x y before in
    ap (λ ss. cell_under ss x y first) (map-append placed_strip (sides_below r (r.area.height - 2)) (bottom_edge r ∷ []))
    ∙ under_both (map placed_strip (sides_below r (r.area.height - 2))) (placed_strip (bottom_edge r) ∷ []) x y first

rect_cell : (r : Rect) (i j : ℕ) (before : Glyph) → AreBorderChars r.border_style → 2 ≤ r.area.width → i < r.area.width → j < r.area.height
    → cell_under (map placed_strip (rect_pieces r)) (r.area.left + i) (r.area.top + j) before ≡ cell_with r (border_at r i j) before
rect_cell r i j before chars wide in_width in_height =
    rect_under r (r.area.left + i) (r.area.top + j) before
    ∙ ⊎_elim
    (λ (last : j + 1 ≡ r.area.height).
    let row : j ≡ r.area.height - 1 = omega (arith, last) in
    let tested : (j + 1 == r.area.height) ≡ true = grind (arith, nat_tests) in
    ap (λ (k : ℕ). cell_under (placed_strip (bottom_edge r) ∷ []) (r.area.left + i) (r.area.top + k) under_sides) row
    ∙ edge_here r (r.area.top + (r.area.height - 1)) i s.bottom_left s.bottom s.bottom_right under_sides chars.bottom_left chars.bottom chars.bottom_right wide in_width
    ∙ sym (ap (λ t. cell_with r (if t then bottom else if j == 0 then top else side_at r i) before) tested))
    (λ (above : j + 1 ≢ r.area.height).
    let tested : (j + 1 == r.area.height) ≡ false = grind (arith, nat_tests) in
    under_other_row (placed_strip (bottom_edge r)) (r.area.left + i) (r.area.top + j) under_sides (λ e. above (omega (arith, e, in_height)))
    ∙ ⊎_elim
    (λ (first : j ≡ 0).
    let zero_row : (j == 0) ≡ true = grind (arith, nat_tests) in
    let row : r.area.top + j ≡ r.area.top = omega (arith, first) in
    below_other r (r.area.height - 2) (r.area.left + i) j under_top (inl first)
    ∙ ap (λ y. cell_under (placed_strip (top_edge r) ∷ []) (r.area.left + i) y before) row
    ∙ edge_here r r.area.top i s.top_left s.top s.top_right before chars.top_left chars.top chars.top_right wide in_width
    ∙ sym (ap (λ t. cell_with r (if t then bottom else if j == 0 then top else side_at r i) before) tested ∙ ap (λ t. cell_with r (if t then top else side_at r i) before) zero_row))
    (λ (later : j ≢ 0).
    let zero_row : (j == 0) ≡ false = grind (arith, nat_tests) in
    below_here r (r.area.height - 2) i j under_top chars wide in_width (omega (arith, later)) (omega (arith, above, in_height))
    ∙ ap (cell_with r (side_at r i)) (under_other_row (placed_strip (top_edge r)) (r.area.left + i) (r.area.top + j) before (λ e. later (omega (arith, e))))
    ∙ sym (ap (λ t. cell_with r (if t then bottom else if j == 0 then top else side_at r i) before) tested ∙ ap (λ t. cell_with r (if t then top else side_at r i) before) zero_row))
    (cases_eq j 0))
    (cases_eq (j + 1) r.area.height)
  where
    s : RectBorderStyle
    s = r.border_style

    bottom : Option ℕ
    bottom = Some (edge_char s.bottom_left s.bottom s.bottom_right r.area.width i)

    top : Option ℕ
    top = Some (edge_char s.top_left s.top s.top_right r.area.width i)

    under_top : Glyph
    under_top = cell_under (placed_strip (top_edge r) ∷ []) (r.area.left + i) (r.area.top + j) before

    under_sides : Glyph
    under_sides = cell_under (map placed_strip (sides_below r (r.area.height - 2))) (r.area.left + i) (r.area.top + j) under_top

-- ---- its pieces are in its area

border_known : (r : Rect) (c : ℕ) → IsStyle r.colors.object_style → AreKnown (border r c ∷ [])
border_known r c known = (known, tt)

edge_in : (r : Rect) (y first middle last : ℕ) → IsColumnChar first → IsColumnChar middle → IsColumnChar last → 2 ≤ r.area.width → r.area.top ≤ y → y < r.area.top + r.area.height → IsPlacedIn r.area (edge r y first middle last)
edge_in r y first middle last a b c wide low high =
    let n : ℕ = r.area.width - 2 in
    let middles : List RowPiece = single_chars (styled_char r.colors middle) n in
    let one = (column_piece (styled_char r.colors first) a).one in
    let end = (column_piece (styled_char r.colors last) c).one in
    let total : pieces_columns (middles ++ border r last ∷ []) ≡ n + pieces_columns (border r last ∷ []) = columns-both middles (border r last ∷ []) ∙ ap (λ k. k + pieces_columns (border r last ∷ [])) (single_columns (styled_char r.colors middle) n b) in
    let all : pieces_columns (edge r y first middle last).pieces ≡ r.area.width = omega (arith, total, one, end, wide) in
    record {
      shown = ((column_piece (styled_char r.colors first) a).shown, all_both _ middles (border r last ∷ []) (single_shown (styled_char r.colors middle) n b) ((column_piece (styled_char r.colors last) c).shown, tt));
      some = omega (arith, all, wide);
      from_left = omega arith;
      to_right = omega (arith, all);
      from_top = low;
      to_bottom = high;
    }

sides_in : (r : Rect) (y : ℕ) → AreBorderChars r.border_style → 2 ≤ r.area.width → r.area.top ≤ y → y < r.area.top + r.area.height → AllByRecursion (IsPlacedIn r.area) (sides r y)
sides_in r y chars wide low high = by_fill r.fill
  where
    left_piece : StyledChar
    left_piece = styled_char r.colors r.border_style.left

    right_piece : StyledChar
    right_piece = styled_char r.colors r.border_style.right

    by_fill : (f : Bool) → AllByRecursion (IsPlacedIn r.area) (if f then filled_sides r y else open_sides r y)
    by_fill true =
        let n : ℕ = r.area.width - 2 in
        let one = (column_piece left_piece chars.left).one in
        let end = (column_piece right_piece chars.right).one in
        let total : pieces_columns (spaces r.colors n ++ border r r.border_style.right ∷ []) ≡ n + pieces_columns (border r r.border_style.right ∷ []) = columns-both (spaces r.colors n) (border r r.border_style.right ∷ []) ∙ ap (λ k. k + pieces_columns (border r r.border_style.right ∷ [])) (spaces_columns r.colors n) in
        let all : pieces_columns (border r r.border_style.left ∷ (spaces r.colors n ++ border r r.border_style.right ∷ [])) ≡ r.area.width = omega (arith, total, one, end, wide) in (
          record {
            shown = ((column_piece left_piece chars.left).shown, all_both _ (spaces r.colors n) (border r r.border_style.right ∷ []) (shown_spaces r.colors n) ((column_piece right_piece chars.right).shown, tt));
            some = omega (arith, all, wide);
            from_left = omega arith;
            to_right = omega (arith, all);
            from_top = low;
            to_bottom = high;
          },
          tt,
        )
    by_fill false =
        let one = (column_piece left_piece chars.left).one in
        let end = (column_piece right_piece chars.right).one in (
          record { shown = ((column_piece left_piece chars.left).shown, tt); some = omega (arith, one); from_left = omega arith; to_right = omega (arith, one, wide); from_top = low; to_bottom = high },
          (
            record { shown = ((column_piece right_piece chars.right).shown, tt); some = omega (arith, end); from_left = omega arith; to_right = omega (arith, end, wide); from_top = low; to_bottom = high },
            tt,
          ),
        )

below_in : (r : Rect) (count : ℕ) → AreBorderChars r.border_style → 2 ≤ r.area.width → count + 1 < r.area.height → AllByRecursion (IsPlacedIn r.area) (sides_below r count)
below_in r zero chars wide inside = tt
below_in r (suc count) chars wide inside =
    all_both (IsPlacedIn r.area) (sides_below r count) (sides r (r.area.top + suc count)) (below_in r count chars wide (omega (arith, inside)))
    (sides_in r (r.area.top + suc count) chars wide (omega arith) (omega (arith, inside)))

sides_known : (r : Rect) (y : ℕ) → IsStyle r.colors.object_style → AllByRecursion (λ p. AreKnown p.pieces) (sides r y)
sides_known r y known = by_fill r.fill
  where
    by_fill : (f : Bool) → AllByRecursion (λ p. AreKnown p.pieces) (if f then filled_sides r y else open_sides r y)
    by_fill true = ((known, all_both _ (spaces r.colors (r.area.width - 2)) (border r r.border_style.right ∷ []) (spaces_known r.colors (r.area.width - 2) known) (known, tt)), tt)
    by_fill false = ((known, tt), ((known, tt), tt))

below_known : (r : Rect) (count : ℕ) → IsStyle r.colors.object_style → AllByRecursion (λ p. AreKnown p.pieces) (sides_below r count)
below_known r zero known = tt
below_known r (suc count) known = all_both (λ (p : Placed). AreKnown p.pieces) (sides_below r count) (sides r (r.area.top + suc count)) (below_known r count known) (sides_known r (r.area.top + suc count) known)

edge_known : (r : Rect) (y first middle last : ℕ) → IsStyle r.colors.object_style → AreKnown (edge r y first middle last).pieces
edge_known r y first middle last known = (known, all_both _ (single_chars (styled_char r.colors middle) (r.area.width - 2)) (border r last ∷ []) (single_chars_known (styled_char r.colors middle) (r.area.width - 2) known) (known, tt))

-- there is no side where the rectangle has fewer than three rows
between_in : (r : Rect) → AreBorderChars r.border_style → 2 ≤ r.area.width → AllByRecursion (IsPlacedIn r.area) (sides_below r (r.area.height - 2))
between_in r chars wide =
    ⊎_elim
    (λ (few : r.area.height < 3). let none : r.area.height - 2 ≡ 0 = omega (arith, few) in subst (λ n. AllByRecursion (IsPlacedIn r.area) (sides_below r n)) (sym none) tt)
    (λ (some : 3 ≤ r.area.height). below_in r (r.area.height - 2) chars wide (omega (arith, some)))
    (cases_lt r.area.height 3)

-- a rectangle is shown
pub rect_shown : (r : Rect) → 2 ≤ r.area.width → 1 ≤ r.area.height → IsWithinLimits r.area → IsStyle r.colors.object_style → AreBorderChars r.border_style → IsRectShown r (placed_bytes (rect_pieces r))
rect_shown r wide high limits known chars g on_screen =
    let s : RectBorderStyle = r.border_style in
    let below : AllByRecursion (IsPlacedIn r.area) (sides_below r (r.area.height - 2) ++ bottom_edge r ∷ []) =
    all_both (IsPlacedIn r.area) (sides_below r (r.area.height - 2)) (bottom_edge r ∷ []) (between_in r chars wide)
    (edge_in r (r.area.top + (r.area.height - 1)) s.bottom_left s.bottom s.bottom_right chars.bottom_left chars.bottom chars.bottom_right wide (omega arith) (omega (arith, high)), tt) in
    let inside : AllByRecursion (IsPlacedIn r.area) (rect_pieces r) =
    (edge_in r r.area.top s.top_left s.top s.top_right chars.top_left chars.top chars.top_right wide (omega arith) (omega (arith, high)), below) in
    let all_known : AllByRecursion (λ (p : Placed). AreKnown p.pieces) (rect_pieces r) =
    (edge_known r r.area.top s.top_left s.top s.top_right known, all_both (λ (p : Placed). AreKnown p.pieces) (sides_below r (r.area.height - 2)) (bottom_edge r ∷ []) (below_known r (r.area.height - 2) known) (edge_known r (r.area.top + (r.area.height - 1)) s.bottom_left s.bottom s.bottom_right known, tt)) in
    let done = placed_shown r.area (rect_pieces r) limits all_known inside g on_screen in
    let shows : ShowsPlaced r.area (rect_pieces r) g done.0 = done.4 in (
      done.0,
      done.1,
      done.2,
      done.3,
      record {
        width = shows.width;
        height = shows.height;
        inside = λ i j in_width in_height.
            shows.cells (r.area.left + i) (r.area.top + j) (omega (arith, in_width, on_screen.columns))
            ∙ rect_cell r i j (cell_at g (r.area.left + i) (r.area.top + j)) chars wide in_width in_height;
        outside = shows.outside;
      },
    )
