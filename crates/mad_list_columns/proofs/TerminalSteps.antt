-- Texts that are read one after the other, and what they change on a screen.
use Rattle.std.proofs.Common.{◌≡◌, ◌≢◌, ◌⊎◌, inl, inr, ⊎_elim, ℕ, suc, ◌+◌, ◌-◌, ◌*◌, ◌<◌, ◌≤◌, Bool, true, false, ◌&&◌, cond, leb, ltb, eqb, List, [], ◌∷◌, ◌++◌, length, get_or, replicate, Some, refl, ap, sym, ◌∙◌, subst, arith, append_assoc}
use Rattle.std.proofs.lemmas.Bool.{cases_eq, cases_lt}
use Rattle.std.proofs.lemmas.Bool.Decides.{nat_tests}
use Rattle.std.proofs.lemmas.List.{get_or-replicate, get_or_default, get_or_past, length-replicate}
use Rattle.std.proofs.lemmas.Str.{chars-nil, IsUtf8-nil}
use Rattle.mad_term.specs.Commands.{clear_bytes, move_to_bytes}
use Rattle.mad_term.specs.declared.commands.ClearType.TheVariants.{UntilNewLine}
use Rattle.mad_screen.specs.Drawing.{drawing}
use Rattle.mad_screen.specs.Glyph.{Glyph, Look}
use Rattle.mad_screen.specs.Grid.{Grid, IsGrid, blank, cell_at, painted, plain_pen, put_list}
use Rattle.mad_screen.specs.Painting.{HasColumns, Paints}
use Rattle.mad_screen.specs.Terminal.{Leads, after_bytes, erased, resting, row_end, row_start, space_of}
use Rattle.mad_screen.proofs.CommandsRead.{command_read, move_read}
use Rattle.mad_screen.proofs.DrawingLemmas.{at, at_columns, row_inside, row_outside}
use Rattle.mad_screen.proofs.PaintingLemmas.{painted_is_grid}
use Rattle.mad_screen.proofs.Paints.{read_leads}
use Rattle.mad_screen.proofs.PutList.{length-put_list}
use Rattle.mad_screen.proofs.Reading.{letter_row, nothing_leads}
use Rattle.mad_screen.proofs.ReadingBack.{read_in_turn}
use Rattle.mad_measure.specs.Areas.{IsWithinLimits}
use Rattle.mad_measure.specs.declared.area.Area.{Area}
use Rattle.mad_draw.specs.DrawnRows.{IsOnScreen}
use Rattle.mad_list_columns.specs.Shown.{from_column}

-- what a cell shows after, by its position and what it showed before
abbrev pub Change : Type 0
Change = ℕ → ℕ → Glyph → Glyph

-- what a plain terminal does that reads the bytes
abbrev pub Changes : Area → Change → List ℕ → Type 0
Changes area f bytes =
    (g : Grid) → IsOnScreen area g
    → (new : Grid) × (after_bytes g bytes ≡ Some new) × IsOnScreen area new × (new.width ≡ g.width) × (new.height ≡ g.height)
    × ((x y : ℕ) → x < g.width → cell_at new x y ≡ f x y (cell_at g x y))

-- each cell stays as it is
abbrev pub no_change : Change
no_change x y c = c

-- no bytes change nothing
pub nothing_changes : (area : Area) → Changes area no_change []
nothing_changes area g on_screen = (
  g,
  read_leads g g [] IsUtf8-nil (subst (λ (cs : List ℕ). Leads (resting g) cs (resting g)) (sym chars-nil) (nothing_leads _)),
  on_screen,
  refl,
  refl,
  λ x y in_width. refl,
)

-- bytes and then others change the cells one after the other
pub both_change : (area : Area) (f h : Change) (a b : List ℕ) → Changes area f a → Changes area h b → Changes area (λ x y c. h x y (f x y c)) (a ++ b)
both_change area f h a b p q g on_screen =
    let one = p g on_screen in
    let two = q one.0 one.2 in (
      two.0,
      read_in_turn g one.0 two.0 a b one.1 two.1,
      two.2,
      two.3 ∙ one.3,
      two.4 ∙ one.4,
      λ x y in_width. two.5 x y (omega (arith, in_width, one.3)) ∙ ap (h x y) (one.5 x y in_width),
    )

-- a change that leaves the same in each cell
pub same_change : (area : Area) (f h : Change) (bytes : List ℕ) → ((x y : ℕ) (c : Glyph) → f x y c ≡ h x y c) → Changes area f bytes → Changes area h bytes
same_change area f h bytes same p g on_screen =
    let done = p g on_screen in (done.0, done.1, done.2, done.3, done.4, λ x y in_width. done.5 x y in_width ∙ same x y (cell_at g x y))

-- ---- in one row

-- a change of one row
abbrev pub in_row : ℕ → (ℕ → Glyph → Glyph) → Change
in_row y0 f x y c = cond (eqb y y0) (f x c) c

-- the same, of one row
pub same_row : (area : Area) (y0 : ℕ) (f h : ℕ → Glyph → Glyph) (bytes : List ℕ) → ((x : ℕ) (c : Glyph) → f x c ≡ h x c) → Changes area (in_row y0 f) bytes → Changes area (in_row y0 h) bytes
same_row area y0 f h bytes same p = same_change area (in_row y0 f) (in_row y0 h) bytes (λ x y c. ap (λ (d : Glyph). cond (eqb y y0) d c) (same x c)) p

-- two changes of the same row
pub both_in_row : (area : Area) (y0 : ℕ) (f h : ℕ → Glyph → Glyph) (a b : List ℕ) → Changes area (in_row y0 f) a → Changes area (in_row y0 h) b → Changes area (in_row y0 (λ x c. h x (f x c))) (a ++ b)
both_in_row area y0 f h a b p q =
    same_change area (λ x y c. in_row y0 h x y (in_row y0 f x y c)) (in_row y0 (λ x c. h x (f x c))) (a ++ b) (λ x y c. by (eqb y y0) x c) (both_change area (in_row y0 f) (in_row y0 h) a b p q)
  where
    by : (b : Bool) (x : ℕ) (c : Glyph) → cond b (h x (cond b (f x c) c)) (cond b (f x c) c) ≡ cond b (h x (f x c)) c
    by true x c = refl
    by false x c = refl

elsewhere : (y0 : ℕ) (f : ℕ → Glyph → Glyph) (x y : ℕ) (c : Glyph) → y ≢ y0 → c ≡ in_row y0 f x y c
elsewhere y0 f x y c other = let test : eqb y y0 ≡ false = grind (arith, nat_tests) in sym (ap (λ (b : Bool). cond b (f x c) c) test)

there : (y0 : ℕ) (f : ℕ → Glyph → Glyph) (x : ℕ) (c d : Glyph) → d ≡ f x c → d ≡ in_row y0 f x y0 c
there y0 f x c d e = let test : eqb y0 y0 ≡ true = grind (arith, nat_tests) in e ∙ sym (ap (λ (b : Bool). cond b (f x c) c) test)

before_column : (start : ℕ) (cells : List Glyph) (x : ℕ) (c : Glyph) → x < start → c ≡ from_column start cells x c
before_column start cells x c before = let test : leb start x ≡ false = grind (arith, nat_tests) in sym (ap (λ (b : Bool). cond b (get_or cells (x - start) c) c) test)

reached_column : (start : ℕ) (cells : List Glyph) (x : ℕ) (c d : Glyph) → start ≤ x → d ≡ get_or cells (x - start) c → d ≡ from_column start cells x c
reached_column start cells x c d reached e = let test : leb start x ≡ true = grind (arith, nat_tests) in e ∙ sym (ap (λ (b : Bool). cond b (get_or cells (x - start) c) c) test)

-- past the cells nothing is changed
pub past_cells : (start : ℕ) (cells : List Glyph) (x : ℕ) (c : Glyph) → start + length cells ≤ x → from_column start cells x c ≡ c
past_cells start cells x c past = sym (reached_column start cells x c c (omega (arith, past)) (sym (get_or_past cells (x - start) c (omega (arith, past)))))

-- the cells to the left stay
pub left_of_cells : (start : ℕ) (cells : List Glyph) (x : ℕ) (c : Glyph) → x < start → from_column start cells x c ≡ c
left_of_cells start cells x c before = sym (before_column start cells x c before)

painted_cell : (g : Grid) (x0 y0 : ℕ) (cells : List Glyph) (x y : ℕ) → IsGrid g → y0 < g.height → x0 + length cells ≤ g.width → x < g.width → cell_at (painted (at g x0 y0) cells) x y ≡ in_row y0 (from_column x0 cells) x y (cell_at g x y)
painted_cell g x0 y0 cells x y h in_rows fits in_width =
    let new : Grid = painted (at g x0 y0) cells in
    let c : Glyph = cell_at g x y in
    let kept : (y ≢ y0) ⊎ (x < x0) ⊎ (x0 + length cells ≤ x) → cell_at new x y ≡ c = λ out. row_outside g x0 y0 cells x y fits in_width out in
    ⊎_elim
    (λ (row : y ≡ y0).
    let here : cell_at new x y ≡ from_column x0 cells x c =
    ⊎_elim
    (λ (before : x < x0). kept (inr (inl before)) ∙ before_column x0 cells x c before)
    (λ (reached : x0 ≤ x). ⊎_elim
    (λ (inside : x < x0 + length cells).
    let column : x0 + (x - x0) ≡ x = omega (arith, reached) in
    let among : x - x0 < length cells = omega (arith, inside, reached) in
    reached_column x0 cells x c (cell_at new x y) reached
    (ap (λ (i : ℕ). cell_at new i y) (sym column)
    ∙ ap (cell_at new (x0 + (x - x0))) row
    ∙ row_inside g x0 y0 cells (x - x0) h in_rows fits among
    ∙ get_or_default cells (x - x0) blank c among))
    (λ (past : x0 + length cells ≤ x). kept (inr (inr past)) ∙ sym (past_cells x0 cells x c past))
    (cases_lt x (x0 + length cells)))
    (cases_lt x x0) in
    subst (λ (z : ℕ). cell_at new x y ≡ in_row z (from_column x0 cells) x y c) row (there y (from_column x0 cells) x c (cell_at new x y) here))
    (λ (other : y ≢ y0). kept (inl other) ∙ elsewhere y0 (from_column x0 cells) x y c other)
    (cases_eq y y0)

-- columns of a row of the area
pub record IsIn (area : Area) (x y n : ℕ) : Type 0 where
  pub from_left : area.left ≤ x
  pub some : 0 < area.width → x < area.left + area.width
  pub to_right : x + n ≤ area.left + area.width
  pub from_top : area.top ≤ y
  pub to_bottom : y < area.top + area.height

-- bytes that paint cells, from a position of the area on
pub painting_changes : (area : Area) (x0 y0 : ℕ) (bytes : List ℕ) (cells : List Glyph) → IsWithinLimits area → IsIn area x0 y0 (length cells) → Paints bytes cells → Changes area (in_row y0 (from_column x0 cells)) (move_to_bytes x0 y0 ++ bytes)
unfolding painted
painting_changes area x0 y0 bytes cells limits inside p g on_screen =
    let mid : Grid = at g x0 y0 in
    let new : Grid = painted mid cells in
    let in_rows : y0 < g.height = omega (arith, inside.to_bottom, on_screen.rows) in
    let fits : x0 + length cells ≤ g.width = omega (arith, inside.to_right, on_screen.columns) in
    let columns : HasColumns mid (length cells) = at_columns g x0 y0 (length cells) on_screen.grid in_rows fits in (
      new,
      read_in_turn g mid new (move_to_bytes x0 y0) bytes
          (move_read g x0 y0 (omega (arith, inside.some on_screen.some, on_screen.columns)) in_rows (omega (arith, inside.some on_screen.some, limits.columns)) (omega (arith, inside.to_bottom, limits.rows)))
          (read_leads mid new bytes p.text (p.paints mid columns on_screen.pen)),
      record { grid = painted_is_grid mid cells columns.grid fits; pen = on_screen.pen; some = on_screen.some; columns = on_screen.columns; rows = on_screen.rows },
      refl,
      refl,
      λ x y in_width. painted_cell g x0 y0 cells x y on_screen.grid in_rows fits in_width,
    )

-- ---- an erasure from the area's left on

-- the cells from there on are blank
abbrev pub erasing : Area → ℕ → Glyph → Glyph
erasing area x c = cond (leb area.left x) blank c

-- the erased screen, and its cells as if spaces had been written
abbrev cleared : Grid → ℕ → ℕ → Grid
cleared g x0 y0 = erased (row_start (at g x0 y0) + x0) (row_end (at g x0 y0)) (at g x0 y0)

cleared_cells : (g : Grid) (x0 y0 : ℕ) → g.pen ≡ plain_pen → (cleared g x0 y0).cells ≡ put_list g.cells (y0 * g.width + x0) (replicate (g.width - x0) blank)
unfolding erased
cleared_cells g x0 y0 pen =
    let count : (y0 * g.width + g.width) - (y0 * g.width + x0) ≡ g.width - x0 = omega arith in
    ap (λ (n : ℕ). put_list g.cells (y0 * g.width + x0) (replicate n (space_of g.pen))) count
    ∙ ap (λ (p : Look). put_list g.cells (y0 * g.width + x0) (replicate (g.width - x0) (space_of p))) pen

as_painted : (g : Grid) (x0 y0 x y : ℕ) → g.pen ≡ plain_pen → cell_at (cleared g x0 y0) x y ≡ cell_at (painted (at g x0 y0) (replicate (g.width - x0) blank)) x y
unfolding erased painted
as_painted g x0 y0 x y pen = ap (λ (cells : List Glyph). get_or cells (y * g.width + x) blank) (cleared_cells g x0 y0 pen)

cleared_cell : (area : Area) (g : Grid) (y0 x y : ℕ) → IsOnScreen area g → y0 < g.height → x < g.width → cell_at (cleared g area.left y0) x y ≡ in_row y0 (erasing area) x y (cell_at g x y)
cleared_cell area g y0 x y on_screen in_rows in_width =
    let left : ℕ = area.left in
    let spaces : List Glyph = replicate (g.width - left) blank in
    let count : length spaces ≡ g.width - left = length-replicate (g.width - left) blank in
    let fits : left + length spaces ≤ g.width = omega (arith, count, on_screen.columns) in
    let c : Glyph = cell_at g x y in
    let same : from_column left spaces x c ≡ erasing area x c =
    ⊎_elim
    (λ (before : x < left). let test : leb left x ≡ false = grind (arith, nat_tests) in left_of_cells left spaces x c before ∙ sym (ap (λ (b : Bool). cond b blank c) test))
    (λ (reached : left ≤ x).
    let test : leb left x ≡ true = grind (arith, nat_tests) in
    sym (reached_column left spaces x c blank reached (sym (get_or-replicate (g.width - left) (x - left) blank c (omega (arith, in_width, reached)))))
    ∙ sym (ap (λ (b : Bool). cond b blank c) test))
    (cases_lt x left) in
    as_painted g left y0 x y on_screen.pen
    ∙ painted_cell g left y0 spaces x y on_screen.grid in_rows fits in_width
    ∙ ap (λ (d : Glyph). cond (eqb y y0) d c) same

cleared_is_grid : (g : Grid) (x0 y0 : ℕ) → IsGrid g → x0 ≤ g.width → y0 < g.height → IsGrid (cleared g x0 y0)
unfolding erased
cleared_is_grid g x0 y0 h in_width in_rows = record { full = length-put_list g.cells (row_start (at g x0 y0) + x0) (replicate (row_end (at g x0 y0) - (row_start (at g x0 y0) + x0)) (space_of g.pen)) ∙ h.full; column = in_width; row = omega arith }

-- erasing the rest of a row changes that row
pub erasure_changes : (area : Area) (y0 : ℕ) → IsWithinLimits area → y0 < area.top + area.height → Changes area (in_row y0 (erasing area)) (move_to_bytes area.left y0 ++ clear_bytes UntilNewLine)
unfolding erased
erasure_changes area y0 limits to_bottom g on_screen =
    let mid : Grid = at g area.left y0 in
    let new : Grid = cleared g area.left y0 in
    let in_rows : y0 < g.height = omega (arith, to_bottom, on_screen.rows) in
    let in_width : area.left < g.width = omega (arith, on_screen.some, on_screen.columns) in (
      new,
      read_in_turn g mid new (move_to_bytes area.left y0) (clear_bytes UntilNewLine)
          (move_read g area.left y0 in_width in_rows (omega (arith, limits.columns)) (omega (arith, to_bottom, limits.rows)))
          (command_read mid new [] 75 tt letter_row (omega arith) refl),
      record { grid = cleared_is_grid g area.left y0 on_screen.grid (omega arith) in_rows; pen = on_screen.pen; some = on_screen.some; columns = on_screen.columns; rows = on_screen.rows },
      refl,
      refl,
      λ x y within. cleared_cell area g y0 x y on_screen in_rows within,
    )

-- ---- rows one below the other

-- the rows from y0 on, n of them, change as the rows from number j on say
abbrev pub in_rows : ℕ → ℕ → ℕ → (ℕ → ℕ → Glyph → Glyph) → Change
in_rows y0 j n f x y c = cond (leb y0 y && ltb y (y0 + n)) (f (j + (y - y0)) x c) c

-- each of these rows, drawn from row y on, changes its own as it says
abbrev pub AreChanged : Area → (ℕ → ℕ → Glyph → Glyph) → ℕ → ℕ → List (List ℕ) → Type 0
AreChanged area f y j [] = Unit {0}
AreChanged area f y j (row ∷ rows) = Changes area (in_row y (f j)) (move_to_bytes area.left y ++ row) × AreChanged area f (suc y) (suc j) rows

-- rows and then others
pub changed_both : (area : Area) (f : ℕ → ℕ → Glyph → Glyph) (y j : ℕ) (rows others : List (List ℕ)) → AreChanged area f y j rows → AreChanged area f (y + length rows) (j + length rows) others → AreChanged area f y j (rows ++ others)
changed_both area f y j [] others p q =
    let y_is : y + 0 ≡ y = omega arith in
    let j_is : j + 0 ≡ j = omega arith in
    subst (λ (k : ℕ). AreChanged area f y k others) j_is (subst (λ (z : ℕ). AreChanged area f z (j + 0) others) y_is q)
changed_both area f y j (row ∷ rows) others p q =
    let y_is : y + suc (length rows) ≡ suc y + length rows = omega arith in
    let j_is : j + suc (length rows) ≡ suc j + length rows = omega arith in (
      p.0,
      changed_both area f (suc y) (suc j) rows others p.1
          (subst (λ (k : ℕ). AreChanged area f (suc y + length rows) k others) j_is (subst (λ (z : ℕ). AreChanged area f z (j + suc (length rows)) others) y_is q)),
    )

-- one row changes, then those below it
at_none : (a b d : Bool) (u v w : Glyph → Glyph) (c : Glyph) → a ≡ false → b ≡ false → d ≡ false → cond b (v (cond a (u c) c)) (cond a (u c) c) ≡ cond d (w c) c
at_none false false false u v w c p q r = refl
at_none true b d u v w c p q r = absurd (cc)
at_none false true d u v w c p q r = absurd (cc)
at_none false false true u v w c p q r = absurd (cc)

at_first : (a b d : Bool) (u v w : Glyph → Glyph) (c : Glyph) → a ≡ true → b ≡ false → d ≡ true → u c ≡ w c → cond b (v (cond a (u c) c)) (cond a (u c) c) ≡ cond d (w c) c
at_first true false true u v w c p q r e = e
at_first false b d u v w c p q r e = absurd (cc)
at_first true true d u v w c p q r e = absurd (cc)
at_first true false false u v w c p q r e = absurd (cc)

at_later : (a b d : Bool) (u v w : Glyph → Glyph) (c : Glyph) → a ≡ false → b ≡ true → d ≡ true → v c ≡ w c → cond b (v (cond a (u c) c)) (cond a (u c) c) ≡ cond d (w c) c
at_later false true true u v w c p q r e = e
at_later true b d u v w c p q r e = absurd (cc)
at_later false false d u v w c p q r e = absurd (cc)
at_later false true false u v w c p q r e = absurd (cc)

rows_below : (f : ℕ → ℕ → Glyph → Glyph) (y0 j n x y : ℕ) (c : Glyph) → in_rows (suc y0) (suc j) n f x y (in_row y0 (f j) x y c) ≡ in_rows y0 j (suc n) f x y c
rows_below f y0 j n x y c =
    let a : Bool = eqb y y0 in
    let b : Bool = leb (suc y0) y && ltb y (suc y0 + n) in
    let d : Bool = leb y0 y && ltb y (y0 + suc n) in
    let u : Glyph → Glyph = f j x in
    let v : Glyph → Glyph = f (suc j + (y - suc y0)) x in
    let w : Glyph → Glyph = f (j + (y - y0)) x in
    ⊎_elim
    (λ (above : y < y0). at_none a b d u v w c (grind (arith, nat_tests)) (grind (arith, nat_tests)) (grind (arith, nat_tests)))
    (λ (reached : y0 ≤ y). ⊎_elim
    (λ (first : y < suc y0).
    let number : j ≡ j + (y - y0) = omega (arith, first) in
    at_first a b d u v w c (grind (arith, nat_tests)) (grind (arith, nat_tests)) (grind (arith, nat_tests)) (ap (λ (k : ℕ). f k x c) number))
    (λ (later : suc y0 ≤ y). ⊎_elim
    (λ (inside : y < suc y0 + n).
    let number : suc j + (y - suc y0) ≡ j + (y - y0) = omega (arith, later) in
    at_later a b d u v w c (grind (arith, nat_tests)) (grind (arith, nat_tests)) (grind (arith, nat_tests)) (ap (λ (k : ℕ). f k x c) number))
    (λ (past : suc y0 + n ≤ y). at_none a b d u v w c (grind (arith, nat_tests)) (grind (arith, nat_tests)) (grind (arith, nat_tests)))
    (cases_lt y (suc y0 + n)))
    (cases_lt y (suc y0)))
    (cases_lt y y0)

no_rows : (f : ℕ → ℕ → Glyph → Glyph) (y0 j x y : ℕ) (c : Glyph) → c ≡ in_rows y0 j 0 f x y c
no_rows f y0 j x y c =
    let test : (leb y0 y && ltb y (y0 + 0)) ≡ false = ⊎_elim (λ (above : y < y0). grind (arith, nat_tests)) (λ (reached : y0 ≤ y). grind (arith, nat_tests)) (cases_lt y y0) in
    sym (ap (λ (b : Bool). cond b (f (j + (y - y0)) x c) c) test)

-- a drawing changes its rows, and no other
pub rows_change : (area : Area) (f : ℕ → ℕ → Glyph → Glyph) (y j : ℕ) (rows : List (List ℕ)) → AreChanged area f y j rows → Changes area (in_rows y j (length rows) f) (drawing area.left y rows)
rows_change area f y j [] h = same_change area no_change (in_rows y j 0 f) [] (λ x z c. no_rows f y j x z c) (nothing_changes area)
rows_change area f y j (row ∷ rows) h =
    let rest : List ℕ = drawing area.left (suc y) rows in
    subst (λ (bytes : List ℕ). Changes area (in_rows y j (suc (length rows)) f) bytes) (append_assoc (move_to_bytes area.left y) row rest)
    (same_change area (λ x z c. in_rows (suc y) (suc j) (length rows) f x z (in_row y (f j) x z c)) (in_rows y j (suc (length rows)) f) ((move_to_bytes area.left y ++ row) ++ rest)
    (λ x z c. rows_below f y j (length rows) x z c)
    (both_change area (in_row y (f j)) (in_rows (suc y) (suc j) (length rows) f) (move_to_bytes area.left y ++ row) rest h.0 (rows_change area f (suc y) (suc j) rows h.1)))
