-- Screens whose halves are spaces are whole, and whole screens stay as they are.
use Rattle.std.proofs.Common.{◌≡◌, ⊎_elim, ℕ, zero, suc, ◌+◌, ◌-◌, ◌*◌, ◌<◌, ◌≤◌, Bool, true, false, cond, ◌&&◌, nat_lt, List, [], ◌∷◌, ◌++◌, length, get_or, take, drop, replicate, Result, Ok, Err, refl, ap, sym, ◌∙◌, subst, arith, length-append, length-drop}
use Rattle.std.specs.Prelude.{OnOk}
use Rattle.std.proofs.Math.Nat.{suc-mul}
use Rattle.std.proofs.Math.Seq.{take-add}
use Rattle.std.proofs.lemmas.Bool.{false≢true, cases_lt}
use Rattle.std.proofs.lemmas.List.{length-replicate, take_all, take-append-le, drop_at, drop-append-le, take-replicate, drop-replicate}
use Rattle.std.proofs.lemmas.Nat.{row_fits}
use Rattle.unicode_width.specs.Width.{char_width}
use Rattle.mad_characters.specs.Columns.{char_columns}
use Rattle.mad_screen.specs.Glyph.{Glyph, Look}
use Rattle.mad_screen.specs.Grid.{Grid, plain_pen, blank, empty_grid, is_tail}
use Rattle.mad_screen.specs.Pictures.{same_look, row_cells}
use Rattle.mad_frames.specs.Bound.{most_bytes}
use Rattle.mad_frames.specs.Changes.{SameSize, RowsOf, AddsCells}
use Rattle.mad_frames.specs.Mending.{begin_tails, begins_whole, space_in, mended_after, mended_row, mended_rows, mended}
use Rattle.mad_frames.specs.Whole.{is_cell_text, is_writable, tails_of, are_whole_after, are_whole, IsWholeGrid}
use Rattle.mad_frames.proofs.HalfwayLemmas.{cells_none, cells_same, row_length}
use Rattle.mad_frames.proofs.LooksLemmas.{both_true, true_both}

-- ---- the cells of a row

-- as many cells as before
pub mended_length : (n : ℕ) (gs : List Glyph) → length (mended_after n gs) ≡ length gs
mended_length zero [] = refl
mended_length (suc n) [] = refl
mended_length (suc n) (g ∷ gs) = ap suc (mended_length n gs)
mended_length zero (g ∷ gs) = by_case (begins_whole g gs) (mended_length (tails_of g.chars) gs) (mended_length 0 gs)
  where
    by_case : (b : Bool) → length (mended_after (tails_of g.chars) gs) ≡ length gs → length (mended_after 0 gs) ≡ length gs → length (cond b (g ∷ mended_after (tails_of g.chars) gs) (space_in g.pen ∷ mended_after 0 gs)) ≡ suc (length gs)
    by_case true p q = ap suc p
    by_case false p q = ap suc q

space_columns : char_columns 32 ≡ 1
unfolding char_columns char_width
space_columns = refl

space_text : is_cell_text (32 ∷ []) ≡ true
space_text = ap (λ n. nat_lt 0 n && true) space_columns

space_tails : tails_of (32 ∷ []) ≡ 0
space_tails = ap (λ n. n - 1) space_columns

writable_or_plain : (p : Look) (b : Bool) → is_writable p ≡ b → is_writable (cond b p plain_pen) ≡ true
writable_or_plain p true e = e
writable_or_plain p false e = refl

space_writable : (p : Look) → is_writable (space_in p).pen ≡ true
space_writable p = writable_or_plain p (is_writable p) refl

-- a space before whole characters
space_whole : (p q : Look) (gs : List Glyph) → are_whole_after 0 (space_in p).pen gs ≡ true → are_whole_after 0 q (space_in p ∷ gs) ≡ true
space_whole p q gs h =
    true_both (is_cell_text (32 ∷ [])) _ space_text
    (true_both (is_writable (space_in p).pen) _ (space_writable p) (ap (λ n. are_whole_after n (space_in p).pen gs) space_tails ∙ h))

-- where tails come first, the pen before them tells nothing
any_pen : (p q : Look) (gs : List Glyph) → are_whole_after 0 p gs ≡ true → are_whole_after 0 q gs ≡ true
any_pen p q [] h = refl
any_pen p q (g ∷ gs) h = h

-- mended cells are whole characters
pub mended_whole : (n : ℕ) (p : Look) (gs : List Glyph) → begin_tails n p gs ≡ true → are_whole_after n p (mended_after n gs) ≡ true
mended_whole zero p [] h = refl
mended_whole (suc n) p [] h = absurd (false≢true h)
mended_whole (suc n) p (g ∷ gs) h =
    let s = both_true (is_tail g) _ h in
    let t = both_true (same_look g.pen p) _ s.1 in
    true_both (is_tail g) _ s.0 (true_both (same_look g.pen p) _ t.0 (mended_whole n p gs t.1))
mended_whole zero p (g ∷ gs) h = by_case (begins_whole g gs) refl (mended_whole (tails_of g.chars) g.pen gs) (mended_whole 0 (space_in g.pen).pen gs refl)
  where
    by_case : (b : Bool) → begins_whole g gs ≡ b → (begin_tails (tails_of g.chars) g.pen gs ≡ true → are_whole_after (tails_of g.chars) g.pen (mended_after (tails_of g.chars) gs) ≡ true) → are_whole_after 0 (space_in g.pen).pen (mended_after 0 gs) ≡ true → are_whole_after 0 p (cond b (g ∷ mended_after (tails_of g.chars) gs) (space_in g.pen ∷ mended_after 0 gs)) ≡ true
    by_case true e after spaces =
        let s = both_true (is_cell_text g.chars) _ e in
        let t = both_true (is_writable g.pen) _ s.1 in
        true_both (is_cell_text g.chars) _ s.0 (true_both (is_writable g.pen) _ t.0 (after t.1))
    by_case false e after spaces = space_whole g.pen p (mended_after 0 gs) spaces

-- whole characters have their tails
tails_begin : (n : ℕ) (p : Look) (gs : List Glyph) → are_whole_after n p gs ≡ true → begin_tails n p gs ≡ true
tails_begin zero p gs h = refl
tails_begin (suc n) p [] h = absurd (false≢true h)
tails_begin (suc n) p (g ∷ gs) h =
    let s = both_true (is_tail g) _ h in
    let t = both_true (same_look g.pen p) _ s.1 in
    true_both (is_tail g) _ s.0 (true_both (same_look g.pen p) _ t.0 (tails_begin n p gs t.1))

-- so they stay as they are
pub whole_stays : (n : ℕ) (p : Look) (gs : List Glyph) → are_whole_after n p gs ≡ true → mended_after n gs ≡ gs
whole_stays zero p [] h = refl
whole_stays (suc n) p [] h = refl
whole_stays (suc n) p (g ∷ gs) h =
    let s = both_true (is_tail g) _ h in
    let t = both_true (same_look g.pen p) _ s.1 in
    ap (λ (l : List Glyph). g ∷ l) (whole_stays n p gs t.1)
whole_stays zero p (g ∷ gs) h =
    let s = both_true (is_cell_text g.chars) _ h in
    let t = both_true (is_writable g.pen) _ s.1 in
    let begins : begins_whole g gs ≡ true = true_both (is_cell_text g.chars) _ s.0 (true_both (is_writable g.pen) _ t.0 (tails_begin (tails_of g.chars) g.pen gs t.1)) in
    ap (λ b. cond b (g ∷ mended_after (tails_of g.chars) gs) (space_in g.pen ∷ mended_after 0 gs)) begins ∙ ap (λ (l : List Glyph). g ∷ l) (whole_stays (tails_of g.chars) g.pen gs t.1)

-- ---- the rows of a screen

rows_length : (g : Grid) (n : ℕ) → length g.cells ≡ g.height * g.width → n ≤ g.height → length (mended_rows g n) ≡ n * g.width
rows_length g zero full within = omega arith
rows_length g (suc n) full within =
    let row : length (mended_row (row_cells g n)) ≡ g.width = mended_length 0 (row_cells g n) ∙ row_length g.cells n g.width g.height (omega arith) full in
    omega (arith, length-append (mended_rows g n) (mended_row (row_cells g n)), rows_length g n full (omega arith), suc-mul n g.width)

-- as many cells as before
pub mended_full : (g : Grid) → length g.cells ≡ g.height * g.width → length (mended g).cells ≡ g.height * g.width
mended_full g full = rows_length g g.height full (omega arith)

row_of : (g : Grid) (n y : ℕ) → length g.cells ≡ g.height * g.width → n ≤ g.height → y < n → take g.width (drop (y * g.width) (mended_rows g n)) ≡ mended_row (row_cells g y)
row_of g zero y full within below = absurd (omega arith)
row_of g (suc n) y full within below =
    let rows = mended_rows g n in
    let last = mended_row (row_cells g n) in
    let count : length rows ≡ n * g.width = rows_length g n full (omega arith) in
    let columns : length last ≡ g.width = mended_length 0 (row_cells g n) ∙ row_length g.cells n g.width g.height (omega arith) full in
    ⊎_elim
    (λ (earlier : y < n).
    let fits : y * g.width + g.width ≤ n * g.width = row_fits y g.width n g.width earlier (omega arith) in
    ap (take g.width) (drop-append-le (y * g.width) rows last (omega arith)) ∙ take-append-le g.width (drop (y * g.width) rows) last (omega (arith, length-drop (y * g.width) rows)) ∙ row_of g n y full (omega arith) earlier)
    (λ (later : n ≤ y).
    let same : y ≡ n = omega arith in
    ap (λ (k : ℕ). take g.width (drop (k * g.width) (rows ++ last))) same
    ∙ ap (take g.width) (drop_at rows last (n * g.width) count) ∙ take_all g.width last (omega arith) ∙ ap (λ (k : ℕ). mended_row (row_cells g k)) (sym same))
    (cases_lt y n)

-- its rows are mended
pub mended_row_cells : (g : Grid) (y : ℕ) → length g.cells ≡ g.height * g.width → y < g.height → row_cells (mended g) y ≡ mended_row (row_cells g y)
mended_row_cells g y full below = row_of g g.height y full (omega arith) below

-- a mended screen is whole
pub mended_is_whole : (g : Grid) → length g.cells ≡ g.height * g.width → IsWholeGrid (mended g)
mended_is_whole g full y below = ap are_whole (mended_row_cells g y full below) ∙ mended_whole 0 plain_pen (row_cells g y) refl

rows_stay : (g : Grid) (n : ℕ) → n ≤ g.height → IsWholeGrid g → mended_rows g n ≡ take (n * g.width) g.cells
rows_stay g zero within are =
    let none : 0 ≡ 0 * g.width = omega arith in
    ap (λ (k : ℕ). take k g.cells) none
rows_stay g (suc n) within are =
    let place : n * g.width + g.width ≡ suc n * g.width = sym (suc-mul n g.width) in
    ap (λ (l : List Glyph). l ++ mended_row (row_cells g n)) (rows_stay g n (omega arith) are)
    ∙ ap (λ (l : List Glyph). take (n * g.width) g.cells ++ l) (whole_stays 0 plain_pen (row_cells g n) (are n (omega arith)))
    ∙ sym (take-add (n * g.width) g.width g.cells) ∙ ap (λ (k : ℕ). take k g.cells) place

-- a whole screen stays as it is
pub whole_screen_stays : (g : Grid) → length g.cells ≡ g.height * g.width → IsWholeGrid g → mended g ≡ g
whole_screen_stays g full are =
    ap (λ (l : List Glyph). record g { cells = l }) (rows_stay g g.height (omega arith) are ∙ take_all (g.height * g.width) g.cells (omega (arith, full)))

-- blank rows are whole
pub blanks_whole : (k : ℕ) (p : Look) → are_whole_after 0 p (replicate k blank) ≡ true
blanks_whole zero p = refl
blanks_whole (suc k) p =
    true_both (is_cell_text (32 ∷ [])) _ space_text (true_both (is_writable plain_pen) _ refl (ap (λ n. are_whole_after n plain_pen (replicate k blank)) space_tails ∙ blanks_whole k plain_pen))

empty_whole : (width height : ℕ) → IsWholeGrid (empty_grid width height)
empty_whole width height y below =
    let fits : y * width + width ≤ height * width = row_fits y width height width below (omega arith) in
    ap are_whole (ap (take width) (drop-replicate (y * width) (height * width) blank) ∙ take-replicate width (height * width - y * width) blank (omega arith)) ∙ blanks_whole width plain_pen

-- and so does an empty one
pub empty_stays : (width height : ℕ) → mended (empty_grid width height) ≡ empty_grid width height
empty_stays width height = whole_screen_stays (empty_grid width height) (length-replicate (height * width) blank) (empty_whole width height)

-- ---- bytes of mended rows

ok_as : {T E : Type 0} (r : Result T E) (P Q : Type 0) → (P → Q) → OnOk r P → OnOk r Q
ok_as (Ok t) P Q f h = f h
ok_as (Err e) P Q f h = tt

-- bytes of the rows that two rows are mended to
pub adds_mended : {T E : Type 0} (r : Result T E) (old new a b : List Glyph) (y n : ℕ) (before after : List ℕ) → a ≡ mended_row old → b ≡ mended_row new → n ≡ length new → OnOk r (AddsCells a b y (length b) before after) → OnOk r (AddsCells (mended_row old) (mended_row new) y n before after)
adds_mended r old new a b y n before after p q count =
    let columns : length b ≡ n = ap length q ∙ mended_length 0 new ∙ sym count in
    ok_as r (AddsCells a b y (length b) before after) (AddsCells (mended_row old) (mended_row new) y n before after)
    (λ h. subst (λ (l : List Glyph). AddsCells l (mended_row new) y n before after) p (subst (λ (l : List Glyph). AddsCells a l y n before after) q (subst (λ (k : ℕ). AddsCells a b y k before after) columns h)))

-- of the same row no bytes
pub adds_same : (old new : List Glyph) (y : ℕ) (bytes : List ℕ) → old ≡ new → AddsCells (mended_row old) (mended_row new) y (length new) bytes bytes
adds_same old new y bytes same =
    cells_same (mended_row old) (mended_row new) y 0 (length new) bytes bytes (omega arith) (omega (arith, mended_length 0 new)) (λ i low high. ap (λ (l : List Glyph). get_or (mended_row l) i blank) same)
    (cells_none (mended_row old) (mended_row new) y bytes)

-- where mended rows are the same, nothing is written; of the rows themselves too
pub same_mended : {T E : Type 0} (r : Result T E) (old new a b : List Glyph) (before after : List ℕ) → a ≡ mended_row old → b ≡ mended_row new → OnOk r (a ≡ b → after ≡ before) → OnOk r (mended_row old ≡ mended_row new → after ≡ before)
same_mended r old new a b before after p q = ok_as r (a ≡ b → after ≡ before) (mended_row old ≡ mended_row new → after ≡ before) (λ h e. h (p ∙ e ∙ sym q))

-- the bound for mended rows, of the rows themselves
pub bound_mended : {T E : Type 0} (r : Result T E) (old new a b : List Glyph) (before after : List ℕ) → a ≡ mended_row old → b ≡ mended_row new → OnOk r (are_whole a ≡ true → length after ≤ length before + most_bytes a b) → OnOk r (length after ≤ length before + most_bytes (mended_row old) (mended_row new))
bound_mended r old new a b before after p q =
    let whole : are_whole a ≡ true = ap are_whole p ∙ mended_whole 0 plain_pen old refl in
    ok_as r (are_whole a ≡ true → length after ≤ length before + most_bytes a b) (length after ≤ length before + most_bytes (mended_row old) (mended_row new))
    (λ h. subst (λ (l : List Glyph). length after ≤ length before + most_bytes l (mended_row new)) p (subst (λ (l : List Glyph). length after ≤ length before + most_bytes a l) q (h whole)))

-- rows of mended screens
pub mended_rows_of : (old new : Grid) (y : ℕ) (a b : List Glyph) → SameSize old new → length old.cells ≡ old.height * old.width → length new.cells ≡ new.height * new.width → y < new.height → a ≡ row_cells old y → b ≡ row_cells new y → RowsOf (mended old) (mended new) y (mended_row a) (mended_row b)
mended_rows_of old new y a b size full_old full below p q =
    let place : old.height * old.width ≡ new.height * new.width = ap (λ h. h * old.width) size.height ∙ ap (λ w. new.height * w) size.width in
    record {
      size = record { width = size.width; height = size.height };
      same = mended_full old full_old ∙ place ∙ sym (mended_full new full);
      full = mended_full new full;
      row = below;
      old_row = ap mended_row p ∙ sym (mended_row_cells old y full_old (omega (arith, size.height)));
      new_row = ap mended_row q ∙ sym (mended_row_cells new y full below);
    }
