-- Cells in one pen take it once.
use Rattle.std.proofs.Common.{◌≡◌, ◌⊎◌, ⊎_elim, ℕ, zero, suc, ◌+◌, ◌-◌, ◌<◌, ◌≤◌, Bool, true, false, cond, List, [], ◌∷◌, ◌++◌, length, get_or, take, drop, refl, ap, sym, ◌∙◌, subst, arith, length-append, length-drop}
use Rattle.std.proofs.lemmas.Grind.{flat_map-append}
use Rattle.std.proofs.lemmas.List.{take_more, get_or-drop, append-nil}
use Rattle.mad_screen.specs.Glyph.{Glyph, Look}
use Rattle.mad_screen.specs.Grid.{blank, plain_pen, is_tail}
use Rattle.mad_screen.specs.Pictures.{same_look, cell_text, row_text}
use Rattle.mad_frames.specs.Bound.{longest_style}
use Rattle.mad_frames.specs.RunBytes.{style_bytes, pen_bytes, pen_before, pieces_to}
use Rattle.mad_frames.specs.Whole.{are_whole}
use Rattle.mad_frames.proofs.BoundLemmas.{tail_pen, same_pen_bytes}

-- from a cell on, `n` cells are tails or in a pen
abbrev pub FromInPen : List Glyph → ℕ → ℕ → Look → Type 0
FromInPen gs from n p = (k : ℕ) → k < n → (is_tail (get_or gs (from + k) blank) ≡ true) ⊎ ((get_or gs (from + k) blank).pen ≡ p)

-- so they are in it, if the first one is
pub all_in_pen : (gs : List Glyph) (from n : ℕ) (p : Look) → are_whole gs ≡ true → from + n ≤ length gs → (get_or gs from blank).pen ≡ p → FromInPen gs from n p → (k : ℕ) → k < n → (get_or gs (from + k) blank).pen ≡ p
all_in_pen gs from n p h within first f zero below =
    let place : from + zero ≡ from = omega arith in
    ap (λ i. (get_or gs i blank).pen) place ∙ first
all_in_pen gs from n p h within first f (suc k) below =
    let place : from + suc k ≡ suc (from + k) = omega arith in
    let before : (get_or gs (from + k) blank).pen ≡ p = all_in_pen gs from n p h within first f k (omega arith) in
    ⊎_elim
    (λ (t : is_tail (get_or gs (from + suc k) blank) ≡ true). tail_pen gs (from + suc k) h (omega arith) t ∙ ap (pen_before gs) place ∙ before)
    (λ (e : (get_or gs (from + suc k) blank).pen ≡ p). e)
    (f (suc k) below)

text_more : (gs : List Glyph) (from k : ℕ) → from + k < length gs → length (row_text (take (k + 1) (drop from gs))) ≡ length (row_text (take k (drop from gs))) + length (cell_text (get_or gs (from + k) blank))
text_more gs from k below =
    let rest = drop from gs in
    let cell : get_or rest k blank ≡ get_or gs (from + k) blank = get_or-drop from gs k blank in
    let inside : k < length rest = omega (arith, length-drop from gs) in
    ap length (ap row_text (take_more rest k blank inside) ∙ flat_map-append cell_text (take k rest) (get_or rest k blank ∷ []))
    ∙ omega (arith, length-append (row_text (take k rest)) (row_text (get_or rest k blank ∷ [])), ap length (append-nil (cell_text (get_or rest k blank))), ap (λ (g : Glyph). length (cell_text g)) cell)

-- what `k` cells and one more in a pen take
pub pen_taken_once : (gs : List Glyph) (from n : ℕ) (p : Look) → are_whole gs ≡ true → from + n ≤ length gs → ((k : ℕ) → k < n → (get_or gs (from + k) blank).pen ≡ p) → (k : ℕ) → k < n → pieces_to gs (from + k + 1) ≡ pieces_to gs from + pen_bytes (pen_before gs from) p + length (row_text (take (k + 1) (drop from gs)))
pen_taken_once gs from n p h within pens zero below =
    let place : from + zero + 1 ≡ suc from = omega arith in
    let here : from + zero ≡ from = omega arith in
    let pen : (get_or gs from blank).pen ≡ p = ap (λ i. (get_or gs i blank).pen) (sym here) ∙ pens zero below in
    ap (pieces_to gs) place
    ∙ ap (λ (q : Look). pieces_to gs from + (pen_bytes (pen_before gs from) q + length (cell_text (get_or gs from blank)))) pen
    ∙ sums (pieces_to gs from) (pen_bytes (pen_before gs from) p) (length (cell_text (get_or gs from blank))) (length (cell_text (get_or gs (from + zero) blank))) (length (row_text (take (zero + 1) (drop from gs))))
    (ap (λ i. length (cell_text (get_or gs i blank))) (sym here)) (text_more gs from zero (omega arith))
  where
    sums : (a b c d e : ℕ) → c ≡ d → e ≡ 0 + d → a + (b + c) ≡ a + b + e
    sums a b c d e r s = omega arith
pen_taken_once gs from n p h within pens (suc k) below =
    let i = from + suc k in
    let place : from + suc k + 1 ≡ suc i = omega arith in
    let last : i ≡ suc (from + k) = omega arith in
    let end : from + k + 1 ≡ i = omega arith in
    let count : suc k + 1 ≡ k + 1 + 1 = omega arith in
    let at : from + (k + 1) ≡ i = omega arith in
    let pen : (get_or gs i blank).pen ≡ pen_before gs i = pens (suc k) below ∙ sym (pens k (omega arith)) ∙ sym (ap (pen_before gs) last) in
    ap (pieces_to gs) place
    ∙ sums (pieces_to gs i) (pen_bytes (pen_before gs i) (get_or gs i blank).pen) (length (cell_text (get_or gs i blank))) (pieces_to gs from + pen_bytes (pen_before gs from) p)
    (length (row_text (take (k + 1) (drop from gs)))) (length (row_text (take (suc k + 1) (drop from gs))))
    (same_pen_bytes (pen_before gs i) (get_or gs i blank).pen pen)
    (sym (ap (pieces_to gs) end) ∙ pen_taken_once gs from n p h within pens k (omega arith))
    (ap (λ m. length (row_text (take m (drop from gs)))) count ∙ text_more gs from (k + 1) (omega arith) ∙ ap (λ j. length (row_text (take (k + 1) (drop from gs))) + length (cell_text (get_or gs j blank))) at)
  where
    sums : (a b c d e f : ℕ) → b ≡ 0 → a ≡ d + e → f ≡ e + c → a + (b + c) ≡ d + f
    sums a b c d e f r s t = omega arith

-- a pen is taken whole, where the cell before has another
pub first_taken : (gs : List Glyph) (from : ℕ) (p : Look) → (0 < from → same_look p (pen_before gs from) ≡ false) → pen_bytes (pen_before gs from) p ≡ style_bytes p
first_taken gs zero p other = twice (same_look p plain_pen) longest_style
  where
    twice : (b : Bool) (n : ℕ) → cond b 0 (cond b 0 n) ≡ cond b 0 n
    twice true n = refl
    twice false n = refl
first_taken gs (suc from) p other = ap (λ b. bytes_if b) (other (omega arith))
  where
    bytes_if : Bool → ℕ
    bytes_if b = cond b 0 (style_bytes p)

-- ---- one piece after others

-- The cells that the piece is of begin at `from`: tails, or in the pen of the first.
pub record IsPiece (cells rest : List Glyph) (from n : ℕ) : Type 0 where
  pub after : rest ≡ drop from cells
  pub whole : are_whole cells ≡ true
  pub some : 0 < n
  pub within : n ≤ length rest
  pub pen : (i : ℕ) → i < n → (is_tail (get_or rest i blank) ≡ true) ⊎ ((get_or rest i blank).pen ≡ (get_or rest 0 blank).pen)

cell_at : (cells rest : List Glyph) (from i : ℕ) → rest ≡ drop from cells → get_or rest i blank ≡ get_or cells (from + i) blank
cell_at cells rest from i e = ap (λ (l : List Glyph). get_or l i blank) e ∙ get_or-drop from cells i blank

first_at : (cells rest : List Glyph) (from : ℕ) → rest ≡ drop from cells → get_or rest 0 blank ≡ get_or cells from blank
first_at cells rest from e =
    let none : from + 0 ≡ from = omega arith in
    cell_at cells rest from 0 e ∙ ap (λ i. get_or cells i blank) none

piece_fits : (cells rest : List Glyph) (from n : ℕ) → IsPiece cells rest from n → from + n ≤ length cells
piece_fits cells rest from n p = omega (arith, p.some, p.within, ap length p.after, length-drop from cells)

piece_pens : (cells rest : List Glyph) (from n : ℕ) → IsPiece cells rest from n → (k : ℕ) → k < n → (get_or cells (from + k) blank).pen ≡ (get_or rest 0 blank).pen
piece_pens cells rest from n p =
    all_in_pen cells from n (get_or rest 0 blank).pen p.whole (piece_fits cells rest from n p) (ap (λ (g : Glyph). g.pen) (sym (first_at cells rest from p.after)))
    (λ k below. subst (λ (g : Glyph). (is_tail g ≡ true) ⊎ (g.pen ≡ (get_or rest 0 blank).pen)) (cell_at cells rest from k p.after) (p.pen k below))

-- its bytes
pub piece_taken : (cells rest : List Glyph) (from n : ℕ) (out next piece text : List ℕ) (before : ℕ) → IsPiece cells rest from n → (0 < from → same_look (get_or cells from blank).pen (pen_before cells from) ≡ false) → text ≡ row_text (take n rest) → length piece ≤ style_bytes (get_or rest 0 blank).pen + length text → next ≡ out ++ piece → length out ≤ before + pieces_to cells from → length next ≤ before + pieces_to cells (from + n)
piece_taken cells rest from n out next piece text before p other written bytes is fits =
    let pen = (get_or rest 0 blank).pen in
    let place : from + (n - 1) + 1 ≡ from + n = omega (arith, p.some) in
    let count : n - 1 + 1 ≡ n = omega (arith, p.some) in
    let first : pen ≡ (get_or cells from blank).pen = ap (λ (g : Glyph). g.pen) (first_at cells rest from p.after) in
    let taken : pieces_to cells (from + n) ≡ pieces_to cells from + pen_bytes (pen_before cells from) pen + length (row_text (take n (drop from cells))) =
    ap (pieces_to cells) (sym place) ∙ pen_taken_once cells from n pen p.whole (piece_fits cells rest from n p) (piece_pens cells rest from n p) (n - 1) (omega (arith, p.some))
    ∙ ap (λ m. pieces_to cells from + pen_bytes (pen_before cells from) pen + length (row_text (take m (drop from cells)))) count in
    let alone : pen_bytes (pen_before cells from) pen ≡ style_bytes pen = first_taken cells from pen (λ some. ap (λ (q : Look). same_look q (pen_before cells from)) first ∙ other some) in
    let text_is : length text ≡ length (row_text (take n (drop from cells))) = ap length written ∙ ap (λ (l : List Glyph). length (row_text (take n l))) p.after in
    sums (length next) (length out) (length piece) (length text) (length (row_text (take n (drop from cells)))) (pieces_to cells from) (pieces_to cells (from + n)) (pen_bytes (pen_before cells from) pen) (style_bytes pen)
    (ap length is ∙ length-append out piece) taken alone text_is bytes fits
  where
    sums : (a b c d e f g h i : ℕ) → a ≡ b + c → g ≡ f + h + e → h ≡ i → d ≡ e → c ≤ i + d → b ≤ before + f → a ≤ before + g
    sums a b c d e f g h i q r s t u v = omega arith

-- the cell after it has another pen
pub other_after : (cells rest : List Glyph) (from n : ℕ) → IsPiece cells rest from n → (n < length rest → same_look (get_or rest n blank).pen (get_or rest 0 blank).pen ≡ false) → from + n < length cells → same_look (get_or cells (from + n) blank).pen (pen_before cells (from + n)) ≡ false
other_after cells rest from n p other below =
    let last : from + n ≡ suc (from + (n - 1)) = omega (arith, p.some) in
    ap (λ (q : Look). same_look q (pen_before cells (from + n))) (ap (λ (g : Glyph). g.pen) (sym (cell_at cells rest from n p.after)))
    ∙ ap (same_look (get_or rest n blank).pen) (ap (pen_before cells) last ∙ piece_pens cells rest from n p (n - 1) (omega (arith, p.some)))
    ∙ other (omega (arith, ap length p.after, length-drop from cells))
