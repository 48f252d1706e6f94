-- What cells take as bytes, and what a change may take.
use Rattle.std.proofs.Common.{◌≡◌, ℕ, zero, suc, ◌+◌, ◌-◌, ◌<◌, ◌≤◌, Bool, true, false, cond, ◌||◌, nat_eq, List, [], ◌∷◌, length, get_or, drop, refl, ap, sym, ◌∙◌, subst, arith, length-drop}
use Rattle.std.specs.Prelude.{IfSome}
use Rattle.std.specs.Bool.{then_some}
use Rattle.std.specs.Cmp.Lexicographic.{pointwise, bytes_decides}
use Rattle.std.proofs.lemmas.Bool.{false≢true}
use Rattle.std.proofs.lemmas.List.{get_or-drop}
use Rattle.mad_screen.specs.Glyph.{Glyph, Look}
use Rattle.mad_screen.specs.Grid.{blank, plain_pen, has_none, is_tail}
use Rattle.mad_screen.specs.Pictures.{same_look, cell_text}
use Rattle.mad_frames.specs.Bound.{is_same_cell, longest_move, longest_style, change_bytes, cell_bytes}
use Rattle.mad_frames.specs.RunBytes.{most_to, style_bytes, pen_bytes, pen_before, pieces_to, BeginsChange, EndsGap, IsPaid}
use Rattle.mad_frames.specs.Whole.{is_cell_text, is_writable, tails_of, are_whole_after, are_whole}
use Rattle.mad_frames.proofs.LooksLemmas.{both_true, same_glyph, same_look_true, same_look_refl}
use Rattle.mad_frames.proofs.WholeLemmas.{no_tail, whole_cut}

-- ---- equal cells

same_cell_true : (a b : Glyph) → is_same_cell a b ≡ true → a ≡ b
same_cell_true a b h =
    let s = both_true (pointwise nat_eq a.chars b.chars) (same_look a.pen b.pen) h in
    same_glyph a.chars b.chars a.pen b.pen ((bytes_decides a.chars b.chars).0 s.0) (same_look_true a.pen b.pen s.1)

-- the first cell of a changed character may take this
cost_of : (b : Bool) (n : ℕ) → ((b ≡ true) → ⊥) → cond b 0 n ≡ n
cost_of true n h = absurd (h refl)
cost_of false n h = refl

-- a cell that changed, and is no tail, takes its bytes
pub changed_cell : (o n : Glyph) → is_tail n ≡ false → ((o ≡ n) → ⊥) → cell_bytes o n ≡ change_bytes + length (cell_text n)
changed_cell o n head h =
    cost_of (is_tail n || is_same_cell o n) (change_bytes + length (cell_text n)) (λ e. h (same_cell_true o n (sym (ap (λ t. t || is_same_cell o n) head) ∙ e)))

-- ---- tails

-- the pen before a cell, where `p` is before the first one
abbrev pen_after : Look → List Glyph → ℕ → Look
pen_after p gs zero = p
pen_after p gs (suc n) = (get_or gs n blank).pen

pen_after_first : (g : Glyph) (p : Look) (gs : List Glyph) (i : ℕ) → pen_after g.pen gs i ≡ pen_after p (g ∷ gs) (suc i)
pen_after_first g p gs zero = refl
pen_after_first g p gs (suc i) = refl

-- a tail has the pen of the cell before
tail_pen_after : (n : ℕ) (p : Look) (gs : List Glyph) (i : ℕ) → are_whole_after n p gs ≡ true → i < length gs → is_tail (get_or gs i blank) ≡ true → (get_or gs i blank).pen ≡ pen_after p gs i
tail_pen_after n p [] i h below t = absurd (omega arith)
tail_pen_after zero p (g ∷ gs) zero h below t = absurd (no_tail g.chars (both_true (is_cell_text g.chars) _ h).0 t)
tail_pen_after zero p (g ∷ gs) (suc i) h below t =
    let s = both_true (is_cell_text g.chars) _ h in
    let r = both_true (is_writable g.pen) _ s.1 in
    tail_pen_after (tails_of g.chars) g.pen gs i r.1 (omega arith) t ∙ pen_after_first g p gs i
tail_pen_after (suc n) p (g ∷ gs) zero h below t =
    let s = both_true (is_tail g) _ h in
    let r = both_true (same_look g.pen p) _ s.1 in
    same_look_true g.pen p r.0
tail_pen_after (suc n) p (g ∷ gs) (suc i) h below t =
    let s = both_true (is_tail g) _ h in
    let r = both_true (same_look g.pen p) _ s.1 in
    let pen : p ≡ g.pen = sym (same_look_true g.pen p r.0) in
    tail_pen_after n g.pen gs i (ap (λ (q : Look). are_whole_after n q gs) (sym pen) ∙ r.1) (omega arith) t ∙ pen_after_first g p gs i

before_is : (gs : List Glyph) (i : ℕ) → pen_after plain_pen gs i ≡ pen_before gs i
before_is gs zero = refl
before_is gs (suc i) = refl

-- a tail has the pen of the cell before it
pub tail_pen : (gs : List Glyph) (i : ℕ) → are_whole gs ≡ true → i < length gs → is_tail (get_or gs i blank) ≡ true → (get_or gs i blank).pen ≡ pen_before gs i
tail_pen gs i h below t = tail_pen_after 0 plain_pen gs i h below t ∙ before_is gs i

tail_text : (cs : List ℕ) (p : Look) → has_none cs ≡ true → length (cell_text (record { chars = cs; pen = p })) ≡ 0
tail_text [] p h = refl
tail_text (c ∷ cs) p h = absurd (false≢true h)

-- the pen of the cell before takes no byte
pub same_pen_bytes : (before pen : Look) → pen ≡ before → pen_bytes before pen ≡ 0
same_pen_bytes before pen e =
    let same : same_look pen before ≡ true = ap (same_look pen) (sym e) ∙ same_look_refl pen in
    ap (λ b. bytes_if b) same
  where
    bytes_if : Bool → ℕ
    bytes_if b = cond b 0 (style_bytes pen)

adds_zero : (a b c : ℕ) → b ≡ 0 → c ≡ 0 → a + (b + c) ≡ a
adds_zero a b c p q = omega arith

tail_free : (gs : List Glyph) (i : ℕ) → are_whole gs ≡ true → i < length gs → is_tail (get_or gs i blank) ≡ true → pieces_to gs (suc i) ≡ pieces_to gs i
tail_free gs i h below tail =
    let cell : Glyph = get_or gs i blank in
    adds_zero (pieces_to gs i) (pen_bytes (pen_before gs i) cell.pen) (length (cell_text cell))
    (same_pen_bytes (pen_before gs i) cell.pen (tail_pen gs i h below tail)) (tail_text cell.chars cell.pen tail)

-- the tails after a cell take nothing
pub tails_free : (gs : List Glyph) (x n : ℕ) → are_whole gs ≡ true → x + 1 + n ≤ length gs → ((i : ℕ) → x < i → i < x + 1 + n → is_tail (get_or gs i blank) ≡ true) → pieces_to gs (x + 1 + n) ≡ pieces_to gs (x + 1)
tails_free gs x zero h fits t =
    let place : x + 1 + zero ≡ x + 1 = omega arith in
    ap (pieces_to gs) place
tails_free gs x (suc n) h fits t =
    let place : x + 1 + suc n ≡ suc (x + 1 + n) = omega arith in
    ap (pieces_to gs) place ∙ tail_free gs (x + 1 + n) h (omega arith) (t (x + 1 + n) (omega arith) (omega arith))
    ∙ tails_free gs x n h (omega arith) (λ i low high. t i low (omega arith))

-- ---- sums

-- no pen takes more than the longest style
pub pen_most : (before pen : Look) → pen_bytes before pen ≤ 167
pen_most before pen = by (same_look pen before) (same_look pen plain_pen)
  where
    by : (a b : Bool) → cond a 0 (cond b 0 longest_style) ≤ 167
    by true b = omega arith
    by false true = omega arith
    by false false = omega arith

next_most : (a b c : ℕ) → b ≤ 167 → a + (b + c) ≤ a + 167 + c
next_most a b c h = omega arith

-- a character takes its pen and its bytes at most
pub character_most : (gs : List Glyph) (x : ℕ) → pieces_to gs (x + 1) ≤ pieces_to gs x + 167 + length (cell_text (get_or gs x blank))
character_most gs x =
    let place : suc x ≡ x + 1 = omega arith in
    subst (λ (n : ℕ). pieces_to gs n ≤ pieces_to gs x + 167 + length (cell_text (get_or gs x blank))) place
    (next_most (pieces_to gs x) (pen_bytes (pen_before gs x) (get_or gs x blank).pen) (length (cell_text (get_or gs x blank))) (pen_most (pen_before gs x) (get_or gs x blank).pen))

-- more cells may take more
pub most_grows : (os ns : List Glyph) (x n : ℕ) → most_to os ns x ≤ most_to os ns (x + n)
most_grows os ns x zero =
    let place : x ≡ x + zero = omega arith in
    subst (λ (k : ℕ). most_to os ns x ≤ most_to os ns k) place (omega arith)
most_grows os ns x (suc n) =
    let place : suc (x + n) ≡ x + suc n = omega arith in
    subst (λ (k : ℕ). most_to os ns x ≤ most_to os ns k) place (more (most_to os ns x) (most_to os ns (x + n)) _ (most_grows os ns x n))
  where
    more : (a b c : ℕ) → a ≤ b → a ≤ b + c
    more a b c h = omega arith

-- the same between two columns
pub most_up : (os ns : List Glyph) (x e : ℕ) → x ≤ e → most_to os ns x ≤ most_to os ns e
most_up os ns x e h =
    let place : x + (e - x) ≡ e = omega arith in
    subst (λ (k : ℕ). most_to os ns x ≤ most_to os ns k) place (most_grows os ns x (e - x))

-- ---- a changed character has a changed first cell

-- the tails of two whole characters with the same first cell
same_tails : (n : ℕ) (p : Look) (os ns : List Glyph) (k : ℕ) → are_whole_after n p os ≡ true → are_whole_after n p ns ≡ true → k < length ns → ((i : ℕ) → i ≤ k → is_tail (get_or ns i blank) ≡ true) → get_or os k blank ≡ get_or ns k blank
same_tails n p os [] k h j below t = absurd (omega arith)
same_tails zero p os (c ∷ ns) k h j below t = absurd (no_tail c.chars (both_true (is_cell_text c.chars) _ j).0 (t 0 (omega arith)))
same_tails (suc n) p [] (c ∷ ns) k h j below t = absurd (false≢true h)
same_tails (suc n) p (o ∷ os) (c ∷ ns) k h j below t =
    let s = both_true (is_tail o) _ h in
    let r = both_true (same_look o.pen p) _ s.1 in
    let u = both_true (is_tail c) _ j in
    let v = both_true (same_look c.pen p) _ u.1 in
    let first : o ≡ c = same_glyph o.chars c.chars o.pen c.pen (none_alike o.chars c.chars s.0 u.0) (same_look_true o.pen p r.0 ∙ sym (same_look_true c.pen p v.0)) in
    at k below t first (λ j l f. same_tails n p os ns j r.1 v.1 l f)
  where
    none_alike : (a b : List ℕ) → has_none a ≡ true → has_none b ≡ true → a ≡ b
    none_alike [] [] x y = refl
    none_alike [] (b ∷ bs) x y = absurd (false≢true y)
    none_alike (a ∷ more) b x y = absurd (false≢true x)

    at : (k : ℕ) → k < length (c ∷ ns) → ((i : ℕ) → i ≤ k → is_tail (get_or (c ∷ ns) i blank) ≡ true) → o ≡ c → ((j : ℕ) → j < length ns → ((i : ℕ) → i ≤ j → is_tail (get_or ns i blank) ≡ true) → get_or os j blank ≡ get_or ns j blank) → get_or (o ∷ os) k blank ≡ get_or (c ∷ ns) k blank
    at zero below t first more = first
    at (suc k) below t first more = more k (omega arith) (λ i l. t (suc i) (omega arith))

same_rest : (os ns : List Glyph) (k : ℕ) → are_whole os ≡ true → are_whole ns ≡ true → k < length ns → get_or os 0 blank ≡ get_or ns 0 blank → ((i : ℕ) → 0 < i → i ≤ k → is_tail (get_or ns i blank) ≡ true) → 0 < length os → get_or os k blank ≡ get_or ns k blank
same_rest os [] k h j below first t some = absurd (omega arith)
same_rest [] (c ∷ ns) k h j below first t some = absurd (omega arith)
same_rest (o ∷ os) (c ∷ ns) zero h j below first t some = first
same_rest (o ∷ os) (c ∷ ns) (suc k) h j below first t some =
    let s = both_true (is_writable o.pen) _ (both_true (is_cell_text o.chars) _ h).1 in
    let u = both_true (is_writable c.pen) _ (both_true (is_cell_text c.chars) _ j).1 in
    same_tails (tails_of o.chars) o.pen os ns k s.1 (ap (λ (g : Glyph). are_whole_after (tails_of g.chars) g.pen ns) first ∙ u.1) (omega arith) (λ i l. t (suc i) (omega arith) (omega arith))

-- where both rows are whole, a changed character has another first cell
pub head_changes : (os ns : List Glyph) (x : ℕ) → are_whole os ≡ true → are_whole ns ≡ true → length os ≡ length ns → x < length ns → is_tail (get_or ns x blank) ≡ false → BeginsChange os ns x → (get_or os x blank ≡ get_or ns x blank) → ⊥
head_changes os ns x h j same below head b first =
    let old : are_whole (drop x os) ≡ true = (whole_cut os x plain_pen plain_pen (omega arith) (λ _. ap is_tail first ∙ head) h).1 in
    let new : are_whole (drop x ns) ≡ true = (whole_cut ns x plain_pen plain_pen (omega arith) (λ _. head) j).1 in
    let begin : get_or (drop x os) 0 blank ≡ get_or (drop x ns) 0 blank = at os 0 ∙ ap (λ k. get_or os k blank) none ∙ first ∙ sym (at ns 0 ∙ ap (λ k. get_or ns k blank) none) in
    b.changed
    (λ i low high.
    let k = i - x in
    let place : x + k ≡ i = omega arith in
    sym (at os k ∙ ap (λ n. get_or os n blank) place)
    ∙ same_rest (drop x os) (drop x ns) k old new (omega (arith, length-drop x ns, b.within)) begin
    (λ m some le. ap is_tail (at ns m) ∙ b.tails (x + m) (omega arith) (omega arith)) (omega (arith, length-drop x os, same))
    ∙ (at ns k ∙ ap (λ n. get_or ns n blank) place))
  where
    none : x + 0 ≡ x
    none = omega arith

    at : (l : List Glyph) (k : ℕ) → get_or (drop x l) k blank ≡ get_or l (x + k) blank
    at l k = get_or-drop x l k blank

-- so it may take a move, its pen and its bytes
pub character_may : (os ns : List Glyph) (x : ℕ) → are_whole os ≡ true → are_whole ns ≡ true → length os ≡ length ns → x < length ns → is_tail (get_or ns x blank) ≡ false → BeginsChange os ns x → most_to os ns (x + 1) ≡ most_to os ns x + (change_bytes + length (cell_text (get_or ns x blank)))
character_may os ns x h j same below head b =
    let place : x + 1 ≡ suc x = omega arith in
    ap (most_to os ns) place ∙ ap (λ k. most_to os ns x + k) (changed_cell (get_or os x blank) (get_or ns x blank) head (head_changes os ns x h j same below head b))

-- ---- gaps and runs

-- what holds where the flag is set holds of the number that is there then
pub some_of : (b : Bool) (x : ℕ) (P : ℕ → Type 0) → ((b ≡ true) → P x) → IfSome (then_some b x) P
some_of true x P h = h refl
some_of false x P h = tt

-- the cells of a character, which begins at `x` and ends at `e`
character_to : (gs : List Glyph) (x e : ℕ) → are_whole gs ≡ true → x < e → e ≤ length gs → ((i : ℕ) → x < i → i < e → is_tail (get_or gs i blank) ≡ true) → pieces_to gs e ≡ pieces_to gs (x + 1)
character_to gs x e h some within t =
    let n = e - (x + 1) in
    let place : x + 1 + n ≡ e = omega arith in
    ap (pieces_to gs) (sym place) ∙ tails_free gs x n h (omega arith) (λ i low high. t i low (omega arith))

-- past the first column, the pen before a cell is that of the cell to its left
pub before_at : (gs : List Glyph) (x : ℕ) → 0 < x → pen_before gs x ≡ (get_or gs (x - 1) blank).pen
before_at gs zero some = absurd (omega arith)
before_at gs (suc x) some =
    let place : x ≡ suc x - 1 = omega arith in
    ap (λ (n : ℕ). (get_or gs n blank).pen) place

-- one more cell that takes its bytes alone
pub free_cell : (gs : List Glyph) (x : ℕ) → pen_bytes (pen_before gs x) (get_or gs x blank).pen ≡ 0 → pieces_to gs (x + 1) ≡ pieces_to gs x + length (cell_text (get_or gs x blank))
free_cell gs x free =
    let place : x + 1 ≡ suc x = omega arith in
    ap (pieces_to gs) place ∙ sums (pieces_to gs x) (pen_bytes (pen_before gs x) (get_or gs x blank).pen) (length (cell_text (get_or gs x blank))) free
  where
    sums : (a b c : ℕ) → b ≡ 0 → a + (b + c) ≡ a + c
    sums a b c h = omega arith

-- the first character of a run
pub first_paid : (os ns : List Glyph) (s e : ℕ) → are_whole os ≡ true → are_whole ns ≡ true → length os ≡ length ns → s < e → e ≤ length ns → is_tail (get_or ns s blank) ≡ false → ((i : ℕ) → s < i → i < e → is_tail (get_or ns i blank) ≡ true) → BeginsChange os ns s → IsPaid os ns s e
first_paid os ns s e h j same some within head t b =
    sums (length (cell_text (get_or ns s blank))) (pieces_to ns e) (pieces_to ns (s + 1)) (most_to os ns s) (most_to os ns (s + 1)) (most_to os ns e)
    (character_to ns s e j some within t) (character_may os ns s h j same (omega arith) head b) (most_up os ns (s + 1) e (omega arith))
  where
    sums : (text a b c d f : ℕ) → a ≡ b → d ≡ c + (change_bytes + text) → d ≤ f → change_bytes + text + a + c ≤ b + f
    sums text a b c d f p q r = omega arith

-- and each further one, after a gap
pub more_paid : (os ns : List Glyph) (s end x e : ℕ) → are_whole os ≡ true → are_whole ns ≡ true → length os ≡ length ns → EndsGap os ns end x → x < e → e ≤ length ns → ((i : ℕ) → x < i → i < e → is_tail (get_or ns i blank) ≡ true) → IsPaid os ns s end → IsPaid os ns s e
more_paid os ns s end x e h j same g some within t paid =
    sums (length (cell_text (get_or ns s blank))) (length (cell_text (get_or ns x blank))) (pieces_to ns e) (pieces_to ns (x + 1)) (pieces_to ns x) (pieces_to ns end) (pieces_to ns (s + 1)) (most_to os ns s) (most_to os ns end) (most_to os ns x) (most_to os ns (x + 1)) (most_to os ns e)
    (character_to ns x e j some within t) (character_most ns x) g.gap (most_up os ns end x g.after) (character_may os ns x h j same g.within g.head g.begins) (most_up os ns (x + 1) e (omega arith)) paid
  where
    sums : (text here a b c d f k l m n o : ℕ) → a ≡ b → b ≤ c + 167 + here → c ≤ d + longest_move → l ≤ m → n ≡ m + (change_bytes + here) → n ≤ o → change_bytes + text + d + k ≤ f + l → change_bytes + text + a + k ≤ f + o
    sums text here a b c d f k l m n o p q r u v w z = omega arith
