-- Writing cells one after another.
use Rattle.std.proofs.Common.{◌≡◌, ◌≢◌, ◌⊎◌, inl, inr, ⊎_elim, ℕ, suc, zero, ◌+◌, ◌<◌, ◌≤◌, List, [], ◌∷◌, ◌++◌, length, get_or, set, refl, ap, ◌∙◌, arith, add-zero, length-set, ◌-◌, min, replicate, sym}
use Rattle.std.proofs.lemmas.List.{get_or-set_same, get_or-set_other, set_comm, set_past, length-replicate, replicate-append-replicate}
use Rattle.std.proofs.lemmas.Bool.{cases_lt}
use Rattle.mad_screen.specs.Glyph.{Glyph}
use Rattle.mad_screen.specs.Grid.{put_list}

-- there are as many cells as before
pub length-put_list : (cells : List Glyph) (i : ℕ) (gs : List Glyph) → length (put_list cells i gs) ≡ length cells
length-put_list cells i [] = refl
length-put_list cells i (g ∷ gs) = length-put_list (set cells i g) (suc i) gs ∙ length-set cells i g

-- the first cells are written, and then the others behind them
pub put_list-append : (cells : List Glyph) (i : ℕ) (gs hs : List Glyph) → put_list cells i (gs ++ hs) ≡ put_list (put_list cells i gs) (i + length gs) hs
put_list-append cells i [] hs = ap (λ j. put_list cells j hs) (omega arith)
put_list-append cells i (g ∷ gs) hs =
    put_list-append (set cells i g) (suc i) gs hs ∙ ap (λ j. put_list (put_list (set cells i g) (suc i) gs) j hs) (omega arith)

-- an index before or after is unchanged
pub put_list-other : (cells : List Glyph) (i : ℕ) (gs : List Glyph) (j : ℕ) (d : Glyph) → (j < i) ⊎ (i + length gs ≤ j) → get_or (put_list cells i gs) j d ≡ get_or cells j d
put_list-other cells i [] j d h = refl
put_list-other cells i (g ∷ gs) j d h =
    let out : (j < suc i) ⊎ (suc i + length gs ≤ j) = ⊎_elim (λ b. inl (omega arith)) (λ b. inr (omega arith)) h in
    let ne : j ≢ i = ⊎_elim (λ b. omega arith) (λ b. omega arith) h in
    put_list-other (set cells i g) (suc i) gs j d out ∙ get_or-set_other cells i j g d ne

-- an index among them has its cell
pub put_list-same : (cells : List Glyph) (i : ℕ) (gs : List Glyph) (k : ℕ) (d : Glyph) → k < length gs → i + length gs ≤ length cells → get_or (put_list cells i gs) (i + k) d ≡ get_or gs k d
put_list-same cells i [] k d h fits = absurd (omega arith)
put_list-same cells i (g ∷ gs) zero d h fits =
    ap (λ j. get_or (put_list (set cells i g) (suc i) gs) j d) (add-zero i)
    ∙ put_list-other (set cells i g) (suc i) gs i d (inl (omega arith)) ∙ get_or-set_same cells i g d (omega arith)
put_list-same cells i (g ∷ gs) (suc k) d h fits =
    ap (λ j. get_or (put_list (set cells i g) (suc i) gs) j d) (omega arith)
    ∙ put_list-same (set cells i g) (suc i) gs k d (omega arith) (omega (arith, length-set cells i g))

-- a write to the index just before
pub set-put_list : (cells : List Glyph) (i j : ℕ) (gs : List Glyph) (a : Glyph) → j < i → set (put_list cells i gs) j a ≡ put_list (set cells j a) i gs
set-put_list cells i j [] a h = refl
set-put_list cells i j (g ∷ gs) a h =
    set-put_list (set cells i g) (suc i) j gs a (omega arith) ∙ ap (λ l. put_list l (suc i) gs) (set_comm cells i j g a (omega arith))

-- past the cells nothing is written
pub put_list-past : (cells : List Glyph) (i : ℕ) (gs : List Glyph) → length cells ≤ i → put_list cells i gs ≡ cells
put_list-past cells i [] h = refl
put_list-past cells i (g ∷ gs) h =
    put_list-past (set cells i g) (suc i) gs (omega (arith, length-set cells i g)) ∙ set_past cells i g h

cut_past : (cells : List Glyph) (from n rest all : ℕ) (g : Glyph) → n + rest ≡ all → length cells ≤ from + n → put_list cells from (replicate all g) ≡ put_list cells from (replicate n g)
cut_past cells from n rest all g count past =
    ap (λ m. put_list cells from (replicate m g)) (sym count)
    ∙ ap (put_list cells from) (sym (replicate-append-replicate n rest g))
    ∙ put_list-append cells from (replicate n g) (replicate rest g)
    ∙ put_list-past (put_list cells from (replicate n g)) (from + length (replicate n g)) (replicate rest g) (omega (arith, length-put_list cells from (replicate n g), length-replicate n g))

-- so the same cell need be written to the end alone
pub put_same-cut : (cells : List Glyph) (from to : ℕ) (g : Glyph) → put_list cells from (replicate (min to (length cells) - from) g) ≡ put_list cells from (replicate (to - from) g)
put_same-cut cells from to g =
    ⊎_elim
    (λ (past : length cells < to). sym (cut_past cells from (min to (length cells) - from) ((to - from) - (min to (length cells) - from)) (to - from) g (omega arith) (omega arith)))
    (λ (inside : to ≤ length cells).
    let same : min to (length cells) - from ≡ to - from = omega arith in
    ap (λ m. put_list cells from (replicate m g)) same)
    (cases_lt (length cells) to)
