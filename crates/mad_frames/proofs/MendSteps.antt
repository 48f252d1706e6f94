-- The steps of the loops that find halves and make them spaces.
use Rattle.std.proofs.Common.{◌≡◌, ℕ, zero, suc, ◌+◌, ◌-◌, ◌<◌, ◌≤◌, Bool, true, false, cond, ◌&&◌, List, [], ◌∷◌, ◌++◌, length, get_or, drop, refl, ap, sym, ◌∙◌, arith, append_assoc}
use Rattle.std.proofs.lemmas.List.{drop_more, drop_all}
use Rattle.mad_screen.specs.Glyph.{Glyph, Look}
use Rattle.mad_screen.specs.Grid.{blank, is_tail}
use Rattle.mad_screen.specs.Pictures.{same_look}
use Rattle.mad_frames.specs.Mending.{begin_tails, begins_whole, space_in, mended_after}
use Rattle.mad_frames.specs.Whole.{tails_of}

-- whether a cell is a tail in a pen
abbrev tail_in : Glyph → Look → Bool
tail_in g p = is_tail g && same_look g.pen p

tails_more : (m : ℕ) (p : Look) (g : Glyph) (gs : List Glyph) (b : Bool) → tail_in g p ≡ b → begin_tails (suc m) p (g ∷ gs) ≡ (b && begin_tails m p gs)
tails_more m p g gs b e = both (is_tail g) (same_look g.pen p) (begin_tails m p gs) ∙ ap (λ t. t && begin_tails m p gs) e
  where
    both : (a b c : Bool) → (a && (b && c)) ≡ ((a && b) && c)
    both true b c = refl
    both false b c = refl

tails_at : (n i : ℕ) (p : Look) (gs : List Glyph) (b : Bool) → i < n → i < length gs → tail_in (get_or gs i blank) p ≡ b → begin_tails (n - i) p (drop i gs) ≡ (b && begin_tails (n - (i + 1)) p (drop (i + 1) gs))
tails_at n i p gs b more below e =
    let count : n - i ≡ suc (n - (i + 1)) = omega arith in
    ap (λ k. begin_tails k p (drop i gs)) count ∙ ap (begin_tails (suc (n - (i + 1))) p) (drop_more gs i blank below)
    ∙ tails_more (n - (i + 1)) p (get_or gs i blank) (drop (i + 1) gs) b e

-- one tail more
pub tails_step : (n i : ℕ) (p : Look) (gs : List Glyph) → i < n → i < length gs → tail_in (get_or gs i blank) p ≡ true → begin_tails (n - (i + 1)) p (drop (i + 1) gs) ≡ begin_tails (n - i) p (drop i gs)
tails_step n i p gs more below e = sym (tails_at n i p gs true more below e)

-- none where one should be
pub tails_refused : (n i : ℕ) (p : Look) (gs : List Glyph) → i < n → i < length gs → tail_in (get_or gs i blank) p ≡ false → begin_tails (n - i) p (drop i gs) ≡ false
tails_refused n i p gs more below e = tails_at n i p gs false more below e

-- no cell where a tail should be
pub tails_missing : (n i : ℕ) (p : Look) (gs : List Glyph) → i < n → length gs ≤ i → begin_tails (n - i) p (drop i gs) ≡ false
tails_missing n i p gs more past =
    let count : n - i ≡ suc (n - (i + 1)) = omega arith in
    ap (λ k. begin_tails k p (drop i gs)) count ∙ ap (begin_tails (suc (n - (i + 1))) p) (drop_all i gs past)

-- a cell more is done
mended_more : (row done all : List Glyph) (i n m : ℕ) (g : Glyph) → i < length row → mended_after n (get_or row i blank ∷ drop (i + 1) row) ≡ g ∷ mended_after m (drop (i + 1) row) → done ++ mended_after n (drop i row) ≡ all → (done ++ g ∷ []) ++ mended_after m (drop (i + 1) row) ≡ all
mended_more row done all i n m g below e h =
    append_assoc done (g ∷ []) (mended_after m (drop (i + 1) row))
    ∙ ap (λ (l : List Glyph). done ++ l) (sym e ∙ sym (ap (mended_after n) (drop_more row i blank below))) ∙ h

tail_kept : (n : ℕ) (g : Glyph) (gs : List Glyph) → 0 < n → mended_after n (g ∷ gs) ≡ g ∷ mended_after (n - 1) gs
tail_kept zero g gs h = absurd (omega arith)
tail_kept (suc n) g gs h =
    let count : n ≡ suc n - 1 = omega arith in
    ap (λ k. g ∷ mended_after k gs) count

by_begin : (g : Glyph) (gs : List Glyph) (b : Bool) → begins_whole g gs ≡ b → mended_after 0 (g ∷ gs) ≡ cond b (g ∷ mended_after (tails_of g.chars) gs) (space_in g.pen ∷ mended_after 0 gs)
by_begin g gs b e = ap (λ t. cond t (g ∷ mended_after (tails_of g.chars) gs) (space_in g.pen ∷ mended_after 0 gs)) e

-- a tail
pub mended_tail : (row done all : List Glyph) (i n : ℕ) (g : Glyph) → i < length row → g ≡ get_or row i blank → 0 < n → done ++ mended_after n (drop i row) ≡ all → (done ++ g ∷ []) ++ mended_after (n - 1) (drop (i + 1) row) ≡ all
mended_tail row done all i n g below is some h =
    mended_more row done all i n (n - 1) g below (tail_kept n (get_or row i blank) (drop (i + 1) row) some ∙ ap (λ (f : Glyph). f ∷ mended_after (n - 1) (drop (i + 1) row)) (sym is)) h

-- a whole character
pub mended_character : (row done all rest : List Glyph) (i n m : ℕ) (g : Glyph) → i < length row → g ≡ get_or row i blank → rest ≡ drop (i + 1) row → n ≡ 0 → m ≡ tails_of g.chars → begins_whole g rest ≡ true → done ++ mended_after n (drop i row) ≡ all → (done ++ g ∷ []) ++ mended_after m (drop (i + 1) row) ≡ all
mended_character row done all rest i n m g below is after none tails e h =
    let here : mended_after n (get_or row i blank ∷ drop (i + 1) row) ≡ g ∷ mended_after m (drop (i + 1) row) =
    ap (λ k. mended_after k (get_or row i blank ∷ drop (i + 1) row)) none ∙ ap (λ (f : Glyph). mended_after 0 (f ∷ drop (i + 1) row)) (sym is)
    ∙ by_begin g (drop (i + 1) row) true (ap (begins_whole g) (sym after) ∙ e) ∙ ap (λ k. g ∷ mended_after k (drop (i + 1) row)) (sym tails) in
    mended_more row done all i n m g below here h

-- a half
pub mended_half : (row done all rest : List Glyph) (i n : ℕ) (g space : Glyph) → i < length row → g ≡ get_or row i blank → rest ≡ drop (i + 1) row → n ≡ 0 → space ≡ space_in g.pen → begins_whole g rest ≡ false → done ++ mended_after n (drop i row) ≡ all → (done ++ space ∷ []) ++ mended_after n (drop (i + 1) row) ≡ all
mended_half row done all rest i n g space below is after none made e h =
    let here : mended_after n (get_or row i blank ∷ drop (i + 1) row) ≡ space ∷ mended_after n (drop (i + 1) row) =
    ap (λ k. mended_after k (get_or row i blank ∷ drop (i + 1) row)) none ∙ ap (λ (f : Glyph). mended_after 0 (f ∷ drop (i + 1) row)) (sym is)
    ∙ by_begin g (drop (i + 1) row) false (ap (begins_whole g) (sym after) ∙ e) ∙ ap (λ k. space_in g.pen ∷ mended_after k (drop (i + 1) row)) (sym none)
    ∙ ap (λ (f : Glyph). f ∷ mended_after n (drop (i + 1) row)) (sym made) in
    mended_more row done all i n n space below here h

-- what the loop keeps, by what a step has done
pub mended_now : (row done all cells : List Glyph) (i m tails : ℕ) (g : Glyph) → cells ≡ done ++ g ∷ [] → tails ≡ m → (done ++ g ∷ []) ++ mended_after m (drop (i + 1) row) ≡ all → cells ++ mended_after tails (drop (i + 1) row) ≡ all
mended_now row done all cells i m tails g p q h = ap (λ (l : List Glyph). l ++ mended_after tails (drop (i + 1) row)) p ∙ ap (λ k. (done ++ g ∷ []) ++ mended_after k (drop (i + 1) row)) q ∙ h
