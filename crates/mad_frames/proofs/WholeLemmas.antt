-- Cells that are whole characters, cut between two of them.
use Rattle.std.proofs.Common.{◌≡◌, ⊎_elim, ℕ, zero, suc, ◌+◌, ◌-◌, ◌<◌, ◌≤◌, Bool, true, false, ◌&&◌, eqb, List, [], ◌∷◌, ◌++◌, length, get_or, take, drop, refl, ap, sym, ◌∙◌, arith, length-drop}
use Rattle.std.proofs.Math.Dec.{eqb-suc-zero}
use Rattle.std.proofs.lemmas.Bool.{false≢true, cases_lt}
use Rattle.std.proofs.lemmas.List.{drop_more, drop_all, take_all, take-append-drop, get_or-drop}
use Rattle.mad_screen.specs.Glyph.{Glyph, Look}
use Rattle.mad_screen.specs.Grid.{blank, has_none, is_tail}
use Rattle.mad_screen.specs.Pictures.{same_look}
use Rattle.mad_frames.specs.Whole.{is_cell_text, is_writable, tails_of, are_whole_after}
use Rattle.mad_frames.proofs.LooksLemmas.{both_true, true_both}

-- the characters of a cell with text are some
pub no_tail : (cs : List ℕ) → is_cell_text cs ≡ true → has_none cs ≡ true → ⊥
no_tail [] h t = false≢true h
no_tail (c ∷ cs) h t = false≢true t

whole_split : (a : List Glyph) (g : Glyph) (b : List Glyph) (n : ℕ) (p q : Look) → is_tail g ≡ false → are_whole_after n p (a ++ g ∷ b) ≡ true → (are_whole_after n p a ≡ true) × (are_whole_after 0 q (g ∷ b) ≡ true)
whole_split [] g b zero p q head h = (refl, h)
whole_split [] g b (suc n) p q head h = absurd (false≢true (sym head ∙ (both_true (is_tail g) _ h).0))
whole_split (f ∷ a) g b zero p q head h =
    let s = both_true (is_cell_text f.chars) _ h in
    let t = both_true (is_writable f.pen) _ s.1 in
    let r = whole_split a g b (tails_of f.chars) f.pen q head t.1 in
    (true_both _ _ s.0 (true_both _ _ t.0 r.0), r.1)
whole_split (f ∷ a) g b (suc n) p q head h =
    let s = both_true (is_tail f) _ h in
    let t = both_true (same_look f.pen p) _ s.1 in
    let r = whole_split a g b n p q head t.1 in
    (true_both _ _ s.0 (true_both _ _ t.0 r.0), r.1)

-- cut where a character begins, both parts are whole characters
pub whole_cut : (xs : List Glyph) (i : ℕ) (p q : Look) → i ≤ length xs → (i < length xs → is_tail (get_or xs i blank) ≡ false) → are_whole_after 0 p xs ≡ true → (are_whole_after 0 p (take i xs) ≡ true) × (are_whole_after 0 q (drop i xs) ≡ true)
whole_cut xs i p q within head h =
    ⊎_elim
    (λ (below : i < length xs).
    let split : take i xs ++ get_or xs i blank ∷ drop (i + 1) xs ≡ xs = ap (λ (l : List Glyph). take i xs ++ l) (sym (drop_more xs i blank below)) ∙ take-append-drop i xs in
    let r = whole_split (take i xs) (get_or xs i blank) (drop (i + 1) xs) 0 p q (head below) (ap (are_whole_after 0 p) split ∙ h) in
    let first : are_whole_after 0 p (take i xs) ≡ true = r.0 in
    let rest : are_whole_after 0 q (drop i xs) ≡ true = ap (are_whole_after 0 q) (drop_more xs i blank below) ∙ r.1 in
    (first, rest))
    (λ (past : length xs ≤ i).
    let first : are_whole_after 0 p (take i xs) ≡ true = ap (are_whole_after 0 p) (take_all i xs past) ∙ h in
    let rest : are_whole_after 0 q (drop i xs) ≡ true = ap (are_whole_after 0 q) (drop_all i xs past) in
    (first, rest))
    (cases_lt i (length xs))

-- at the end no tail is missing
pub whole_end : (n : ℕ) (p : Look) → are_whole_after n p [] ≡ eqb n 0
whole_end zero p = refl
whole_end (suc n) p = sym (eqb-suc-zero n)

-- the next tail
pub whole_tail : (n : ℕ) (p : Look) (g : Glyph) (gs : List Glyph) → 0 < n → are_whole_after n p (g ∷ gs) ≡ (is_tail g && (same_look g.pen p && are_whole_after (n - 1) p gs))
whole_tail zero p g gs h = absurd (omega arith)
whole_tail (suc n) p g gs h =
    let e : n ≡ suc n - 1 = omega arith in
    ap (λ m. is_tail g && (same_look g.pen p && are_whole_after m p gs)) e

-- cells from where one character begins up to where another does
pub whole_between : (xs : List Glyph) (s e : ℕ) (p : Look) → s < e → e ≤ length xs → is_tail (get_or xs s blank) ≡ false → (e < length xs → is_tail (get_or xs e blank) ≡ false) → are_whole_after 0 p xs ≡ true → are_whole_after 0 p (take (e - s) (drop s xs)) ≡ true
whole_between xs s e p some within start end h =
    let rest : are_whole_after 0 p (drop s xs) ≡ true = (whole_cut xs s p p (omega arith) (λ _. start) h).1 in
    let count : length (drop s xs) ≡ length xs - s = length-drop s xs in
    let place : s + (e - s) ≡ e = omega arith in
    (whole_cut (drop s xs) (e - s) p p (omega arith) (λ below. get_tail place (end (omega arith))) rest).0
  where
    get_tail : s + (e - s) ≡ e → is_tail (get_or xs e blank) ≡ false → is_tail (get_or (drop s xs) (e - s) blank) ≡ false
    get_tail place t = ap is_tail (get_or-drop s xs (e - s) blank) ∙ ap (λ i. is_tail (get_or xs i blank)) place ∙ t

-- the pen of the first cell of whole characters can be written
pub first_writable : (gs : List Glyph) (p : Look) → 0 < length gs → are_whole_after 0 p gs ≡ true → is_writable (get_or gs 0 blank).pen ≡ true
first_writable [] p some h = absurd (omega arith)
first_writable (g ∷ gs) p some h = (both_true (is_writable g.pen) _ (both_true (is_cell_text g.chars) _ h).1).0

next_cell : (cells : List Glyph) (i : ℕ) (g : Glyph) → i < length cells → g ≡ get_or cells i g → drop i cells ≡ g ∷ drop (i + 1) cells
next_cell cells i g below is = drop_more cells i g below ∙ ap (λ (h : Glyph). h ∷ drop (i + 1) cells) (sym is)

-- a tail that was owed
pub tail_step : (cells : List Glyph) (i n : ℕ) (p : Look) (g : Glyph) → i < length cells → g ≡ get_or cells i g → 0 < n → (is_tail g && same_look g.pen p) ≡ true → are_whole_after n p (drop i cells) ≡ are_whole_after (n - 1) p (drop (i + 1) cells)
tail_step cells i n p g below is some test =
    let rest = are_whole_after (n - 1) p (drop (i + 1) cells) in
    let parts = both_true (is_tail g) (same_look g.pen p) test in
    ap (are_whole_after n p) (next_cell cells i g below is) ∙ whole_tail n p g (drop (i + 1) cells) some
    ∙ ap (λ b. b && (same_look g.pen p && rest)) parts.0 ∙ ap (λ b. b && rest) parts.1

both_false : (a b c : Bool) → (a && b) ≡ false → (a && (b && c)) ≡ false
both_false true b c h = ap (λ d. d && c) h
both_false false b c h = refl

no_tails : (n : ℕ) → n ≤ 0 → n ≡ 0
no_tails n h = omega arith

-- a cell that begins a character, and one that does not
pub first_step : (cells : List Glyph) (i n : ℕ) (p : Look) (g : Glyph) → i < length cells → g ≡ get_or cells i g → n ≤ 0 → (is_cell_text g.chars && is_writable g.pen) ≡ true → are_whole_after n p (drop i cells) ≡ are_whole_after (tails_of g.chars) g.pen (drop (i + 1) cells)
first_step cells i n p g below is none test =
    let rest = are_whole_after (tails_of g.chars) g.pen (drop (i + 1) cells) in
    let parts = both_true (is_cell_text g.chars) (is_writable g.pen) test in
    ap (λ m. are_whole_after m p (drop i cells)) (no_tails n none) ∙ ap (are_whole_after 0 p) (next_cell cells i g below is)
    ∙ ap (λ b. b && (is_writable g.pen && rest)) parts.0 ∙ ap (λ b. b && rest) parts.1

-- a first cell that can't be written: the row isn't whole
pub first_refused : (cells : List Glyph) (i n : ℕ) (p : Look) (g : Glyph) → i < length cells → g ≡ get_or cells i g → n ≤ 0 → (is_cell_text g.chars && is_writable g.pen) ≡ false → are_whole_after n p (drop i cells) ≡ false
first_refused cells i n p g below is none test =
    ap (λ m. are_whole_after m p (drop i cells)) (no_tails n none) ∙ ap (are_whole_after 0 p) (next_cell cells i g below is)
    ∙ both_false (is_cell_text g.chars) (is_writable g.pen) (are_whole_after (tails_of g.chars) g.pen (drop (i + 1) cells)) test

-- a cell that isn't the tail that is due: the row isn't whole
pub tail_refused : (cells : List Glyph) (i n : ℕ) (p : Look) (g : Glyph) → i < length cells → g ≡ get_or cells i g → 0 < n → (is_tail g && same_look g.pen p) ≡ false → are_whole_after n p (drop i cells) ≡ false
tail_refused cells i n p g below is some test =
    ap (are_whole_after n p) (next_cell cells i g below is) ∙ whole_tail n p g (drop (i + 1) cells) some
    ∙ both_false (is_tail g) (same_look g.pen p) (are_whole_after (n - 1) p (drop (i + 1) cells)) test
