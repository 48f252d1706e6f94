-- Pieces and the pairs over them.
use Rattle.std.proofs.Common.{◌≡◌, ℕ, ◌+◌, ◌-◌, ◌<◌, ◌≤◌, inl, inr, Bool, true, false, cond, ltb, eqb, List, [], ◌∷◌, ◌++◌, zero, suc, map, replicate, below_more, length, get_or, set, take, eq-eqb, subst, refl, ap, sym, ◌∙◌, arith}
use Rattle.std.specs.Prelude.{◌||◌}
use Rattle.std.specs.List.{All, count_by, list_any, range_with_len}
use Rattle.std.proofs.lemmas.Bool.{lt-ltb}
use Rattle.std.proofs.lemmas.Bool.Decides.{nat_tests}
use Rattle.std.proofs.lemmas.Bool.{cases_eq, ne_eqb}
use Rattle.std.proofs.lemmas.List.{get_or-set_same, get_or-set_other, length-take, length-map, get_or_default, get_or_append_left, get_or_push}
use Rattle.std.proofs.lemmas.List.Sums.{sum_by-cons, count_by-le-length, count_by_more_yes, count_by_more_no}
use Rattle.std.proofs.lemmas.List.Elements.{All-head, All-tail}
use Rattle.std.proofs.lemmas.List.FromFn.{map-range_with_len_more}
use Rattle.markdown_emphasis.specs.declared.runs.Pair.{Pair}
use Rattle.markdown_emphasis.specs.declared.flags.Flags.{Flags}
use Rattle.markdown_emphasis.specs.Pairs.{IsWithin}
use Rattle.markdown_emphasis.specs.Flags.{is_over, is_covered, openers, closers, flags_at, flags_of}

-- how many of these numbers are below this one
abbrev pub before : ℕ → List ℕ → ℕ
before k xs = count_by (λ x. ltb x k) xs

-- how many of these numbers are this one
abbrev pub at : ℕ → List ℕ → ℕ
at k xs = count_by (λ x. eqb x k) xs

count-cons : {X : Type 0} (f : X → Bool) (x : X) (xs : List X) → count_by f (x ∷ xs) ≡ cond (f x) 1 0 + count_by f xs
count-cons f x xs = sum_by-cons (λ x. cond (f x) 1 0) x xs

one_more : (k x : ℕ) → cond (ltb x (k + 1)) 1 0 ≡ cond (ltb x k) 1 0 + cond (eqb x k) 1 0
one_more k x = grind (arith, nat_tests)

-- below the next number are those below this one, and those that are it
pub before_more : (k : ℕ) (xs : List ℕ) → before (k + 1) xs ≡ before k xs + at k xs
before_more k [] = refl
before_more k (x ∷ xs) =
    omega (arith, one_more k x, before_more k xs, count-cons (λ x. ltb x (k + 1)) x xs, count-cons (λ x. ltb x k) x xs, count-cons (λ x. eqb x k) x xs)

one_over : (k n : ℕ) (p : Pair) → IsWithin n p → cond (is_over k p) 1 0 + cond (ltb p.closer (k + 1)) 1 0 ≡ cond (ltb p.opener k) 1 0
one_over k n p within = let h : p.opener < p.closer = within.ordered in grind (arith, nat_tests)

-- of the pairs that have begun those that haven't ended are over a piece
pub depth : (k n : ℕ) (ps : List Pair) → All (IsWithin n) ps → count_by (is_over k) ps + before (k + 1) (closers ps) ≡ before k (openers ps)
depth k n [] within = refl
depth k n (p ∷ ps) within =
    omega (
      arith,
      one_over k n p (All-head (IsWithin n) p ps within),
      depth k n ps (All-tail (IsWithin n) p ps within),
      count-cons (is_over k) p ps,
      count-cons (λ x. ltb x (k + 1)) p.closer (closers ps),
      count-cons (λ x. ltb x k) p.opener (openers ps),
    )

any_step : (t : Bool) (n : ℕ) (b : Bool) → b ≡ ltb 0 n → (t || b) ≡ ltb 0 (cond t 1 0 + n)
any_step true n b h = sym (lt-ltb 0 (1 + n) (omega arith))
any_step false n b h = let e : n ≡ 0 + n = omega arith in h ∙ ap (ltb 0) e

any_count : {X : Type 0} (f : X → Bool) (xs : List X) → list_any f xs ≡ ltb 0 (count_by f xs)
any_count f [] = refl
any_count f (x ∷ xs) = any_step (f x) (count_by f xs) (list_any f xs) (any_count f xs) ∙ ap (ltb 0) (sym (count-cons f x xs))

-- ---- counting

-- where one more number is counted, each count is that of the numbers so far
pub tally_step : (counts numbers : List ℕ) (bound i v k : ℕ) → length counts ≡ bound → i < length numbers → get_or numbers i 0 < bound
    → ((j : ℕ) → j < bound → get_or counts j 0 ≡ at j (take i numbers)) → v ≡ get_or counts (get_or numbers i 0) 0
    → k < bound → get_or (set counts (get_or numbers i 0) (v + 1)) k 0 ≡ at k (take (i + 1) numbers)
tally_step counts numbers bound i v k size h small before value within =
    let p : ℕ = get_or numbers i 0 in
    elim (cases_eq k p) [
      | inl same ↦
          let set_now : get_or (set counts p (v + 1)) p 0 ≡ v + 1 = get_or-set_same counts p (v + 1) 0 (omega arith) in
          let more : at p (take (i + 1) numbers) ≡ at p (take i numbers) + 1 = count_by_more_yes (λ n. eqb n p) numbers i 0 h (eq-eqb p p refl) in
          subst (λ (j : ℕ). get_or (set counts p (v + 1)) j 0 ≡ at j (take (i + 1) numbers)) (sym same) (omega (arith, set_now, more, value, before p small))
      | inr other ↦
          get_or-set_other counts p k (v + 1) 0 other ∙ before k within ∙ sym (count_by_more_no (λ n. eqb n k) numbers i 0 h (ne_eqb p k (λ e. other (sym e))))
    ]

-- no more of the first numbers are this one than there are
pub at_small : (k i : ℕ) (numbers : List ℕ) → at k (take i numbers) ≤ i
at_small k i numbers = omega (arith, count_by-le-length (λ n. eqb n k) (take i numbers), length-take i numbers)

-- ---- the depth of a piece

-- no more pairs end at a piece than are open before it
pub depth_ends : (k n d : ℕ) (ps : List Pair) → All (IsWithin n) ps → d + before k (closers ps) ≡ before k (openers ps) → at k (closers ps) ≤ d
depth_ends k n d ps within now = omega (arith, depth k n ps within, before_more k (closers ps))

-- a piece is covered where a pair is open that doesn't end at it
pub depth_covers : (k n d : ℕ) (ps : List Pair) → All (IsWithin n) ps → d + before k (closers ps) ≡ before k (openers ps) → ltb 0 (d - at k (closers ps)) ≡ is_covered ps k
depth_covers k n d ps within now =
    let e : d - at k (closers ps) ≡ count_by (is_over k) ps = omega (arith, depth k n ps within, before_more k (closers ps)) in
    ap (ltb 0) e ∙ sym (any_count (is_over k) ps)

-- the pairs that are open behind a piece: without those that end at it, and with those that begin
pub depth_next : (k n d : ℕ) (ps : List Pair) → All (IsWithin n) ps → d + before k (closers ps) ≡ before k (openers ps)
    → d - at k (closers ps) + at k (openers ps) + before (k + 1) (closers ps) ≡ before (k + 1) (openers ps)
depth_next k n d ps within now = omega (arith, depth k n ps within, before_more k (closers ps), before_more k (openers ps))

-- no more pairs begin before a piece than there are
pub before_small : (k : ℕ) (ps : List Pair) → before k (openers ps) ≤ length ps
before_small k ps = omega (arith, count_by-le-length (λ x. ltb x k) (openers ps), length-map ps (λ p. p.opener))

-- ---- one more piece

-- what was read at an index is what the list has there
pub read_at : {X : Type 0} (xs : List X) (i : ℕ) (d read : X) (value : X) → i < length xs → read ≡ get_or xs i read → get_or xs i d ≡ value → read ≡ value
read_at xs i d read value h is are = is ∙ get_or_default xs i read d h ∙ are

-- with the value of the next piece a list is right for one more
pub push_piece : (xs : List Bool) (b : Bool) (F : ℕ → Bool) (n : ℕ) → length xs ≡ n → ((k : ℕ) → k < n → get_or xs k false ≡ F k) → b ≡ F n
    → (k : ℕ) → k < n + 1 → get_or (xs ++ b ∷ []) k false ≡ F k
push_piece xs b F n size before now =
    below_more _ n
    (λ k h. get_or_append_left xs (b ∷ []) false k (omega arith) ∙ before k h)
    (get_or_push xs b false n size ∙ now)

-- with the flags of the next piece they are the flags of one more
pub push_flags : (pairs : List Pair) (xs ys : List Flags) (n : ℕ) (flags : Flags) → xs ≡ flags_of n pairs → ys ≡ xs ++ flags ∷ [] → flags ≡ flags_at pairs n → ys ≡ flags_of (n + 1) pairs
push_flags pairs xs ys n flags before pushed now =
    pushed ∙ ap (λ l. l ++ flags ∷ []) before ∙ ap (λ f. flags_of n pairs ++ f ∷ []) now ∙ sym (map-range_with_len_more (flags_at pairs) 0 n n (omega arith))

-- ---- no pairs

none_covered : (n k : ℕ) → get_or (replicate n false) k false ≡ false
none_covered zero k = refl
none_covered (suc n) zero = refl
none_covered (suc n) (suc k) = none_covered n k

-- without pairs no piece is covered
pub no_cover : (pairs : List Pair) (n k : ℕ) → length pairs ≡ 0 → get_or (replicate n false) k false ≡ is_covered pairs k
no_cover [] n k e = none_covered n k
no_cover (p ∷ ps) n k e = absurd (omega (arith, e))

none_from : (n a : ℕ) → replicate n (record { bold = false; italic = false; strikeout = false }) ≡ map (flags_at []) (range_with_len a n)
none_from zero a = refl
none_from (suc n) a = ap (λ (l : List Flags). record { bold = false; italic = false; strikeout = false } ∷ l) (none_from n (a + 1))

-- without pairs no piece has a flag
pub flags_none : (pairs : List Pair) (n : ℕ) → length pairs ≡ 0 → replicate n (record { bold = false; italic = false; strikeout = false }) ≡ flags_of n pairs
flags_none [] n e = none_from n 0
flags_none (p ∷ ps) n e = absurd (omega (arith, e))
