-- Runs among pieces.
use Rattle.std.proofs.Common.{◌≡◌, ℕ, zero, suc, ◌+◌, ◌<◌, ◌≤◌, Bool, true, false, cond, List, [], ◌∷◌, ◌++◌, length, map, get_or, Option, Some, None, ap, sym, subst, ◌∙◌, arith}
use Rattle.std.specs.List.{All, filter, range_with_len}
use Rattle.std.specs.Option.{is_some}
use Rattle.std.proofs.lemmas.List.{map-id, append-nil, length-map, map-append}
use Rattle.std.proofs.lemmas.List.Elements.{filter-append, All-map}
use Rattle.std.proofs.lemmas.List.FromFn.{map-range_with_len_more}
use Rattle.markdown_emphasis.specs.declared.runs.Run.{Run}
use Rattle.markdown_emphasis.specs.declared.runs.Pair.{Pair}
use Rattle.markdown_emphasis.specs.Matching.{matches}
use Rattle.markdown_emphasis.specs.Pairs.{IsWithin}
use Rattle.markdown_emphasis.specs.Pieces.{piece_run, is_run, places_of, run_of_piece, runs_of, moved, pairs_of}
use Rattle.markdown_emphasis.proofs.PairLemmas.{matches_within}

-- ---- numbers that pass a test, in order

abbrev AreAscending : ℕ → ℕ → List ℕ → Type 0
AreAscending a b [] = Unit {0}
AreAscending a b (x ∷ xs) = (a ≤ x) × (x < b) × AreAscending (x + 1) b xs

ascending_from : (a c b : ℕ) (xs : List ℕ) → c ≤ a → AreAscending a b xs → AreAscending c b xs
ascending_from a c b [] h are = tt
ascending_from a c b (x ∷ xs) h are = (omega (arith, are.0), are.1, are.2)

ascending_by : (t : Bool) (a b : ℕ) (xs : List ℕ) → a < b → AreAscending (a + 1) b xs → AreAscending a b (cond t (a ∷ xs) xs)
ascending_by true a b xs h are = (omega arith, h, are)
ascending_by false a b xs h are = ascending_from (a + 1) a b xs (omega arith) are

filter_ascends : (p : ℕ → Bool) (n a b : ℕ) → a + n ≡ b → AreAscending a b (filter p (range_with_len a n))
filter_ascends p zero a b h = tt
filter_ascends p (suc n) a b h = ascending_by (p a) a b (filter p (range_with_len (a + 1) n)) (omega arith) (filter_ascends p n (a + 1) b (omega arith))

ascending_low : (a b : ℕ) (xs : List ℕ) (i : ℕ) → AreAscending a b xs → i < length xs → a ≤ get_or xs i 0
ascending_low a b [] i are h = absurd (omega arith)
ascending_low a b (x ∷ xs) zero are h = are.0
ascending_low a b (x ∷ xs) (suc i) are h = let k : x + 1 ≤ get_or xs i 0 = ascending_low (x + 1) b xs i are.2 (omega arith) in omega (arith, are.0)

ascending_high : (a b : ℕ) (xs : List ℕ) (i : ℕ) → AreAscending a b xs → i < length xs → get_or xs i 0 < b
ascending_high a b [] i are h = absurd (omega arith)
ascending_high a b (x ∷ xs) zero are h = are.1
ascending_high a b (x ∷ xs) (suc i) are h = ascending_high (x + 1) b xs i are.2 (omega arith)

ascending_less : (a b : ℕ) (xs : List ℕ) (i j : ℕ) → AreAscending a b xs → i < j → j < length xs → get_or xs i 0 < get_or xs j 0
ascending_less a b [] i j are h k = absurd (omega arith)
ascending_less a b (x ∷ xs) i zero are h k = absurd (omega arith)
ascending_less a b (x ∷ xs) zero (suc j) are h k = let low : x + 1 ≤ get_or xs j 0 = ascending_low (x + 1) b xs j are.2 (omega arith) in omega arith
ascending_less a b (x ∷ xs) (suc i) (suc j) are h k = ascending_less (x + 1) b xs i j are.2 (omega arith) (omega arith)

-- ---- pairs of pieces

places_ascend : (pieces : List (Option Run)) → AreAscending 0 (length pieces) (places_of pieces)
places_ascend pieces = filter_ascends (is_run pieces) (length pieces) 0 (length pieces) (omega arith)

-- there are as many runs as pieces that are runs
pub same_count : (pieces : List (Option Run)) → length (runs_of pieces) ≡ length (places_of pieces)
same_count pieces = length-map (places_of pieces) (run_of_piece pieces)

moved_within : (pieces : List (Option Run)) (p : Pair) → IsWithin (length (places_of pieces)) p → IsWithin (length pieces) (moved (places_of pieces) p)
moved_within pieces p within = record {
  ordered = ascending_less 0 (length pieces) (places_of pieces) p.opener p.closer (places_ascend pieces) within.ordered within.inside;
  inside = ascending_high 0 (length pieces) (places_of pieces) p.closer (places_ascend pieces) within.inside;
}

-- the pairs of these runs are within them
pub pairs_within : (pieces : List (Option Run)) → All (IsWithin (length (places_of pieces))) (matches (runs_of pieces))
pairs_within pieces = subst (λ (n : ℕ). All (IsWithin n) (matches (runs_of pieces))) (same_count pieces) (matches_within (runs_of pieces))

-- the pairs of pieces are within the pieces
pub pairs_of-within : (pieces : List (Option Run)) → All (IsWithin (length pieces)) (pairs_of pieces)
pairs_of-within pieces =
    All-map (IsWithin (length pieces)) (moved (places_of pieces)) (matches (runs_of pieces))
    (λ i d h. moved_within pieces (get_or (matches (runs_of pieces)) i d) (pairs_within pieces i d h))

-- ---- one more piece

range_more : (n : ℕ) → range_with_len 0 (n + 1) ≡ range_with_len 0 n ++ n ∷ []
range_more n =
    sym (map-id (range_with_len 0 (n + 1))) ∙ map-range_with_len_more (λ (x : ℕ). x) 0 n n (omega arith) ∙ ap (λ l. l ++ n ∷ []) (map-id (range_with_len 0 n))

filter_next : (p : ℕ → Bool) (n : ℕ) → filter p (range_with_len 0 (n + 1)) ≡ filter p (range_with_len 0 n) ++ cond (p n) (n ∷ []) []
filter_next p n = ap (filter p) (range_more n) ∙ filter-append p (range_with_len 0 n) (n ∷ [])

-- a next number that passes the test is put behind those that pass
pub filter_yes : (p : ℕ → Bool) (n : ℕ) → p n ≡ true → filter p (range_with_len 0 (n + 1)) ≡ filter p (range_with_len 0 n) ++ n ∷ []
filter_yes p n h = filter_next p n ∙ ap (λ b. filter p (range_with_len 0 n) ++ cond b (n ∷ []) []) h

-- a next number that doesn't pass it changes nothing
pub filter_no : (p : ℕ → Bool) (n : ℕ) → p n ≡ false → filter p (range_with_len 0 (n + 1)) ≡ filter p (range_with_len 0 n)
filter_no p n h = filter_next p n ∙ ap (λ b. filter p (range_with_len 0 n) ++ cond b (n ∷ []) []) h ∙ append-nil _

-- a next piece that is a run is put behind the runs
pub map_yes : (pieces : List (Option Run)) (n : ℕ) (run : Run) → get_or pieces n None ≡ Some run
    → map (run_of_piece pieces) (filter (is_run pieces) (range_with_len 0 (n + 1))) ≡ map (run_of_piece pieces) (filter (is_run pieces) (range_with_len 0 n)) ++ run ∷ []
map_yes pieces n run h =
    ap (map (run_of_piece pieces)) (filter_yes (is_run pieces) n (ap is_some h))
    ∙ map-append (run_of_piece pieces) (filter (is_run pieces) (range_with_len 0 n)) (n ∷ [])
    ∙ ap (λ o. map (run_of_piece pieces) (filter (is_run pieces) (range_with_len 0 n)) ++ piece_run o ∷ []) h

-- a next piece that is none changes nothing
pub map_no : (pieces : List (Option Run)) (n : ℕ) → get_or pieces n None ≡ None
    → map (run_of_piece pieces) (filter (is_run pieces) (range_with_len 0 (n + 1))) ≡ map (run_of_piece pieces) (filter (is_run pieces) (range_with_len 0 n))
map_no pieces n h = ap (map (run_of_piece pieces)) (filter_no (is_run pieces) n (ap is_some h))
