-- Pairs are nested or apart.
use Rattle.std.proofs.Common.{◌≡◌, ℕ, zero, suc, ◌+◌, ◌<◌, ◌≤◌, ◌⊎◌, inl, inr, Bool, true, false, cond, ltb, List, [], ◌∷◌, ◌++◌, length, get_or, refl, subst, arith}
use Rattle.std.specs.Prelude.{◌&&◌}
use Rattle.std.specs.List.{All, AllPairs}
use Rattle.std.proofs.lemmas.List.Elements.{All-push, All-nil}
use Rattle.std.proofs.lemmas.List.Quantifiers.{all_pairs_push}
use Rattle.markdown_emphasis.specs.declared.runs.Run.{Run}
use Rattle.markdown_emphasis.specs.declared.runs.Mark.{Mark}
use Rattle.markdown_emphasis.specs.declared.runs.Pair.{Pair}
use Rattle.markdown_emphasis.specs.Matching.{fits, nearest, less, taken, Closing, pair_with, close_once, close_times, close_run, Matching, opened, after_run, matches_from, no_runs, matches}
use Rattle.markdown_emphasis.specs.Pairs.{IsWithin, AreApart, ArePairs}

-- ---- openers

-- no pair goes over an opener
abbrev pub IsClear : Mark → Pair → Type 0
IsClear opener pair = (opener.place ≤ pair.opener) ⊎ (pair.closer ≤ opener.place)

-- openers before a place, the nearest first
abbrev pub AreOpeners : ℕ → List Pair → List Mark → Type 0
AreOpeners place pairs [] = Unit {0}
AreOpeners place pairs (o ∷ os) = (o.place < place) × All (IsClear o) pairs × AreOpeners o.place pairs os

-- openers before a place are before a later one
pub openers_later : (a b : ℕ) (pairs : List Pair) (os : List Mark) → a ≤ b → AreOpeners a pairs os → AreOpeners b pairs os
openers_later a b pairs [] h are = tt
openers_later a b pairs (o ∷ os) h are = (omega (arith, are.0), are.1, are.2)

openers_from : (t : Bool) (place : ℕ) (pairs : List Pair) (c : Run) (o : Mark) (os : List Mark) → AreOpeners place pairs (o ∷ os) → AreOpeners place pairs (nearest c os)
    → AreOpeners place pairs (cond t (o ∷ os) (nearest c os))
openers_from true place pairs c o os here after = here
openers_from false place pairs c o os here after = after

-- the openers from the nearest that fits on are before the place, too
pub openers_nearest : (place : ℕ) (pairs : List Pair) (c : Run) (os : List Mark) → AreOpeners place pairs os → AreOpeners place pairs (nearest c os)
openers_nearest place pairs c [] are = tt
openers_nearest place pairs c (o ∷ os) are =
    openers_from (fits o.run c) place pairs c o os are (openers_nearest place pairs c os (openers_later o.place place pairs os (omega (arith, are.0)) are.2))

openers_rest : (t : Bool) (n place : ℕ) (pairs : List Pair) (o : Mark) (os : List Mark) → AreOpeners place pairs (o ∷ os) → AreOpeners place pairs (cond t (less n o ∷ os) os)
openers_rest true n place pairs o os are = are
openers_rest false n place pairs o os are = openers_later o.place place pairs os (omega (arith, are.0)) are.2

-- one more pair, whose opener isn't before them
openers_more : (place : ℕ) (pairs : List Pair) (q : Pair) (os : List Mark) → place ≤ suc q.opener → AreOpeners place pairs os → AreOpeners place (pairs ++ q ∷ []) os
openers_more place pairs q [] h are = tt
openers_more place pairs q (o ∷ os) h are =
    (are.0, All-push (IsClear o) pairs q are.1 (inl (omega (arith, are.0))), openers_more o.place pairs q os (omega (arith, are.0)) are.2)

-- ---- what is kept

-- what is known at a place: no pair goes over an opener, and the pairs are nested or apart
pub record Kept (place bound : ℕ) (openers : List Mark) (pairs : List Pair) : Type 0 where
  pub before : AreOpeners place pairs openers
  pub are : ArePairs bound pairs

pairs_push : (bound : ℕ) (pairs : List Pair) (q : Pair) (o : Mark) → o.place ≡ q.opener → IsWithin (suc q.closer) q → All (IsClear o) pairs → ArePairs (suc q.closer) pairs → ArePairs (suc q.closer) (pairs ++ q ∷ [])
pairs_push bound pairs q o same within clear are = record {
  within = All-push (IsWithin (suc q.closer)) pairs q are.within within;
  nested = all_pairs_push AreApart pairs q are.nested (λ i d small. record {
    ordered = let h : (get_or pairs i d).closer < suc q.closer = (are.within i d small).inside in omega arith;
    apart = elim (clear i d small) [ inl before ↦ inr (omega arith) | inr after ↦ inl (omega arith) ];
  });
}

kept_found : (found : List Mark) (c : Closing) → AreOpeners c.closer.place c.pairs found → Kept c.closer.place (suc c.closer.place) c.openers c.pairs
    → Kept c.closer.place (suc c.closer.place) (pair_with found c).openers (pair_with found c).pairs
kept_found [] c are kept = kept
kept_found (o ∷ os) c are kept =
    let n : ℕ = taken o c.closer in
    let q : Pair = record { opener = o.place; closer = c.closer.place; sign = c.closer.run.sign; count = n } in
    let before : o.place < c.closer.place = are.0 in
    record {
      before = openers_later (suc o.place) c.closer.place (c.pairs ++ q ∷ []) _ (omega arith)
          (openers_rest (ltb n o.left) n (suc o.place) (c.pairs ++ q ∷ []) o os (openers_more (suc o.place) c.pairs q (o ∷ os) (omega arith) (omega arith, are.1, are.2)));
      are = pairs_push (suc c.closer.place) c.pairs q o refl (record { ordered = before; inside = omega arith }) are.1 kept.are;
    }

-- a run that closes keeps its place
pub record KeptAt (place : ℕ) (c : Closing) : Type 0 where
  pub same : c.closer.place ≡ place
  pub kept : Kept c.closer.place (suc c.closer.place) c.openers c.pairs

same_place : (found : List Mark) (c : Closing) → (pair_with found c).closer.place ≡ c.closer.place
same_place [] c = refl
same_place (o ∷ os) c = refl

-- it stays known after a pair
pub kept_pair : (place : ℕ) (found : List Mark) (c : Closing) → AreOpeners c.closer.place c.pairs found → KeptAt place c → KeptAt place (pair_with found c)
kept_pair place [] c are at = at
kept_pair place (o ∷ os) c are at = record { same = at.same; kept = kept_found (o ∷ os) c are at.kept }

kept_if : (t : Bool) (place : ℕ) (c d : Closing) → KeptAt place c → KeptAt place d → KeptAt place (cond t c d)
kept_if true place c d h k = h
kept_if false place c d h k = k

kept_once : (place : ℕ) (c : Closing) → KeptAt place c → KeptAt place (close_once c)
kept_once place c at =
    kept_if (ltb 0 c.closer.left) place (pair_with (nearest c.closer.run c.openers) c) c
    (kept_pair place (nearest c.closer.run c.openers) c (openers_nearest c.closer.place c.pairs c.closer.run c.openers at.kept.before) at) at

-- it stays known after any number of tries
pub kept_times : (n place : ℕ) (c : Closing) → KeptAt place c → KeptAt place (close_times n c)
kept_times zero place c at = at
kept_times (suc n) place c at = kept_times n place (close_once c) (kept_once place c at)

-- ---- one run after another

kept_open : (t : Bool) (place : ℕ) (pairs : List Pair) (o : Mark) (os : List Mark) → o.place ≡ place → Kept place (suc place) os pairs
    → Kept (suc place) (suc place) (cond t (o ∷ os) os) pairs
kept_open true place pairs o os same kept = record {
  before = (omega arith, (λ i d small. inr (let h : (get_or pairs i d).closer < suc place = (kept.are.within i d small).inside in omega arith)), openers_later place o.place pairs os (omega arith) kept.before);
  are = kept.are;
}
kept_open false place pairs o os same kept = record { before = openers_later place (suc place) pairs os (omega arith) kept.before; are = kept.are }

-- pairs of runs before a place are so of runs before a later one
pub later_pairs : (a b : ℕ) (pairs : List Pair) → a ≤ b → ArePairs a pairs → ArePairs b pairs
later_pairs a b pairs h are = record {
  within = λ i d small. record { ordered = (are.within i d small).ordered; inside = let k : (get_or pairs i d).closer < a = (are.within i d small).inside in omega arith };
  nested = are.nested;
}

-- it is known at the next place, where the run may open
pub kept_opened : (place : ℕ) (c : Closing) → KeptAt place c → Kept (suc place) (suc place) (opened c).openers (opened c).pairs
kept_opened place c at =
    kept_open (c.closer.run.opens && ltb 0 c.closer.left) place c.pairs c.closer c.openers at.same (subst (λ (k : ℕ). Kept k (suc k) c.openers c.pairs) at.same at.kept)

-- it is known after a run, if it was before
pub kept_run : (place : ℕ) (m : Matching) (run : Run) → Kept place place m.openers m.pairs → Kept (suc place) (suc place) (after_run m place run).openers (after_run m place run).pairs
kept_run place m run kept =
    let start : Closing = record { openers = m.openers; closer = record { place = place; run = run; left = run.count }; pairs = m.pairs } in
    kept_opened place (close_run start)
    (kept_times run.count place start (record { same = refl; kept = record { before = kept.before; are = later_pairs place (suc place) m.pairs (omega arith) kept.are } }))

kept_all : (place : ℕ) (m : Matching) (runs : List Run) → Kept place place m.openers m.pairs → ArePairs (place + length runs) (matches_from m place runs)
kept_all place m [] kept = later_pairs place (place + 0) m.pairs (omega arith) kept.are
kept_all place m (run ∷ runs) kept =
    let next : suc place ≡ place + 1 = omega arith in
    let now = kept_run place m run kept in
    later_pairs (place + 1 + length runs) (place + suc (length runs)) (matches_from (after_run m place run) (place + 1) runs) (omega arith)
    (kept_all (place + 1) (after_run m place run) runs (subst (λ (k : ℕ). Kept k k (after_run m place run).openers (after_run m place run).pairs) next now))

-- where there are no items, any two are as wanted
pub no_pair : {X : Type 0} (R : X → X → Type 0) → AllPairs R []
no_pair R = λ i j d h k. absurd (omega arith)

-- the pairs of runs are nested or apart
pub matches_nested : (runs : List Run) → ArePairs (length runs) (matches runs)
matches_nested runs =
    later_pairs (0 + length runs) (length runs) (matches runs) (omega arith)
    (kept_all 0 no_runs runs (record { before = tt; are = record { within = All-nil (IsWithin 0); nested = no_pair AreApart } }))

-- each pair is of two of the runs
pub matches_within : (runs : List Run) → All (IsWithin (length runs)) (matches runs)
matches_within runs = (matches_nested runs).within
