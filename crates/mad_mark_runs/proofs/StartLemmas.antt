-- The first run that ends behind a number, found by halving.
use Rattle.std.proofs.Common.{◌≡◌, ℕ, zero, suc, ◌+◌, ◌<◌, ◌≤◌, Bool, true, false, cond, List, [], ◌∷◌, length, get_or, drop, refl, sym, ap, ◌∙◌, arith}
use Rattle.std.specs.Prelude.{nat_lt}
use Rattle.std.proofs.lemmas.Bool.Decides.{nat_tests}
use Rattle.mad_mark_runs.specs.Marks.{next_start}
use Rattle.mad_mark_runs.specs.Values.{AreRising}
use Rattle.mad_mark_runs.specs.declared.mark_runs.MarkRun.{MarkRun}

ends_above : (from : ℕ) (runs : List MarkRun) (k : ℕ) (d : MarkRun) → AreRising from runs → k < length runs → from < (get_or runs k d).end
ends_above from [] k d rising h = absurd (omega arith)
ends_above from (run ∷ runs) zero d rising h = rising.0
ends_above from (run ∷ runs) (suc k) d rising h = omega (arith, rising.0, ends_above run.end runs k d rising.1 (omega arith))

one_past : (run : MarkRun) (runs : List MarkRun) (n : ℕ) → run.end ≤ n → next_start (run ∷ runs) n ≡ next_start runs n
one_past run runs n h = by_test (nat_lt n run.end) refl
  where
    by_test : (t : Bool) → nat_lt n run.end ≡ t → cond t (run ∷ runs) (next_start runs n) ≡ next_start runs n
    by_test true e = absurd (grind (arith, nat_tests, e, h))
    by_test false e = refl

one_found : (run : MarkRun) (runs : List MarkRun) (n : ℕ) → n < run.end → next_start (run ∷ runs) n ≡ run ∷ runs
one_found run runs n h = by_test (nat_lt n run.end) refl
  where
    by_test : (t : Bool) → nat_lt n run.end ≡ t → cond t (run ∷ runs) (next_start runs n) ≡ run ∷ runs
    by_test true e = refl
    by_test false e = absurd (grind (arith, nat_tests, e, h))

-- a run that doesn't end behind the number, and those before it
pub skipped : (from : ℕ) (runs : List MarkRun) (k n : ℕ) (d : MarkRun) → AreRising from runs → k < length runs → (get_or runs k d).end ≤ n → next_start (drop (k + 1) runs) n ≡ next_start runs n
skipped from [] k n d rising h e = absurd (omega arith)
skipped from (run ∷ runs) zero n d rising h e = sym (one_past run runs n e)
skipped from (run ∷ runs) (suc k) n d rising h e =
    let up : suc k + 1 ≡ suc (k + 1) = omega arith in
    let past : run.end ≤ n = omega (arith, ends_above run.end runs k d rising.1 (omega arith), e) in
    ap (λ (m : ℕ). next_start (drop m (run ∷ runs)) n) up ∙ skipped run.end runs k n d rising.1 (omega arith) e ∙ sym (one_past run runs n past)

-- one that does
pub found : (runs : List MarkRun) (k n : ℕ) (d : MarkRun) → k < length runs → n < (get_or runs k d).end → next_start (drop k runs) n ≡ drop k runs
found [] k n d h e = absurd (omega arith)
found (run ∷ runs) zero n d h e = one_found run runs n e
found (run ∷ runs) (suc k) n d h e = found runs k n d (omega arith) e

-- past the last run there is none
pub none_found : (runs : List MarkRun) (k n : ℕ) → length runs ≤ k → next_start (drop k runs) n ≡ drop k runs
none_found [] zero n h = refl
none_found [] (suc k) n h = refl
none_found (run ∷ runs) zero n h = absurd (omega arith)
none_found (run ∷ runs) (suc k) n h = none_found runs k n (omega arith)
