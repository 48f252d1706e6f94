-- Runs and the values that they stand for.
use Rattle.std.proofs.Common.{◌≡◌, Bool, true, false, ℕ, zero, suc, ◌+◌, ◌-◌, ◌<◌, ◌≤◌, List, [], ◌∷◌, ◌++◌, length, get_or, refl, sym, ap, ◌∙◌, arith, append_assoc, append-nil, cond}
use Rattle.std.specs.Prelude.{replicate, nat_lt}
use Rattle.std.proofs.lemmas.Bool.Decides.{nat_tests}
use Rattle.mad_mark_runs.specs.Marks.{value_at}
use Rattle.mad_mark_runs.specs.Values.{AreRising, end_from, run_behind, values_from, values_of}
use Rattle.mad_mark_runs.specs.declared.mark_runs.MarkRun.{MarkRun}

-- joined runs end where the second ones do, which begin where the first ones end
pub end_joined : (from : ℕ) (xs ys : List MarkRun) → end_from from (xs ++ ys) ≡ end_from (end_from from xs) ys
end_joined from [] ys = refl
end_joined from (x ∷ xs) ys = end_joined x.end xs ys

-- joined runs stand for the values of the first ones, and then of the second
pub values_joined : (from : ℕ) (xs ys : List MarkRun) → values_from from (xs ++ ys) ≡ values_from from xs ++ values_from (end_from from xs) ys
values_joined from [] ys = refl
values_joined from (x ∷ xs) ys = ap (λ l. replicate (x.end - from) x.value ++ l) (values_joined x.end xs ys) ∙ sym (append_assoc (replicate (x.end - from) x.value) (values_from x.end xs) (values_from (end_from x.end xs) ys))

-- the ends of joined runs rise, where those of both do
pub rising_joined : (from : ℕ) (xs ys : List MarkRun) → AreRising from xs → AreRising (end_from from xs) ys → AreRising from (xs ++ ys)
rising_joined from [] ys a b = b
rising_joined from (x ∷ xs) ys a b = (a.0, rising_joined x.end xs ys a.1 b)

-- one run more
pub pushed_values : (runs : List MarkRun) (value count end : ℕ) → end ≡ end_from 0 runs + count → values_of (runs ++ record { value = value; end = end } ∷ []) ≡ values_of runs ++ replicate count value
pushed_values runs value count end e =
    values_joined 0 runs (record { value = value; end = end } ∷ [])
    ∙ ap (λ l. values_of runs ++ l) (append-nil (replicate (end - end_from 0 runs) value) ∙ ap (λ (n : ℕ). replicate n value) (omega arith))

-- so it is the run behind them
pub pushed_run : (runs new : List MarkRun) (value count end : ℕ) → 0 < count → end ≡ end_from 0 runs + count → new ≡ runs ++ record { value = value; end = end } ∷ [] → new ≡ runs ++ run_behind (end_from 0 runs) value count
pushed_run runs new value zero end some e is = absurd (omega arith)
pushed_run runs new value (suc n) end some e is = is ∙ ap (λ (m : ℕ). runs ++ record { value = value; end = m } ∷ []) e

-- with one more run, which stands for a value at least, the ends rise
pub pushed_rising : (runs : List MarkRun) (value count end : ℕ) → AreRising 0 runs → 0 < count → end ≡ end_from 0 runs + count → AreRising 0 (runs ++ record { value = value; end = end } ∷ [])
pushed_rising runs value count end rising some e = rising_joined 0 runs (record { value = value; end = end } ∷ []) rising (omega arith, tt)

last_end : (from : ℕ) (x : MarkRun) (xs : List MarkRun) (d : MarkRun) → (get_or (x ∷ xs) (length xs) d).end ≡ end_from from (x ∷ xs)
last_end from x [] d = refl
last_end from x (y ∷ ys) d = last_end x.end y ys d

-- the last one ends where all end
pub end_is : (xs : List MarkRun) (d : MarkRun) → 1 ≤ length xs → (get_or xs (length xs - 1) d).end ≡ end_from 0 xs
end_is [] d some = absurd (omega arith)
end_is (x ∷ xs) d some = ap (λ (n : ℕ). (get_or (x ∷ xs) n d).end) (omega arith) ∙ last_end 0 x xs d

-- ---- the value at a number

get_in : (n k : ℕ) (v : ℕ) (rest : List ℕ) → k < n → get_or (replicate n v ++ rest) k 0 ≡ v
get_in zero k v rest h = absurd (omega arith)
get_in (suc n) zero v rest h = refl
get_in (suc n) (suc k) v rest h = get_in n k v rest (omega arith)

get_past : (n k : ℕ) (v : ℕ) (rest : List ℕ) → n ≤ k → get_or (replicate n v ++ rest) k 0 ≡ get_or rest (k - n) 0
get_past zero k v rest h = ap (λ (m : ℕ). get_or rest m 0) (omega arith)
get_past (suc n) zero v rest h = absurd (omega arith)
get_past (suc n) (suc k) v rest h = get_past n k v rest (omega arith) ∙ ap (λ (m : ℕ). get_or rest m 0) (omega arith)

by_test : (run : MarkRun) (runs : List MarkRun) (from n : ℕ) (t : Bool) → nat_lt n run.end ≡ t → from ≤ n → from < run.end → (run.end ≤ n → value_at runs n ≡ get_or (values_from run.end runs) (n - run.end) 0)
    → cond t run.value (value_at runs n) ≡ get_or (replicate (run.end - from) run.value ++ values_from run.end runs) (n - from) 0
by_test run runs from n true e above some more =
    let before : n < run.end = grind (arith, nat_tests, e) in
    sym (get_in (run.end - from) (n - from) run.value (values_from run.end runs) (omega arith))
by_test run runs from n false e above some more =
    let past : run.end ≤ n = grind (arith, nat_tests, e) in
    more past ∙ ap (λ (m : ℕ). get_or (values_from run.end runs) m 0) (omega arith) ∙ sym (get_past (run.end - from) (n - from) run.value (values_from run.end runs) (omega arith))

from_at : (from : ℕ) (runs : List MarkRun) (n : ℕ) → AreRising from runs → from ≤ n → value_at runs n ≡ get_or (values_from from runs) (n - from) 0
from_at from [] n rising above = refl
from_at from (run ∷ runs) n rising above = by_test run runs from n (nat_lt n run.end) refl above rising.0 (λ past. from_at run.end runs n rising.1 past)

-- THE LAW: the value at a number is the one of that number
pub value_is : (runs : List MarkRun) (n : ℕ) → AreRising 0 runs → value_at runs n ≡ get_or (values_of runs) n 0
value_is runs n rising = from_at 0 runs n rising (omega arith) ∙ ap (λ (m : ℕ). get_or (values_of runs) m 0) (omega arith)
