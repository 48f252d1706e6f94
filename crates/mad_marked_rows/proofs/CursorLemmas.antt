-- A cursor's runs say what all runs say.
use Rattle.std.proofs.Common.{◌≡◌, ℕ, zero, suc, ◌+◌, ◌≤◌, Bool, true, false, cond, List, [], ◌∷◌, refl, ap, ◌∙◌, arith}
use Rattle.std.specs.Prelude.{nat_lt, ◌==◌}
use Rattle.std.specs.Char.{is_whitespace}
use Rattle.std.proofs.lemmas.Bool.Decides.{nat_tests}
use Rattle.mad_mark_runs.specs.Marks.{value_at, blank_value, next_start}
use Rattle.mad_mark_runs.specs.declared.mark_runs.MarkRun.{MarkRun}
use Rattle.mad_marked_rows.specs.MarkedTexts.{mark_value, number_next, letters_of, SameFrom}

-- from a number on the runs that begin there say what all say
pub from_start : (runs : List MarkRun) (n k : ℕ) → n ≤ k → value_at (next_start runs n) k ≡ value_at runs k
from_start [] n k h = refl
from_start (run ∷ runs) n k h = by_test run runs n k (nat_lt n run.end) (nat_lt k run.end) refl refl h (from_start runs n k h)
  where
    by_test : (run : MarkRun) (runs : List MarkRun) (n k : ℕ) (t u : Bool) → nat_lt n run.end ≡ t → nat_lt k run.end ≡ u → n ≤ k → value_at (next_start runs n) k ≡ value_at runs k
        → value_at (cond t (run ∷ runs) (next_start runs n)) k ≡ cond u run.value (value_at runs k)
    by_test run runs n k true u a b h more = ap (λ t. cond t run.value (value_at runs k)) b
    by_test run runs n k false false a b h more = more
    by_test run runs n k false true a b h more = absurd (grind (arith, nat_tests, a, b, h))

-- so a cursor behind a character has runs that say the same
pub passed_same : (runs : List MarkRun) (n : ℕ) → SameFrom runs (next_start runs n) (n + 1)
passed_same runs n = λ k h. from_start runs n k (omega arith)

-- all runs say the same as themselves
pub same_itself : (runs : List MarkRun) (n : ℕ) → SameFrom runs runs n
same_itself runs n = λ k h. refl

-- runs that say the same as others, which say the same as yet others
pub same_joined : (a b c : List MarkRun) (n m : ℕ) → n ≤ m → SameFrom a b n → SameFrom b c m → SameFrom a c m
same_joined a b c n m le ab bc = λ k h. bc k h ∙ ab k (omega arith)

blank_same : (a b : List MarkRun) (n : ℕ) → SameFrom a b n → blank_value b n ≡ blank_value a n
blank_same a b zero h = refl
blank_same a b (suc n) h = ap (λ (x : ℕ). cond (x == value_at b (suc n)) (value_at b (suc n)) 0) (h n (omega arith)) ∙ ap (λ (x : ℕ). cond (value_at a n == x) x 0) (h (suc n) (omega arith))

-- a character has the same mark by them
pub mark_same : (a b : List MarkRun) (n c : ℕ) → SameFrom a b n → mark_value b n c ≡ mark_value a n c
mark_same a b n c h = by_blank (is_whitespace c)
  where
    by_blank : (w : Bool) → cond w (blank_value b n) (value_at b n) ≡ cond w (blank_value a n) (value_at a n)
    by_blank true = blank_same a b n h
    by_blank false = h n (omega arith)

-- a character that is passed takes no number back
pub number_up : (n c : ℕ) → n ≤ number_next n c
number_up n c = by_blank (is_whitespace c)
  where
    by_blank : (w : Bool) → n ≤ cond w n (n + 1)
    by_blank true = omega arith
    by_blank false = omega arith

-- a text has the same marks by a cursor's runs
pub letters_same : (a b : List MarkRun) (n : ℕ) (cs : List ℕ) → SameFrom a b n → letters_of b n cs ≡ letters_of a n cs
letters_same a b n [] h = refl
letters_same a b n (c ∷ cs) h =
    let later : SameFrom a b (number_next n c) = λ k le. h k (omega (arith, number_up n c)) in
    ap (λ (v : ℕ). record { value = v; char = c } ∷ letters_of b (number_next n c) cs) (mark_same a b n c h) ∙ ap (λ l. record { value = mark_value a n c; char = c } ∷ l) (letters_same a b (number_next n c) cs later)
