-- A run closes pair by pair.
use Rattle.std.proofs.Common.{◌≡◌, ℕ, zero, suc, ◌<◌, ◌≤◌, ◌⊎◌, inl, inr, Bool, true, false, cond, ltb, List, [], ◌∷◌, refl, ap, sym, ◌∙◌, arith}
use Rattle.std.proofs.lemmas.Bool.{ltb-true, lt-ltb}
use Rattle.std.proofs.lemmas.Bool.Decides.{nat_tests}
use Rattle.markdown_emphasis.specs.declared.runs.Sign.{Sign}
use Rattle.markdown_emphasis.specs.declared.runs.Sign.TheVariants.{Star, Underscore, Tilde}
use Rattle.markdown_emphasis.specs.declared.runs.Mark.{Mark}
use Rattle.markdown_emphasis.specs.Matching.{nearest, taken_by, taken, Closing, pair_with, close_once, close_times, close_run}
use Rattle.markdown_emphasis.proofs.KeyLemmas.{nearest-closes}

-- ---- how many marks a pair takes

-- a pair takes at least one mark where the closer has any
pub taken_by-some : (s : Sign) (opener closer : ℕ) → 0 < closer → 0 < taken_by s opener closer
taken_by-some Tilde opener closer h = h
taken_by-some Star opener closer h = grind (arith, nat_tests)
taken_by-some Underscore opener closer h = grind (arith, nat_tests)

-- ---- no more pairs

-- a run without marks left closes no more
pub once-done : (c : Closing) → c.closer.left ≡ 0 → close_once c ≡ c
once-done c h = ap (λ k. cond (ltb 0 k) (pair_with (nearest c.closer.run c.openers) c) c) h

-- nor one for which none fits
once_alone : (b : Bool) (c : Closing) → cond b c c ≡ c
once_alone true c = refl
once_alone false c = refl

-- a run for which no opener fits closes no more
pub once-none : (c : Closing) → nearest c.closer.run c.openers ≡ [] → close_once c ≡ c
once-none c h = ap (λ found. cond (ltb 0 c.closer.left) (pair_with found c) c) h ∙ once_alone (ltb 0 c.closer.left) c

-- where one try changes nothing, no further one does
pub times_stay : (n : ℕ) (c : Closing) → close_once c ≡ c → close_times n c ≡ c
times_stay zero c h = refl
times_stay (suc n) c h = ap (close_times n) h ∙ times_stay n c h

-- ---- a run has enough tries

-- a pair takes marks of the closer
pair_less : (found : List Mark) (c : Closing) → 0 < c.closer.left → (pair_with found c ≡ c) ⊎ ((pair_with found c).closer.left < c.closer.left)
pair_less [] c h = inl refl
pair_less (o ∷ os) c h =
    let some : 0 < taken o c.closer = taken_by-some c.closer.run.sign o.left c.closer.left h in
    inr (omega arith)

once_by : (t : Bool) (found : List Mark) (c : Closing) → ltb 0 c.closer.left ≡ t
    → (cond t (pair_with found c) c ≡ c) ⊎ ((cond t (pair_with found c) c).closer.left < c.closer.left)
once_by true found c h = pair_less found c (ltb-true 0 c.closer.left h)
once_by false found c h = inl refl

once_less : (c : Closing) → (close_once c ≡ c) ⊎ ((close_once c).closer.left < c.closer.left)
once_less c = once_by (ltb 0 c.closer.left) (nearest c.closer.run c.openers) c refl

-- more tries than marks change nothing
times_enough : (n m : ℕ) (c : Closing) → c.closer.left ≤ n → c.closer.left ≤ m → close_times n c ≡ close_times m c
times_enough zero m c h k = sym (times_stay m c (once-done c (omega arith)))
times_enough (suc n) zero c h k = times_stay (suc n) c (once-done c (omega arith))
times_enough (suc n) (suc m) c h k =
    elim (once_less c) [
      | inl same ↦ times_stay (suc n) c same ∙ sym (times_stay (suc m) c same)
      | inr fewer ↦ times_enough n m (close_once c) (omega arith) (omega arith)
    ]

-- with one try before it a run closes the same
pub run_once : (c : Closing) → close_run (close_once c) ≡ close_run c
run_once c =
    elim (once_less c) [
      | inl same ↦ ap close_run same
      | inr fewer ↦ sym (times_enough c.closer.left (suc c.closer.left) c (omega arith) (omega arith) ∙ times_enough c.closer.left (close_once c).closer.left (close_once c) (omega arith) (omega arith))
    ]

-- where one try changes nothing, the run closes nothing
pub run_done : (c : Closing) → close_once c ≡ c → close_run c ≡ c
run_done c h = times_stay c.closer.left c h

-- one that can't close closes nothing
pub run_closes : (c : Closing) → c.closer.run.closes ≡ false → close_run c ≡ c
run_closes c h = run_done c (once-none c (nearest-closes c.closer.run c.openers h))

-- with marks left, a try is a pair with the nearest
pub once-some : (c : Closing) → 0 < c.closer.left → close_once c ≡ pair_with (nearest c.closer.run c.openers) c
once-some c h = ap (λ b. cond b (pair_with (nearest c.closer.run c.openers) c) c) (lt-ltb 0 c.closer.left h)
