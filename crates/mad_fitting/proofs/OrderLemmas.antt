-- Which part is cut last, and what the parts before it gain.
use Rattle.std.proofs.Common.{◌≡◌, ℕ, zero, suc, ◌+◌, ◌-◌, ◌<◌, ◌≤◌, ◌⊎◌, inl, inr, List, [], ◌∷◌, length, get_or, drop, refl, sym, ap, arith, subst}
use Rattle.std.specs.Prelude.{if◌then◌else◌}
use Rattle.std.specs.List.{AllByRecursion}
use Rattle.std.proofs.lemmas.Bool.{cases_lt}
use Rattle.std.proofs.lemmas.Bool.Decides.{nat_tests}
use Rattle.std.proofs.lemmas.List.{at_drop_all, at_drop_more, drop_all}
use Rattle.mad_fitting.specs.Parts.{gained, is_before, weight}
use Rattle.mad_fitting.specs.declared.gains.Gain.{Gain}

-- what a part counts for among those before others
abbrev pub counted : ℕ → ℕ → ℕ → ℕ → Gain → ℕ
counted excess columns least number gain = if is_before columns least number gain then weight excess gain else 0

-- the second comes no later
abbrev pub IsNoLater : ℕ → ℕ → ℕ → ℕ → Type 0
IsNoLater c m d k = (d < c) ⊎ ((d ≡ c) × (k ≤ m))

-- a part that counts before an earlier turn counts as much before a later one
pub counted_less : (e c m d k n : ℕ) (g : Gain) → IsNoLater c m d k → counted e c m n g ≤ counted e d k n g
counted_less e c m d k n g (inl wider) = grind (arith, nat_tests)
counted_less e c m d k n g (inr (same, behind)) = grind (arith, nat_tests)

-- fewer come before what comes earlier
pub gained_less : (e c m d k n : ℕ) (gs : List Gain) → IsNoLater c m d k → gained e c m n gs ≤ gained e d k n gs
gained_less e c m d k n [] h = omega arith
gained_less e c m d k n (g ∷ gs) h = omega (arith, counted_less e c m d k n g h, gained_less e c m d k (n + 1) gs h)

not_before : (e n m : ℕ) (g : Gain) → n < m → counted e g.columns m n g ≡ 0
not_before e n m g l = grind (arith, nat_tests)

-- a wider part counts for its weight, and so does one as wide whose number isn't less
pub is_counted : (e c m n : ℕ) (g : Gain) → (c < g.columns) ⊎ ((c ≡ g.columns) × (m ≤ n)) → counted e c m n g ≡ weight e g
is_counted e c m n g (inl wider) = grind (arith, nat_tests)
is_counted e c m n g (inr (same, behind)) = grind (arith, nat_tests)

-- a part with those before it, among those before what comes later
pub gained_with : (e c m n i k : ℕ) (gs back : List Gain) (g : Gain) → drop i gs ≡ g ∷ back → k ≡ n + i + 1 → (c < g.columns) ⊎ ((c ≡ g.columns) × (m + 1 ≤ k))
    → gained e g.columns k n gs + weight e g ≤ gained e c m n gs
gained_with e c m n zero k [] back g is number h = absurd (cc)
gained_with e c m n (suc i) k [] back g is number h = absurd (cc)
gained_with e c m n zero k (x ∷ gs) back g is number h =
    let own : x ≡ g = cc in
    let at : (c < g.columns) ⊎ ((c ≡ g.columns) × (m ≤ n)) = elim h as (λ _. (c < g.columns) ⊎ ((c ≡ g.columns) × (m ≤ n))) [ inl wider ↦ inl wider | inr both ↦ inr (both.0, omega (arith, both.1, number)) ] in
    let later : IsNoLater g.columns k c m = elim h as (λ _. IsNoLater g.columns k c m) [ inl wider ↦ inl wider | inr both ↦ inr (both.0, omega (arith, both.1)) ] in
    omega (
      arith,
      ap (counted e g.columns k n) own,
      not_before e n k g (omega (arith, number)),
      ap (counted e c m n) own,
      is_counted e c m n g at,
      gained_less e g.columns k c m (n + 1) gs later,
    )
gained_with e c m n (suc i) k (x ∷ gs) back g is number h =
    let later : IsNoLater g.columns k c m = elim h as (λ _. IsNoLater g.columns k c m) [ inl wider ↦ inl wider | inr both ↦ inr (both.0, omega (arith, both.1)) ] in
    omega (arith, counted_less e g.columns k c m n x later, gained_with e c m (n + 1) i k gs back g is (omega (arith, number)) h)

-- a part weighs what it gains at least
pub some_weight : (e : ℕ) (g : Gain) → g.gained ≤ weight e g
some_weight e g = grind (arith, nat_tests)

-- ---- how the last part is found

not_counted : (e c m n : ℕ) (g : Gain) → g.columns ≤ c → n < m → counted e c m n g ≡ 0
not_counted e c m n g narrow far = grind (arith, nat_tests)

wider_one : (e c d m n : ℕ) (g : Gain) → d ≡ c + 1 → n < m → counted e c m n g ≤ counted e d 0 n g
wider_one e c d m n g next far = elim (cases_lt c g.columns) as (λ _. counted e c m n g ≤ counted e d 0 n g) [
  | inl wider ↦ omega (
    arith,
    is_counted e c m n g (inl wider),
    is_counted e d 0 n g (elim (cases_lt d g.columns) as (λ _. (d < g.columns) ⊎ ((d ≡ g.columns) × (0 ≤ n))) [ inl more ↦ inl more | inr not_more ↦ inr (omega (arith, not_more, next, wider), omega arith) ]),
  )
  | inr narrow ↦ omega (arith, not_counted e c m n g narrow far)
]

-- those wider, where none is as far behind
pub only_wider : (e c d m n : ℕ) (gs : List Gain) → d ≡ c + 1 → n + length gs ≤ m → gained e c m n gs ≤ gained e d 0 n gs
only_wider e c d m n [] next far = omega arith
only_wider e c d m n (g ∷ gs) next far = omega (arith, wider_one e c d m n g next (omega (arith, far)), only_wider e c d m (n + 1) gs next (omega (arith, far)))

-- none is wider than the widest
pub none_wider : (e c m n : ℕ) (gs : List Gain) → AllByRecursion (λ g. g.columns ≤ c) gs → n + length gs ≤ m → gained e c m n gs ≡ 0
none_wider e c m n [] all far = refl
none_wider e c m n (g ∷ gs) all far = omega (arith, not_counted e c m n g all.0 (omega (arith, far)), none_wider e c m (n + 1) gs all.1 (omega (arith, far)))

-- there is a part where those of just this width are needed to gain enough
pub some_number : (e c : ℕ) (gs : List Gain) → e ≤ gained e c 0 0 gs → gained e c (length gs) 0 gs < e → 0 < length gs
some_number e c [] enough few = absurd (omega (arith, enough, few))
some_number e c (g ∷ gs) enough few = omega arith

-- the wider half is where enough is gained
pub wider_half : (e c d m : ℕ) (gs : List Gain) → d ≡ c - 1 → 0 < c → m ≡ length gs → gained e c 0 0 gs < e → gained e d m 0 gs < e
wider_half e c d m gs before some all few = omega (arith, few, only_wider e d c m 0 gs (omega (arith, before, some)) (omega (arith, all)))

-- ---- passes over the parts

-- one part more has been taken off what is left, if it counts
pub left_more : (e c m i left new total : ℕ) (gs : List Gain) (g : Gain) → i < length gs → left - gained e c m i (drop i gs) ≡ total → new ≡ left - counted e c m i (get_or gs i g) → new - gained e c m (i + 1) (drop (i + 1) gs) ≡ total
left_more e c m i left new total gs g l h is = omega (arith, h, is, at_drop_more (gained e c m i) gs i g l)

-- after the last part what is left is the total
pub left_all : (e c m i left total : ℕ) (gs : List Gain) → length gs ≤ i → left - gained e c m i (drop i gs) ≡ total → left ≡ total
left_all e c m i left total gs l h = omega (arith, h, at_drop_all (gained e c m i) gs i l)

-- whatever is no less than this and the columns of those to come is no less than all
abbrev pub AreMost : ℕ → List Gain → List Gain → Type 0
AreMost most rest gs = (w : ℕ) → most ≤ w → AllByRecursion (λ g. g.columns ≤ w) rest → AllByRecursion (λ g. g.columns ≤ w) gs

-- one part more is no wider than the most
pub most_more : (most new i : ℕ) (gs : List Gain) (g : Gain) → i < length gs → most ≤ new → (get_or gs i g).columns ≤ new → AreMost most (drop i gs) gs → AreMost new (drop (i + 1) gs) gs
most_more most new i gs g l less own h = λ w more all.
    h w (omega (arith, more, less)) (subst (AllByRecursion (λ x. x.columns ≤ w)) (sym (at_drop_more (λ r. r) gs i g l)) (omega (arith, own, more), all))

-- after the last part none is wider than the most
pub most_all : (most i : ℕ) (gs : List Gain) → length gs ≤ i → AreMost most (drop i gs) gs → AllByRecursion (λ g. g.columns ≤ most) gs
most_all most i gs l h = h most (omega arith) (subst (AllByRecursion (λ x. x.columns ≤ most)) (sym (drop_all i gs l)) tt)
