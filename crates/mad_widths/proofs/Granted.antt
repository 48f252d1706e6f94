-- Asks that are cut down turn by turn.
use Rattle.std.proofs.Common.{◌≡◌, ◌≢◌, ℕ, zero, suc, ◌+◌, ◌-◌, ◌≤◌, ◌<◌, inl, inr, min, Bool, true, false, cond, eqb, List, [], ◌∷◌, length, get_or, set, refl, sym, ap, ◌∙◌, arith, subst, length-set, get_or-set_same, get_or-set_other}
use Rattle.std.proofs.lemmas.Bool.{cases_eq, cond-true, cond-false, eq-eqb, ne_eqb}
use Rattle.std.specs.List.{AllByRecursion}
use Rattle.mad_widths.specs.Turns.{Turn}

-- what is left of the requests and of the excess after these turns
abbrev pub granted : List ℕ → ℕ → List Turn → List ℕ
granted requests left [] = requests
granted requests left (t ∷ ts) = granted (set requests t.column (min (get_or requests t.column 0) left)) (left - min (get_or requests t.column 0) left) ts

-- what is left of the excess after these turns
abbrev pub left_after : List ℕ → ℕ → List Turn → ℕ
left_after requests left [] = left
left_after requests left (t ∷ ts) = left_after (set requests t.column (min (get_or requests t.column 0) left)) (left - min (get_or requests t.column 0) left) ts

-- how often a column has its turn
abbrev pub times : ℕ → List Turn → ℕ
times i [] = 0
times i (t ∷ ts) = cond (eqb t.column i) 1 0 + times i ts

-- what these turns request
abbrev pub requested : List ℕ → List Turn → ℕ
requested requests [] = 0
requested requests (t ∷ ts) = get_or requests t.column 0 + requested requests ts

-- what the turns in front of a column's turn request
abbrev pub requested_in_front : List ℕ → ℕ → List Turn → ℕ
requested_in_front requests i [] = 0
requested_in_front requests i (t ∷ ts) = cond (eqb t.column i) 0 (get_or requests t.column 0 + requested_in_front requests i ts)

-- no column has two turns
abbrev pub AreApart : List Turn → Type 0
AreApart ts = (i : ℕ) → times i ts ≤ 1

-- a choice whose test holds is the first value
pub cond_yes : (b : Bool) (x y : ℕ) → b ≡ true → cond b x y ≡ x
cond_yes b x y e = cond-true b x y e

-- a choice whose test fails is the second value
pub cond_no : (b : Bool) (x y : ℕ) → b ≡ false → cond b x y ≡ y
cond_no b x y e = cond-false b x y e

times_here : (i : ℕ) (t : Turn) (ts : List Turn) → t.column ≡ i → times i (t ∷ ts) ≡ 1 + times i ts
times_here i t ts e = ap (λ n. n + times i ts) (cond_yes (eqb t.column i) 1 0 (eq-eqb t.column i e))

times_there : (i : ℕ) (t : Turn) (ts : List Turn) → t.column ≢ i → times i (t ∷ ts) ≡ times i ts
times_there i t ts ne = let e : cond (eqb t.column i) 1 0 ≡ 0 = cond_no (eqb t.column i) 1 0 (ne_eqb t.column i ne) in omega (arith, e)

-- where no column has two turns, none has two after the first turn
pub apart_tail : (t : Turn) (ts : List Turn) → AreApart (t ∷ ts) → AreApart ts
apart_tail t ts h i = omega (arith, h i)

-- a column that had its turn has no other
pub not_again : (t : Turn) (ts : List Turn) → AreApart (t ∷ ts) → times t.column ts ≡ 0
not_again t ts h = omega (arith, h t.column, times_here t.column t ts refl)

none_there : (i : ℕ) (t : Turn) (ts : List Turn) → times i (t ∷ ts) ≡ 0 → (t.column ≢ i) × (times i ts ≡ 0)
none_there i t ts h = ((λ e. absurd (omega (arith, times_here i t ts e, h))), omega (arith, h))

-- as many requests are left as there were
pub length-granted : (requests : List ℕ) (left : ℕ) (ts : List Turn) → length (granted requests left ts) ≡ length requests
length-granted requests left [] = refl
length-granted requests left (t ∷ ts) = length-granted (set requests t.column (min (get_or requests t.column 0) left)) (left - min (get_or requests t.column 0) left) ts ∙ length-set requests t.column (min (get_or requests t.column 0) left)

-- a column without a turn keeps its request
pub granted_past : (requests : List ℕ) (left : ℕ) (ts : List Turn) (i : ℕ) → times i ts ≡ 0 → get_or (granted requests left ts) i 0 ≡ get_or requests i 0
granted_past requests left [] i h = refl
granted_past requests left (t ∷ ts) i h =
    let v = min (get_or requests t.column 0) left in
    let n = none_there i t ts h in
    granted_past (set requests t.column v) (left - v) ts i n.1 ∙ get_or-set_other requests t.column i v 0 (λ e. n.0 (sym e))

-- an request that changes where no turn comes changes nothing
pub requested-set : (requests : List ℕ) (p v : ℕ) (ts : List Turn) → times p ts ≡ 0 → requested (set requests p v) ts ≡ requested requests ts
requested-set requests p v [] h = refl
requested-set requests p v (t ∷ ts) h =
    let n = none_there p t ts h in
    omega (arith, get_or-set_other requests p t.column v 0 n.0, requested-set requests p v ts n.1)

-- a request of a column without a turn changes nothing of what is requested in front of a turn
pub front-set : (requests : List ℕ) (p v i : ℕ) (ts : List Turn) → times p ts ≡ 0 → requested_in_front (set requests p v) i ts ≡ requested_in_front requests i ts
front-set requests p v i [] h = refl
front-set requests p v i (t ∷ ts) h =
    let n = none_there p t ts h in
    let e : get_or (set requests p v) t.column 0 + requested_in_front (set requests p v) i ts ≡ get_or requests t.column 0 + requested_in_front requests i ts =
    omega (arith, get_or-set_other requests p t.column v 0 n.0, front-set requests p v i ts n.1) in
    ap (cond (eqb t.column i) 0) e

-- a column gives up what it requests, but no more than the turns in front of it leave
pub granted_at_turn : (requests : List ℕ) (left : ℕ) (ts : List Turn) (i : ℕ) → AreApart ts → times i ts ≡ 1 → i < length requests
    → get_or (granted requests left ts) i 0 ≡ min (get_or requests i 0) (left - requested_in_front requests i ts)
granted_at_turn requests left [] i apart once within = absurd (omega (arith, once))
granted_at_turn requests left (t ∷ ts) i apart once within =
    let a = get_or requests t.column 0 in
    let v = min a left in
    elim (cases_eq t.column i) as (λ _. get_or (granted (set requests t.column v) (left - v) ts) i 0 ≡ min (get_or requests i 0) (left - requested_in_front requests i (t ∷ ts))) [
      | inl e ↦
          let gone : times i ts ≡ 0 = omega (arith, times_here i t ts e, once) in
          let front : requested_in_front requests i (t ∷ ts) ≡ 0 = cond_yes (eqb t.column i) 0 (a + requested_in_front requests i ts) (eq-eqb t.column i e) in
          let here : get_or (set requests t.column v) i 0 ≡ v = subst (λ j. get_or (set requests t.column v) j 0 ≡ v) e (get_or-set_same requests t.column v 0 (subst (λ j. j < length requests) (sym e) within)) in
          let same : a ≡ get_or requests i 0 = ap (λ j. get_or requests j 0) e in
          granted_past (set requests t.column v) (left - v) ts i gone ∙ here ∙ omega (arith, same, front)
      | inr ne ↦
          let later : times i ts ≡ 1 = omega (arith, times_there i t ts ne, once) in
          let front : requested_in_front requests i (t ∷ ts) ≡ a + requested_in_front requests i ts = cond_no (eqb t.column i) 0 (a + requested_in_front requests i ts) (ne_eqb t.column i ne) in
          let kept : get_or (set requests t.column v) i 0 ≡ get_or requests i 0 = get_or-set_other requests t.column i v 0 (λ e. ne (sym e)) in
          let frontkept : requested_in_front (set requests t.column v) i ts ≡ requested_in_front requests i ts = front-set requests t.column v i ts (not_again t ts apart) in
          granted_at_turn (set requests t.column v) (left - v) ts i (apart_tail t ts apart) later (subst (λ n. i < n) (sym (length-set requests t.column v)) within)
          ∙ omega (arith, kept, frontkept, front)
    ]

-- what the requests of the turns don't take of the excess is left
pub left_is : (requests : List ℕ) (left : ℕ) (ts : List Turn) → AreApart ts → left_after requests left ts ≡ left - requested requests ts
left_is requests left [] apart = omega arith
left_is requests left (t ∷ ts) apart =
    let a = get_or requests t.column 0 in
    let v = min a left in
    left_is (set requests t.column v) (left - v) ts (apart_tail t ts apart) ∙ omega (arith, requested-set requests t.column v ts (not_again t ts apart))

-- all turns have columns in the list
abbrev pub HaveColumns : ℕ → List Turn → Type 0
HaveColumns n ts = AllByRecursion (λ t. t.column < n) ts

-- together they give up what they request, but no more than the excess
pub requested-granted : (requests : List ℕ) (left : ℕ) (ts : List Turn) → AreApart ts → HaveColumns (length requests) ts → requested (granted requests left ts) ts ≡ min (requested requests ts) left
requested-granted requests left [] apart columns = omega arith
requested-granted requests left (t ∷ ts) apart columns =
    let a = get_or requests t.column 0 in
    let v = min a left in
    let once : times t.column ts ≡ 0 = not_again t ts apart in
    let first : get_or (granted (set requests t.column v) (left - v) ts) t.column 0 ≡ v =
    granted_past (set requests t.column v) (left - v) ts t.column once ∙ get_or-set_same requests t.column v 0 columns.0 in
    let rest : requested (granted (set requests t.column v) (left - v) ts) ts ≡ min (requested (set requests t.column v) ts) (left - v) =
    requested-granted (set requests t.column v) (left - v) ts (apart_tail t ts apart) (subst (λ n. HaveColumns n ts) (sym (length-set requests t.column v)) columns.1) in
    omega (arith, first, rest, requested-set requests t.column v ts once)

lowered : (requests : List ℕ) (p left i : ℕ) → get_or (set requests p (min (get_or requests p 0) left)) i 0 ≤ get_or requests i 0
lowered (a ∷ requests) zero left zero = omega arith
lowered (a ∷ requests) (suc p) left (suc i) = lowered requests p left i
lowered _ _ _ _ = omega arith

-- no request grows
pub granted-le : (requests : List ℕ) (left : ℕ) (ts : List Turn) (i : ℕ) → get_or (granted requests left ts) i 0 ≤ get_or requests i 0
granted-le requests left [] i = omega arith
granted-le requests left (t ∷ ts) i =
    let v = min (get_or requests t.column 0) left in
    let rest : get_or (granted (set requests t.column v) (left - v) ts) i 0 ≤ get_or (set requests t.column v) i 0 = granted-le (set requests t.column v) (left - v) ts i in
    let one : get_or (set requests t.column v) i 0 ≤ get_or requests i 0 = lowered requests t.column left i in
    omega (arith, rest, one)
