-- Turns in order.
use Rattle.std.proofs.Common.{◌≡◌, ◌≢◌, ℕ, zero, suc, ◌+◌, ◌≤◌, ◌<◌, inl, inr, true, false, cond, eqb, ltb, ◌&&◌, List, [], ◌∷◌, length, get_or, drop, sum, sum_by, refl, sym, ap, ◌∙◌, arith, subst, map, All, IsPermutation, drop_of_length-le}
use Rattle.std.specs.List.{AllByRecursion}
use Rattle.std.specs.declared.cmp.Reverse.{Reverse}
use Rattle.std.proofs.lemmas.Bool.{cases_eq, eq-eqb, ne_eqb, lt-ltb, le-ltb, ltb-false, eqb-false, or_parts, and_cases, or_from, and_left, and_right, and_from, or_left, or_right}
use Rattle.std.proofs.lemmas.List.{drop_more, get_or-map, length-map}
use Rattle.std.proofs.lemmas.List.Elements.{All-from_get_or, All-get_or, recursion_from_All}
use Rattle.std.proofs.lemmas.List.Sorted.{sum_by-IsPermutation, All-permutation}
use Rattle.std.proofs.lemmas.List.Sums.{sum_by-cons}
use Rattle.mad_widths.specs.Turns.{Turn, turn_of, turns_from, goes_before, requested_before, AreTurns}
use Rattle.mad_widths.proofs.Granted.{cond_yes, cond_no, times, requested, requested_in_front, AreApart, HaveColumns}

-- ---- the order

-- a turn that doesn't come before another isn't wider, and where it is as wide it isn't further left
pub not_before : (u t : Turn) → goes_before u t ≡ false → (u.width ≤ t.width) × (u.width ≡ t.width → t.column ≤ u.column)
not_before u t h =
    let parts = or_parts (ltb t.width u.width) (eqb u.width t.width && ltb u.column t.column) h in (
      ltb-false t.width u.width parts.0,
      λ e. elim (and_cases (eqb u.width t.width) (ltb u.column t.column) parts.1) [
        | inl ne ↦ absurd (eqb-false u.width t.width ne e)
        | inr l ↦ ltb-false u.column t.column l
      ],
    )

-- a turn that isn't wider, and where it is as wide isn't further left, doesn't come before
pub not_before_from : (u t : Turn) → u.width ≤ t.width → (u.width ≡ t.width → t.column ≤ u.column) → goes_before u t ≡ false
not_before_from u t w p =
    or_from (ltb t.width u.width) (eqb u.width t.width && ltb u.column t.column) (le-ltb t.width u.width w)
    (elim (cases_eq u.width t.width) [
      | inl e ↦ and_right (eqb u.width t.width) (ltb u.column t.column) (le-ltb u.column t.column (p e))
      | inr ne ↦ and_left (eqb u.width t.width) (ltb u.column t.column) (ne_eqb u.width t.width ne)
    ])

-- a turn that doesn't come before a second, which doesn't come before a third, doesn't come before the third
pub not_before_trans : (v u t : Turn) → goes_before v u ≡ false → goes_before u t ≡ false → goes_before v t ≡ false
not_before_trans v u t h k =
    let a = not_before v u h in
    let b = not_before u t k in
    not_before_from v t (omega (arith, a.0, b.0)) (λ e. let f : v.width ≡ u.width = omega (arith, a.0, b.0, e) in let g : u.width ≡ t.width = omega (arith, f, e) in omega (arith, a.1 f, b.1 g))

-- of two turns at different columns one comes before the other
pub before_other : (t x : Turn) → goes_before x t ≡ false → t.column ≢ x.column → goes_before t x ≡ true
before_other t x h ne =
    let a = not_before x t h in
    elim (cases_eq x.width t.width) [
      | inl e ↦
          let p : t.column < x.column = omega (arith, a.1 e, ne) in
          or_right (ltb x.width t.width) (eqb t.width x.width && ltb t.column x.column) (and_from (eqb t.width x.width) (ltb t.column x.column) (eq-eqb t.width x.width (sym e)) (lt-ltb t.column x.column p))
      | inr nw ↦
          let l : x.width < t.width = omega (arith, a.0, nw) in
          or_left (ltb x.width t.width) (eqb t.width x.width && ltb t.column x.column) (lt-ltb x.width t.width l)
    ]

-- no turn comes before one in front of it
abbrev pub Falls : List Turn → Type 0
Falls [] = Unit {0}
Falls (t ∷ ts) = AllByRecursion (λ u. goes_before u t ≡ false) ts × Falls ts

-- turns that don't come before one don't come before any that this one doesn't come before
pub all_not_before : (u t : Turn) (ts : List Turn) → AllByRecursion (λ v. goes_before v u ≡ false) ts → goes_before u t ≡ false → AllByRecursion (λ v. goes_before v t ≡ false) ts
all_not_before u t [] h k = tt
all_not_before u t (v ∷ ts) h k = (not_before_trans v u t h.0 k, all_not_before u t ts h.1 k)

falls : (ts : List Turn) → ((k : ℕ) (d : Turn) → suc k < length ts → goes_before (get_or ts (suc k) d) (get_or ts k d) ≡ false) → Falls ts
falls [] h = tt
falls (t ∷ []) h = (tt, tt)
falls (t ∷ u ∷ ts) h =
    let rest : Falls (u ∷ ts) = falls (u ∷ ts) (λ k d l. h (suc k) d (omega (arith, l))) in
    let first : goes_before u t ≡ false = h zero t (omega arith) in
    ((first, all_not_before u t ts rest.0 first), rest)

-- ---- what comes before a turn

-- what those of the turns request that come before x
abbrev pub before : List ℕ → Turn → List Turn → ℕ
before requests x [] = 0
before requests x (t ∷ ts) = cond (goes_before t x) (get_or requests t.column 0) 0 + before requests x ts

before_none : (requests : List ℕ) (x : Turn) (ts : List Turn) → AllByRecursion (λ t. goes_before t x ≡ false) ts → before requests x ts ≡ 0
before_none requests x [] h = refl
before_none requests x (t ∷ ts) h = omega (arith, cond_no (goes_before t x) (get_or requests t.column 0) 0 h.0, before_none requests x ts h.1)

-- each turn has its column's width
abbrev pub HaveWidths : List ℕ → List Turn → Type 0
HaveWidths ws ts = AllByRecursion (λ t. t.width ≡ get_or ws t.column 0) ts

-- the turn of column i
abbrev pub turn_at : List ℕ → ℕ → Turn
turn_at ws i = record { width = get_or ws i 0; column = i }

found : (P : ℕ → ℕ → Type 0) (ws : List ℕ) (i : ℕ) (ts : List Turn) → times i ts ≡ 1 → HaveWidths ws ts → AllByRecursion (λ u. P u.width u.column) ts → P (get_or ws i 0) i
found P ws i [] once widths all = absurd (omega (arith, once))
found P ws i (t ∷ ts) once widths all =
    elim (cases_eq t.column i) [
      | inl e ↦ subst (λ j. P (get_or ws j 0) j) e (subst (λ w. P w t.column) widths.0 all.0)
      | inr ne ↦
          let none : cond (eqb t.column i) 1 0 ≡ 0 = cond_no (eqb t.column i) 1 0 (ne_eqb t.column i ne) in
          found P ws i ts (omega (arith, none, once)) widths.1 all.1
    ]

-- where turns are in order, those in front of a column's turn are those that come before it, and request as much
pub front_is : (requests ws : List ℕ) (i : ℕ) (ts : List Turn) → Falls ts → times i ts ≡ 1 → HaveWidths ws ts → requested_in_front requests i ts ≡ before requests (turn_at ws i) ts
front_is requests ws i [] fall once widths = refl
front_is requests ws i (t ∷ ts) fall once widths =
    elim (cases_eq t.column i) as (λ _. requested_in_front requests i (t ∷ ts) ≡ before requests (turn_at ws i) (t ∷ ts)) [
      | inl e ↦
          let same : t.width ≡ get_or ws i 0 = widths.0 ∙ ap (λ j. get_or ws j 0) e in
          let itself : goes_before t (turn_at ws i) ≡ false = not_before_from t (turn_at ws i) (omega (arith, same)) (λ _. omega (arith, e)) in
          let none : before requests (turn_at ws i) (t ∷ ts) ≡ 0 = before_none requests (turn_at ws i) (t ∷ ts) (itself, all_not_before t (turn_at ws i) ts fall.0 itself) in
          cond_yes (eqb t.column i) 0 (get_or requests t.column 0 + requested_in_front requests i ts) (eq-eqb t.column i e) ∙ sym none
      | inr ne ↦
          let none : cond (eqb t.column i) 1 0 ≡ 0 = cond_no (eqb t.column i) 1 0 (ne_eqb t.column i ne) in
          let later : times i ts ≡ 1 = omega (arith, none, once) in
          let late : goes_before (turn_at ws i) t ≡ false = found (λ w p. goes_before (record { width = w; column = p }) t ≡ false) ws i ts later widths.1 fall.0 in
          let first : cond (goes_before t (turn_at ws i)) (get_or requests t.column 0) 0 ≡ get_or requests t.column 0 = cond_yes (goes_before t (turn_at ws i)) (get_or requests t.column 0) 0 (before_other t (turn_at ws i) late ne) in
          let rest : requested_in_front requests i ts ≡ before requests (turn_at ws i) ts = front_is requests ws i ts fall.1 later widths.1 in
          cond_no (eqb t.column i) 0 (get_or requests t.column 0 + requested_in_front requests i ts) (ne_eqb t.column i ne) ∙ omega (arith, first, rest)
    ]

-- ---- sums over turns, in any order

times_sum : (i : ℕ) (ts : List Turn) → times i ts ≡ sum_by (λ t. cond (eqb t.column i) 1 0) ts
times_sum i [] = refl
times_sum i (t ∷ ts) = omega (arith, times_sum i ts, sum_by-cons (λ (t : Turn). cond (eqb t.column i) 1 0) t ts)

requested_sum : (requests : List ℕ) (ts : List Turn) → requested requests ts ≡ sum_by (λ t. get_or requests t.column 0) ts
requested_sum requests [] = refl
requested_sum requests (t ∷ ts) = omega (arith, requested_sum requests ts, sum_by-cons (λ (t : Turn). get_or requests t.column 0) t ts)

before_sum : (requests : List ℕ) (x : Turn) (ts : List Turn) → before requests x ts ≡ requested_before requests ts x
before_sum requests x [] = refl
before_sum requests x (t ∷ ts) = omega (arith, before_sum requests x ts, sum_by-cons (λ (t : Turn). cond (goes_before t x) (get_or requests t.column 0) 0) t ts)

times_permuted : (i : ℕ) (ts us : List Turn) → IsPermutation ts us → times i us ≡ times i ts
times_permuted i ts us h = times_sum i us ∙ sum_by-IsPermutation (λ t. cond (eqb t.column i) 1 0) ts us h ∙ sym (times_sum i ts)

-- turns request the same in any order
pub requested_permuted : (requests : List ℕ) (ts us : List Turn) → IsPermutation ts us → requested requests us ≡ requested requests ts
requested_permuted requests ts us h = requested_sum requests us ∙ sum_by-IsPermutation (λ t. get_or requests t.column 0) ts us h ∙ sym (requested_sum requests ts)

-- as much is requested before a turn in any order
pub before_permuted : (requests : List ℕ) (x : Turn) (ts us : List Turn) → IsPermutation ts us → before requests x us ≡ requested_before requests ts x
before_permuted requests x ts us h = before_sum requests x us ∙ sum_by-IsPermutation (λ t. cond (goes_before t x) (get_or requests t.column 0) 0) ts us h

-- ---- the turns of all columns

-- each column has a turn
pub length-turns_from : (p : ℕ) (ws : List ℕ) → length (turns_from p ws) ≡ length ws
length-turns_from p [] = refl
length-turns_from p (w ∷ ws) = ap suc (length-turns_from (p + 1) ws)

-- the turn at a place is that of the column there
pub get_or-turns_from : (p : ℕ) (ws : List ℕ) (k : ℕ) (d : Turn) → k < length ws → get_or (turns_from p ws) k d ≡ record { width = get_or ws k 0; column = p + k }
get_or-turns_from p [] k d l = absurd (omega (arith, l))
get_or-turns_from p (w ∷ ws) zero d l =
    let e : p ≡ p + zero = omega arith in
    let R : ℕ → Type 0 = λ n. get_or (turns_from p (w ∷ ws)) zero d ≡ record { width = w; column = n } in
    subst R e refl
get_or-turns_from p (w ∷ ws) (suc k) d l =
    let e : p + 1 + k ≡ p + suc k = omega arith in
    let R : ℕ → Type 0 = λ n. get_or (turns_from p (w ∷ ws)) (suc k) d ≡ record { width = get_or ws k 0; column = n } in
    subst R e (get_or-turns_from (p + 1) ws k d (omega (arith, l)))

times_below : (i p : ℕ) (ws : List ℕ) → i < p → times i (turns_from p ws) ≡ 0
times_below i p [] l = refl
times_below i p (w ∷ ws) l =
    let ne : p ≢ i = λ e. absurd (omega (arith, e, l)) in
    omega (arith, cond_no (eqb p i) 1 0 (ne_eqb p i ne), times_below i (p + 1) ws (omega (arith, l)))

times_most : (i p : ℕ) (ws : List ℕ) → times i (turns_from p ws) ≤ 1
times_most i p [] = omega arith
times_most i p (w ∷ ws) =
    elim (cases_eq p i) [
      | inl e ↦ omega (arith, cond_yes (eqb p i) 1 0 (eq-eqb p i e), times_below i (p + 1) ws (omega (arith, e)))
      | inr ne ↦ omega (arith, cond_no (eqb p i) 1 0 (ne_eqb p i ne), times_most i (p + 1) ws)
    ]

times_once : (i p : ℕ) (ws : List ℕ) → p ≤ i → i < p + length ws → times i (turns_from p ws) ≡ 1
times_once i p [] a b = absurd (omega (arith, a, b))
times_once i p (w ∷ ws) a b =
    elim (cases_eq p i) [
      | inl e ↦ omega (arith, cond_yes (eqb p i) 1 0 (eq-eqb p i e), times_below i (p + 1) ws (omega (arith, e)))
      | inr ne ↦ omega (arith, cond_no (eqb p i) 1 0 (ne_eqb p i ne), times_once i (p + 1) ws (omega (arith, a, ne)) (omega (arith, b)))
    ]

-- the turns of the columns from one on request what these do
pub requested_all : (xs : List ℕ) (p : ℕ) (ws : List ℕ) → p + length ws ≡ length xs → requested xs (turns_from p ws) ≡ sum (drop p xs)
requested_all xs p [] e = let none : drop p xs ≡ [] = drop_of_length-le xs (omega (arith, e)) in sym (ap sum none)
requested_all xs p (w ∷ ws) e =
    let l : p < length xs = omega (arith, e) in
    let at : drop p xs ≡ get_or xs p 0 ∷ drop (p + 1) xs = drop_more xs p 0 l in
    let one : sum (drop p xs) ≡ get_or xs p 0 + sum (drop (p + 1) xs) = ap sum at ∙ sum_by-cons (λ x. x) (get_or xs p 0) (drop (p + 1) xs) in
    omega (arith, one, requested_all xs (p + 1) ws (omega (arith, e)))

all_widths : (ws : List ℕ) → All (λ t. t.width ≡ get_or ws t.column 0) (turns_from 0 ws)
all_widths ws = All-from_get_or (λ t. t.width ≡ get_or ws t.column 0) (turns_from 0 ws) (record { width = 0; column = 0 }) (λ i l.
    let P : Turn → Type 0 = λ t. t.width ≡ get_or ws t.column 0 in
    let within : i < length ws = subst (λ n. i < n) (length-turns_from 0 ws) l in
    let e : i ≡ 0 + i = omega arith in
    subst P (sym (get_or-turns_from 0 ws i (record { width = 0; column = 0 }) within)) (ap (λ j. get_or ws j 0) e))

all_columns : (ws : List ℕ) → All (λ t. t.column < length ws) (turns_from 0 ws)
all_columns ws = All-from_get_or (λ t. t.column < length ws) (turns_from 0 ws) (record { width = 0; column = 0 }) (λ i l.
    let P : Turn → Type 0 = λ t. t.column < length ws in
    let within : i < length ws = subst (λ n. i < n) (length-turns_from 0 ws) l in
    let lower : 0 + i < length ws = omega (arith, within) in
    subst P (sym (get_or-turns_from 0 ws i (record { width = 0; column = 0 }) within)) lower)

-- what the columns' turns in order are
pub turns_apart : (ws : List ℕ) (ts : List Turn) → AreTurns ws ts → AreApart ts
turns_apart ws ts h i = omega (arith, times_permuted i (turns_from 0 ws) ts h.all, times_most i 0 ws)

-- each column has its turn once
pub turns_once : (ws : List ℕ) (ts : List Turn) (i : ℕ) → AreTurns ws ts → i < length ws → times i ts ≡ 1
turns_once ws ts i h l = times_permuted i (turns_from 0 ws) ts h.all ∙ times_once i 0 ws (omega arith) (omega (arith, l))

-- each turn has its column's width
pub turns_widths : (ws : List ℕ) (ts : List Turn) → AreTurns ws ts → HaveWidths ws ts
turns_widths ws ts h = recursion_from_All (λ t. t.width ≡ get_or ws t.column 0) ts (All-permutation (λ t. t.width ≡ get_or ws t.column 0) (turns_from 0 ws) ts h.all (all_widths ws))

-- each turn has a column of the table
pub turns_columns : (ws : List ℕ) (ts : List Turn) → AreTurns ws ts → HaveColumns (length ws) ts
turns_columns ws ts h = recursion_from_All (λ t. t.column < length ws) ts (All-permutation (λ t. t.column < length ws) (turns_from 0 ws) ts h.all (all_columns ws))

-- no turn comes before one in front of it
pub turns_fall : (ws : List ℕ) (ts : List Turn) → AreTurns ws ts → Falls ts
turns_fall ws ts h = falls ts (λ k d l.
    let e : k + 1 ≡ suc k = omega arith in
    subst (λ n. goes_before (get_or ts n d) (get_or ts k d) ≡ false) e (h.ordered k d (omega (arith, l))))

-- the turns have columns of the table as the program sorts them too
pub turns_within : (ws : List ℕ) (us : List (Reverse ℕ × ℕ)) (n : ℕ) → AreTurns ws (map turn_of us) → length ws ≡ n → All (λ t. t.1 < n) us
turns_within ws us n h e = All-from_get_or (λ t. t.1 < n) us (record { 0 = 0 }, 0) (λ i l.
    let d : Reverse ℕ × ℕ = (record { 0 = 0 }, 0) in
    let all : All (λ t. t.column < length ws) (map turn_of us) = All-permutation (λ t. t.column < length ws) (turns_from 0 ws) (map turn_of us) h.all (all_columns ws) in
    let within : i < length (map turn_of us) = subst (λ n. i < n) (sym (length-map us turn_of)) l in
    let here : (get_or (map turn_of us) i (turn_of d)).column < length ws = All-get_or (λ t. t.column < length ws) (map turn_of us) i (turn_of d) within all in
    let same : get_or (map turn_of us) i (turn_of d) ≡ turn_of (get_or us i d) = get_or-map turn_of us i d (turn_of d) l in
    subst (λ m. (get_or us i d).1 < m) e (subst (λ t. t.column < length ws) same here))
