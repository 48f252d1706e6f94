-- Nothing that matches is left.
use Rattle.std.proofs.Common.{◌≡◌, ◌≢◌, ℕ, ◌+◌, ◌<◌, ◌≤◌, ◌⊎◌, inl, inr, Bool, true, false, cond, leb, eqb, List, [], ◌∷◌, ◌++◌, length, refl, ap, sym, subst, ◌∙◌, eq-eqb, arith}
use Rattle.std.specs.Prelude.{◌&&◌, ◌||◌}
use Rattle.std.specs.List.{All, Any}
use Rattle.std.proofs.lemmas.Bool.{ne_eqb, eqb-true, and_parts}
use Rattle.std.proofs.lemmas.Bool.Decides.{nat_tests}
use Rattle.std.proofs.lemmas.List.{get_or_append_left, length_push}
use Rattle.std.proofs.lemmas.List.Sums.{sum_by_push, sum_by-cons}
use Rattle.std.proofs.lemmas.List.Elements.{All-head, All-tail}
use Rattle.markdown_emphasis.specs.declared.runs.Sign.{Sign}
use Rattle.markdown_emphasis.specs.declared.runs.Sign.TheVariants.{Star, Underscore, Tilde}
use Rattle.markdown_emphasis.specs.declared.runs.Run.{Run}
use Rattle.markdown_emphasis.specs.declared.runs.Mark.{Mark}
use Rattle.markdown_emphasis.specs.declared.runs.Pair.{Pair}
use Rattle.markdown_emphasis.specs.Matching.{is_same_sign, lengths_fit, fits, nearest, taken_by}
use Rattle.markdown_emphasis.specs.Pairs.{IsWithin}
use Rattle.markdown_emphasis.specs.Flags.{is_tilde}
use Rattle.markdown_emphasis.specs.Left.{run_at, takes, taken_at, IsOverUntil}
use Rattle.markdown_emphasis.proofs.KeyLemmas.{nearest-none}
use Rattle.markdown_emphasis.proofs.PairLemmas.{AreOpeners, openers_nearest}

-- ---- how many marks are taken

-- one more pair takes its marks besides those that are taken
pub taken_push : (pairs : List Pair) (q : Pair) (i : ℕ) → taken_at (pairs ++ q ∷ []) i ≡ taken_at pairs i + takes i q
taken_push pairs q i = sum_by_push (takes i) pairs q

-- a pair takes its marks of its opener
pub takes_opener : (q : Pair) → takes q.opener q ≡ q.count
takes_opener q = ap (λ b. cond (b || eqb q.closer q.opener) q.count 0) (eq-eqb q.opener q.opener refl)

or_true : (b : Bool) → (b || true) ≡ true
or_true true = refl
or_true false = refl

-- it takes as many of its closer
pub takes_closer : (q : Pair) → takes q.closer q ≡ q.count
takes_closer q = ap (λ b. cond (eqb q.opener q.closer || b) q.count 0) (eq-eqb q.closer q.closer refl) ∙ ap (λ b. cond b q.count 0) (or_true (eqb q.opener q.closer))

-- it takes none of another run
pub takes_other : (q : Pair) (i : ℕ) → q.opener ≢ i → q.closer ≢ i → takes i q ≡ 0
takes_other q i before after = ap (λ b. cond (b || eqb q.closer i) q.count 0) (ne_eqb q.opener i before) ∙ ap (λ b. cond b q.count 0) (ne_eqb q.closer i after)

-- none of a run that comes after the pairs
pub taken_fresh : (k : ℕ) (pairs : List Pair) → All (IsWithin k) pairs → taken_at pairs k ≡ 0
taken_fresh k [] within = refl
taken_fresh k (p ∷ ps) within =
    let here = All-head (IsWithin k) p ps within in
    let before : p.opener ≢ k = λ e. absurd (omega (arith, here.ordered, here.inside, e)) in
    let after : p.closer ≢ k = λ e. absurd (omega (arith, here.inside, e)) in
    sum_by-cons (takes k) p ps ∙ omega (arith, takes_other p k before after, taken_fresh k ps (All-tail (IsWithin k) p ps within))

-- ---- how many a pair takes

-- if the run is one of tildes, none of its marks is taken
abbrev pub IsWhole : Mark → Type 0
IsWhole mark = is_tilde mark.run.sign ≡ true → mark.left ≡ mark.run.count

some_by : (o c : ℕ) → 0 < o → 0 < c → (cond (leb 2 o && leb 2 c) 2 1 ≤ o) × (cond (leb 2 o && leb 2 c) 2 1 ≤ c)
some_by o c h k = (grind (arith, nat_tests), grind (arith, nat_tests))

same_by : (s t : Sign) → is_same_sign s t ≡ true → s ≡ t
same_by Star Star h = refl
same_by Underscore Underscore h = refl
same_by Tilde Tilde h = refl
same_by Star Underscore h = absurd (cc)
same_by Star Tilde h = absurd (cc)
same_by Underscore Star h = absurd (cc)
same_by Underscore Tilde h = absurd (cc)
same_by Tilde Star h = absurd (cc)
same_by Tilde Underscore h = absurd (cc)

-- what two runs need that fit: the same sign, one that opens, one that closes, and lengths that allow it
pub record Fit (o c : Run) : Type 0 where
  pub sign : o.sign ≡ c.sign
  pub opens : o.opens ≡ true
  pub closes : c.closes ≡ true
  pub lengths : lengths_fit c.sign o c ≡ true

-- runs that fit have all that
pub fit : (o c : Run) → fits o c ≡ true → Fit o c
fit o c h =
    let a = and_parts (is_same_sign o.sign c.sign && o.opens && c.closes) (lengths_fit c.sign o c) h in
    let b = and_parts (is_same_sign o.sign c.sign && o.opens) c.closes a.0 in
    let d = and_parts (is_same_sign o.sign c.sign) o.opens b.0 in
    record { sign = same_by o.sign c.sign d.0; opens = d.1; closes = b.1; lengths = a.1 }

-- a pair takes no more marks of a run than are left
pub taken_small : (s : Sign) (o c : Mark) → lengths_fit s o.run c.run ≡ true → 0 < o.left → 0 < c.left
    → (is_tilde s ≡ true → o.left ≡ o.run.count) → (is_tilde s ≡ true → c.left ≡ c.run.count) → (taken_by s o.left c.left ≤ o.left) × (taken_by s o.left c.left ≤ c.left)
taken_small Star o c h some more whole all = some_by o.left c.left some more
taken_small Underscore o c h some more whole all = some_by o.left c.left some more
taken_small Tilde o c h some more whole all =
    let same : o.run.count ≡ c.run.count = eqb-true o.run.count c.run.count (and_parts (eqb o.run.count c.run.count) (leb c.run.count 2) h).0 in
    (omega (arith, same, whole refl, all refl), omega arith)

-- ---- what is known of the stack

-- an opener of these runs, and what the pairs leave of it
pub record IsEntry (past : List Run) (pairs : List Pair) (o : Mark) : Type 0 where
  pub run_is : o.run ≡ run_at past o.place
  pub sum : o.left + taken_at pairs o.place ≡ o.run.count
  pub some : 0 < o.left
  pub whole : IsWhole o

-- each of these openers is so
abbrev pub AreEntries : List Run → List Pair → List Mark → Type 0
AreEntries past pairs [] = Unit {0}
AreEntries past pairs (o ∷ os) = IsEntry past pairs o × AreEntries past pairs os

-- the run of this index is among these openers
abbrev pub OnStack : ℕ → List Mark → Type 0
OnStack i [] = ⊥
OnStack i (o ∷ os) = (o.place ≡ i) ⊎ OnStack i os

entries_from : (t : Bool) (past : List Run) (pairs : List Pair) (c : Run) (o : Mark) (os : List Mark) → AreEntries past pairs (o ∷ os) → AreEntries past pairs (nearest c os)
    → AreEntries past pairs (cond t (o ∷ os) (nearest c os))
entries_from true past pairs c o os here after = here
entries_from false past pairs c o os here after = after

-- the openers from the nearest that fits on are so, too
pub entries_nearest : (past : List Run) (pairs : List Pair) (c : Run) (os : List Mark) → AreEntries past pairs os → AreEntries past pairs (nearest c os)
entries_nearest past pairs c [] are = tt
entries_nearest past pairs c (o ∷ os) are = entries_from (fits o.run c) past pairs c o os are (entries_nearest past pairs c os are.1)

-- a pair of later runs takes nothing of them
pub entries_push : (past : List Run) (pairs : List Pair) (q : Pair) (b : ℕ) (os : List Mark) → b ≤ q.opener → q.opener < q.closer → AreOpeners b pairs os → AreEntries past pairs os → AreEntries past (pairs ++ q ∷ []) os
entries_push past pairs q b [] h k before are = tt
entries_push past pairs q b (o ∷ os) h k before are =
    let none : takes o.place q ≡ 0 = takes_other q o.place (λ e. absurd (omega (arith, before.0, e))) (λ e. absurd (omega (arith, before.0, e))) in (
      record { run_is = are.0.run_is; sum = omega (arith, taken_push pairs q o.place, none, are.0.sum); some = are.0.some; whole = are.0.whole },
      entries_push past pairs q o.place os (omega (arith, before.0)) k before.2 are.1,
    )

-- what is on the stack lies before the nearest that fits, is it, or lies above it
split_by : (t : Bool) (place : ℕ) (pairs : List Pair) (c : Run) (o f : Mark) (os fs : List Mark) (i : ℕ) → cond t (o ∷ os) (nearest c os) ≡ f ∷ fs → AreOpeners place pairs (o ∷ os) → OnStack i (o ∷ os)
    → ((b : ℕ) → AreOpeners b pairs os → nearest c os ≡ f ∷ fs → f.place < b) → (OnStack i os → nearest c os ≡ f ∷ fs → OnStack i (f ∷ fs) ⊎ (f.place < i))
    → OnStack i (f ∷ fs) ⊎ (f.place < i)
split_by true place pairs c o f os fs i h are on low ih = inl (subst (λ (l : List Mark). OnStack i l) h on)
split_by false place pairs c o f os fs i h are (inl same) low ih = inr (let k : f.place < o.place = low o.place are.2 h in omega arith)
split_by false place pairs c o f os fs i h are (inr on) low ih = ih on h

found_low : (place : ℕ) (pairs : List Pair) (c : Run) (f : Mark) (os fs : List Mark) → AreOpeners place pairs os → nearest c os ≡ f ∷ fs → f.place < place
found_low place pairs c f os fs are h =
    let found : AreOpeners place pairs (f ∷ fs) = subst (λ (l : List Mark). AreOpeners place pairs l) h (openers_nearest place pairs c os are) in
    found.0

-- an opener is among those from the nearest that fits on, or its run comes after that one's
pub stack_split : (place : ℕ) (pairs : List Pair) (c : Run) (f : Mark) (os fs : List Mark) (i : ℕ) → nearest c os ≡ f ∷ fs → AreOpeners place pairs os → OnStack i os → OnStack i (f ∷ fs) ⊎ (f.place < i)
stack_split place pairs c f [] fs i h are on = absurd on
stack_split place pairs c f (o ∷ os) fs i h are on =
    split_by (fits o.run c) place pairs c o f os fs i h are on
    (λ b below e. found_low b pairs c f os fs below e)
    (λ later e. stack_split o.place pairs c f os fs i e are.2 later)

-- where none fits, none on the stack does
pub none_fits : (past : List Run) (pairs : List Pair) (c : Run) (os : List Mark) (i : ℕ) → nearest c os ≡ [] → AreEntries past pairs os → OnStack i os → fits (run_at past i) c ≡ false
none_fits past pairs c [] i h are on = absurd on
none_fits past pairs c (o ∷ os) i h are (inl same) =
    ap (λ r. fits r c) (ap (run_at past) (sym same) ∙ sym are.0.run_is) ∙ (nearest-none c o os h).0
none_fits past pairs c (o ∷ os) i h are (inr on) = none_fits past pairs c os i (nearest-none c o os h).1 are.1 on

-- the nearest fits
first_by : (t : Bool) (c : Run) (o f : Mark) (os fs : List Mark) → fits o.run c ≡ t → cond t (o ∷ os) (nearest c os) ≡ f ∷ fs → (nearest c os ≡ f ∷ fs → fits f.run c ≡ true) → fits f.run c ≡ true
first_by true c o f os fs e h ih = let same : o ≡ f = cc in ap (λ (m : Mark). fits m.run c) (sym same) ∙ e
first_by false c o f os fs e h ih = ih h

-- the nearest opener that fits does fit
pub nearest_first : (c : Run) (f : Mark) (os fs : List Mark) → nearest c os ≡ f ∷ fs → fits f.run c ≡ true
nearest_first c f [] fs h = absurd (cc)
nearest_first c f (o ∷ os) fs h = first_by (fits o.run c) c o f os fs refl h (nearest_first c f os fs)

-- ---- some pair over a run

-- what one of some has, one of more has
pub any_more : {X : Type 0} (P : X → Type 0) (xs : List X) (y : X) → Any P xs → Any P (xs ++ y ∷ [])
any_more P xs y h =
    let small : h.0 < length xs = h.2 in
    (h.0, h.1, omega (arith, length_push xs y), get_or_append_left xs (y ∷ []) h.1 h.0 small ∙ h.3, h.4)

-- a pair over a run up to a place is so up to a later one
pub later_over : (i j k : ℕ) (pairs : List Pair) → j ≤ k → Any (IsOverUntil i j) pairs → Any (IsOverUntil i k) pairs
later_over i j k pairs le h = (h.0, h.1, h.2, h.3, record { before = h.4.before; after = h.4.after; until = let u : h.1.closer ≤ j = h.4.until in omega arith })
