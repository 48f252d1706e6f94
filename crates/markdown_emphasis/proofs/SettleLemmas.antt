-- Nothing that matches is left, run by run.
use Rattle.std.proofs.Common.{◌≡◌, ℕ, zero, suc, ◌+◌, ◌<◌, ◌≤◌, ◌⊎◌, inl, inr, Bool, true, false, cond, ltb, leb, eqb, List, [], ◌∷◌, ◌++◌, length, refl, ap, sym, subst, ◌∙◌, arith}
use Rattle.std.specs.Prelude.{◌&&◌}
use Rattle.std.specs.List.{Any}
use Rattle.std.proofs.lemmas.Bool.{cases_eq, eqb-true, ltb-true, ltb-false, lt-ltb, and_parts}
use Rattle.std.proofs.lemmas.List.{get_or_append_left, get_or_push, length_push, append_assoc, append-nil}
use Rattle.std.proofs.lemmas.List.Elements.{All-nil}
use Rattle.std.proofs.lemmas.List.Quantifiers.{Any-push}
use Rattle.markdown_emphasis.specs.declared.runs.Sign.{Sign}
use Rattle.markdown_emphasis.specs.declared.runs.Sign.TheVariants.{Star, Underscore, Tilde}
use Rattle.markdown_emphasis.specs.declared.runs.Run.{Run}
use Rattle.markdown_emphasis.specs.declared.runs.Mark.{Mark}
use Rattle.markdown_emphasis.specs.declared.runs.Pair.{Pair}
use Rattle.markdown_emphasis.specs.Matching.{lengths_fit, fits, nearest, less, with_rest, taken_by, taken, Closing, pair_with, close_once, close_times, close_run, Matching, opened, after_run, matches_from, no_runs, matches}
use Rattle.markdown_emphasis.specs.Pairs.{IsWithin, AreApart}
use Rattle.markdown_emphasis.specs.Flags.{is_tilde}
use Rattle.markdown_emphasis.specs.Left.{run_at, takes, taken_at, IsOverUntil, Exhaust}
use Rattle.markdown_emphasis.proofs.ClosingLemmas.{taken_by-some, once-done, once-none, once-some, times_stay}
use Rattle.markdown_emphasis.proofs.PairLemmas.{AreOpeners, openers_nearest, Kept, KeptAt, kept_pair, kept_opened, later_pairs, no_pair}
use Rattle.markdown_emphasis.proofs.LeftLemmas.{taken_push, takes_opener, takes_closer, takes_other, taken_fresh, Fit, fit, taken_small, IsEntry, AreEntries, OnStack, entries_nearest, entries_push, stack_split, none_fits, nearest_first, any_more, later_over}

-- what is known while a run closes
record Settling (past : List Run) (c : Closing) : Type 0 where
  kept : KeptAt (length past) c
  entries : AreEntries past c.pairs c.openers
  sum : c.closer.left + taken_at c.pairs c.closer.place ≡ c.closer.run.count
  whole : is_tilde c.closer.run.sign ≡ true → (c.closer.left ≡ c.closer.run.count) ⊎ (c.closer.left ≡ 0)
  enough : (i : ℕ) → i < length past → taken_at c.pairs i ≤ (run_at past i).count
  known : (i : ℕ) → i < length past → (run_at past i).opens ≡ true → taken_at c.pairs i < (run_at past i).count → OnStack i c.openers ⊎ Any (IsOverUntil i (length past)) c.pairs
  none_left : (i j : ℕ) → i < j → j < length past → fits (run_at past i) (run_at past j) ≡ true
      → taken_at c.pairs i < (run_at past i).count → taken_at c.pairs j < (run_at past j).count → Any (IsOverUntil i j) c.pairs

-- ---- tildes

tilde_closer : (s : Sign) (o c : ℕ) → is_tilde s ≡ true → taken_by s o c ≡ c
tilde_closer Tilde o c h = refl
tilde_closer Star o c h = absurd (cc)
tilde_closer Underscore o c h = absurd (cc)

tilde_lengths : (s : Sign) (o c : Run) → is_tilde s ≡ true → lengths_fit s o c ≡ true → o.count ≡ c.count
tilde_lengths Tilde o c h e = eqb-true o.count c.count (and_parts (eqb o.count c.count) (leb c.count 2) e).0
tilde_lengths Star o c h e = absurd (cc)
tilde_lengths Underscore o c h e = absurd (cc)

-- ---- one pair

-- a pair of an opener and a closer that fit and have marks left, and how many it takes
record IsPaired (past : List Run) (pairs : List Pair) (o : Mark) (os : List Mark) (c : Mark) (q : Pair) : Type 0 where
  opener : q.opener ≡ o.place
  closer : q.closer ≡ c.place
  ordered : o.place < c.place
  entry : IsEntry past pairs o
  before : AreOpeners o.place pairs os
  entries : AreEntries past pairs os
  from_opener : q.count ≤ o.left
  from_closer : q.count ≤ c.left
  tilde : is_tilde o.run.sign ≡ true → q.count ≡ o.left

takes_first : (past : List Run) (pairs : List Pair) (o : Mark) (os : List Mark) (c : Mark) (q : Pair) → IsPaired past pairs o os c q → taken_at (pairs ++ q ∷ []) o.place ≡ taken_at pairs o.place + q.count
takes_first past pairs o os c q p = taken_push pairs q o.place ∙ ap (λ n. taken_at pairs o.place + n) (ap (λ k. takes k q) (sym p.opener) ∙ takes_opener q)

takes_last : (past : List Run) (pairs : List Pair) (o : Mark) (os : List Mark) (c : Mark) (q : Pair) → IsPaired past pairs o os c q → taken_at (pairs ++ q ∷ []) c.place ≡ taken_at pairs c.place + q.count
takes_last past pairs o os c q p = taken_push pairs q c.place ∙ ap (λ n. taken_at pairs c.place + n) (ap (λ k. takes k q) (sym p.closer) ∙ takes_closer q)

rest_entries : (t : Bool) (past : List Run) (pairs : List Pair) (o : Mark) (os : List Mark) (c : Mark) (q : Pair) → IsPaired past pairs o os c q → ltb q.count o.left ≡ t
    → AreEntries past (pairs ++ q ∷ []) (cond t (less q.count o ∷ os) os)
rest_entries true past pairs o os c q p test =
    let more : q.count < o.left = ltb-true q.count o.left test in (
      record {
        run_is = p.entry.run_is;
        sum = omega (arith, takes_first past pairs o os c q p, p.entry.sum);
        some = omega arith;
        whole = λ h. absurd (omega (arith, p.tilde h));
      },
      entries_push past pairs q o.place os (omega (arith, p.opener)) (omega (arith, p.opener, p.closer, p.ordered)) p.before p.entries,
    )
rest_entries false past pairs o os c q p test = entries_push past pairs q o.place os (omega (arith, p.opener)) (omega (arith, p.opener, p.closer, p.ordered)) p.before p.entries

pair_enough : (past : List Run) (pairs : List Pair) (o : Mark) (os : List Mark) (c : Mark) (q : Pair) → IsPaired past pairs o os c q → (i : ℕ) → i < c.place
    → taken_at pairs i ≤ (run_at past i).count → taken_at (pairs ++ q ∷ []) i ≤ (run_at past i).count
pair_enough past pairs o os c q p i h enough =
    elim (cases_eq i o.place) [
      | inl same ↦ subst (λ (k : ℕ). taken_at (pairs ++ q ∷ []) k ≤ (run_at past k).count) (sym same)
          (omega (arith, takes_first past pairs o os c q p, p.entry.sum, p.from_opener, ap (λ (r : Run). r.count) p.entry.run_is))
      | inr other ↦
          let none : takes i q ≡ 0 = takes_other q i (λ e. other (sym e ∙ p.opener)) (λ e. absurd (omega (arith, p.closer, e))) in
          omega (arith, taken_push pairs q i, none)
    ]

-- the opener of a pair is on the stack if it has marks left
rest_here : (t : Bool) (past : List Run) (pairs : List Pair) (o : Mark) (os : List Mark) (c : Mark) (q : Pair) → IsPaired past pairs o os c q → ltb q.count o.left ≡ t
    → taken_at (pairs ++ q ∷ []) o.place < (run_at past o.place).count → OnStack o.place (cond t (less q.count o ∷ os) os)
rest_here true past pairs o os c q p test left = inl refl
rest_here false past pairs o os c q p test left =
    absurd (omega (arith, ltb-false q.count o.left test, takes_first past pairs o os c q p, p.entry.sum, ap (λ (r : Run). r.count) p.entry.run_is))

rest_on : (t : Bool) (n : ℕ) (o : Mark) (os : List Mark) (i : ℕ) → OnStack i os → OnStack i (cond t (less n o ∷ os) os)
rest_on true n o os i on = inr on
rest_on false n o os i on = on

pair_on : (past : List Run) (pairs : List Pair) (o : Mark) (os : List Mark) (c : Mark) (q : Pair) → IsPaired past pairs o os c q → (i : ℕ) → taken_at (pairs ++ q ∷ []) i < (run_at past i).count
    → OnStack i (o ∷ os) → OnStack i (with_rest q.count o os)
pair_on past pairs o os c q p i left (inl same) =
    subst (λ (k : ℕ). OnStack k (with_rest q.count o os)) same
    (rest_here (ltb q.count o.left) past pairs o os c q p refl (subst (λ (k : ℕ). taken_at (pairs ++ q ∷ []) k < (run_at past k).count) (sym same) left))
pair_on past pairs o os c q p i left (inr on) = rest_on (ltb q.count o.left) q.count o os i on

pair_known : (past : List Run) (pairs : List Pair) (o : Mark) (os all : List Mark) (c : Mark) (q : Pair) → IsPaired past pairs o os c q → AreOpeners c.place pairs all → nearest c.run all ≡ o ∷ os
    → (i : ℕ) → i < c.place → taken_at (pairs ++ q ∷ []) i < (run_at past i).count
    → OnStack i all ⊎ Any (IsOverUntil i c.place) pairs → OnStack i (with_rest q.count o os) ⊎ Any (IsOverUntil i c.place) (pairs ++ q ∷ [])
pair_known past pairs o os all c q p before found i h left (inl on) =
    elim (stack_split c.place pairs c.run o all os i found before on) [
      | inl here ↦ inl (pair_on past pairs o os c q p i left here)
      | inr low ↦ inr (Any-push (IsOverUntil i c.place) pairs q (record { before = omega (arith, p.opener); after = omega (arith, p.closer); until = omega (arith, p.closer) }))
    ]
pair_known past pairs o os all c q p before found i h left (inr over) = inr (any_more (IsOverUntil i c.place) pairs q over)

-- what is left of the closer, and that it closes
closer_whole : (c : Mark) → 0 < c.left → (is_tilde c.run.sign ≡ true → (c.left ≡ c.run.count) ⊎ (c.left ≡ 0)) → is_tilde c.run.sign ≡ true → c.left ≡ c.run.count
closer_whole c some whole h = elim (whole h) [ inl all ↦ all | inr none ↦ absurd (omega arith) ]

paired : (past : List Run) (c : Closing) (o : Mark) (os : List Mark) → nearest c.closer.run c.openers ≡ o ∷ os → 0 < c.closer.left → Settling past c
    → IsPaired past c.pairs o os c.closer (record { opener = o.place; closer = c.closer.place; sign = c.closer.run.sign; count = taken o c.closer })
paired past c o os found some s =
    let before : AreOpeners c.closer.place c.pairs (o ∷ os) = subst (λ (l : List Mark). AreOpeners c.closer.place c.pairs l) found (openers_nearest c.closer.place c.pairs c.closer.run c.openers s.kept.kept.before) in
    let entries : AreEntries past c.pairs (o ∷ os) = subst (λ (l : List Mark). AreEntries past c.pairs l) found (entries_nearest past c.pairs c.closer.run c.openers s.entries) in
    let f : Fit o.run c.closer.run = fit o.run c.closer.run (nearest_first c.closer.run o c.openers os found) in
    let all = closer_whole c.closer some s.whole in
    let small = taken_small c.closer.run.sign o c.closer f.lengths entries.0.some some (λ h. entries.0.whole (ap is_tilde f.sign ∙ h)) all in
    record {
      opener = refl;
      closer = refl;
      ordered = before.0;
      entry = entries.0;
      before = before.2;
      entries = entries.1;
      from_opener = small.0;
      from_closer = small.1;
      tilde = λ h. let t : is_tilde c.closer.run.sign ≡ true = ap is_tilde (sym f.sign) ∙ h in
          tilde_closer c.closer.run.sign o.left c.closer.left t ∙ all t ∙ sym (tilde_lengths c.closer.run.sign o.run c.closer.run t f.lengths) ∙ sym (entries.0.whole h);
    }

settle_pair : (past : List Run) (c : Closing) (o : Mark) (os : List Mark) → nearest c.closer.run c.openers ≡ o ∷ os → 0 < c.closer.left → Settling past c → Settling past (pair_with (o ∷ os) c)
settle_pair past c o os found some s =
    let n : ℕ = taken o c.closer in
    let q : Pair = record { opener = o.place; closer = c.closer.place; sign = c.closer.run.sign; count = n } in
    let p : IsPaired past c.pairs o os c.closer q = paired past c o os found some s in
    let place : c.closer.place ≡ length past = s.kept.same in
    let before : AreOpeners c.closer.place c.pairs (o ∷ os) = subst (λ (l : List Mark). AreOpeners c.closer.place c.pairs l) found (openers_nearest c.closer.place c.pairs c.closer.run c.openers s.kept.kept.before) in
    let fewer : (i : ℕ) → taken_at c.pairs i ≤ taken_at (c.pairs ++ q ∷ []) i = λ i. omega (arith, taken_push c.pairs q i) in
    record {
      kept = kept_pair (length past) (o ∷ os) c before s.kept;
      entries = rest_entries (ltb n o.left) past c.pairs o os c.closer q p refl;
      sum = omega (arith, takes_last past c.pairs o os c.closer q p, p.from_closer, s.sum);
      whole = λ h. inr (omega (arith, tilde_closer c.closer.run.sign o.left c.closer.left h));
      enough = λ i h. pair_enough past c.pairs o os c.closer q p i (omega arith) (s.enough i h);
      known = λ i h opens left. subst (λ (k : ℕ). OnStack i (with_rest n o os) ⊎ Any (IsOverUntil i k) (c.pairs ++ q ∷ [])) place
          (pair_known past c.pairs o os c.openers c.closer q p s.kept.kept.before found i (omega arith) left
          (subst (λ (k : ℕ). OnStack i c.openers ⊎ Any (IsOverUntil i k) c.pairs) (sym place) (s.known i h opens (omega (arith, fewer i)))));
      none_left = λ i j h small fit first second. any_more (IsOverUntil i j) c.pairs q (s.none_left i j h small fit (omega (arith, fewer i)) (omega (arith, fewer j)));
    }

settle_found : (past : List Run) (c : Closing) (found : List Mark) → nearest c.closer.run c.openers ≡ found → 0 < c.closer.left → Settling past c → Settling past (pair_with found c)
settle_found past c [] h some s = s
settle_found past c (o ∷ os) h some s = settle_pair past c o os h some s

settle_by : (t : Bool) (past : List Run) (c : Closing) → ltb 0 c.closer.left ≡ t → Settling past c → Settling past (cond t (pair_with (nearest c.closer.run c.openers) c) c)
settle_by true past c test s = settle_found past c (nearest c.closer.run c.openers) refl (ltb-true 0 c.closer.left test) s
settle_by false past c test s = s

settle_times : (n : ℕ) (past : List Run) (c : Closing) → Settling past c → Settling past (close_times n c)
settle_times zero past c s = s
settle_times (suc n) past c s = settle_times n past (close_once c) (settle_by (ltb 0 c.closer.left) past c refl s)

-- ---- a run closes until it has no marks left or none fits

abbrev IsDone : Closing → Type 0
IsDone c = (c.closer.left ≡ 0) ⊎ (nearest c.closer.run c.openers ≡ [])

done_stay : (n : ℕ) (c : Closing) → IsDone c → close_times n c ≡ c
done_stay n c (inl none) = times_stay n c (once-done c none)
done_stay n c (inr none) = times_stay n c (once-none c none)

some_or_none : (n : ℕ) → (n ≡ 0) ⊎ (0 < n)
some_or_none zero = inl refl
some_or_none (suc n) = inr (omega arith)

found_or_done : (found : List Mark) (c : Closing) → nearest c.closer.run c.openers ≡ found → 0 < c.closer.left → IsDone c ⊎ ((pair_with found c).closer.left < c.closer.left)
found_or_done [] c h some = inl (inr h)
found_or_done (o ∷ os) c h some = let n : 0 < taken o c.closer = taken_by-some c.closer.run.sign o.left c.closer.left some in inr (omega arith)

once_or_done : (c : Closing) → IsDone c ⊎ ((close_once c).closer.left < c.closer.left)
once_or_done c =
    elim (some_or_none c.closer.left) [
      | inl none ↦ inl (inl none)
      | inr some ↦
          elim (found_or_done (nearest c.closer.run c.openers) c refl some) [
            | inl done ↦ inl done
            | inr fewer ↦ inr (subst (λ (d : Closing). d.closer.left < c.closer.left) (sym (once-some c some)) fewer)
          ]
    ]

times_done : (n : ℕ) (c : Closing) → c.closer.left ≤ n → IsDone (close_times n c)
times_done zero c h = inl (omega arith)
times_done (suc n) c h =
    elim (once_or_done c) [
      | inl done ↦ subst (λ (d : Closing). IsDone d) (sym (done_stay (suc n) c done)) done
      | inr fewer ↦ times_done n (close_once c) (omega arith)
    ]

-- ---- one more run

run_before : (past : List Run) (r : Run) (i : ℕ) → i < length past → run_at (past ++ r ∷ []) i ≡ run_at past i
run_before past r i h = get_or_append_left past (r ∷ []) (record { sign = Star; count = 0; opens = false; closes = false }) i h

run_last : (past : List Run) (r : Run) → run_at (past ++ r ∷ []) (length past) ≡ r
run_last past r = get_or_push past r (record { sign = Star; count = 0; opens = false; closes = false }) (length past) refl

entries_longer : (past : List Run) (r : Run) (pairs : List Pair) (b : ℕ) (os : List Mark) → b ≤ length past → AreOpeners b pairs os → AreEntries past pairs os → AreEntries (past ++ r ∷ []) pairs os
entries_longer past r pairs b [] h before are = tt
entries_longer past r pairs b (o ∷ os) h before are =
    let small : o.place < length past = omega (arith, before.0) in (
      record { run_is = are.0.run_is ∙ sym (run_before past r o.place small); sum = are.0.sum; some = are.0.some; whole = are.0.whole },
      entries_longer past r pairs o.place os (omega arith) before.2 are.1,
    )

less_or_last : (i n : ℕ) → i < n + 1 → (i < n) ⊎ (i ≡ n)
less_or_last i n h = elim (cases_eq i n) [ inl same ↦ inr same | inr other ↦ inl (omega arith) ]

-- what is known between two runs
record Settled (past : List Run) (m : Matching) : Type 0 where
  kept : Kept (length past) (length past) m.openers m.pairs
  entries : AreEntries past m.pairs m.openers
  enough : (i : ℕ) → i < length past → taken_at m.pairs i ≤ (run_at past i).count
  known : (i : ℕ) → i < length past → (run_at past i).opens ≡ true → taken_at m.pairs i < (run_at past i).count → OnStack i m.openers ⊎ Any (IsOverUntil i (length past)) m.pairs
  none_left : (i j : ℕ) → i < j → j < length past → fits (run_at past i) (run_at past j) ≡ true
      → taken_at m.pairs i < (run_at past i).count → taken_at m.pairs j < (run_at past j).count → Any (IsOverUntil i j) m.pairs

begin_run : (past : List Run) (m : Matching) (run : Run) → Settled past m → Settling past (record { openers = m.openers; closer = record { place = length past; run = run; left = run.count }; pairs = m.pairs })
begin_run past m run s = record {
  kept = record { same = refl; kept = record { before = s.kept.before; are = later_pairs (length past) (suc (length past)) m.pairs (omega arith) s.kept.are } };
  entries = s.entries;
  sum = omega (arith, taken_fresh (length past) m.pairs s.kept.are.within);
  whole = λ h. inl refl;
  enough = s.enough;
  known = s.known;
  none_left = s.none_left;
}

open_entries : (t : Bool) (past : List Run) (pairs : List Pair) (o : Mark) (os : List Mark) → AreEntries past pairs os → (t ≡ true → IsEntry past pairs o) → AreEntries past pairs (cond t (o ∷ os) os)
open_entries true past pairs o os are new = (new refl, are)
open_entries false past pairs o os are new = are

open_on : (t : Bool) (o : Mark) (os : List Mark) (i : ℕ) → OnStack i os → OnStack i (cond t (o ∷ os) os)
open_on true o os i on = inr on
open_on false o os i on = on

both_true : (a b : Bool) → a ≡ true → b ≡ true → (a && b) ≡ true
both_true true b h k = k
both_true false b h k = absurd (cc)

open_known : (past : List Run) (c : Closing) → Settling past c → (i : ℕ) → i < length past + 1 → (run_at (past ++ c.closer.run ∷ []) i).opens ≡ true
    → taken_at c.pairs i < (run_at (past ++ c.closer.run ∷ []) i).count → OnStack i (opened c).openers ⊎ Any (IsOverUntil i (length past + 1)) c.pairs
open_known past c s i h opens left =
    let r : Run = c.closer.run in
    let t : Bool = r.opens && ltb 0 c.closer.left in
    elim (less_or_last i (length past) h) [
      | inl small ↦
          let same : run_at (past ++ r ∷ []) i ≡ run_at past i = run_before past r i small in
          elim (s.known i small (ap (λ (x : Run). x.opens) (sym same) ∙ opens) (omega (arith, ap (λ (x : Run). x.count) same))) [
            | inl on ↦ inl (open_on t c.closer c.openers i on)
            | inr over ↦ inr (later_over i (length past) (length past + 1) c.pairs (omega arith) over)
          ]
      | inr last ↦
          let same : run_at (past ++ r ∷ []) i ≡ r = ap (run_at (past ++ r ∷ [])) last ∙ run_last past r in
          let place : c.closer.place ≡ i = s.kept.same ∙ sym last in
          let sum : c.closer.left + taken_at c.pairs i ≡ r.count = ap (λ k. c.closer.left + taken_at c.pairs k) (sym place) ∙ s.sum in
          let some : 0 < c.closer.left = omega (arith, ap (λ (x : Run). x.count) same) in
          let on : t ≡ true = both_true r.opens (ltb 0 c.closer.left) (ap (λ (x : Run). x.opens) (sym same) ∙ opens) (lt-ltb 0 c.closer.left some) in
          inl (subst (λ (b : Bool). OnStack i (cond b (c.closer ∷ c.openers) c.openers)) (sym on) (inl place))
    ]

-- the new run and one before it
last_pair : (past : List Run) (c : Closing) → Settling past c → IsDone c → (i : ℕ) → i < length past → fits (run_at past i) c.closer.run ≡ true
    → taken_at c.pairs i < (run_at past i).count → taken_at c.pairs (length past) < c.closer.run.count → Any (IsOverUntil i (length past)) c.pairs
last_pair past c s (inl none) i h fit_is first second =
    let place : c.closer.place ≡ length past = s.kept.same in
    let sum : c.closer.left + taken_at c.pairs (length past) ≡ c.closer.run.count = ap (λ k. c.closer.left + taken_at c.pairs k) (sym place) ∙ s.sum in
    absurd (omega arith)
last_pair past c s (inr none) i h fit_is first second =
    elim (s.known i h (fit (run_at past i) c.closer.run fit_is).opens first) [
      | inl on ↦ let not_fit : fits (run_at past i) c.closer.run ≡ false = none_fits past c.pairs c.closer.run c.openers i none s.entries on in
          let no : true ≡ false = sym fit_is ∙ not_fit in absurd (cc)
      | inr over ↦ over
    ]

open_left : (past : List Run) (c : Closing) → Settling past c → IsDone c → (i j : ℕ) → i < j → j < length past + 1
    → fits (run_at (past ++ c.closer.run ∷ []) i) (run_at (past ++ c.closer.run ∷ []) j) ≡ true
    → taken_at c.pairs i < (run_at (past ++ c.closer.run ∷ []) i).count → taken_at c.pairs j < (run_at (past ++ c.closer.run ∷ []) j).count → Any (IsOverUntil i j) c.pairs
open_left past c s done i j h small fit_is first second =
    let r : Run = c.closer.run in
    let first_same : run_at (past ++ r ∷ []) i ≡ run_at past i = run_before past r i (omega arith) in
    let first_left : taken_at c.pairs i < (run_at past i).count = omega (arith, ap (λ (x : Run). x.count) first_same) in
    elim (less_or_last j (length past) small) [
      | inl within ↦
          let same : run_at (past ++ r ∷ []) j ≡ run_at past j = run_before past r j within in
          s.none_left i j h within (ap (λ x. fits x (run_at past j)) (sym first_same) ∙ ap (fits (run_at (past ++ r ∷ []) i)) (sym same) ∙ fit_is) first_left
          (omega (arith, ap (λ (x : Run). x.count) same))
      | inr last ↦
          let same : run_at (past ++ r ∷ []) j ≡ r = ap (run_at (past ++ r ∷ [])) last ∙ run_last past r in
          let at_last : taken_at c.pairs j ≡ taken_at c.pairs (length past) = ap (taken_at c.pairs) last in
          subst (λ (k : ℕ). Any (IsOverUntil i k) c.pairs) (sym last)
          (last_pair past c s done i (omega arith) (ap (λ x. fits x r) (sym first_same) ∙ ap (fits (run_at (past ++ r ∷ []) i)) (sym same) ∙ fit_is) first_left
          (omega (arith, ap (λ (x : Run). x.count) same)))
    ]

open_enough : (past : List Run) (c : Closing) → Settling past c → (i : ℕ) → i < length past + 1 → taken_at c.pairs i ≤ (run_at (past ++ c.closer.run ∷ []) i).count
open_enough past c s i h =
    elim (less_or_last i (length past) h) [
      | inl small ↦ omega (arith, s.enough i small, ap (λ (x : Run). x.count) (run_before past c.closer.run i small))
      | inr last ↦
          let same : run_at (past ++ c.closer.run ∷ []) i ≡ c.closer.run = ap (run_at (past ++ c.closer.run ∷ [])) last ∙ run_last past c.closer.run in
          let sum : c.closer.left + taken_at c.pairs i ≡ c.closer.run.count = ap (λ k. c.closer.left + taken_at c.pairs k) (last ∙ sym s.kept.same) ∙ s.sum in
          omega (arith, ap (λ (x : Run). x.count) same)
    ]

end_run : (past : List Run) (c : Closing) → Settling past c → IsDone c → Settled (past ++ c.closer.run ∷ []) (opened c)
end_run past c s done =
    let r : Run = c.closer.run in
    let size : length (past ++ r ∷ []) ≡ length past + 1 = length_push past r in
    let next : suc (length past) ≡ length (past ++ r ∷ []) = omega arith in
    record {
      kept = subst (λ (k : ℕ). Kept k k (opened c).openers (opened c).pairs) next (kept_opened (length past) c s.kept);
      entries = open_entries (r.opens && ltb 0 c.closer.left) (past ++ r ∷ []) c.pairs c.closer c.openers
          (entries_longer past r c.pairs c.closer.place c.openers (omega (arith, s.kept.same)) s.kept.kept.before s.entries)
          (λ t. let some : 0 < c.closer.left = ltb-true 0 c.closer.left (and_parts r.opens (ltb 0 c.closer.left) t).1 in record {
            run_is = sym (ap (run_at (past ++ r ∷ [])) s.kept.same ∙ run_last past r);
            sum = s.sum;
            some = some;
            whole = closer_whole c.closer some s.whole;
          });
      enough = λ i h. open_enough past c s i (omega arith);
      known = λ i h opens left. subst (λ (k : ℕ). OnStack i (opened c).openers ⊎ Any (IsOverUntil i k) c.pairs) (sym size) (open_known past c s i (omega arith) opens left);
      none_left = λ i j h small fit_is first second. open_left past c s done i j h (omega arith) fit_is first second;
    }

-- ---- all runs

same_run_pair : (found : List Mark) (c : Closing) → (pair_with found c).closer.run ≡ c.closer.run
same_run_pair [] c = refl
same_run_pair (o ∷ os) c = refl

same_run_if : (t : Bool) (c : Closing) → (cond t (pair_with (nearest c.closer.run c.openers) c) c).closer.run ≡ c.closer.run
same_run_if true c = same_run_pair (nearest c.closer.run c.openers) c
same_run_if false c = refl

same_run : (n : ℕ) (c : Closing) → (close_times n c).closer.run ≡ c.closer.run
same_run zero c = refl
same_run (suc n) c = same_run n (close_once c) ∙ same_run_if (ltb 0 c.closer.left) c

settle_run : (past : List Run) (m : Matching) (run : Run) → Settled past m → Settled (past ++ run ∷ []) (after_run m (length past) run)
settle_run past m run s =
    let start : Closing = record { openers = m.openers; closer = record { place = length past; run = run; left = run.count }; pairs = m.pairs } in
    subst (λ (r : Run). Settled (past ++ r ∷ []) (after_run m (length past) run)) (same_run run.count start)
    (end_run past (close_run start) (settle_times run.count past start (begin_run past m run s)) (times_done run.count start (omega arith)))

exhaust : (past : List Run) (m : Matching) → Settled past m → Exhaust past m.pairs
exhaust past m s = record { enough = s.enough; none_left = s.none_left }

settle_all : (runs past : List Run) (m : Matching) (place : ℕ) → place ≡ length past → Settled past m → Exhaust (past ++ runs) (matches_from m place runs)
settle_all [] past m place same s = subst (λ (l : List Run). Exhaust l m.pairs) (sym (append-nil past)) (exhaust past m s)
settle_all (run ∷ runs) past m place same s =
    let size : length (past ++ run ∷ []) ≡ length past + 1 = length_push past run in
    subst (λ (l : List Run). Exhaust l (matches_from (after_run m place run) (place + 1) runs)) (append_assoc past (run ∷ []) runs)
    (settle_all runs (past ++ run ∷ []) (after_run m place run) (place + 1) (omega arith)
    (subst (λ (k : ℕ). Settled (past ++ run ∷ []) (after_run m k run)) (sym same) (settle_run past m run s)))

settled_none : Settled [] no_runs
settled_none = record {
  kept = record { before = tt; are = record { within = All-nil (IsWithin 0); nested = no_pair AreApart } };
  entries = tt;
  enough = λ i h. absurd (omega arith);
  known = λ i h opens left. absurd (omega arith);
  none_left = λ i j h small fit_is first second. absurd (omega arith);
}

-- no run gives more marks than it has, and nothing that matches is left
pub matches_exhaust : (runs : List Run) → Exhaust runs (matches runs)
matches_exhaust runs = settle_all runs [] no_runs 0 refl settled_none
