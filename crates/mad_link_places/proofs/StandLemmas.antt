-- Numbers stand at characters of their links.
use Rattle.std.proofs.Common.{◌≡◌, ℕ, Bool, true, false, cond, List, [], ◌∷◌, ◌++◌, refl, ap, arith}
use Rattle.std.specs.Prelude.{nat_lt}
use Rattle.std.specs.List.{AllByRecursion}
use Rattle.std.proofs.lemmas.Bool.Decides.{nat_tests}
use Rattle.mad_mark_runs.specs.Marks.{value_at}
use Rattle.mad_mark_runs.specs.declared.mark_runs.MarkRun.{MarkRun}
use Rattle.mad_link_places.specs.LinkPlaces.{is_counted, link_mark, number_of, place_at, text_places, walked}
use Rattle.mad_link_places.specs.NumberLaws.{NumbersStandAtLinks, StandsAt}
use Rattle.mad_link_places.specs.declared.places.LinkPlace.{LinkPlace}
use Rattle.mad_link_places.specs.declared.places.Walk.{Walk}

both_all : (P : LinkPlace → Type 0) (xs ys : List LinkPlace) → AllByRecursion P xs → AllByRecursion P ys → AllByRecursion P (xs ++ ys)
both_all P [] ys h k = k
both_all P (x ∷ xs) ys (one, others) k = (one, both_all P xs ys others k)

all_so : (P Q : LinkPlace → Type 0) (xs : List LinkPlace) → ((x : LinkPlace) → P x → Q x) → AllByRecursion P xs → AllByRecursion Q xs
all_so P Q [] more h = tt
all_so P Q (x ∷ xs) more (one, others) = (more x one, all_so P Q xs more others)

-- what stands in the rest of a text stands in the text
stands_on : (marks : List MarkRun) (before row : ℕ) (linked : Bool) (w : Walk) (c : ℕ) (cs : List ℕ) (place : LinkPlace) → StandsAt marks before row linked (walked marks linked w c) cs place → StandsAt marks before row linked w (c ∷ cs) place
stands_on marks before row linked w c cs place h = record {
  front = c ∷ h.front;
  char = h.char;
  back = h.back;
  whole = ap (λ (l : List ℕ). c ∷ l) h.whole;
  counted = h.counted;
  row_is = h.row_is;
  column = h.column;
  number = h.number;
}

-- the place of the first character, if it has one
stands_here : (marks : List MarkRun) (before row : ℕ) (linked : Bool) (w : Walk) (c : ℕ) (cs : List ℕ) → AllByRecursion (StandsAt marks before row linked w (c ∷ cs)) (place_at before row w (link_mark marks linked w.number c))
stands_here marks before row linked w c cs = by_tests (is_counted linked c) refl (nat_lt w.seen (link_mark marks linked w.number c)) refl
  where
    mark_if : Bool → ℕ
    mark_if b = cond b (value_at marks w.number) 0

    by_tests : (b : Bool) → is_counted linked c ≡ b → (t : Bool) → nat_lt w.seen (mark_if b) ≡ t
        → AllByRecursion (StandsAt marks before row linked w (c ∷ cs)) (cond t (record { row = row; column = w.column; number = number_of before (mark_if b) } ∷ []) [])
    by_tests b is false test = tt
    by_tests true is true test = (record { front = []; char = c; back = cs; whole = refl; counted = is; row_is = refl; column = refl; number = refl }, tt)
    by_tests false is true test = absurd (grind (arith, nat_tests, test))

pub numbers_stand : NumbersStandAtLinks
numbers_stand marks before row linked w [] = tt
numbers_stand marks before row linked w (c ∷ cs) =
    both_all (StandsAt marks before row linked w (c ∷ cs)) (place_at before row w (link_mark marks linked w.number c)) (text_places marks before row linked (walked marks linked w c) cs) (stands_here marks before row linked w c cs)
    (all_so (StandsAt marks before row linked (walked marks linked w c) cs) (StandsAt marks before row linked w (c ∷ cs)) (text_places marks before row linked (walked marks linked w c) cs) (stands_on marks before row linked w c cs)
    (numbers_stand marks before row linked (walked marks linked w c) cs))
