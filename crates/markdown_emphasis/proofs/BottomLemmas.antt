-- Bottoms stay true.
use Rattle.std.proofs.Common.{◌≡◌, ℕ, ◌<◌, ◌≤◌, inl, inr, Bool, true, false, cond, ltb, List, [], ◌∷◌, length, get_or, set, sym, subst, ◌∙◌, arith}
use Rattle.std.proofs.lemmas.List.{length-set, get_or-set_same, get_or-set_other}
use Rattle.std.proofs.lemmas.Bool.{cases_eq}
use Rattle.markdown_emphasis.specs.declared.runs.Run.{Run}
use Rattle.markdown_emphasis.specs.declared.runs.Mark.{Mark}
use Rattle.markdown_emphasis.specs.Matching.{fits, nearest, less, Closing, pair_with, taken}
use Rattle.markdown_emphasis.specs.Keys.{key_of, IsBottom, AreBottoms}
use Rattle.markdown_emphasis.proofs.KeyLemmas.{nearest-other, nearest-none, none_by_key}

-- ---- one bottom

-- where none fits, any place is a bottom
pub bottom_none : (b : ℕ) (c : Run) (os : List Mark) → nearest c os ≡ [] → IsBottom b c os
bottom_none b c [] h = tt
bottom_none b c (o ∷ os) h = ((λ below. h), bottom_none b c os (nearest-none c o os h).1)

-- whether there's one that fits doesn't depend on what is left
none_less : (n : ℕ) (c : Run) (o : Mark) (os : List Mark) → nearest c (o ∷ os) ≡ [] → nearest c (less n o ∷ os) ≡ []
none_less n c o os h =
    let parts = nearest-none c o os h in
    nearest-other c (less n o) os parts.0 ∙ parts.1

bottom_rest : (t : Bool) (b n : ℕ) (c : Run) (o : Mark) (os : List Mark) → IsBottom b c (o ∷ os) → IsBottom b c (cond t (less n o ∷ os) os)
bottom_rest true b n c o os h = ((λ below. none_less n c o os (h.0 below)), h.1)
bottom_rest false b n c o os h = h.1

-- the openers from the nearest that fits on
bottom_from : (t : Bool) (b : ℕ) (c d : Run) (o : Mark) (os : List Mark) → IsBottom b d (o ∷ os) → IsBottom b d (nearest c os) → IsBottom b d (cond t (o ∷ os) (nearest c os))
bottom_from true b c d o os here after = here
bottom_from false b c d o os here after = after

bottom_nearest : (b : ℕ) (c d : Run) (os : List Mark) → IsBottom b d os → IsBottom b d (nearest c os)
bottom_nearest b c d [] h = tt
bottom_nearest b c d (o ∷ os) h = bottom_from (fits o.run c) b c d o os h (bottom_nearest b c d os h.1)

bottom_pair : (b : ℕ) (d : Run) (found : List Mark) (c : Closing) → IsBottom b d c.openers → IsBottom b d found → IsBottom b d (pair_with found c).openers
bottom_pair b d [] c before h = before
bottom_pair b d (o ∷ os) c before h = bottom_rest (ltb (taken o c.closer) o.left) b (taken o c.closer) d o os h

-- ---- all of them

-- bottoms stay true behind a pair
pub bottoms_pair : (place : ℕ) (bottoms : List ℕ) (c : Closing) → AreBottoms place bottoms c.openers → AreBottoms place bottoms (pair_with (nearest c.closer.run c.openers) c).openers
bottoms_pair place bottoms c h = record {
  count = h.count;
  below = h.below;
  none = λ d. bottom_pair (get_or bottoms (key_of d.sign d) 0) d (nearest c.closer.run c.openers) c (h.none d) (bottom_nearest (get_or bottoms (key_of d.sign d) 0) c.closer.run d c.openers (h.none d));
}

-- one more opener
pub bottoms_push : (place : ℕ) (bottoms : List ℕ) (o : Mark) (os : List Mark) → place ≤ o.place → AreBottoms place bottoms os → AreBottoms place bottoms (o ∷ os)
bottoms_push place bottoms o os h are = record {
  count = are.count;
  below = are.below;
  none = λ d. ((λ below. absurd (omega (arith, are.below (key_of d.sign d)))), are.none d);
}

-- they stay true at a later place
pub bottoms_later : (place next : ℕ) (bottoms : List ℕ) (os : List Mark) → place ≤ next → AreBottoms place bottoms os → AreBottoms next bottoms os
bottoms_later place next bottoms os h are = record {
  count = are.count;
  below = λ key. omega (arith, are.below key);
  none = are.none;
}

-- a bottom that is set where none fits
set_below : (place : ℕ) (bottoms : List ℕ) (at key : ℕ) → at < length bottoms → get_or bottoms key 0 ≤ place → get_or (set bottoms at place) key 0 ≤ place
set_below place bottoms at key h low =
    elim (cases_eq key at) [
      | inl same ↦ subst (λ (k : ℕ). get_or (set bottoms at place) k 0 ≤ place) (sym same) (let e : get_or (set bottoms at place) at 0 ≡ place = get_or-set_same bottoms at place 0 h in omega arith)
      | inr other ↦ let e : get_or (set bottoms at place) key 0 ≡ get_or bottoms key 0 = get_or-set_other bottoms at key place 0 other in omega arith
    ]

set_none : (place : ℕ) (bottoms : List ℕ) (c d : Run) (os : List Mark) → key_of c.sign c < length bottoms → c.closes ≡ true → nearest c os ≡ []
    → IsBottom (get_or bottoms (key_of d.sign d) 0) d os → IsBottom (get_or (set bottoms (key_of c.sign c) place) (key_of d.sign d) 0) d os
set_none place bottoms c d os h closes none before =
    elim (cases_eq (key_of d.sign d) (key_of c.sign c)) [
      | inl same ↦ bottom_none _ d os (none_by_key c d os (sym same) closes none)
      | inr other ↦ subst (λ (b : ℕ). IsBottom b d os) (sym (get_or-set_other bottoms (key_of c.sign c) (key_of d.sign d) place 0 other)) before
    ]

-- they stay true where one is set to a place before which no opener fits
pub bottoms_set : (place : ℕ) (bottoms : List ℕ) (c : Run) (os : List Mark) → key_of c.sign c < 16 → c.closes ≡ true → nearest c os ≡ [] → AreBottoms place bottoms os
    → AreBottoms place (set bottoms (key_of c.sign c) place) os
bottoms_set place bottoms c os h closes none are =
    let within : key_of c.sign c < length bottoms = omega (arith, are.count) in
    record {
      count = length-set bottoms (key_of c.sign c) place ∙ are.count;
      below = λ key. set_below place bottoms (key_of c.sign c) key within (are.below key);
      none = λ d. set_none place bottoms c d os within closes none (are.none d);
    }
