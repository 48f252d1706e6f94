-- Widths that are taken one by one with those at their places in another list.
use Rattle.std.proofs.Common.{◌≡◌, ℕ, zero, suc, ◌+◌, ◌≤◌, ◌<◌, min, List, [], ◌∷◌, length, get_or, set, inl, inr, refl, sym, ap, ◌∙◌, arith, subst, get_or-set_same, get_or-set_other, ext_get_or}
use Rattle.std.proofs.lemmas.Bool.{cases_eq, cases_lt}
use Rattle.mad_widths.specs.WordWidths.{each_with}

-- as many widths come out as the first list has
pub length-each_with : (f : ℕ → ℕ → ℕ) (ws vs : List ℕ) → length (each_with f ws vs) ≡ length ws
length-each_with f (w ∷ ws) (v ∷ vs) = ap suc (length-each_with f ws vs)
length-each_with f (w ∷ ws) [] = refl
length-each_with f [] vs = refl

-- each width is taken with the one at its place
pub get_or-each_with : (f : ℕ → ℕ → ℕ) (ws vs : List ℕ) (k : ℕ) → k < length ws → k < length vs → get_or (each_with f ws vs) k 0 ≡ f (get_or ws k 0) (get_or vs k 0)
get_or-each_with f (w ∷ ws) (v ∷ vs) zero l m = refl
get_or-each_with f (w ∷ ws) (v ∷ vs) (suc k) l m = get_or-each_with f ws vs k (omega (arith, l)) (omega (arith, m))
get_or-each_with f (w ∷ ws) [] k l m = absurd (omega (arith, m))
get_or-each_with f [] vs k l m = absurd (omega (arith, l))

-- a width with none at its place stays
pub each_past : (f : ℕ → ℕ → ℕ) (ws vs : List ℕ) (k : ℕ) → length vs ≤ k → get_or (each_with f ws vs) k 0 ≡ get_or ws k 0
each_past f (w ∷ ws) (v ∷ vs) zero p = absurd (omega (arith, p))
each_past f (w ∷ ws) (v ∷ vs) (suc k) p = each_past f ws vs k (omega (arith, p))
each_past f (w ∷ ws) [] k p = refl
each_past f [] vs k p = refl

-- widths of which the first have been taken so
pub record IsEach (f : ℕ → ℕ → ℕ) (ws vs : List ℕ) (i : ℕ) (now : List ℕ) : Type 0 where
  pub done : (k : ℕ) → k < i → get_or now k 0 ≡ f (get_or ws k 0) (get_or vs k 0)
  pub rest : (k : ℕ) → i ≤ k → get_or now k 0 ≡ get_or ws k 0

-- one width more has been taken so
pub each_more : (f : ℕ → ℕ → ℕ) (ws vs : List ℕ) (i : ℕ) (now after : List ℕ) (v : ℕ) → i < length now → IsEach f ws vs i now → after ≡ set now i v → v ≡ f (get_or ws i 0) (get_or vs i 0) → IsEach f ws vs (i + 1) after
each_more f ws vs i now after v l h e g = record {
  done = λ k b. ap (λ xs. get_or xs k 0) e ∙ elim (cases_eq k i) as (λ _. get_or (set now i v) k 0 ≡ f (get_or ws k 0) (get_or vs k 0)) [
    | inl same ↦ subst (λ j. get_or (set now i v) j 0 ≡ f (get_or ws j 0) (get_or vs j 0)) (sym same) (get_or-set_same now i v 0 l ∙ g)
    | inr other ↦ get_or-set_other now i k v 0 other ∙ h.done k (omega (arith, b, other))
  ];
  rest = λ k b. ap (λ xs. get_or xs k 0) e ∙ get_or-set_other now i k v 0 (λ same. absurd (omega (arith, same, b))) ∙ h.rest k (omega (arith, b));
}

-- after the last place that both lists have, all are taken so
pub each_all : (f : ℕ → ℕ → ℕ) (ws vs : List ℕ) (i : ℕ) (now : List ℕ) → length now ≡ length ws → i ≡ min (length ws) (length vs) → IsEach f ws vs i now → now ≡ each_with f ws vs
each_all f ws vs i now e l h = ext_get_or 0 now (each_with f ws vs) (e ∙ sym (length-each_with f ws vs)) (λ k b.
    elim (cases_lt k i) [
      | inl on ↦ h.done k on ∙ sym (get_or-each_with f ws vs k (omega (arith, b, e)) (omega (arith, on, l)))
      | inr past ↦ h.rest k (omega (arith, past)) ∙ sym (each_past f ws vs k (omega (arith, past, l, b, e)))
    ])
