-- Lemmas on the words for lists.
use Rattle.std.proofs.Common.{◌≡◌, ℕ, List, [], ◌∷◌, ◌++◌, max, refl, ap, sym, ◌∙◌, subst, arith, append_assoc}
use Rattle.mad_format.specs.Lists.{most, EachBecomes}

-- the greatest count, with one element more
pub most_push : {A : Type 0} (count : A → ℕ) (xs : List A) (last : A) → most count (xs ++ last ∷ []) ≡ max (count last) (most count xs)
most_push count [] last = refl
most_push count (x ∷ xs) last = omega (arith, most_push count xs last)

-- what becomes of two lists, joined
pub both_become : {A B : Type 0} (becomes : A → List B → Type 0) (xs ys : List A) (own others : List B) → EachBecomes becomes xs own → EachBecomes becomes ys others
    → EachBecomes becomes (xs ++ ys) (own ++ others)
both_become {A} {B} becomes [] ys own others h more = subst (λ (all : List B). EachBecomes becomes ys (all ++ others)) (sym h) more
both_become {A} {B} becomes (x ∷ xs) ys own others (first, rest, joins, here, h) more =
    (first, rest ++ others, ap (λ (all : List B). all ++ others) joins ∙ append_assoc first rest others, here, both_become becomes xs ys rest others h more)

-- what becomes of each of two lists that are joined
pub become_apart : {A B : Type 0} (becomes : A → List B → Type 0) (xs ys : List A) (all : List B) → EachBecomes becomes (xs ++ ys) all
    → (own : List B) × (others : List B) × (all ≡ own ++ others) × EachBecomes becomes xs own × EachBecomes becomes ys others
become_apart becomes [] ys all h = ([], all, refl, refl, h)
become_apart {A} {B} becomes (x ∷ xs) ys all (own, others, joins, here, more) =
    let rest = become_apart becomes xs ys others more in
    (own ++ rest.0, rest.1, joins ∙ ap (λ (l : List B). own ++ l) rest.2 ∙ sym (append_assoc own rest.0 rest.1), (own, rest.0, refl, here, rest.3), rest.4)

-- by two rules, the first of which implies the second
pub become_by : {A B : Type 0} (one other : A → List B → Type 0) → ((x : A) (own : List B) → one x own → other x own) → (xs : List A) (all : List B) → EachBecomes one xs all
    → EachBecomes other xs all
become_by one other each [] all h = h
become_by one other each (x ∷ xs) all (own, others, joins, here, more) = (own, others, joins, each x own here, become_by one other each xs others more)
