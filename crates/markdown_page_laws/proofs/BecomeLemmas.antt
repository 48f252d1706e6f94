-- What becomes of lists of elements.
use Rattle.std.proofs.Common.{List, [], ◌∷◌, ◌++◌, map, sym, ap, ◌∙◌, subst, append-nil}
use Rattle.std.specs.List.{flat_map}
use Rattle.std.proofs.lemmas.List.{map-append}
use Rattle.mad_format.specs.Lists.{EachBecomes}
use Rattle.mad_format.proofs.ListLemmas.{both_become, become_apart}

-- what becomes of one element
pub one_becomes : {A B : Type 0} (becomes : A → List B → Type 0) (x : A) (all : List B) → EachBecomes becomes (x ∷ []) all → becomes x all
one_becomes {A} {B} becomes x all (own, others, joins, here, none) = subst (becomes x) (sym (joins ∙ ap (λ (l : List B). own ++ l) none ∙ append-nil own)) here

-- what becomes of lists that are joined, list by list
pub lists_become : {A B C : Type 0} (becomes : B → List C → Type 0) (lists : A → List B) (xs : List A) (all : List C) → EachBecomes becomes (flat_map lists xs) all
    → EachBecomes (λ (x : A) (own : List C). EachBecomes becomes (lists x) own) xs all
lists_become becomes lists [] all h = h
lists_become becomes lists (x ∷ xs) all h =
    let apart = become_apart becomes (lists x) (flat_map lists xs) all h in
    (apart.0, apart.1, apart.2, apart.3, lists_become becomes lists xs apart.1 apart.4)

-- what becomes of each list, joined: of each element that becomes, a part is looked at
pub parts_become : {A B C D : Type 0} (becomes : B → List D → Type 0) (lists : A → List B) (part : C → D) (xs : List A) (all : List C)
    → EachBecomes (λ (x : A) (own : List C). EachBecomes becomes (lists x) (map part own)) xs all → EachBecomes becomes (flat_map lists xs) (map part all)
parts_become becomes lists part [] all h = ap (map part) h
parts_become {A} {B} {C} {D} becomes lists part (x ∷ xs) all (own, others, joins, here, more) =
    subst (EachBecomes becomes (lists x ++ flat_map lists xs)) (sym (ap (map part) joins ∙ map-append part own others))
    (both_become becomes (lists x) (flat_map lists xs) (map part own) (map part others) here (parts_become becomes lists part xs others more))
