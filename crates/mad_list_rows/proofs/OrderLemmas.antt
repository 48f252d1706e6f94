-- A row that is put into sorted rows, after those that don't come after it.
use Rattle.std.proofs.Common.{◌≡◌, ◌<◌, ◌≤◌, ◌+◌, ◌-◌, ℕ, suc, List, [], ◌∷◌, ◌++◌, length, get_or, take, drop, Bool, true, false, cond, arith, refl, sym, ap, ◌∙◌, subst, ⊎_elim}
use Rattle.std.specs.Prelude.{filter, not, ◌&&◌, Result, Ok, Err, OnOk}
use Rattle.std.specs.Cmp.{IsStrictWeakOrder}
use Rattle.std.specs.List.{All, AllWithin, insert}
use Rattle.std.specs.List.Sorted.{IsPartitionPoint, IsPartitionedBy, IsSortedBy, ties}
use Rattle.std.proofs.lemmas.Bool.{cases_Bool, cases_lt, not-true, true_from_ne_false, false≢true}
use Rattle.std.proofs.lemmas.List.{append-nil, get_or-drop, length-drop, take-append-drop}
use Rattle.std.proofs.lemmas.List.Edits.{length-insert, get_or-insert_at, get_or-insert_below, get_or-insert_above}
use Rattle.std.proofs.lemmas.List.Elements.{filter-append}
use Rattle.std.proofs.lemmas.List.Sorted.{IsPermutation-insert, IsPermutation-to_front, IsPermutation-trans, sorted_far}
use Rattle.mad_list_rows.specs.Answers.{IsStablySorted, by_content}

-- rows are ordered as what they hold is
pub weak_by_content : {T : Type 0} (lt : T → T → Bool) → IsStrictWeakOrder lt → IsStrictWeakOrder (by_content lt)
weak_by_content lt o = record { one_way = λ x y. o.one_way x.content y.content; chain = λ x y z. o.chain x.content y.content z.content }

-- none of a list passes
pub none_passes : {X : Type 0} (p : X → Bool) (xs : List X) → All (λ y. p y ≡ false) xs → filter p xs ≡ []
none_passes p [] h = refl
none_passes {X} p (y ∷ ys) h =
    let rest : All (λ z. p z ≡ false) ys = λ k d lt. h (suc k) d (omega arith) in
    ap (λ (b : Bool). cond b (y ∷ filter p ys) (filter p ys)) (h 0 y (omega arith)) ∙ none_passes p ys rest

-- both parts of a conjunction
pub both : (a b : Bool) → (not a && not b) ≡ true → (a ≡ false) × (b ≡ false)
both true b h = absurd (false≢true h)
both false true h = absurd (false≢true h)
both false false h = (refl, refl)

module _ {X : Type 0} (lt : X → X → Bool) (o : IsStrictWeakOrder lt) where
  -- neighbours in a list that an element was put into: before it, at it, just after it, further on
  sorted_before : (xs : List X) (i : ℕ) (x d : X) (k : ℕ) → i ≤ length xs → IsSortedBy lt xs → k + 1 < i → lt (get_or (insert xs i x) (k + 1) d) (get_or (insert xs i x) k d) ≡ false
  sorted_before xs i x d k within up below =
      let here : k < i = omega arith in
      rw (get_or-insert_below xs i x d (k + 1) below within, get_or-insert_below xs i x d k here within) (up k d (omega arith) (omega arith))

  sorted_at : (xs : List X) (i : ℕ) (x d : X) (k : ℕ) → i ≤ length xs → AllWithin (λ y. lt x y ≡ false) xs 0 i → k + 1 ≡ i → lt (get_or (insert xs i x) (k + 1) d) (get_or (insert xs i x) k d) ≡ false
  sorted_at xs i x d k within front same =
      let here : k < i = omega arith in
      let there : get_or (insert xs i x) (k + 1) d ≡ x = ap (λ (n : ℕ). get_or (insert xs i x) n d) same ∙ get_or-insert_at xs i x d within in
      rw (there, get_or-insert_below xs i x d k here within) (front k d (omega arith) here)

  sorted_next : (xs : List X) (i : ℕ) (x d : X) (k : ℕ) → i ≤ length xs → AllWithin (λ y. lt x y ≡ true) xs i (length xs) → k ≡ i → k < length xs → lt (get_or (insert xs i x) (k + 1) d) (get_or (insert xs i x) k d) ≡ false
  sorted_next xs i x d k within back same h =
      let there : get_or (insert xs i x) k d ≡ x = ap (λ (n : ℕ). get_or (insert xs i x) n d) same ∙ get_or-insert_at xs i x d within in
      rw (get_or-insert_above xs i x d k (omega arith) within, there) (o.one_way x (get_or xs k d) (back k d (omega arith) h))

  sorted_after : (xs : List X) (i : ℕ) (x d : X) (k j : ℕ) → i ≤ length xs → IsSortedBy lt xs → k ≡ j + 1 → i ≤ j → k < length xs → lt (get_or (insert xs i x) (k + 1) d) (get_or (insert xs i x) k d) ≡ false
  sorted_after xs i x d k j within up same above h =
      let there : get_or (insert xs i x) k d ≡ get_or xs j d = ap (λ (n : ℕ). get_or (insert xs i x) n d) same ∙ get_or-insert_above xs i x d j above within in
      let here : get_or (insert xs i x) (k + 1) d ≡ get_or xs (j + 1) d = get_or-insert_above xs i x d k (omega arith) within ∙ ap (λ (n : ℕ). get_or xs n d) same in
      rw (here, there) (up j d (omega arith) (omega arith))

  -- so the whole is sorted
  pub sorted-insert : (xs : List X) (i : ℕ) (x d : X) → i ≤ length xs → IsSortedBy lt xs → IsPartitionPoint (λ y. lt x y ≡ false) (λ y. lt x y ≡ true) xs i → (k : ℕ) → k < length xs → lt (get_or (insert xs i x) (k + 1) d) (get_or (insert xs i x) k d) ≡ false
  sorted-insert xs i x d within up place k h =
      ⊎_elim
      (λ (below : k + 1 < i). sorted_before xs i x d k within up below)
      (λ (not_below : i ≤ k + 1).
      ⊎_elim
      (λ (before : k < i). sorted_at xs i x d k within place.0 (omega arith))
      (λ (on : i ≤ k).
      ⊎_elim
      (λ (above : i < k). sorted_after xs i x d k (k - 1) within up (omega arith) (omega arith) h)
      (λ (at : k ≤ i). sorted_next xs i x d k within place.1 (omega arith) h)
      (cases_lt i k))
      (cases_lt k i))
      (cases_lt (k + 1) i)

  -- what ties with x comes before all that comes after x
  pub no_tie : (x y z : X) → ties lt z x ≡ true → lt x y ≡ true → ties lt z y ≡ false
  no_tie x y z tie after =
      let parts = both (lt z x) (lt x z) tie in
      let before : lt z y ≡ true = true_from_ne_false (lt z y) (λ e. false≢true (sym (o.chain x z y parts.1 e) ∙ after)) in
      ap (λ (b : Bool). not b && not (lt y z)) before

  -- ties keep their order
  pub stable-insert : (xs : List X) (i : ℕ) (x z : X) → AllWithin (λ y. lt x y ≡ true) xs i (length xs) → filter (ties lt z) (insert xs i x) ≡ filter (ties lt z) (xs ++ x ∷ [])
  stable-insert xs i x z back =
      let p : X → Bool = ties lt z in
      let front : List X = filter p (take i xs) in
      let whole : filter p xs ≡ front ++ filter p (drop i xs) = ap (filter p) (sym (take-append-drop i xs)) ∙ filter-append p (take i xs) (drop i xs) in
      let inserted : filter p (insert xs i x) ≡ front ++ filter p (x ∷ drop i xs) = filter-append p (take i xs) (x ∷ drop i xs) in
      let put : filter p (xs ++ x ∷ []) ≡ filter p xs ++ filter p (x ∷ []) = filter-append p xs (x ∷ []) in
      ⊎_elim
      (λ (passes : p x ≡ true).
      let none : filter p (drop i xs) ≡ [] = none_passes p (drop i xs) (λ k d h. no_tie x (get_or (drop i xs) k d) z passes (subst (λ (y : X). lt x y ≡ true) (sym (get_or-drop i xs k d)) (back (i + k) d (omega arith) (omega (arith, length-drop i xs))))) in
      let left : filter p (x ∷ drop i xs) ≡ x ∷ [] = ap (λ (b : Bool). cond b (x ∷ filter p (drop i xs)) (filter p (drop i xs))) passes ∙ ap (λ (ys : List X). x ∷ ys) none in
      let right : filter p (x ∷ []) ≡ x ∷ [] = ap (λ (b : Bool). cond b (x ∷ []) []) passes in
      inserted ∙ ap (λ (ys : List X). front ++ ys) left ∙ sym (put ∙ ap (λ (ys : List X). ys ++ filter p (x ∷ [])) (whole ∙ ap (λ (ys : List X). front ++ ys) none ∙ append-nil front) ∙ ap (λ (ys : List X). front ++ ys) right))
      (λ (fails : p x ≡ false).
      let left : filter p (x ∷ drop i xs) ≡ filter p (drop i xs) = ap (λ (b : Bool). cond b (x ∷ filter p (drop i xs)) (filter p (drop i xs))) fails in
      let right : filter p (x ∷ []) ≡ [] = ap (λ (b : Bool). cond b (x ∷ []) []) fails in
      inserted ∙ ap (λ (ys : List X). front ++ ys) left ∙ sym whole ∙ sym (put ∙ ap (λ (ys : List X). filter p xs ++ ys) right ∙ append-nil (filter p xs)))
      (cases_Bool (p x))

  -- a list in order, with one more element after those that don't come after it, is stably sorted
  pub stably_inserted : (xs : List X) (i : ℕ) (x : X) → i ≤ length xs → IsSortedBy lt xs → IsPartitionPoint (λ y. lt x y ≡ false) (λ y. lt x y ≡ true) xs i → IsStablySorted lt (xs ++ x ∷ []) (insert xs i x)
  stably_inserted xs i x within up place = record {
    elements = IsPermutation-trans (xs ++ x ∷ []) (x ∷ xs) (insert xs i x) (IsPermutation-to_front xs x) (IsPermutation-insert xs i x);
    order = λ k d low high. sorted-insert xs i x d within up place k (omega (arith, length-insert xs i x within));
    ties = λ z. stable-insert xs i x z place.1;
  }

-- the rows that don't come after one are those before its place
pub partitioned : {X : Type 0} (lt : X → X → Bool) (o : IsStrictWeakOrder lt) (xs : List X) (x : X) → IsSortedBy lt xs → IsPartitionedBy (λ y. not (lt x y)) xs
partitioned lt o xs x up = λ i j d le h passes. ap not (o.chain x (get_or xs j d) (get_or xs i d) (not-true (lt x (get_or xs j d)) passes) (sorted_far lt o xs up i j d le h))

-- a test that fails is one whose opposite passes
pub not-false : (t : Bool) → not t ≡ false → t ≡ true
not-false true h = refl
not-false false h = absurd (false≢true (sym h))

-- where a test no longer passes, as its opposite says it
pub place_by_opposite : {X : Type 0} (t : X → Bool) (xs : List X) (i : ℕ) → IsPartitionPoint (λ y. not (t y) ≡ true) (λ y. not (t y) ≡ false) xs i → IsPartitionPoint (λ y. t y ≡ false) (λ y. t y ≡ true) xs i
place_by_opposite t xs i h =
    (λ k d low high. not-true (t (get_or xs k d)) (h.0 k d low high), λ k d low high. not-false (t (get_or xs k d)) (h.1 k d low high))

-- what follows from what a call that went well ensures
pub on_ok : {A E : Type 0} (r : Result A E) (P Q : Type 0) → (P → Q) → OnOk r P → OnOk r Q
on_ok (Ok a) P Q f p = f p
on_ok (Err e) P Q f p = tt
