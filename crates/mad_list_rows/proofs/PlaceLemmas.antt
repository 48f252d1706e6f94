-- The place of an element in a sorted list that is kept in parts.
use Rattle.std.proofs.Common.{◌≡◌, ◌<◌, ◌≤◌, ◌+◌, ◌-◌, ℕ, List, [], ◌∷◌, ◌++◌, length, get_or, take, drop, Bool, true, false, arith, refl, sym, ap, ◌∙◌, subst, Option, Some, ⊎_elim}
use Rattle.std.specs.Cmp.{IsStrictWeakOrder}
use Rattle.std.specs.Global.{Vec}
use Rattle.std.specs.List.{All}
use Rattle.std.specs.List.Sorted.{IsPartitionPoint, IsSortedBy}
use Rattle.std.specs.Option.{option_map_or}
use Rattle.std.proofs.Math.ListN.{get_or-append}
use Rattle.std.proofs.lemmas.Bool.{cases_lt, false≢true, true_from_ne_false}
use Rattle.std.proofs.lemmas.List.{get_or-append-add, get_or-append_right, length-append}
use Rattle.std.proofs.lemmas.List.Sorted.{sorted_far}
use Rattle.std.proofs.lemmas.Option.{slice_get-get_or}
use Rattle.mad_list_rows.specs.declared.list_rows.ListRow.{ListRow}
use Rattle.mad_list_rows.specs.Answers.{by_content}
use Rattle.mad_list_rows.specs.Chunks.{all_of, last_of}
use Rattle.mad_list_rows.specs.Places.{IsPlaceOf}
use Rattle.mad_list_rows.proofs.ChunkLemmas.{split_all}

module _ {X : Type 0} (lt : X → X → Bool) (o : IsStrictWeakOrder lt) where
  -- the last of a list that has some
  last_is : (xs : List X) (d : X) → 0 < length xs → last_of xs ≡ Some (get_or xs (length xs - 1) d)
  last_is xs d some = slice_get-get_or xs (length xs - 1) d (omega (arith, some))

  -- where x comes before the first part's last, it comes before all of the second
  pub all_after : (xs ys : List X) (x : X) → IsSortedBy lt (xs ++ ys) → option_map_or (lt x) (last_of xs) false ≡ true → All (λ y. lt x y ≡ true) ys
  all_after [] ys x up before = absurd (false≢true before)
  all_after (z ∷ zs) ys x up before = λ k d h.
      let xs : List X = z ∷ zs in
      let last : ℕ = length xs - 1 in
      let sum : length (xs ++ ys) ≡ length xs + length ys = length-append xs ys in
      let lasts : lt x (get_or xs last d) ≡ true = sym (ap (λ (r : Option X). option_map_or (lt x) r false) (last_is xs d (omega arith))) ∙ before in
      let far : lt (get_or (xs ++ ys) (length xs + k) d) (get_or (xs ++ ys) last d) ≡ false = sorted_far lt o (xs ++ ys) up last (length xs + k) d (omega arith) (omega (arith, sum, h)) in
      let here : lt (get_or ys k d) (get_or xs last d) ≡ false = subst (λ (w : X). lt (get_or ys k d) w ≡ false) (get_or-append xs ys d last (omega arith)) (subst (λ (w : X). lt w (get_or (xs ++ ys) last d) ≡ false) (get_or-append-add xs ys k d) far) in
      true_from_ne_false (lt x (get_or ys k d)) (λ e. false≢true (sym (o.chain x (get_or ys k d) (get_or xs last d) e here) ∙ lasts))

  -- where x doesn't come before a list's last, it comes before none of it
  pub none_after : (xs ys : List X) (x : X) → IsSortedBy lt (xs ++ ys) → option_map_or (lt x) (last_of xs) false ≡ false → All (λ y. lt x y ≡ false) xs
  none_after [] ys x up before = λ k d h. absurd (omega (arith, h))
  none_after (z ∷ zs) ys x up before = λ k d h.
      let xs : List X = z ∷ zs in
      let last : ℕ = length xs - 1 in
      let sum : length (xs ++ ys) ≡ length xs + length ys = length-append xs ys in
      let lasts : lt x (get_or xs last d) ≡ false = sym (ap (λ (r : Option X). option_map_or (lt x) r false) (last_is xs d (omega arith))) ∙ before in
      let far : lt (get_or (xs ++ ys) last d) (get_or (xs ++ ys) k d) ≡ false = sorted_far lt o (xs ++ ys) up k last d (omega (arith, h)) (omega (arith, sum)) in
      let here : lt (get_or xs last d) (get_or xs k d) ≡ false = subst (λ (w : X). lt w (get_or xs k d) ≡ false) (get_or-append xs ys d last (omega arith)) (subst (λ (w : X). lt (get_or (xs ++ ys) last d) w ≡ false) (get_or-append xs ys d k h) far) in
      o.chain x (get_or xs last d) (get_or xs k d) lasts here

module _ {X : Type 0} (lt : X → X → Bool) where
  -- a part of sorted elements is sorted
  sorted_front : (xs ys : List X) → IsSortedBy lt (xs ++ ys) → IsSortedBy lt xs
  sorted_front xs ys up = λ k d low high.
      subst (λ (w : X). lt w (get_or xs k d) ≡ false) (get_or-append xs ys d (k + 1) high)
      (subst (λ (w : X). lt (get_or (xs ++ ys) (k + 1) d) w ≡ false) (get_or-append xs ys d k (omega arith)) (up k d low (omega (arith, length-append xs ys))))

  sorted_back : (xs ys : List X) → IsSortedBy lt (xs ++ ys) → IsSortedBy lt ys
  sorted_back xs ys up = λ k d low high.
      let n : ℕ = length xs in
      let next : n + k + 1 ≡ n + (k + 1) = omega arith in
      let second : get_or (xs ++ ys) (n + k + 1) d ≡ get_or ys (k + 1) d = ap (λ (i : ℕ). get_or (xs ++ ys) i d) next ∙ get_or-append-add xs ys (k + 1) d in
      subst (λ (w : X). lt w (get_or ys k d) ≡ false) second
      (subst (λ (w : X). lt (get_or (xs ++ ys) (n + k + 1) d) w ≡ false) (get_or-append-add xs ys k d) (up (n + k) d (omega arith) (omega (arith, length-append xs ys))))

  pub sorted_between : (front here rest : List X) → IsSortedBy lt (front ++ (here ++ rest)) → IsSortedBy lt here
  sorted_between front here rest up = sorted_front here rest (sorted_back front (here ++ rest) up)

-- in the middle one of three parts, where no element of the first comes after it, and all of the last do
module _ {X : Type 0} (P Q : X → Type 0) where
  pub place_between : (front here rest : List X) (at : ℕ) → at ≤ length here → All P front → IsPartitionPoint P Q here at → All Q rest → IsPartitionPoint P Q (front ++ (here ++ rest)) (length front + at)
  place_between front here rest at within before place after =
      let n : ℕ = length front in
      let all : List X = front ++ (here ++ rest) in (
        λ k d low high.
            ⊎_elim
            (λ (first : k < n). subst P (sym (get_or-append front (here ++ rest) d k first)) (before k d first))
            (λ (later : n ≤ k).
            subst P (sym (get_or-append_right front (here ++ rest) n k d refl later ∙ get_or-append here rest d (k - n) (omega arith))) (place.0 (k - n) d (omega arith) (omega arith)))
            (cases_lt k n),
        λ k d low high.
            let there : get_or all k d ≡ get_or (here ++ rest) (k - n) d = get_or-append_right front (here ++ rest) n k d refl (omega arith) in
            let long : length all ≡ n + (length here + length rest) = length-append front (here ++ rest) ∙ ap (λ (m : ℕ). n + m) (length-append here rest) in
            ⊎_elim
            (λ (middle : k - n < length here). subst Q (sym (there ∙ get_or-append here rest d (k - n) middle)) (place.1 (k - n) d (omega arith) middle))
            (λ (last : length here ≤ k - n). subst Q (sym (there ∙ get_or-append_right here rest (length here) (k - n) d refl last)) (after (k - n - length here) d (omega arith)))
            (cases_lt (k - n) (length here)),
      )

module _ {T : Type 0} (lt : T → T → Bool) where
  -- the rows of a chunk are sorted where those of all are
  pub chunk_sorted : (cs : List (Vec (ListRow T))) (k : ℕ) (d : Vec (ListRow T)) → k < length cs → IsSortedBy (by_content lt) (all_of cs) → IsSortedBy (by_content lt) (get_or cs k d).items
  chunk_sorted cs k d h up =
      sorted_between (by_content lt) (all_of (take k cs)) (get_or cs k d).items (all_of (drop (k + 1) cs)) (subst (λ (ys : List (ListRow T)). IsSortedBy (by_content lt) ys) (split_all cs k d h) up)

  -- a place in a chunk, among the rows of all
  pub place_in_all : (cs : List (Vec (ListRow T))) (k at : ℕ) (d : Vec (ListRow T)) (content : T) → k < length cs → at ≤ length (get_or cs k d).items → All (λ row. lt content row.content ≡ false) (all_of (take k cs)) → IsPlaceOf lt (get_or cs k d).items content at → All (λ row. lt content row.content ≡ true) (all_of (drop (k + 1) cs)) → IsPlaceOf lt (all_of cs) content (length (all_of (take k cs)) + at)
  place_in_all cs k at d content h within before place after =
      let front : List (ListRow T) = all_of (take k cs) in
      subst (λ (ys : List (ListRow T)). IsPlaceOf lt ys content (length front + at)) (sym (split_all cs k d h))
      (place_between (λ (row : ListRow T). lt content row.content ≡ false) (λ (row : ListRow T). lt content row.content ≡ true) front (get_or cs k d).items (all_of (drop (k + 1) cs)) at within before place after)
