-- The first shown row of a list that is kept in parts.
use Rattle.std.proofs.Common.{◌≡◌, ◌<◌, ◌≤◌, ◌+◌, ◌-◌, ℕ, suc, List, [], ◌∷◌, ◌++◌, length, get_or, take, drop, Bool, true, false, cond, arith, refl, sym, ap, ◌∙◌, Option, Some, None, ⊎_elim}
use Rattle.std.specs.Prelude.{option_map}
use Rattle.std.specs.Global.{Vec}
use Rattle.std.specs.List.{position_from}
use Rattle.std.specs.Option.{option_or}
use Rattle.std.proofs.lemmas.Bool.{cases_lt}
use Rattle.std.proofs.lemmas.List.{drop-append-le, drop-drop, drop_at, length-drop}
use Rattle.mad_list_rows.specs.declared.list_rows.ListRow.{ListRow}
use Rattle.mad_list_rows.specs.Chunks.{all_of}
use Rattle.mad_list_rows.specs.Selecting.{first_from}
use Rattle.mad_list_rows.specs.States.{is_shown}
use Rattle.mad_list_rows.proofs.ChunkLemmas.{all_more, split_all}
use Rattle.mad_list_rows.proofs.FindingLemmas.{first_past}

-- one element on
append_step : (from : ℕ) (b : Bool) (whole first : Option ℕ) (second : Option ℕ) → whole ≡ option_or first second → cond b (Some from) whole ≡ option_or (cond b (Some from) first) second
append_step from true whole first second e = refl
append_step from false whole first second e = e

later_step : (from n : ℕ) (b : Bool) (later first : Option ℕ) → later ≡ option_map (λ i. n + i) first → cond b (Some (n + from)) later ≡ option_map (λ i. n + i) (cond b (Some from) first)
later_step from n true later first e = refl
later_step from n false later first e = e

module _ {X : Type 0} (t : X → Bool) where
  -- in two parts: in the first, or else in the second
  pub position-append : (xs ys : List X) (from : ℕ) → position_from t from (xs ++ ys) ≡ option_or (position_from t from xs) (position_from t (from + length xs) ys)
  position-append [] ys from =
      let here : from ≡ from + 0 = omega arith in
      ap (λ (n : ℕ). position_from t n ys) here
  position-append (x ∷ xs) ys from =
      let next : from + 1 + length xs ≡ from + suc (length xs) = omega arith in
      append_step from (t x) (position_from t (from + 1) (xs ++ ys)) (position_from t (from + 1) xs) (position_from t (from + suc (length xs)) ys)
      (position-append xs ys (from + 1) ∙ ap (λ (n : ℕ). option_or (position_from t (from + 1) xs) (position_from t n ys)) next)

  -- from a later start each index is as much later
  pub position-later : (xs : List X) (from n : ℕ) → position_from t (n + from) xs ≡ option_map (λ i. n + i) (position_from t from xs)
  position-later [] from n = refl
  position-later (x ∷ xs) from n =
      let next : n + from + 1 ≡ n + (from + 1) = omega arith in
      later_step from n (t x) (position_from t (n + from + 1) xs) (position_from t (from + 1) xs)
      (ap (λ (m : ℕ). position_from t m xs) next ∙ position-later xs (from + 1) n)

module _ {T : Type 0} where
  -- of rows in two parts: in the first, or else in the second
  pub first-append : (xs ys : List (ListRow T)) (from : ℕ) → first_from (xs ++ ys) from ≡ option_or (first_from xs from) (option_map (λ i. length xs + i) (first_from ys (from - length xs)))
  first-append xs ys from =
      let n : ℕ = length xs in
      let m : ℕ = from - n in
      ⊎_elim
      (λ (within : from < n).
      let here : from + length (drop from xs) ≡ n + 0 = omega (arith, length-drop from xs) in
      let none : 0 ≡ m = omega arith in
      let later : position_from is_shown (from + length (drop from xs)) ys ≡ option_map (λ i. n + i) (first_from ys m) = ap (λ (k : ℕ). position_from is_shown k ys) here ∙ position-later is_shown ys 0 n ∙ ap (λ (k : ℕ). option_map (λ i. n + i) (first_from ys k)) none in
      ap (λ (zs : List (ListRow T)). position_from is_shown from zs) (drop-append-le from xs ys (omega arith))
      ∙ position-append is_shown (drop from xs) ys from
      ∙ ap (λ (o : Option ℕ). option_or (first_from xs from) o) later)
      (λ (past : n ≤ from).
      let is : from ≡ n + m = omega arith in
      let dropped : drop from (xs ++ ys) ≡ drop m ys = ap (λ (k : ℕ). drop k (xs ++ ys)) is ∙ sym (drop-drop m n (xs ++ ys)) ∙ ap (λ (zs : List (ListRow T)). drop m zs) (drop_at xs ys n refl) in
      ap (λ (zs : List (ListRow T)). position_from is_shown from zs) dropped
      ∙ ap (λ (k : ℕ). position_from is_shown k (drop m ys)) is
      ∙ position-later is_shown (drop m ys) m n
      ∙ ap (λ (o : Option ℕ). option_or o (option_map (λ i. n + i) (first_from ys m))) (sym (first_past xs from past)))
      (cases_lt from n)

  -- where none of the chunks before has one: in the chunk
  pub first_found : (cs : List (Vec (ListRow T))) (k from start n i : ℕ) (chunk : Vec (ListRow T)) (rows : List (ListRow T)) → k < length cs → chunk ≡ get_or cs k chunk → rows ≡ chunk.items → start ≡ length (all_of (take k cs)) → n ≡ from - start → first_from (all_of (take k cs)) from ≡ None → first_from rows n ≡ Some i → first_from (all_of cs) from ≡ Some (start + i)
  first_found cs k from start n i chunk rows h is same at left none found =
      let front : List (ListRow T) = all_of (take k cs) in
      let here : List (ListRow T) = (get_or cs k chunk).items in
      let rest : List (ListRow T) = all_of (drop (k + 1) cs) in
      let m : ℕ = from - length front in
      let rows_here : rows ≡ here = same ∙ ap (λ (v : Vec (ListRow T)). v.items) is in
      let in_chunk : first_from here m ≡ Some i = ap (λ (j : ℕ). first_from here j) (sym (left ∙ ap (λ (s : ℕ). from - s) at)) ∙ ap (λ (zs : List (ListRow T)). first_from zs n) (sym rows_here) ∙ found in
      let in_rest : first_from (here ++ rest) m ≡ Some i = first-append here rest m ∙ ap (λ (o : Option ℕ). option_or o (option_map (λ j. length here + j) (first_from rest (m - length here)))) in_chunk in
      ap (λ (zs : List (ListRow T)). first_from zs from) (split_all cs k chunk h)
      ∙ first-append front (here ++ rest) from
      ∙ ap (λ (o : Option ℕ). option_or o (option_map (λ j. length front + j) (first_from (here ++ rest) m))) none
      ∙ ap (λ (o : Option ℕ). option_map (λ j. length front + j) o) in_rest
      ∙ ap (λ (s : ℕ). Some (s + i)) (sym at)

  -- where the chunk has none either: in none of these
  pub none_found : (cs : List (Vec (ListRow T))) (k from start n : ℕ) (chunk : Vec (ListRow T)) (rows : List (ListRow T)) → k < length cs → chunk ≡ get_or cs k chunk → rows ≡ chunk.items → start ≡ length (all_of (take k cs)) → n ≡ from - start → first_from (all_of (take k cs)) from ≡ None → first_from rows n ≡ None → first_from (all_of (take (k + 1) cs)) from ≡ None
  none_found cs k from start n chunk rows h is same at left none found =
      let front : List (ListRow T) = all_of (take k cs) in
      let here : List (ListRow T) = (get_or cs k chunk).items in
      let m : ℕ = from - length front in
      let rows_here : rows ≡ here = same ∙ ap (λ (v : Vec (ListRow T)). v.items) is in
      let in_chunk : first_from here m ≡ None = ap (λ (j : ℕ). first_from here j) (sym (left ∙ ap (λ (s : ℕ). from - s) at)) ∙ ap (λ (zs : List (ListRow T)). first_from zs n) (sym rows_here) ∙ found in
      ap (λ (zs : List (ListRow T)). first_from zs from) (all_more cs k chunk h)
      ∙ first-append front here from
      ∙ ap (λ (o : Option ℕ). option_or o (option_map (λ j. length front + j) (first_from here m))) none
      ∙ ap (λ (o : Option ℕ). option_map (λ j. length front + j) o) in_chunk
