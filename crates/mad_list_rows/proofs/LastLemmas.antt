-- The last shown row of a list that is kept in parts.
use Rattle.std.proofs.Common.{◌≡◌, ◌<◌, ◌≤◌, ◌+◌, ◌-◌, ℕ, suc, zero, List, ◌++◌, length, get_or, take, drop, Bool, true, false, cond, arith, refl, sym, ap, ◌∙◌, Option, Some, ⊎_elim}
use Rattle.std.specs.Prelude.{min, option_map}
use Rattle.std.specs.Global.{Vec}
use Rattle.std.specs.Option.{option_map_or, option_or}
use Rattle.std.proofs.lemmas.Bool.{cases_lt}
use Rattle.mad_list_rows.specs.declared.list_rows.ListRow.{ListRow}
use Rattle.mad_list_rows.specs.Chunks.{all_of}
use Rattle.mad_list_rows.specs.Selecting.{last_before, shown_at}
use Rattle.mad_list_rows.specs.States.{is_shown}
use Rattle.mad_list_rows.proofs.ChunkLemmas.{length_more, slice_get-after, slice_get-before, split_all}

-- one row more: it is the last where it is shown, or else the one before
later_step : (n i : ℕ) (b : Bool) (last whole before : Option ℕ) → whole ≡ option_or (option_map (λ j. n + j) last) before → cond b (Some (n + i)) whole ≡ option_or (option_map (λ j. n + j) (cond b (Some i) last)) before
later_step n i true last whole before e = refl
later_step n i false last whole before e = e

module _ {T : Type 0} where
  -- of rows in two parts: in the second, or else in the first
  last_after : (xs ys : List (ListRow T)) (n : ℕ) → last_before (xs ++ ys) (length xs + n) ≡ option_or (option_map (λ i. length xs + i) (last_before ys n)) (last_before (xs ++ ys) (length xs))
  last_after xs ys zero =
      let none : length xs + 0 ≡ length xs = omega arith in
      ap (λ (k : ℕ). last_before (xs ++ ys) k) none
  last_after xs ys (suc n) =
      let next : length xs + suc n ≡ suc (length xs + n) = omega arith in
      ap (λ (k : ℕ). last_before (xs ++ ys) k) next
      ∙ ap (λ (o : Option (ListRow T)). cond (option_map_or is_shown o false) (Some (length xs + n)) (last_before (xs ++ ys) (length xs + n))) (slice_get-after xs ys (length xs + n) n refl)
      ∙ later_step (length xs) n (shown_at ys n) (last_before ys n) (last_before (xs ++ ys) (length xs + n)) (last_before (xs ++ ys) (length xs)) (last_after xs ys n)

  -- before a row of the first part
  last_front : (xs ys : List (ListRow T)) (n : ℕ) → n ≤ length xs → last_before (xs ++ ys) n ≡ last_before xs n
  last_front xs ys zero h = refl
  last_front xs ys (suc n) h =
      ap (λ (o : Option (ListRow T)). cond (option_map_or is_shown o false) (Some n) (last_before (xs ++ ys) n)) (slice_get-before xs ys n (omega arith))
      ∙ ap (λ (o : Option ℕ). cond (shown_at xs n) (Some n) o) (last_front xs ys n (omega arith))

  -- of rows in three parts: in the middle one, or else before it
  last_between : (front here rest : List (ListRow T)) (to start n : ℕ) → start ≡ length front + length here → n ≡ min (to - length front) (length here) → last_before (front ++ (here ++ rest)) (min to start) ≡ option_or (option_map (λ i. length front + i) (last_before here n)) (last_before (front ++ (here ++ rest)) (min to (length front)))
  last_between front here rest to start n sum is =
      let all : List (ListRow T) = front ++ (here ++ rest) in
      ⊎_elim
      (λ (within : length front < to).
      let there : min to start ≡ length front + n = omega arith in
      let before : length front ≡ min to (length front) = omega arith in
      ap (λ (k : ℕ). last_before all k) there
      ∙ last_after front (here ++ rest) n
      ∙ ap (λ (o : Option ℕ). option_or (option_map (λ i. length front + i) o) (last_before all (length front))) (last_front here rest n (omega arith))
      ∙ ap (λ (k : ℕ). option_or (option_map (λ i. length front + i) (last_before here n)) (last_before all k)) before)
      (λ (above : to ≤ length front).
      let none : 0 ≡ n = omega arith in
      let same : min to start ≡ min to (length front) = omega arith in
      ap (λ (k : ℕ). last_before all k) same
      ∙ ap (λ (k : ℕ). option_or (option_map (λ i. length front + i) (last_before here k)) (last_before all (min to (length front)))) none)
      (cases_lt (length front) to)

  -- how many rows the chunks before have
  pub front_length : (cs : List (Vec (ListRow T))) (left start : ℕ) (chunk : Vec (ListRow T)) (rows : List (ListRow T)) → 0 < left → left ≤ length cs → chunk ≡ get_or cs (left - 1) chunk → rows ≡ chunk.items → start ≡ length (all_of (take left cs)) → start ≡ length (all_of (take (left - 1) cs)) + length rows
  front_length cs left start chunk rows some within is same at =
      let next : left ≡ left - 1 + 1 = omega arith in
      let rows_here : (get_or cs (left - 1) chunk).items ≡ rows = sym (same ∙ ap (λ (v : Vec (ListRow T)). v.items) is) in
      at ∙ ap (λ (k : ℕ). length (all_of (take k cs))) next
      ∙ length_more cs (left - 1) chunk (omega arith)
      ∙ ap (λ (zs : List (ListRow T)). length (all_of (take (left - 1) cs)) + length zs) rows_here

  -- in the chunk, or else in those before
  pub last_in_chunk : (cs : List (Vec (ListRow T))) (left start to n : ℕ) (chunk : Vec (ListRow T)) (rows : List (ListRow T)) → 0 < left → left ≤ length cs → chunk ≡ get_or cs (left - 1) chunk → rows ≡ chunk.items → start ≡ length (all_of (take left cs)) → n ≡ min (to - (start - length rows)) (length rows) → last_before (all_of cs) (min to start) ≡ option_or (option_map (λ i. (start - length rows) + i) (last_before rows n)) (last_before (all_of cs) (min to (start - length rows)))
  last_in_chunk cs left start to n chunk rows some within is same at count =
      let front : List (ListRow T) = all_of (take (left - 1) cs) in
      let here : List (ListRow T) = (get_or cs (left - 1) chunk).items in
      let rest : List (ListRow T) = all_of (drop (left - 1 + 1) cs) in
      let rows_here : rows ≡ here = same ∙ ap (λ (v : Vec (ListRow T)). v.items) is in
      let long : length rows ≡ length here = ap (λ (zs : List (ListRow T)). length zs) rows_here in
      let sum : start ≡ length front + length rows = front_length cs left start chunk rows some within is same at in
      let before : length front ≡ start - length rows = omega arith in
      let whole : all_of cs ≡ front ++ (here ++ rest) = split_all cs (left - 1) chunk (omega arith) in
      let counted : n ≡ min (to - length front) (length here) = omega arith in
      ap (λ (zs : List (ListRow T)). last_before zs (min to start)) whole
      ∙ last_between front here rest to start n (omega arith) counted
      ∙ ap (λ (zs : List (ListRow T)). option_or (option_map (λ i. length front + i) (last_before here n)) (last_before zs (min to (length front)))) (sym whole)
      ∙ ap (λ (zs : List (ListRow T)). option_or (option_map (λ i. length front + i) (last_before zs n)) (last_before (all_of cs) (min to (length front)))) (sym rows_here)
      ∙ ap (λ (s : ℕ). option_or (option_map (λ i. s + i) (last_before rows n)) (last_before (all_of cs) (min to s))) before
