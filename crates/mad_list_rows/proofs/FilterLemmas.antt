-- A step of showing rows, and of having a filter say which are shown.
use Rattle.std.proofs.Common.{◌≡◌, ◌<◌, ◌≤◌, ◌+◌, ℕ, List, [], ◌∷◌, ◌++◌, length, get_or, take, drop, map, Bool, true, false, cond, arith, refl, sym, ap, subst, ◌∙◌, add-one}
use Rattle.std.proofs.Math.ListN.{set}
use Rattle.std.proofs.Math.Seq.{take-suc-set, map-set_same}
use Rattle.std.specs.Global.{Vec}
use Rattle.std.specs.List.{All, AllWithin, count_by, sum_by}
use Rattle.std.proofs.lemmas.List.{length-append, length-map, map-append}
use Rattle.std.proofs.lemmas.List.Edits.{map_over_more}
use Rattle.std.proofs.lemmas.List.Elements.{All-append, AllWithin-more_set}
use Rattle.std.proofs.lemmas.List.Sums.{count_by-le-length, sum_by-append}
use Rattle.mad_list_rows.specs.declared.list_rows.ListRow.{ListRow}
use Rattle.mad_list_rows.specs.Chunks.{all_of}
use Rattle.mad_list_rows.specs.States.{count_shown, is_shown, row_content, shown_row}
use Rattle.mad_list_rows.proofs.ChunkLemmas.{all_changed, all_more, halve_all, next_same, rest_same}

-- one row more is shown
pub show_more : {T : Type 0} (xs ys : List (ListRow T)) (i : ℕ) (r : ListRow T) → i < length xs → ys ≡ map shown_row (take i xs) ++ drop i xs → r ≡ get_or ys i r → set ys i (record { content = (get_or ys i r).content; shown = true }) ≡ map shown_row (take (i + 1) xs) ++ drop (i + 1) xs
show_more {T} xs ys i r h e is =
    ap (λ (x : ListRow T). set ys i (shown_row x)) (sym is) ∙ map_over_more shown_row xs ys i r h e is

-- the shown ones among the first rows, when one more was asked
pub counted_more : {T : Type 0} (ys : List (ListRow T)) (i : ℕ) (row : ListRow T) → i < length ys → count_by is_shown (take (i + 1) (set ys i row)) ≡ count_by is_shown (take i ys) + cond row.shown 1 0
counted_more {T} ys i row h =
    let taken : take (i + 1) (set ys i row) ≡ take i ys ++ row ∷ [] = rw add-one (take-suc-set ys i row h) in
    let f : ListRow T → ℕ = λ r. cond r.shown 1 0 in
    let summed : sum_by f (take i ys ++ row ∷ []) ≡ sum_by f (take i ys) + sum_by f (row ∷ []) = sum_by-append f (take i ys) (row ∷ []) in
    ap (sum_by f) taken ∙ omega (arith, summed)

-- the facts of a loop over rows that a filter is asked of
pub filtered_more : {T : Type 0} (P : ListRow T → Type 0) (xs ys : List (ListRow T)) (i count after : ℕ) (r : ListRow T) (b : Bool) → i < length ys → P (record { content = (get_or ys i r).content; shown = b }) → after ≡ count + cond b 1 0 → after ≤ i + 1
    → count ≡ count_by is_shown (take i ys) → map row_content ys ≡ map row_content xs → AllWithin P ys 0 i
    → (after ≡ count_by is_shown (take (i + 1) (set ys i (record { content = (get_or ys i r).content; shown = b })))) × (after ≤ i + 1) × (map row_content (set ys i (record { content = (get_or ys i r).content; shown = b })) ≡ map row_content xs) × AllWithin P (set ys i (record { content = (get_or ys i r).content; shown = b })) 0 (i + 1)
filtered_more {T} P xs ys i count after r b h answer counts few counted same all =
    let row : ListRow T = record { content = (get_or ys i r).content; shown = b } in (
      counts ∙ ap (λ (n : ℕ). n + cond b 1 0) counted ∙ sym (counted_more ys i row h),
      few,
      map-set_same row_content ys i row r refl ∙ same,
      AllWithin-more_set ys i row h P all answer,
    )

-- a count where one more counts
pub one_more : (n m : ℕ) (b : Bool) → b ≡ true → m ≡ n + 1 → m ≡ n + cond b 1 0
one_more n m b h e = e ∙ ap (λ (x : Bool). n + cond x 1 0) (sym h)

-- a count where none more does
pub no_more : (n m : ℕ) (b : Bool) → b ≡ false → m ≡ n → m ≡ n + cond b 1 0
no_more n m b h e =
    let zero_more : n ≡ n + 0 = omega arith in
    e ∙ zero_more ∙ ap (λ (x : Bool). n + cond x 1 0) (sym h)

-- ---- chunk after chunk

-- one chunk more is shown
pub show_chunk : {T : Type 0} (xs ys : List (Vec (ListRow T))) (i : ℕ) (d new : Vec (ListRow T)) → i < length ys → i < length xs → new.items ≡ map shown_row (get_or ys i d).items
    → all_of (take i ys) ≡ map shown_row (all_of (take i xs)) → drop i ys ≡ drop i xs
    → (all_of (take (i + 1) (set ys i new)) ≡ map shown_row (all_of (take (i + 1) xs))) × (drop (i + 1) (set ys i new) ≡ drop (i + 1) xs)
show_chunk {T} xs ys i d new h k put front rest =
    let here : (get_or ys i d).items ≡ (get_or xs i d).items = ap (λ (v : Vec (ListRow T)). v.items) (next_same xs ys i d rest) in (
      all_changed ys i new h
          ∙ ap (λ (zs : List (ListRow T)). zs ++ new.items) front
          ∙ ap (λ (zs : List (ListRow T)). map shown_row (all_of (take i xs)) ++ zs) (put ∙ ap (λ (zs : List (ListRow T)). map shown_row zs) here)
          ∙ sym (map-append shown_row (all_of (take i xs)) (get_or xs i d).items)
          ∙ ap (λ (zs : List (ListRow T)). map shown_row zs) (sym (all_more xs i d k)),
      rest_same xs ys i new rest,
    )

-- the shown ones among the first chunks' rows, when one chunk more was asked
pub counted_chunk : {T : Type 0} (ys : List (Vec (ListRow T))) (i count n : ℕ) (new : Vec (ListRow T)) → i < length ys → n ≡ count_shown new.items → count ≡ count_shown (all_of (take i ys)) → count + n ≡ count_shown (all_of (take (i + 1) (set ys i new)))
counted_chunk {T} ys i count n new h some counted =
    let f : ListRow T → ℕ = λ r. cond r.shown 1 0 in
    let summed : sum_by f (all_of (take i ys) ++ new.items) ≡ sum_by f (all_of (take i ys)) + sum_by f new.items = sum_by-append f (all_of (take i ys)) new.items in
    ap (λ (m : ℕ). m + n) counted ∙ ap (λ (m : ℕ). count_shown (all_of (take i ys)) + m) some ∙ sym summed ∙ ap (sum_by f) (sym (all_changed ys i new h))

-- the first chunks hold the same, when one chunk more was asked
pub same_chunk : {T : Type 0} (xs ys : List (Vec (ListRow T))) (i : ℕ) (d new : Vec (ListRow T)) → i < length ys → i < length xs → map row_content new.items ≡ map row_content (get_or ys i d).items
    → map row_content (all_of (take i ys)) ≡ map row_content (all_of (take i xs)) → drop i ys ≡ drop i xs
    → map row_content (all_of (take (i + 1) (set ys i new))) ≡ map row_content (all_of (take (i + 1) xs))
same_chunk {T} xs ys i d new h k kept front rest =
    let here : (get_or ys i d).items ≡ (get_or xs i d).items = ap (λ (v : Vec (ListRow T)). v.items) (next_same xs ys i d rest) in
    ap (λ (zs : List (ListRow T)). map row_content zs) (all_changed ys i new h)
    ∙ map-append row_content (all_of (take i ys)) new.items
    ∙ ap (λ (zs : List T). zs ++ map row_content new.items) front
    ∙ ap (λ (zs : List T). map row_content (all_of (take i xs)) ++ zs) (kept ∙ ap (λ (zs : List (ListRow T)). map row_content zs) here)
    ∙ sym (map-append row_content (all_of (take i xs)) (get_or xs i d).items)
    ∙ ap (λ (zs : List (ListRow T)). map row_content zs) (sym (all_more xs i d k))

-- the filter answered for the first chunks, when one chunk more was asked
pub answered_chunk : {T : Type 0} (P : ListRow T → Type 0) (ys : List (Vec (ListRow T))) (i : ℕ) (new : Vec (ListRow T)) → i < length ys → All P (all_of (take i ys)) → All P new.items → All P (all_of (take (i + 1) (set ys i new)))
answered_chunk {T} P ys i new h front here =
    subst (λ (zs : List (ListRow T)). All P zs) (sym (all_changed ys i new h)) (All-append P (all_of (take i ys)) new.items front here)

-- rows that hold the same as the first chunks' are no more than all
pub few_shown : {T : Type 0} (xs : List (Vec (ListRow T))) (k : ℕ) (rows : List (ListRow T)) → map row_content rows ≡ map row_content (all_of (take k xs)) → count_shown rows ≤ length (all_of xs)
few_shown {T} xs k rows same =
    let as_long : length rows ≡ length (all_of (take k xs)) = sym (length-map rows row_content) ∙ ap (λ (zs : List T). length zs) same ∙ length-map (all_of (take k xs)) row_content in
    let whole : length (all_of xs) ≡ length (all_of (take k xs) ++ all_of (drop k xs)) = ap (λ (zs : List (ListRow T)). length zs) (halve_all xs k) in
    omega (arith, as_long, whole, length-append (all_of (take k xs)) (all_of (drop k xs)), count_by-le-length is_shown rows)
