-- What all chunks hold, when one of them changes.
use Rattle.std.proofs.Common.{◌≡◌, ◌<◌, ◌≤◌, ◌+◌, ◌-◌, ℕ, suc, zero, List, [], ◌∷◌, ◌++◌, length, get_or, take, drop, arith, refl, sym, ap, ◌∙◌, subst, append_assoc, add-one, Some}
use Rattle.std.specs.Prelude.{slice_get, Result, Ok, Err, OnOk, OnErr, IsOk, is_ok, if◌then◌else◌}
use Rattle.std.specs.Global.{Vec}
use Rattle.std.specs.List.{insert}
use Rattle.std.proofs.Math.ListN.{set}
use Rattle.std.proofs.Math.Seq.{drop-cons, take-suc}
use Rattle.std.proofs.lemmas.Grind.{flat_map-append}
use Rattle.std.proofs.lemmas.List.{append-nil, drop-drop, drop-set, drop-set-lt, get_or-drop, length-append, take-append-drop, take-set, drop_all, take_more_set}
use Rattle.std.proofs.lemmas.List.Edits.{insert-append_left, insert-append_right}
use Rattle.std.proofs.lemmas.Bool.{false≢true}
use Rattle.std.proofs.lemmas.Option.{none-some}
use Rattle.mad_list_rows.specs.Chunks.{all_of, last_of}

-- what is so whatever the result is
pub always_err : {A E : Type 0} (r : Result A E) (P : Type 0) → P → OnErr r P
always_err (Ok a) P p = tt
always_err (Err e) P p = p

module _ {X : Type 0} where
  abbrev held : Vec X → List X
  held = λ chunk. chunk.items

  -- around one chunk
  pub split_all : (cs : List (Vec X)) (k : ℕ) (d : Vec X) → k < length cs → all_of cs ≡ all_of (take k cs) ++ ((get_or cs k d).items ++ all_of (drop (k + 1) cs))
  split_all cs k d h =
      let next : drop k cs ≡ get_or cs k d ∷ drop (k + 1) cs = rw add-one (drop-cons cs k d h) in
      sym (ap (λ (ys : List (Vec X)). all_of ys) (take-append-drop k cs)) ∙ flat_map-append held (take k cs) (drop k cs) ∙ ap (λ (ys : List (Vec X)). all_of (take k cs) ++ all_of ys) next

  -- up to a chunk and after it
  pub halve_all : (cs : List (Vec X)) (k : ℕ) → all_of cs ≡ all_of (take k cs) ++ all_of (drop k cs)
  halve_all cs k = sym (ap (λ (ys : List (Vec X)). all_of ys) (take-append-drop k cs)) ∙ flat_map-append held (take k cs) (drop k cs)

  -- with another chunk in its place
  pub split_set : (cs : List (Vec X)) (k : ℕ) (c : Vec X) → k < length cs → all_of (set cs k c) ≡ all_of (take k cs) ++ (c.items ++ all_of (drop (k + 1) cs))
  split_set cs k c h =
      let ys : List (Vec X) = set cs k c in
      halve_all ys k ∙ ap (λ (zs : List (Vec X)). all_of zs ++ all_of (drop k ys)) (take-set cs k c) ∙ ap (λ (zs : List (Vec X)). all_of (take k cs) ++ all_of zs) (drop-set cs k c h)

  -- up to and with a chunk
  pub all_more : (cs : List (Vec X)) (k : ℕ) (d : Vec X) → k < length cs → all_of (take (k + 1) cs) ≡ all_of (take k cs) ++ (get_or cs k d).items
  all_more cs k d h =
      let next : take (k + 1) cs ≡ take k cs ++ get_or cs k d ∷ [] = rw add-one (take-suc cs k d h) in
      ap (λ (ys : List (Vec X)). all_of ys) next ∙ flat_map-append held (take k cs) (get_or cs k d ∷ []) ∙ ap (λ (zs : List X). all_of (take k cs) ++ zs) (append-nil (get_or cs k d).items)

  -- a chunk that holds the same
  pub set_same : (cs : List (Vec X)) (k : ℕ) (d c : Vec X) → k < length cs → c.items ≡ (get_or cs k d).items → all_of (set cs k c) ≡ all_of cs
  set_same cs k d c h same =
      split_set cs k c h ∙ ap (λ (ys : List X). all_of (take k cs) ++ (ys ++ all_of (drop (k + 1) cs))) same ∙ sym (split_all cs k d h)

  -- an element is put into a chunk
  pub put_in : (cs : List (Vec X)) (k at : ℕ) (x : X) (d c : Vec X) → k < length cs → at ≤ length (get_or cs k d).items → c.items ≡ insert (get_or cs k d).items at x → all_of (set cs k c) ≡ insert (all_of cs) (length (all_of (take k cs)) + at) x
  put_in cs k at x d c h within put =
      let front : List X = all_of (take k cs) in
      let here : List X = (get_or cs k d).items in
      let back : List X = all_of (drop (k + 1) cs) in
      let place : length front + at - length front ≡ at = omega arith in
      split_set cs k c h
      ∙ ap (λ (ys : List X). front ++ (ys ++ back)) put
      ∙ ap (λ (ys : List X). front ++ ys) (sym (insert-append_left here back at x within))
      ∙ ap (λ (n : ℕ). front ++ insert (here ++ back) n x) (sym place)
      ∙ sym (insert-append_right front (here ++ back) (length front) (length front + at) x refl (omega arith))
      ∙ ap (λ (ys : List X). insert ys (length front + at) x) (sym (split_all cs k d h))

  -- a chunk is cut in two
  pub cut_in_two : (cs : List (Vec X)) (k half : ℕ) (d a b : Vec X) → k < length cs → a.items ≡ take half (get_or cs k d).items → b.items ≡ drop half (get_or cs k d).items → all_of (insert (set cs k a) (k + 1) b) ≡ all_of cs
  cut_in_two cs k half d a b h front_is back_is =
      let ys : List (Vec X) = set cs k a in
      let front : List X = all_of (take k cs) in
      let here : List X = (get_or cs k d).items in
      let rest : List X = all_of (drop (k + 1) cs) in
      let taken : all_of (take (k + 1) ys) ≡ front ++ a.items = ap (λ (zs : List (Vec X)). all_of zs) (take_more_set cs k a h) ∙ flat_map-append held (take k cs) (a ∷ []) ∙ ap (λ (zs : List X). front ++ zs) (append-nil a.items) in
      let dropped : all_of (drop (k + 1) ys) ≡ rest = ap (λ (zs : List (Vec X)). all_of zs) (drop-set-lt (k + 1) cs k a (omega arith)) in
      flat_map-append held (take (k + 1) ys) (b ∷ drop (k + 1) ys)
      ∙ ap (λ (zs : List X). zs ++ (b.items ++ all_of (drop (k + 1) ys))) taken
      ∙ ap (λ (zs : List X). (front ++ a.items) ++ (b.items ++ zs)) dropped
      ∙ append_assoc front a.items (b.items ++ rest)
      ∙ ap (λ (zs : List X). front ++ zs) (sym (append_assoc a.items b.items rest))
      ∙ ap (λ (zs : List X). front ++ ((zs ++ b.items) ++ rest)) front_is
      ∙ ap (λ (zs : List X). front ++ ((take half here ++ zs) ++ rest)) back_is
      ∙ ap (λ (zs : List X). front ++ (zs ++ rest)) (take-append-drop half here)
      ∙ sym (split_all cs k d h)

  -- an element is put last into the last chunk
  pub put_last : (cs : List (Vec X)) (k : ℕ) (x : X) (d c : Vec X) → k + 1 ≡ length cs → c.items ≡ (get_or cs k d).items ++ x ∷ [] → all_of (set cs k c) ≡ all_of cs ++ x ∷ []
  put_last cs k x d c last put =
      let front : List X = all_of (take k cs) in
      let here : List X = (get_or cs k d).items in
      let h : k < length cs = omega (arith, last) in
      let none : all_of (drop (k + 1) cs) ≡ [] = ap (λ (zs : List (Vec X)). all_of zs) (drop_all (k + 1) cs (omega (arith, last))) in
      let whole : all_of cs ≡ front ++ here = split_all cs k d h ∙ ap (λ (zs : List X). front ++ (here ++ zs)) none ∙ ap (λ (zs : List X). front ++ zs) (append-nil here) in
      split_set cs k c h ∙ ap (λ (zs : List X). front ++ (c.items ++ zs)) none ∙ ap (λ (zs : List X). front ++ zs) (append-nil c.items) ∙ ap (λ (zs : List X). front ++ zs) put ∙ sym (append_assoc front here (x ∷ [])) ∙ ap (λ (zs : List X). zs ++ x ∷ []) (sym whole)

  -- ---- an element by its index

  -- after others
  pub slice_get-after : (xs ys : List X) (i j : ℕ) → i ≡ length xs + j → slice_get (xs ++ ys) i ≡ slice_get ys j
  slice_get-after [] ys i j e = ap (λ (n : ℕ). slice_get ys n) (omega (arith, e))
  slice_get-after (x ∷ xs) ys zero j e = absurd (omega (arith, e))
  slice_get-after (x ∷ xs) ys (suc i) j e = slice_get-after xs ys i j (omega (arith, e))

  -- before others
  pub slice_get-before : (xs ys : List X) (i : ℕ) → i < length xs → slice_get (xs ++ ys) i ≡ slice_get xs i
  slice_get-before [] ys i h = absurd (omega (arith, h))
  slice_get-before (x ∷ xs) ys zero h = refl
  slice_get-before (x ∷ xs) ys (suc i) h = slice_get-before xs ys i (omega (arith, h))

  -- in a chunk
  pub element_in : (cs : List (Vec X)) (k index left : ℕ) (d : Vec X) → k < length cs → index ≡ length (all_of (take k cs)) + left → left < length (get_or cs k d).items → slice_get (all_of cs) index ≡ slice_get (get_or cs k d).items left
  element_in cs k index left d h is within =
      ap (λ (ys : List X). slice_get ys index) (split_all cs k d h) ∙ slice_get-after (all_of (take k cs)) ((get_or cs k d).items ++ all_of (drop (k + 1) cs)) index left is ∙ slice_get-before (get_or cs k d).items (all_of (drop (k + 1) cs)) left within

  -- one chunk on
  pub length_more : (cs : List (Vec X)) (k : ℕ) (d : Vec X) → k < length cs → length (all_of (take (k + 1) cs)) ≡ length (all_of (take k cs)) + length (get_or cs k d).items
  length_more cs k d h = ap (λ (ys : List X). length ys) (all_more cs k d h) ∙ length-append (all_of (take k cs)) (get_or cs k d).items

  -- ---- the last element

  -- of two parts, where the second has some
  pub last-append : (xs ys : List X) → 0 < length ys → last_of (xs ++ ys) ≡ last_of ys
  last-append xs ys some = slice_get-after xs ys (length (xs ++ ys) - 1) (length ys - 1) (omega (arith, some, length-append xs ys))

  -- a list with a last element has some
  some_last : (xs : List X) (x : X) → last_of xs ≡ Some x → 0 < length xs
  some_last [] x is = absurd (none-some x is)
  some_last (y ∷ ys) x is = omega arith

  -- the chunk's own
  pub last_here : (cs : List (Vec X)) (k : ℕ) (d : Vec X) (x : X) → k < length cs → last_of (get_or cs k d).items ≡ Some x → last_of (all_of (take (k + 1) cs)) ≡ Some x
  last_here cs k d x h is =
      let here : List X = (get_or cs k d).items in
      ap (λ (ys : List X). last_of ys) (all_more cs k d h) ∙ last-append (all_of (take k cs)) here (some_last here x is) ∙ is

  -- ---- as calls say it

  -- what a call made where it went well, and where it didn't
  pub done : {A E : Type 0} (r : Result A E) (new ys zs : List X) → new ≡ (if is_ok r then ys else zs) → IsOk r → new ≡ ys
  done (Ok a) new ys zs e h = e
  done (Err x) new ys zs e h = absurd (false≢true h)

  pub kept_result : {A E : Type 0} (r : Result A E) (cs : List (Vec X)) (k : ℕ) (ys : List X) (old new : Vec X) → k < length cs → old ≡ get_or cs k old → new.items ≡ (if is_ok r then ys else old.items) → OnErr r (all_of (set cs k new) ≡ all_of cs)
  kept_result (Ok a) cs k ys old new h is put = tt
  kept_result (Err e) cs k ys old new h is put = set_same cs k old new h (put ∙ ap (λ (c : Vec X). c.items) is)

  pub push_result : {A E : Type 0} (r : Result A E) (cs : List (Vec X)) (k : ℕ) (x : X) (old new : Vec X) → k + 1 ≡ length cs → old ≡ get_or cs k old → new.items ≡ (if is_ok r then old.items ++ x ∷ [] else old.items) → OnOk r (all_of (set cs k new) ≡ all_of cs ++ x ∷ [])
  push_result (Ok a) cs k x old new last is put =
      put_last cs k x old new last (put ∙ ap (λ (c : Vec X). c.items ++ x ∷ []) is)
  push_result (Err e) cs k x old new last is put = tt

  -- by the chunk that was there
  pub set_kept : (cs : List (Vec X)) (k : ℕ) (old new : Vec X) → k < length cs → old ≡ get_or cs k old → new.items ≡ old.items → all_of (set cs k new) ≡ all_of cs
  set_kept cs k old new h is put = set_same cs k old new h (put ∙ ap (λ (c : Vec X). c.items) is)

  pub put_there : (cs : List (Vec X)) (k at : ℕ) (x : X) (old new : Vec X) → k < length cs → old ≡ get_or cs k old → at ≤ length old.items → new.items ≡ insert old.items at x → all_of (set cs k new) ≡ insert (all_of cs) (length (all_of (take k cs)) + at) x
  put_there cs k at x old new h is within put =
      put_in cs k at x old new h (subst (λ (c : Vec X). at ≤ length c.items) is within) (put ∙ ap (λ (c : Vec X). insert c.items at x) is)

  pub cut_there : (cs : List (Vec X)) (k half : ℕ) (old a b : Vec X) → k < length cs → old ≡ get_or cs k old → a.items ≡ take half old.items → b.items ≡ drop half old.items → all_of (insert (set cs k a) (k + 1) b) ≡ all_of cs
  cut_there cs k half old a b h is front_is back_is =
      cut_in_two cs k half old a b h (front_is ∙ ap (λ (c : Vec X). take half c.items) is) (back_is ∙ ap (λ (c : Vec X). drop half c.items) is)

  -- a chunk's elements are among all
  pub part_within : (cs : List (Vec X)) (k : ℕ) (d : Vec X) → k < length cs → length (all_of (take k cs)) + length (get_or cs k d).items ≤ length (all_of cs)
  part_within cs k d h =
      let rest : List X = all_of (drop (k + 1) cs) in
      let here : List X = (get_or cs k d).items in
      let whole : length (all_of cs) ≡ length (all_of (take k cs) ++ (here ++ rest)) = ap (λ (ys : List X). length ys) (split_all cs k d h) in
      omega (arith, whole, length-append (all_of (take k cs)) (here ++ rest), length-append here rest)

  -- ---- chunks that change one after the other

  -- those that are still to come
  pub rest_same : (xs ys : List (Vec X)) (k : ℕ) (c : Vec X) → drop k ys ≡ drop k xs → drop (k + 1) (set ys k c) ≡ drop (k + 1) xs
  rest_same xs ys k c same =
      drop-set-lt (k + 1) ys k c (omega arith) ∙ sym (drop-drop 1 k ys) ∙ ap (λ (zs : List (Vec X)). drop 1 zs) same ∙ drop-drop 1 k xs

  -- the next of them
  pub next_same : (xs ys : List (Vec X)) (k : ℕ) (d : Vec X) → drop k ys ≡ drop k xs → get_or ys k d ≡ get_or xs k d
  next_same xs ys k d same =
      let here : k + 0 ≡ k = omega arith in
      sym (get_or-drop k ys 0 d ∙ ap (λ (n : ℕ). get_or ys n d) here) ∙ ap (λ (zs : List (Vec X)). get_or zs 0 d) same ∙ get_or-drop k xs 0 d ∙ ap (λ (n : ℕ). get_or xs n d) here

  -- up to and with a chunk that was changed
  pub all_changed : (ys : List (Vec X)) (k : ℕ) (c : Vec X) → k < length ys → all_of (take (k + 1) (set ys k c)) ≡ all_of (take k ys) ++ c.items
  all_changed ys k c h =
      ap (λ (zs : List (Vec X)). all_of zs) (take_more_set ys k c h) ∙ flat_map-append held (take k ys) (c ∷ []) ∙ ap (λ (zs : List X). all_of (take k ys) ++ zs) (append-nil c.items)
