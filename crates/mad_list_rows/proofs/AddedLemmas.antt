-- What a list keeps when a row was put in.
use Rattle.std.proofs.Common.{◌≡◌, ◌<◌, ◌≤◌, ◌+◌, ◌-◌, ◌^◌, ℕ, suc, List, [], ◌∷◌, ◌++◌, length, get_or, map, Bool, true, false, cond, Option, Some, None, Ordering, arith, refl, sym, ap, ◌∙◌, subst}
use Rattle.std.specs.Prelude.{IfSome, is_none, ◌&&◌, if◌then◌else◌}
use Rattle.std.specs.List.{sum_by}
use Rattle.std.specs.List.Sorted.{IsPermutation, IsSortedBy}
use Rattle.std.proofs.lemmas.List.{get_or-map, length-append, length-map}
use Rattle.std.proofs.Math.ListN.{get_or-map as get_or-map-with}
use Rattle.std.proofs.lemmas.List.Elements.{All-append, All-cons, All-nil}
use Rattle.std.proofs.lemmas.List.Sorted.{All-permutation, IsPermutation-refl, length_permutation, sum_by-IsPermutation}
use Rattle.std.proofs.lemmas.List.Sums.{sum_by-append}
use Rattle.mad_list_rows.specs.declared.list_rows.ListRow.{ListRow}
use Rattle.mad_list_rows.specs.Answers.{AreAnswered, IsAnswered, IsWithRow, by_content}
use Rattle.mad_list_rows.specs.Adding.{IsAdded}
use Rattle.mad_list_rows.specs.Caches.{AreKept, AreSorted}
use Rattle.mad_list_rows.specs.Scrolling.{bottom_scroll, scrolled_to, shows_bottom}
use Rattle.mad_list_rows.specs.States.{ListState, count_shown, row_content, shown_row}

-- the rows are those of before and the one
pub with_row_elements : {O T : Type 0} (compares : O → T → T → Ordering → Type 0) (order : Option O) (old : List (ListRow T)) (row : ListRow T) (new : List (ListRow T)) → IsWithRow compares order old row new → IsPermutation (old ++ row ∷ []) new
with_row_elements {O} {T} compares None old row new h =
    subst (λ (ys : List (ListRow T)). IsPermutation (old ++ row ∷ []) ys) (sym h) (IsPermutation-refl (old ++ row ∷ []))
with_row_elements compares (Some o) old row new h = h.0

-- an index below a length is below a greater one
pub within_more : (selection : Option ℕ) (n m : ℕ) → n ≤ m → IfSome selection (λ i. i < n) → IfSome selection (λ i. i < m)
within_more None n m h below = below
within_more (Some i) n m h below = omega arith

-- all that a list keeps
pub kept_with_row : {T F O : Type 0} (answers : F → T → Bool → Type 0) (compares : O → T → T → Ordering → Type 0) (filter : Option F) (order : Option O) (old new : List (ListRow T)) (count shown after : ℕ) (sorted : Bool) (selection : Option ℕ) (row : ListRow T) → AreKept answers compares filter order old count shown sorted selection → count + 1 < 2 ^ 63 → IsAnswered answers filter row → IsWithRow compares order old row new → AreSorted compares order new → after ≡ shown + cond row.shown 1 0 → AreKept answers compares filter order new (count + 1) after true selection
kept_with_row {T} answers compares filter order old new count shown after sorted selection row kept few answered put in_order counts =
    let elements = with_row_elements compares order old row new put in
    let f : ListRow T → ℕ = λ r. cond r.shown 1 0 in
    let P : ListRow T → Type 0 = IsAnswered answers filter in
    let total : sum_by f new ≡ sum_by f (old ++ row ∷ []) = sum_by-IsPermutation f (old ++ row ∷ []) new elements in
    let parts : sum_by f (old ++ row ∷ []) ≡ sum_by f old + sum_by f (row ∷ []) = sum_by-append f old (row ∷ []) in
    let longer : length new ≡ length (old ++ row ∷ []) = length_permutation (old ++ row ∷ []) new elements in
    let counted : count + 1 ≡ length new = omega (arith, kept.all_counted, longer, length-append old (row ∷ [])) in
    record {
      all_counted = counted;
      few = few;
      answered = All-permutation P (old ++ row ∷ []) new elements (All-append P old (row ∷ []) kept.answered (All-cons P row [] answered (All-nil P)));
      counted = counts ∙ ap (λ (n : ℕ). n + cond row.shown 1 0) kept.counted ∙ omega (arith, total, parts);
      in_order = λ _. in_order;
      selected = within_more selection (length old) (length new) (omega (arith, longer, length-append old (row ∷ []))) kept.selected;
    }

-- what the row of an index holds
content_at : {T : Type 0} (rows : List (ListRow T)) (i : ℕ) (d : ListRow T) → get_or (map row_content rows) i d.content ≡ (get_or rows i d).content
content_at rows i d = get_or-map-with row_content rows i d

-- rows that hold the same are in order alike
pub sorted_alike : {T : Type 0} (lt : T → T → Bool) (xs ys : List (ListRow T)) → map row_content ys ≡ map row_content xs → IsSortedBy (by_content lt) xs → IsSortedBy (by_content lt) ys
sorted_alike {T} lt xs ys same up = λ k d low high.
    let as_long : length ys ≡ length xs = sym (length-map ys row_content) ∙ ap (λ (zs : List T). length zs) same ∙ length-map xs row_content in
    let at : (i : ℕ) → (get_or ys i d).content ≡ (get_or xs i d).content = λ i. sym (content_at ys i d) ∙ ap (λ (zs : List T). get_or zs i d.content) same ∙ content_at xs i d in
    subst (λ (x : T). lt x (get_or ys k d).content ≡ false) (sym (at (k + 1)))
    (subst (λ (y : T). lt (get_or xs (k + 1) d).content y ≡ false) (sym (at k)) (up k d low (omega (arith, as_long))))

-- so are they by the stored order
pub are_sorted_alike : {O T : Type 0} (compares : O → T → T → Ordering → Type 0) (order : Option O) (xs ys : List (ListRow T)) → map row_content ys ≡ map row_content xs → AreSorted compares order xs → AreSorted compares order ys
are_sorted_alike compares None xs ys same up = tt
are_sorted_alike compares (Some o) xs ys same up = λ lt by. sorted_alike lt xs ys same (up lt by)

-- all that a list keeps, when its rows were shown anew
pub kept_filtered : {T F O : Type 0} (answers : F → T → Bool → Type 0) (compares : O → T → T → Ordering → Type 0) (filter filter' : Option F) (order : Option O) (old new : List (ListRow T)) (count shown after : ℕ) (sorted : Bool) (selection : Option ℕ) → AreKept answers compares filter order old count shown sorted selection → map row_content new ≡ map row_content old → AreAnswered answers filter' new → after ≡ count_shown new → AreKept answers compares filter' order new count after sorted selection
kept_filtered {T} answers compares filter filter' order old new count shown after sorted selection kept same answered counted =
    let as_long : length new ≡ length old = sym (length-map new row_content) ∙ ap (λ (zs : List T). length zs) same ∙ length-map old row_content in
    record {
      all_counted = kept.all_counted ∙ sym as_long;
      few = kept.few;
      answered = answered;
      counted = counted;
      in_order = λ is. are_sorted_alike compares order old new same (kept.in_order is);
      selected = within_more selection (length old) (length new) (omega (arith, as_long)) kept.selected;
    }

-- rows that are all shown hold the same
pub shown_same : {T : Type 0} (rows : List (ListRow T)) → map row_content (map shown_row rows) ≡ map row_content rows
shown_same [] = refl
shown_same {T} (r ∷ rs) = ap (λ (xs : List T). r.content ∷ xs) (shown_same rs)

-- each of them counts as shown
pub count_all_shown : {T : Type 0} (rows : List (ListRow T)) → count_shown (map shown_row rows) ≡ length rows
count_all_shown [] = refl
count_all_shown {T} (r ∷ rs) =
    let f : ListRow T → ℕ = λ row. cond row.shown 1 0 in
    let parts : count_shown (map shown_row (r ∷ rs)) ≡ 1 + count_shown (map shown_row rs) = sum_by-append f (shown_row r ∷ []) (map shown_row rs) in
    let one : 1 + length rs ≡ suc (length rs) = omega arith in
    parts ∙ ap (λ (n : ℕ). 1 + n) (count_all_shown rs) ∙ one

-- without a filter all rows are shown
pub all_shown : {F T : Type 0} (answers : F → T → Bool → Type 0) (rows : List (ListRow T)) → AreAnswered answers None (map shown_row rows)
all_shown {F} {T} answers rows = λ k d h.
    let within : k < length rows = omega (arith, length-map rows shown_row) in
    subst (λ (r : ListRow T). r.shown ≡ true) (sym (get_or-map shown_row rows k d d within)) refl

-- all that a list keeps, when all its rows are shown
pub kept_all_shown : {T F O : Type 0} (answers : F → T → Bool → Type 0) (compares : O → T → T → Ordering → Type 0) (filter : Option F) (order : Option O) (old new : List (ListRow T)) (count shown : ℕ) (sorted : Bool) (selection : Option ℕ) → AreKept answers compares filter order old count shown sorted selection → new ≡ map shown_row old → AreKept answers compares None order new count count sorted selection
kept_all_shown {T} answers compares filter order old new count shown sorted selection kept all =
    kept_filtered answers compares filter None order old new count shown count sorted selection kept
    (ap (λ (rows : List (ListRow T)). map row_content rows) all ∙ shown_same old)
    (subst (λ (rows : List (ListRow T)). AreAnswered answers None rows) (sym all) (all_shown answers old))
    (kept.all_counted ∙ sym (count_all_shown old) ∙ ap (λ (rows : List (ListRow T)). count_shown rows) (sym all))

-- a list is told by its parts
same_others : {T F O : Type 0} (s t : ListState T F O) → s.filter ≡ t.filter → s.order ≡ t.order → s.selection ≡ t.selection → s ≡ record t { rows = s.rows; scroll = s.scroll }
same_others {T} {F} {O} s t filter order selection =
    let made : Option F → Option O → Option ℕ → ListState T F O = λ f o i. record { rows = s.rows; filter = f; order = o; selection = i; scroll = s.scroll } in
    ap (λ (f : Option F). made f s.order s.selection) filter ∙ ap (λ (o : Option O). made t.filter o s.selection) order ∙ ap (λ (i : Option ℕ). made t.filter t.order i) selection

-- a list that a row was added to, by whether the bottom is shown again
pub added : {T F O : Type 0} (answers : F → T → Bool → Type 0) (compares : O → T → T → Ordering → Type 0) (old mid new : ListState T F O) (row : ListRow T) (body : ℕ) (sticks : Bool) → IsAnswered answers old.filter row → IsWithRow compares old.order old.rows row mid.rows → mid ≡ record old { rows = mid.rows } → sticks ≡ (is_none old.order && shows_bottom old body) → new ≡ (if sticks then scrolled_to mid (bottom_scroll mid body) else mid) → IsAdded answers compares old row.content body new
added {T} {F} {O} answers compares old mid new row body true answered put others sticks is =
    let rows : new.rows ≡ mid.rows = ap (λ (s : ListState T F O). s.rows) is in
    let bottom : new.scroll ≡ count_shown mid.rows - body = ap (λ (s : ListState T F O). s.scroll) is in
    let same_bottom : count_shown mid.rows - body ≡ count_shown new.rows - body = ap (λ (rs : List (ListRow T)). count_shown rs - body) (sym rows) in
    record {
      row = row;
      holds = refl;
      answered = answered;
      rows = subst (λ (rs : List (ListRow T)). IsWithRow compares old.order old.rows row rs) (sym rows) put;
      scroll = bottom ∙ same_bottom ∙ ap (λ (b : Bool). cond b (count_shown new.rows - body) old.scroll) sticks;
      others = same_others new old (ap (λ (s : ListState T F O). s.filter) is ∙ ap (λ (s : ListState T F O). s.filter) others) (ap (λ (s : ListState T F O). s.order) is ∙ ap (λ (s : ListState T F O). s.order) others) (ap (λ (s : ListState T F O). s.selection) is ∙ ap (λ (s : ListState T F O). s.selection) others);
    }
added {T} {F} {O} answers compares old mid new row body false answered put others sticks is =
    let rows : new.rows ≡ mid.rows = ap (λ (s : ListState T F O). s.rows) is in
    let kept : new.scroll ≡ old.scroll = ap (λ (s : ListState T F O). s.scroll) is ∙ ap (λ (s : ListState T F O). s.scroll) others in
    record {
      row = row;
      holds = refl;
      answered = answered;
      rows = subst (λ (rs : List (ListRow T)). IsWithRow compares old.order old.rows row rs) (sym rows) put;
      scroll = kept ∙ ap (λ (b : Bool). cond b (count_shown new.rows - body) old.scroll) sticks;
      others = same_others new old (ap (λ (s : ListState T F O). s.filter) is ∙ ap (λ (s : ListState T F O). s.filter) others) (ap (λ (s : ListState T F O). s.order) is ∙ ap (λ (s : ListState T F O). s.order) others) (ap (λ (s : ListState T F O). s.selection) is ∙ ap (λ (s : ListState T F O). s.selection) others);
    }
