-- Rows without the blanks at their ends.
use Rattle.std.proofs.Common.{◌≡◌, ◌≢◌, ℕ, ◌+◌, ◌-◌, ◌<◌, ◌≤◌, ◌==◌, ◌&&◌, ◌||◌, if◌then◌else◌, Bool, true, false, List, [], ◌∷◌, ◌++◌, length, take, drop, refl, ap, sym, subst, ◌∙◌, arith}
use Rattle.std.specs.Prelude.{nat_lt, slice_index}
use Rattle.std.specs.List.{list_all}
use Rattle.std.proofs.Common.{append_assoc, append-nil}
use Rattle.std.proofs.Math.Seq.{drop-append_seam, get_or-append_seam, take-append_seam}
use Rattle.std.proofs.lemmas.Bool.Decides.{nat_tests}
use Rattle.std.proofs.lemmas.List.{length-append, length-take-le, take-append-drop}
use Rattle.markdown_layout.specs.RowEnds.{EndsLost, RowsEnd, ended, in_front, is_end, without_end}

-- with one blank or newline more behind a row it ends alike
pub end_off : (row : List ℕ) (e : ℕ) → is_end e ≡ true → without_end (row ++ e ∷ []) ≡ without_end row
end_off [] e is = ap (λ (t : Bool). if t then [] else e ∷ []) is
end_off (b ∷ bs) e is = ap (in_front b) (end_off bs e is)

stays : (f : ℕ) (front : List ℕ) (b : ℕ) → in_front f (front ++ b ∷ []) ≡ f ∷ (front ++ b ∷ [])
stays f [] b = refl
stays f (x ∷ front) b = refl

-- a row whose last byte is another is whole
pub whole_off : (front : List ℕ) (b : ℕ) → is_end b ≡ false → without_end (front ++ b ∷ []) ≡ front ++ b ∷ []
whole_off [] b h = ap (λ (t : Bool). if t then [] else b ∷ []) h
whole_off (f ∷ front) b h = ap (in_front f) (whole_off front b h) ∙ stays f front b

-- ---- what is lost

record IsCut (row kept : List ℕ) : Type 0 where
  lost : List ℕ
  row_is : row ≡ kept ++ lost
  are_ends : list_all is_end lost ≡ true

both_true : (a b : Bool) → a ≡ true → b ≡ true → (a && b) ≡ true
both_true true b h k = k
both_true false b h k = h

alone_cut : (b : ℕ) (bs : List ℕ) (t : Bool) → is_end b ≡ t → list_all is_end bs ≡ true → IsCut (b ∷ bs) (if t then [] else b ∷ [])
alone_cut b bs true is ends = record { lost = b ∷ bs; row_is = refl; are_ends = both_true (is_end b) (list_all is_end bs) is ends }
alone_cut b bs false is ends = record { lost = bs; row_is = refl; are_ends = ends }

cut_by : (b : ℕ) (bs kept lost : List ℕ) → bs ≡ kept ++ lost → list_all is_end lost ≡ true → IsCut (b ∷ bs) (in_front b kept)
cut_by b bs [] lost row ends = alone_cut b bs (is_end b) refl (ap (list_all is_end) row ∙ ends)
cut_by b bs (k ∷ kept) lost row ends = record { lost = lost; row_is = ap (λ (r : List ℕ). b ∷ r) row; are_ends = ends }

row_cut : (row : List ℕ) → IsCut row (without_end row)
row_cut [] = record { lost = []; row_is = refl; are_ends = refl }
row_cut (b ∷ bs) = let h = row_cut bs in cut_by b bs (without_end bs) h.lost h.row_is h.are_ends

cons_head : {a b : ℕ} {xs ys : List ℕ} → a ∷ xs ≡ b ∷ ys → a ≡ b
cons_head e = cc

cons_tail : {a b : ℕ} {xs ys : List ℕ} → a ∷ xs ≡ b ∷ ys → xs ≡ ys
cons_tail e = cc

no_end : (b : ℕ) → is_end b ≡ false → b ≢ 32
no_end b h e = absurd (no (sym (ap is_end e) ∙ h))
  where
    no : true ≡ false → ⊥
    no e = cc

none_last : (front : List ℕ) (b : ℕ) → [] ≡ front ++ b ∷ [] → ⊥
none_last [] b e = cc
none_last (f ∷ front) b e = cc

one_last : (x : ℕ) (front : List ℕ) (b : ℕ) (t : Bool) → is_end x ≡ t → (if t then [] else x ∷ []) ≡ front ++ b ∷ [] → is_end b ≡ false
one_last x front b true is e = absurd (none_last front b e)
one_last x [] b false is e = ap is_end (sym (cons_head e)) ∙ is
one_last x (f ∷ front) b false is e = absurd (none_last front b (cons_tail e))

last_by : (x : ℕ) (kept front : List ℕ) (b : ℕ) → ((fs : List ℕ) → kept ≡ fs ++ b ∷ [] → is_end b ≡ false) → in_front x kept ≡ front ++ b ∷ [] → is_end b ≡ false
last_by x [] front b before e = one_last x front b (is_end x) refl e
last_by x (k ∷ kept) [] b before e = absurd (more kept e)
  where
    more : (ks : List ℕ) → x ∷ k ∷ ks ≡ b ∷ [] → ⊥
    more ks e = cc
last_by x (k ∷ kept) (f ∷ front) b before e = before front (cons_tail e)

last_of : (row front : List ℕ) (b : ℕ) → without_end row ≡ front ++ b ∷ [] → is_end b ≡ false
last_of [] front b e = absurd (none_last front b e)
last_of (x ∷ bs) front b e = last_by x (without_end bs) front b (λ fs. last_of bs fs b) e

-- a row loses blanks and newlines at its end alone, and all of these
pub rows_end : RowsEnd
rows_end row =
    let h = row_cut row in
    record { lost = h.lost; row_is = h.row_is; are_ends = h.are_ends; last = λ front b e. no_end b (last_of row front b e) }

-- ---- the loop

-- the bytes in front of a row are as many as its place says
pub front_long : (start : ℕ) (was : List ℕ) → start ≤ length was → length (take start was) ≡ start
front_long start was long = length-take-le start was long

-- A row behind these bytes is left of another, and ends as that does.
pub record IsLeft (front was : List ℕ) (now : List ℕ) : Type 0 where
  pub row : List ℕ
  pub now_is : now ≡ front ++ row
  pub alike : without_end row ≡ without_end was

-- before the loop the row is there
pub left_first : (start : ℕ) (was : List ℕ) → IsLeft (take start was) (drop start was) was
left_first start was = record { row = drop start was; now_is = sym (take-append-drop start was); alike = refl }

record Snoc (xs : List ℕ) : Type 0 where
  init : List ℕ
  last : ℕ
  is : xs ≡ init ++ last ∷ []

snoc : (x : ℕ) (xs : List ℕ) → Snoc (x ∷ xs)
snoc x [] = record { init = []; last = x; is = refl }
snoc x (y ∷ xs) = let h = snoc y xs in record { init = x ∷ h.init; last = h.last; is = ap (λ (r : List ℕ). x ∷ r) h.is }

one_off : (front was now new init : List ℕ) (e : ℕ) → now ≡ (front ++ init) ++ e ∷ [] → without_end (init ++ e ∷ []) ≡ without_end was
    → is_end (slice_index now (length now - 1)) ≡ true → new ≡ take (length now - 1) now → IsLeft front was new
one_off front was now new init e is alike end cut =
    let count : length now - 1 ≡ length (front ++ init) = omega (arith, ap length is, length-append (front ++ init) (e ∷ [])) in
    let last : slice_index now (length now - 1) ≡ e = ap (λ (n : ℕ). slice_index now n) count ∙ ap (λ (xs : List ℕ). slice_index xs (length (front ++ init))) is ∙ get_or-append_seam (front ++ init) e [] 0 in
    record {
      row = init;
      now_is = cut ∙ ap (λ (n : ℕ). take n now) count ∙ ap (take (length (front ++ init))) is ∙ take-append_seam (front ++ init) (e ∷ []);
      alike = sym (end_off init e (sym (ap is_end last) ∙ end)) ∙ alike;
    }

row_off : (front was now new row : List ℕ) → now ≡ front ++ row → without_end row ≡ without_end was → length front < length now → is_end (slice_index now (length now - 1)) ≡ true → new ≡ take (length now - 1) now → IsLeft front was new
row_off front was now new [] is alike long end cut = absurd (omega (arith, long, ap length (is ∙ append-nil front)))
row_off front was now new (x ∷ row) is alike long end cut =
    let h = snoc x row in
    one_off front was now new h.init h.last (is ∙ ap (λ (r : List ℕ). front ++ r) h.is ∙ sym (append_assoc front h.init (h.last ∷ []))) (ap without_end (sym h.is) ∙ alike) end cut

-- without a blank at its end the row is left
pub left_on : (front was now new : List ℕ) → IsLeft front was now → length front < length now → is_end (slice_index now (length now - 1)) ≡ true → new ≡ take (length now - 1) now → IsLeft front was new
left_on front was now new h long end cut = row_off front was now new h.row h.now_is h.alike long end cut

both : (a b : Bool) → (a && b) ≡ true → (a ≡ true) × (b ≡ true)
both true b h = (refl, h)
both false b h = absurd (no h)
  where
    no : false ≡ true → ⊥
    no e = cc

-- an end is an ASCII character
small : (b : ℕ) → is_end b ≡ true → b < 128
small b h = grind (arith, nat_tests)

-- what is said of a text's length, which is that of its bytes
within_bytes : (start len : ℕ) (was : List ℕ) → len ≡ length was → start ≤ len → start ≤ length was
within_bytes start len was same h = omega (arith, same, h)

tested : (start len : ℕ) (now : List ℕ) (test : Bool) → len ≡ length now → test ≡ (nat_lt start len && is_end (slice_index now (len - 1))) → test ≡ (nat_lt start (length now) && is_end (slice_index now (length now - 1)))
tested start len now test same says = says ∙ ap (λ (n : ℕ). nat_lt start n && is_end (slice_index now (n - 1))) same

-- with one of them taken the row is left
pub end_taken : (start : ℕ) (was now new : List ℕ) (first len : ℕ) (test : Bool) → first ≡ length was → len ≡ length now → start ≤ first → IsLeft (take start was) (drop start was) now
    → test ≡ (nat_lt start len && is_end (slice_index now (len - 1))) → test ≡ true → (0 < len → slice_index now (len - 1) < 128 → new ≡ take (len - 1) now) → IsLeft (take start was) (drop start was) new
end_taken start was now new first len test all same within h says is cut =
    let parts = both (nat_lt start (length now)) (is_end (slice_index now (length now - 1))) (sym (tested start len now test same says) ∙ is) in
    let long : start < length now = grind (arith, nat_tests, parts.0) in
    let place : length (take start was) ≡ start = front_long start was (within_bytes start first was all within) in
    let cut_so : 0 < length now → slice_index now (length now - 1) < 128 → new ≡ take (length now - 1) now = subst (λ (n : ℕ). 0 < n → slice_index now (n - 1) < 128 → new ≡ take (n - 1) now) same cut in
    left_on (take start was) (drop start was) now new h (omega (arith, long, place)) parts.1 (cut_so (omega (arith, long)) (small (slice_index now (length now - 1)) parts.1))

ends_by : (front was now row : List ℕ) → now ≡ front ++ row → without_end row ≡ without_end was → (nat_lt (length front) (length now) && is_end (slice_index now (length now - 1))) ≡ false → now ≡ front ++ without_end was
ends_by front was now [] is alike out = is ∙ ap (λ (r : List ℕ). front ++ r) alike
ends_by front was now (x ∷ row) is alike out =
    let h = snoc x row in
    let whole : now ≡ (front ++ h.init) ++ h.last ∷ [] = is ∙ ap (λ (r : List ℕ). front ++ r) h.is ∙ sym (append_assoc front h.init (h.last ∷ [])) in
    let count : length now - 1 ≡ length (front ++ h.init) = omega (arith, ap length whole, length-append (front ++ h.init) (h.last ∷ [])) in
    let last : slice_index now (length now - 1) ≡ h.last = ap (λ (n : ℕ). slice_index now n) count ∙ ap (λ (xs : List ℕ). slice_index xs (length (front ++ h.init))) whole ∙ get_or-append_seam (front ++ h.init) h.last [] 0 in
    let long : nat_lt (length front) (length now) ≡ true = grind (arith, nat_tests, ap length whole, length-append (front ++ h.init) (h.last ∷ []), length-append front h.init) in
    let other : is_end h.last ≡ false = sym (ap is_end last) ∙ sym (ap (λ (t : Bool). t && is_end (slice_index now (length now - 1))) long) ∙ out in
    is ∙ ap (λ (r : List ℕ). front ++ r) (h.is ∙ sym (whole_off h.init h.last other) ∙ ap without_end (sym h.is) ∙ alike)

-- where none is at its end, it has lost all of them
pub left_whole : (front was now : List ℕ) → IsLeft front was now → (nat_lt (length front) (length now) && is_end (slice_index now (length now - 1))) ≡ false → now ≡ front ++ without_end was
left_whole front was now h out = ends_by front was now h.row h.now_is h.alike out

-- a row that was put behind others, and then loses its end
pub row_ended : (start : ℕ) (old row mid now : List ℕ) → start ≡ length old → mid ≡ old ++ row → now ≡ take start mid ++ ended (drop start mid) → now ≡ old ++ ended row
row_ended start old row mid now place put end =
    let front : take start mid ≡ old = ap (λ (n : ℕ). take n mid) place ∙ ap (take (length old)) put ∙ take-append_seam old row in
    let back : drop start mid ≡ row = ap (λ (n : ℕ). drop n mid) place ∙ ap (drop (length old)) put ∙ drop-append_seam old row in
    end ∙ ap (λ (f : List ℕ). f ++ ended (drop start mid)) front ∙ ap (λ (b : List ℕ). old ++ ended b) back

-- where none is left to take, all are taken
pub ends_taken : (start : ℕ) (was now : List ℕ) (first len : ℕ) (test : Bool) → first ≡ length was → len ≡ length now → start ≤ first → IsLeft (take start was) (drop start was) now
    → test ≡ (nat_lt start len && is_end (slice_index now (len - 1))) → test ≡ false → now ≡ take start was ++ without_end (drop start was)
ends_taken start was now first len test all same within h says is =
    left_whole (take start was) (drop start was) now h
    (ap (λ (n : ℕ). nat_lt n (length now) && is_end (slice_index now (length now - 1))) (front_long start was (within_bytes start first was all within)) ∙ sym (tested start len now test same says) ∙ is)
