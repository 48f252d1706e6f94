-- Checking starts as the tokens come.
use Rattle.std.proofs.Common.{◌≡◌, ◌≢◌, ℕ, zero, suc, ◌≤◌, ◌<◌, ◌+◌, ◌-◌, ◌^◌, ◌==◌, ◌&&◌, ◌||◌, ◌⊎◌, inl, inr, min, not, nat_lt, Bool, true, false, Option, Some, None, List, [], ◌∷◌, ◌++◌, length, take, drop, slice_range, slice_get, refl, sym, ap, ◌∙◌, arith, append-nil, append_assoc}
use Rattle.std.proofs.Math.Seq.{drop-append_seam, take-append-add}
use Rattle.std.proofs.lemmas.Bool.{cases_lt}
use Rattle.std.proofs.lemmas.Bool.Decides.{nat_tests}
use Rattle.std.proofs.lemmas.List.{length-append, length-drop}
use Rattle.mad_measure.specs.declared.tokens.Token.{Token}
use Rattle.mad_wrap.specs.Bounds.{is_blank_token, are_starts_from}
use Rattle.mad_wrap.specs.Breaks.{total_width}
use Rattle.mad_wrap.specs.LineRoom.{left_of, left_after, is_right}
use Rattle.mad_wrap.specs.declared.room.Room.{Room}
use Rattle.mad_wrap.proofs.CheckerSteps.{token_at}
use Rattle.mad_wrap.proofs.PlacingLemmas.{left_of-some, total_width-push}

-- ---- what is left of a line

-- nothing is left of a width that is less than what is used of it
pub left_of-none : (width used : ℕ) → width < used → left_of width used ≡ None
left_of-none width used h = grind (arith, nat_tests)

left_rest : (width used n : ℕ) → used ≤ width → (width < used + n) ⊎ (used + n ≤ width) → left_of (width - used) n ≡ left_of width (used + n)
left_rest width used n some (inl over) = left_of-none (width - used) n (omega arith) ∙ sym (left_of-none width (used + n) over)
left_rest width used n some (inr fits) = left_of-some (width - used) n (omega arith) ∙ ap Some (omega arith) ∙ sym (left_of-some width (used + n) fits)

-- what is left after some columns and then others is what is left after both together
pub left_more : (width used n : ℕ) → left_after (left_of width used) n ≡ left_of width (used + n)
left_more width used n = elim (cases_lt width used) as (λ _. left_after (left_of width used) n ≡ left_of width (used + n)) [
  | inl none ↦ ap (λ l. left_after l n) (left_of-none width used none) ∙ sym (left_of-none width (used + n) (omega arith))
  | inr some ↦ ap (λ l. left_after l n) (left_of-some width used some) ∙ left_rest width used n some (cases_lt width (used + n))
]

right_is : (width used : ℕ) (last blank : Bool) → is_right (left_of width used) last blank ≡ nat_lt width used && (last || not blank)
right_is width used last blank = elim (cases_lt width used) as (λ _. is_right (left_of width used) last blank ≡ nat_lt width used && (last || not blank)) [
  | inl none ↦ let on : nat_lt width used ≡ true = grind (arith, nat_tests) in ap (λ l. is_right l last blank) (left_of-none width used none) ∙ ap (λ b. b && (last || not blank)) (sym on)
  | inr some ↦ let off : nat_lt width used ≡ false = grind (arith, nat_tests) in ap (λ l. is_right l last blank) (left_of-some width used some) ∙ ap (λ b. b && (last || not blank)) (sym off)
]

-- ---- lists that grow at their end

drop_front : (xs ys : List Token) (n : ℕ) → n ≤ length xs → drop n (xs ++ ys) ≡ drop n xs ++ ys
drop_front xs ys zero h = refl
drop_front [] ys (suc n) h = absurd (omega arith)
drop_front (x ∷ xs) ys (suc n) h = drop_front xs ys n (omega arith)

-- ---- the state of checking

-- The tokens so far are checked: of all starts later the first, these others are still to be met.
pub record Checked (r : Room) (later : List ℕ) (begun : Bool) (done : List Token) (holds : Bool) (others : List ℕ) (start number : ℕ) (left : Option ℕ) : Type 0 where
  pub indent : ℕ
  pub number_is : number ≡ min (length done) (2 ^ 64 - 1)
  pub inside : start ≤ length done
  pub left_is : left ≡ left_of r.width (indent + total_width (drop start done))
  pub ahead : (n : ℕ) (ns : List ℕ) → others ≡ n ∷ ns → (n ≤ start) ⊎ (length done ≤ n)
  pub exact : (more : List Token) → begun && are_starts_from r.first r (done ++ more) 0 later ≡ holds && are_starts_from indent r (done ++ more) start others

-- before the first token all later starts are still to be met
pub check_begins : (r : Room) (later : List ℕ) (begun : Bool) → Checked r later begun [] begun later 0 0 (left_of r.width r.first)
check_begins r later begun = record {
  indent = r.first;
  number_is = omega arith;
  inside = omega arith;
  left_is = ap (left_of r.width) (omega arith);
  ahead = λ n ns e. inr (omega arith);
  exact = λ more. refl;
}

miss_ahead : (len start number n : ℕ) → number ≡ min len (2 ^ 64 - 1) → (n ≤ start) ⊎ (len ≤ n) → n < 2 ^ 64 → (n ≢ number) ⊎ (n ≤ start) → (n ≤ start) ⊎ (len + 1 ≤ n)
miss_ahead len start number n is (inl small) fits why = inl small
miss_ahead len start number n is (inr far) fits (inr small) = inl small
miss_ahead len start number n is (inr far) fits (inl differs) = elim (cases_lt len n) as (λ _. (n ≤ start) ⊎ (len + 1 ≤ n)) [
  | inl more ↦ inr (omega arith)
  | inr same ↦ absurd (differs (omega arith))
]

ap_size : (m len start n : ℕ) → m ≡ len + 1 → (n ≤ start) ⊎ (len + 1 ≤ n) → (n ≤ start) ⊎ (m ≤ n)
ap_size m len start n e (inl small) = inl small
ap_size m len start n e (inr far) = inr (omega arith)

-- a token at which no start is met
pub check_misses : (r : Room) (later : List ℕ) (begun : Bool) (done : List Token) (holds : Bool) (others : List ℕ) (start number new_number : ℕ) (left new_left : Option ℕ) (t : Token) → Checked r later begun done holds others start number left
    → new_number ≡ min (number + 1) (2 ^ 64 - 1) → new_left ≡ left_after left t.width → ((n : ℕ) (ns : List ℕ) → others ≡ n ∷ ns → (n < 2 ^ 64) × ((n ≢ number) ⊎ (n ≤ start)))
    → Checked r later begun (done ++ t ∷ []) holds others start new_number new_left
check_misses r later begun done holds others start number new_number left new_left t h counted after misses =
    let size : length (done ++ t ∷ []) ≡ length done + 1 = omega (arith, length-append done (t ∷ [])) in
    let grows : total_width (drop start (done ++ t ∷ [])) ≡ total_width (drop start done) + t.width = ap total_width (drop_front done (t ∷ []) start h.inside) ∙ total_width-push (drop start done) t in
    record {
      indent = h.indent;
      number_is = omega (arith, counted, h.number_is, size);
      inside = omega (arith, h.inside, size);
      left_is = after ∙ ap (λ l. left_after l t.width) h.left_is ∙ left_more r.width (h.indent + total_width (drop start done)) t.width ∙ ap (left_of r.width) (omega (arith, grows));
      ahead = λ n ns e. let here = misses n ns e in ap_size (length (done ++ t ∷ [])) (length done) start n size (miss_ahead (length done) start number n h.number_is (h.ahead n ns e) here.0 here.1);
      exact = λ more.
          ap (λ l. begun && are_starts_from r.first r l 0 later) (append_assoc done (t ∷ []) more) ∙ h.exact (t ∷ more)
          ∙ ap (λ l. holds && are_starts_from h.indent r l start others) (sym (append_assoc done (t ∷ []) more));
    }

both : (h p q rest : Bool) → h && (p && (q && rest)) ≡ (h && (p && q)) && rest
both true true q rest = refl
both true false q rest = refl
both false p q rest = refl

-- the tests of one start
one_start : (h a b p q x rest : Bool) → a ≡ true → b ≡ true → x ≡ p && q → h && (a && (b && (p && (q && rest)))) ≡ (h && x) && rest
one_start h a b p q x rest ea eb ex =
    ap (λ y. h && (y && (b && (p && (q && rest))))) ea ∙ ap (λ y. h && (y && (p && (q && rest)))) eb ∙ both h p q rest ∙ ap (λ y. (h && y) && rest) (sym ex)

-- what the definition says of a start that is met
start_met : (r : Room) (indent start number : ℕ) (done more : List Token) (rest : List ℕ) (t : Token) (holds : Bool) → number ≡ length done → start < number
    → holds && are_starts_from indent r (done ++ t ∷ more) start (number ∷ rest)
    ≡ (holds && is_right (left_of r.width (indent + total_width (drop start done) + t.width)) (length rest == 0) t.blank) && are_starts_from r.other r (done ++ t ∷ more) number rest
start_met r indent start number done more rest t holds here rises =
    let ts = done ++ t ∷ more in
    let mid = drop start done in
    let size : length ts ≡ length done + (length more + 1) = omega (arith, length-append done (t ∷ more)) in
    let count : number + 1 - start ≡ length mid + 1 = omega (arith, length-drop start done) in
    let slice : slice_range ts start (number + 1) ≡ mid ++ t ∷ [] =
    ap (take (number + 1 - start)) (drop_front done (t ∷ more) start (omega arith)) ∙ ap (λ k. take k (mid ++ t ∷ more)) count ∙ take-append-add mid (t ∷ more) 1 in
    let read : slice_get ts number ≡ Some t = ap (slice_get ts) (omega arith) ∙ token_at [] done more t in
    let wide : indent + total_width mid + t.width ≡ indent + total_width (slice_range ts start (number + 1)) = omega (arith, ap total_width slice, total_width-push mid t) in
    one_start holds (nat_lt start number) (nat_lt number (length ts)) (nat_lt r.width (indent + total_width (slice_range ts start (number + 1)))) ((length rest == 0) || not (is_blank_token (slice_get ts number)))
    (is_right (left_of r.width (indent + total_width mid + t.width)) (length rest == 0) t.blank) (are_starts_from r.other r ts number rest)
    (grind (arith, nat_tests)) (let inside : number < length ts = omega arith in grind (arith, nat_tests))
    (right_is r.width (indent + total_width mid + t.width) (length rest == 0) t.blank ∙ ap (λ n. nat_lt r.width n && ((length rest == 0) || not t.blank)) wide
    ∙ ap (λ o. nat_lt r.width (indent + total_width (slice_range ts start (number + 1))) && ((length rest == 0) || not (is_blank_token o))) (sym read))

met_here : (len start number : ℕ) → number ≡ min len (2 ^ 64 - 1) → (number ≤ start) ⊎ (len ≤ number) → start < number → number ≡ len
met_here len start number is (inl small) rises = absurd (omega arith)
met_here len start number is (inr far) rises = omega arith

next_ahead : (len number n : ℕ) → len ≡ number + 1 → (number < n) ⊎ (n ≤ number) → (n ≤ number) ⊎ (len ≤ n)
next_ahead len number n e (inl more) = inr (omega arith)
next_ahead len number n e (inr less) = inl less

-- a token at which a start is met
pub check_meets : (r : Room) (later : List ℕ) (begun : Bool) (done : List Token) (holds new_holds : Bool) (others rest : List ℕ) (start number new_number : ℕ) (left after new_left : Option ℕ) (t : Token) → Checked r later begun done holds others start number left
    → new_number ≡ min (number + 1) (2 ^ 64 - 1) → after ≡ left_after left t.width → others ≡ number ∷ rest → start < number → new_holds ≡ holds && is_right after (length rest == 0) t.blank → new_left ≡ left_of r.width (r.other + t.width)
    → Checked r later begun (done ++ t ∷ []) new_holds rest number new_number new_left
check_meets r later begun done holds new_holds others rest start number new_number left after new_left t h counted after_it next rises right room =
    let size : length (done ++ t ∷ []) ≡ length done + 1 = omega (arith, length-append done (t ∷ [])) in
    let here : number ≡ length done = met_here (length done) start number h.number_is (h.ahead number rest next) rises in
    let used = h.indent + total_width (drop start done) in
    let last : drop number (done ++ t ∷ []) ≡ t ∷ [] = ap (λ m. drop m (done ++ t ∷ [])) here ∙ drop-append_seam done (t ∷ []) in
    let after_is : after ≡ left_of r.width (used + t.width) = after_it ∙ ap (λ l. left_after l t.width) h.left_is ∙ left_more r.width used t.width in
    record {
      indent = r.other;
      number_is = omega (arith, counted, h.number_is, size);
      inside = omega (arith, here, size);
      left_is = room ∙ ap (left_of r.width) (omega (arith, ap total_width last));
      ahead = λ n ns e. next_ahead (length (done ++ t ∷ [])) number n (size ∙ ap (λ m. m + 1) (sym here)) (cases_lt number n);
      exact = λ more.
          let ts = done ++ t ∷ more in
          ap (λ l. begun && are_starts_from r.first r l 0 later) (append_assoc done (t ∷ []) more) ∙ h.exact (t ∷ more)
          ∙ ap (λ l. holds && are_starts_from h.indent r ts start l) next ∙ start_met r h.indent start number done more rest t holds here rises
          ∙ ap (λ a. (holds && is_right a (length rest == 0) t.blank) && are_starts_from r.other r ts number rest) (sym after_is)
          ∙ ap (λ b. b && are_starts_from r.other r ts number rest) (sym right)
          ∙ ap (λ l. new_holds && are_starts_from r.other r l number rest) (sym (append_assoc done (t ∷ []) more));
    }

-- ---- the end

and_false : (b : Bool) → b && false ≡ false
and_false true = refl
and_false false = refl

-- starts that haven't been met make the answer false
none_met : (r : Room) (indent start : ℕ) (done : List Token) (others : List ℕ) → ((n : ℕ) (ns : List ℕ) → others ≡ n ∷ ns → (n ≤ start) ⊎ (length done ≤ n)) → are_starts_from indent r done start others ≡ (length others == 0)
none_met r indent start done [] ahead = refl
none_met r indent start done (n ∷ ns) ahead =
    let none : (length (n ∷ ns) == 0) ≡ false = grind (arith, nat_tests) in
    elim (ahead n ns refl) as (λ _. are_starts_from indent r done start (n ∷ ns) ≡ (length (n ∷ ns) == 0)) [
      | inl small ↦
          let off : nat_lt start n ≡ false = grind (arith, nat_tests) in
          ap (λ b. b && (nat_lt n (length done) && (nat_lt r.width (indent + total_width (slice_range done start (n + 1))) && (((length ns == 0) || not (is_blank_token (slice_get done n))) && are_starts_from r.other r done n ns)))) off ∙ sym none
      | inr far ↦
          let off : nat_lt n (length done) ≡ false = grind (arith, nat_tests) in
          ap (λ b. nat_lt start n && (b && (nat_lt r.width (indent + total_width (slice_range done start (n + 1))) && (((length ns == 0) || not (is_blank_token (slice_get done n))) && are_starts_from r.other r done n ns)))) off ∙ and_false (nat_lt start n) ∙ sym none
    ]

-- after the last token the starts are right where all were so far, and none is still to be met
pub check_ends : (r : Room) (later : List ℕ) (begun : Bool) (done : List Token) (holds : Bool) (others : List ℕ) (start number : ℕ) (left : Option ℕ) → Checked r later begun done holds others start number left
    → holds && (length others == 0) ≡ begun && are_starts_from r.first r done 0 later
check_ends r later begun done holds others start number left h =
    ap (λ b. holds && b) (sym (none_met r h.indent start done others h.ahead))
    ∙ ap (λ l. holds && are_starts_from h.indent r l start others) (sym (append-nil done)) ∙ sym (h.exact [])
    ∙ ap (λ l. begun && are_starts_from r.first r l 0 later) (append-nil done)

-- starts that begin with 0 go on from there
pub from_zero : (r : Room) (ts : List Token) (s : ℕ) (ns : List ℕ) → (s == 0) && are_starts_from r.first r ts s ns ≡ (s == 0) && are_starts_from r.first r ts 0 ns
from_zero r ts zero ns = refl
from_zero r ts (suc n) ns = let off : (suc n == 0) ≡ false = grind (arith, nat_tests) in ap (λ b. b && are_starts_from r.first r ts (suc n) ns) off ∙ ap (λ b. b && are_starts_from r.first r ts 0 ns) (sym off)
