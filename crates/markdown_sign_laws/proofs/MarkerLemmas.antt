-- A marker is a bullet or a number.
use Rattle.std.proofs.Common.{◌≡◌, ◌⊎◌, inl, inr, ℕ, ◌+◌, ◌≤◌, Bool, true, false, nat_lt, ◌||◌, ◌&&◌, ◌==◌, List, [], ◌∷◌, ◌++◌, length, take, drop, slice_index, Some, None, refl, sym, ap, subst, ◌∙◌, append_assoc, arith}
use Rattle.std.proofs.lemmas.Bool.{and_from, and_parts, both_ways, cond-false, cond-true, eqb-false, eqb-true, false_from_ne_true, le-ltb, ltb-false, ne_eqb, or_from, or_parts}
use Rattle.std.proofs.lemmas.List.{drop_at, length_push, take_at}
use Rattle.std.specs.Char.{is_ascii_digit}
use Rattle.std.specs.List.{list_all, prefix_len}
use Rattle.std.specs.Str.Parse.{digits_value}
use Rattle.markdown_marks.specs.Bytes.{ends_sign, first}
use Rattle.markdown_marks.specs.Items.{is_bullet, marker_of, marker_start, ordered_of}
use Rattle.markdown_marks.specs.declared.items.Marker.{Marker}
use Rattle.markdown_sign_laws.specs.Markers.{IsBullet, IsNumber, MarkersAreSaid}
use Rattle.markdown_sign_laws.specs.Words.{is_apart}
use Rattle.markdown_sign_laws.proofs.RunLemmas.{Cut, cut, cut_here, ends_said, not_none, some_found}

-- a marker of these parts
abbrev made : (sign number length : ℕ) → Marker
made sign number length = record { sign = sign; number = number; length = length }

-- ---- bullets

bullet_sign : (b : ℕ) → is_bullet b ≡ true → (b ≡ 42) ⊎ ((b ≡ 43) ⊎ (b ≡ 45))
bullet_sign b h = by_sign (b == 42) (b == 43) (b == 45) refl refl refl h
  where
    by_sign : (p q r : Bool) → (b == 42) ≡ p → (b == 43) ≡ q → (b == 45) ≡ r → (p || q || r) ≡ true → (b ≡ 42) ⊎ ((b ≡ 43) ⊎ (b ≡ 45))
    by_sign true q r e f g k = inl (eqb-true b 42 e)
    by_sign false true r e f g k = inr (inl (eqb-true b 43 f))
    by_sign false false true e f g k = inr (inr (eqb-true b 45 g))
    by_sign false false false e f g k = let no : false ≡ true = k in absurd (cc)

sign_bullet : (b : ℕ) → (b ≡ 42) ⊎ ((b ≡ 43) ⊎ (b ≡ 45)) → is_bullet b ≡ true
sign_bullet b (inl e) = ap is_bullet e
sign_bullet b (inr (inl e)) = ap is_bullet e
sign_bullet b (inr (inr e)) = ap is_bullet e

said_bullet : (marker : Marker) (bytes : List ℕ) → is_bullet (first bytes) ≡ true → marker_of (is_bullet (first bytes)) (first bytes) 0 1 bytes ≡ Some marker → IsBullet marker bytes
said_bullet marker [] e h = let no : false ≡ true = e in absurd (cc)
said_bullet marker (b ∷ bs) e h =
    let found = some_found (is_bullet b && ends_sign bs) (made b 0 1) marker h in
    let both = and_parts (is_bullet b) (ends_sign bs) found.0 in
    subst (λ (m : Marker). IsBullet m (b ∷ bs)) found.1
    (record { of_sign = bullet_sign b e; number = refl; long = refl; behind = bs; apart = sym (ends_said bs) ∙ both.1; whole = refl })

bullet_at : (sign : ℕ) (behind : List ℕ) → is_bullet sign ≡ true → is_apart behind ≡ true → marker_start (sign ∷ behind) ≡ Some (made sign 0 1)
bullet_at sign behind e apart =
    cond-true (is_bullet sign) (marker_of (is_bullet sign) sign 0 1 (sign ∷ behind)) _ e
    ∙ cond-true (is_bullet sign && ends_sign behind) (Some (made sign 0 1)) None (and_from (is_bullet sign) (ends_sign behind) e (ends_said behind ∙ apart))

found_bullet : (marker : Marker) (bytes : List ℕ) → IsBullet marker bytes → marker_start bytes ≡ Some marker
found_bullet marker bytes h =
    ap marker_start h.whole ∙ bullet_at marker.sign h.behind (sign_bullet marker.sign h.of_sign) h.apart
    ∙ ap (λ (n : ℕ). Some (made marker.sign n 1)) (sym h.number) ∙ ap (λ (n : ℕ). Some (made marker.sign marker.number n)) (sym h.long)

-- ---- numbers

-- a full stop or a closing parenthesis
abbrev is_stop : ℕ → Bool
is_stop sign = (sign == 46) || (sign == 41)

stop_sign : (b : ℕ) → is_stop b ≡ true → (b ≡ 46) ⊎ (b ≡ 41)
stop_sign b h = by_sign (b == 46) (b == 41) refl refl h
  where
    by_sign : (p q : Bool) → (b == 46) ≡ p → (b == 41) ≡ q → (p || q) ≡ true → (b ≡ 46) ⊎ (b ≡ 41)
    by_sign true q e f k = inl (eqb-true b 46 e)
    by_sign false true e f k = inr (eqb-true b 41 f)
    by_sign false false e f k = let no : false ≡ true = k in absurd (cc)

sign_stop : (b : ℕ) → (b ≡ 46) ⊎ (b ≡ 41) → is_stop b ≡ true
sign_stop b (inl e) = ap is_stop e
sign_stop b (inr e) = ap is_stop e

stop_no_digit : (b : ℕ) → (b ≡ 46) ⊎ (b ≡ 41) → is_ascii_digit b ≡ false
stop_no_digit b (inl e) = ap is_ascii_digit e
stop_no_digit b (inr e) = ap is_ascii_digit e

-- the byte behind others
sign_behind : (front rest : List ℕ) → slice_index (front ++ rest) (length front) ≡ first rest
sign_behind [] rest = refl
sign_behind (b ∷ bs) rest = sign_behind bs rest

pub rest_behind : (front : List ℕ) (c : ℕ) (cs : List ℕ) → drop (length front + 1) (front ++ c ∷ cs) ≡ cs
rest_behind front c cs =
    ap (λ (xs : List ℕ). drop (length front + 1) xs) (sym (append_assoc front (c ∷ []) cs)) ∙ drop_at (front ++ c ∷ []) cs (length front + 1) (length_push front c)

-- digits, and a sign behind them
record Numbered (front : List ℕ) (sign : ℕ) (rest : List ℕ) : Type 0 where
  behind : List ℕ
  whole : rest ≡ sign ∷ behind

numbered : (front rest : List ℕ) → is_stop (first rest) ≡ true → Numbered front (first rest) rest
numbered front [] h = let no : false ≡ true = h in absurd (cc)
numbered front (c ∷ cs) h = record { behind = cs; whole = refl }

one_least : (n : ℕ) → (n == 0) ≡ false → 1 ≤ n
one_least n h = let no : n ≡ 0 → ⊥ = eqb-false n 0 h in omega arith

number_said : (marker : Marker) (front rest : List ℕ) → list_all is_ascii_digit front ≡ true → ordered_of (length front) (first rest) (front ++ rest) ≡ Some marker → IsNumber marker (front ++ rest)
number_said marker front rest digits h =
    let n = length front in
    let sign = first rest in
    let bytes = front ++ rest in
    let value = digits_value 10 (take n bytes) in
    let counted = not_none ((n == 0) || nat_lt 9 n) (marker_of (is_stop sign) sign value (n + 1) bytes) marker h in
    let count = or_parts (n == 0) (nat_lt 9 n) counted.0 in
    let found = some_found (is_stop sign && ends_sign (drop (n + 1) bytes)) (made sign value (n + 1)) marker counted.1 in
    let both = and_parts (is_stop sign) (ends_sign (drop (n + 1) bytes)) found.0 in
    let r = numbered front rest both.0 in
    let left = ap (λ (xs : List ℕ). drop (n + 1) (front ++ xs)) r.whole ∙ rest_behind front sign r.behind in
    subst (λ (m : Marker). IsNumber m bytes) found.1 (record {
      digits = front;
      decimal = digits;
      some = one_least n count.0;
      most = ltb-false 9 n count.1;
      of_sign = stop_sign sign both.0;
      number = ap (digits_value 10) (take_at front rest n refl);
      long = refl;
      behind = r.behind;
      apart = sym (ends_said r.behind) ∙ ap (λ (xs : List ℕ). ends_sign xs) (sym left) ∙ both.1;
      whole = ap (λ (xs : List ℕ). front ++ xs) r.whole;
    })

said_number : (marker : Marker) (bytes : List ℕ) → Cut is_ascii_digit bytes → ordered_of (prefix_len is_ascii_digit bytes) (slice_index bytes (prefix_len is_ascii_digit bytes)) bytes ≡ Some marker → IsNumber marker bytes
said_number marker bytes c h =
    let n = length c.front in
    let sign : slice_index bytes n ≡ first c.rest = ap (λ (xs : List ℕ). slice_index xs n) c.whole ∙ sign_behind c.front c.rest in
    let there : ordered_of n (first c.rest) (c.front ++ c.rest) ≡ Some marker =
    ap (λ (xs : List ℕ). ordered_of n (first c.rest) xs) (sym c.whole) ∙ ap (λ (s : ℕ). ordered_of n s bytes) (sym sign) ∙ ap (λ (k : ℕ). ordered_of k (slice_index bytes k) bytes) (sym c.long) ∙ h in
    subst (λ (xs : List ℕ). IsNumber marker xs) (sym c.whole) (number_said marker c.front c.rest c.passes there)

-- a digit is no other byte
other_digit : (k b : ℕ) → is_ascii_digit k ≡ false → is_ascii_digit b ≡ true → (b == k) ≡ false
other_digit k b h e = false_from_ne_true (b == k) (λ f. both_ways (is_ascii_digit k) h (ap is_ascii_digit (sym (eqb-true b k f)) ∙ e))

digit_no_bullet : (b : ℕ) → is_ascii_digit b ≡ true → is_bullet b ≡ false
digit_no_bullet b h = rw (other_digit 42 b refl h) (rw (other_digit 43 b refl h) (rw (other_digit 45 b refl h) refl))

no_bullet : (digits rest : List ℕ) → 1 ≤ length digits → list_all is_ascii_digit digits ≡ true → is_bullet (first (digits ++ rest)) ≡ false
no_bullet [] rest some h = absurd (omega (arith, some))
no_bullet (b ∷ bs) rest some h = digit_no_bullet b (and_parts (is_ascii_digit b) (list_all is_ascii_digit bs) h).0

ordered_at : (digits : List ℕ) (sign : ℕ) (behind : List ℕ) → 1 ≤ length digits → length digits ≤ 9 → is_stop sign ≡ true → is_apart behind ≡ true
    → ordered_of (length digits) sign (digits ++ sign ∷ behind) ≡ Some (made sign (digits_value 10 digits) (length digits + 1))
ordered_at digits sign behind some most stop apart =
    let n = length digits in
    let bytes = digits ++ sign ∷ behind in
    let value = digits_value 10 (take n bytes) in
    cond-false ((n == 0) || nat_lt 9 n) None (marker_of (is_stop sign) sign value (n + 1) bytes) (or_from (n == 0) (nat_lt 9 n) (ne_eqb n 0 (λ e. omega arith)) (le-ltb 9 n most))
    ∙ cond-true (is_stop sign && ends_sign (drop (n + 1) bytes)) (Some (made sign value (n + 1))) None
    (and_from (is_stop sign) (ends_sign (drop (n + 1) bytes)) stop (ap (λ (xs : List ℕ). ends_sign xs) (rest_behind digits sign behind) ∙ ends_said behind ∙ apart))
    ∙ ap (λ (xs : List ℕ). Some (made sign (digits_value 10 xs) (n + 1))) (take_at digits (sign ∷ behind) n refl)

number_at : (digits : List ℕ) (sign : ℕ) (behind : List ℕ) → list_all is_ascii_digit digits ≡ true → 1 ≤ length digits → length digits ≤ 9 → (sign ≡ 46) ⊎ (sign ≡ 41) → is_apart behind ≡ true
    → marker_start (digits ++ sign ∷ behind) ≡ Some (made sign (digits_value 10 digits) (length digits + 1))
number_at digits sign behind decimal some most of_sign apart =
    let bytes = digits ++ sign ∷ behind in
    cond-false (is_bullet (first bytes)) (marker_of (is_bullet (first bytes)) (first bytes) 0 1 bytes) (ordered_of (prefix_len is_ascii_digit bytes) (slice_index bytes (prefix_len is_ascii_digit bytes)) bytes)
    (no_bullet digits (sign ∷ behind) some decimal)
    ∙ ap (λ (k : ℕ). ordered_of k (slice_index bytes k) bytes) (cut_here is_ascii_digit digits (sign ∷ behind) decimal (stop_no_digit sign of_sign))
    ∙ ap (λ (s : ℕ). ordered_of (length digits) s bytes) (sign_behind digits (sign ∷ behind))
    ∙ ordered_at digits sign behind some most (sign_stop sign of_sign) apart

found_number : (marker : Marker) (bytes : List ℕ) → IsNumber marker bytes → marker_start bytes ≡ Some marker
found_number marker bytes h =
    ap marker_start h.whole ∙ number_at h.digits marker.sign h.behind h.decimal h.some h.most h.of_sign h.apart
    ∙ ap (λ (n : ℕ). Some (made marker.sign n (length h.digits + 1))) (sym h.number) ∙ ap (λ (n : ℕ). Some (made marker.sign marker.number n)) (sym h.long)

-- ---- both

said_by : (t : Bool) (marker : Marker) (bytes : List ℕ) → is_bullet (first bytes) ≡ t → marker_start bytes ≡ Some marker → IsBullet marker bytes ⊎ IsNumber marker bytes
said_by true marker bytes e h = inl (said_bullet marker bytes e (sym (cond-true (is_bullet (first bytes)) (marker_of (is_bullet (first bytes)) (first bytes) 0 1 bytes) _ e) ∙ h))
said_by false marker bytes e h =
    inr (said_number marker bytes (cut is_ascii_digit bytes)
    (sym (cond-false (is_bullet (first bytes)) _ (ordered_of (prefix_len is_ascii_digit bytes) (slice_index bytes (prefix_len is_ascii_digit bytes)) bytes) e) ∙ h))

found_by : (marker : Marker) (bytes : List ℕ) → IsBullet marker bytes ⊎ IsNumber marker bytes → marker_start bytes ≡ Some marker
found_by marker bytes (inl h) = found_bullet marker bytes h
found_by marker bytes (inr h) = found_number marker bytes h

-- bytes begin with a marker exactly where they are said to
pub markers_said : MarkersAreSaid
markers_said marker bytes = (said_by (is_bullet (first bytes)) marker bytes refl, found_by marker bytes)
