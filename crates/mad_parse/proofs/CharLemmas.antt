-- Going over a text character by character, as far as the characters pass a test.
use Rattle.std.proofs.Common.{◌≡◌, ℕ, ◌≤◌, ◌+◌, Bool, true, false, List, [], ◌∷◌, ◌++◌, chars, length, take, drop, refl, sym, ap, ◌∙◌, arith, subst, zero-add}
use Rattle.std.specs.List.{prefix_len}
use Rattle.std.specs.Str.{IsUtf8, IsCharBoundary}
use Rattle.std.specs.Char.{encode_utf8, len_utf8}
use Rattle.std.proofs.StrCases.{chars_of_empty}
use Rattle.std.proofs.lemmas.Str.{chars-nil, chars_past_char, drop_past_char, length-encode, IsUtf8-past_char, IsCharBoundary-from_drop}
use Rattle.std.proofs.lemmas.List.{length-append, length-drop}
use Rattle.mad_md.proofs.CharLemmas.{chars_take_more}

-- the first end bytes of a text are characters that pass
pub record IsLeading (p : ℕ → Bool) (bs : List ℕ) (end : ℕ) : Type 0 where
  pub utf8 : IsUtf8 bs
  pub within : end ≤ length bs
  pub rest : IsUtf8 (drop end bs)
  pub count : prefix_len p (chars bs) ≡ length (chars (take end bs)) + prefix_len p (chars (drop end bs))

-- before the first character
pub leading_start : (p : ℕ → Bool) (bs : List ℕ) → IsUtf8 bs → IsLeading p bs 0
leading_start p bs u = record { utf8 = u; within = omega arith; rest = u; count = rw chars-nil (sym (zero-add _)) }

one_more : (p : ℕ → Bool) (c : ℕ) (cs : List ℕ) → p c ≡ true → prefix_len p (c ∷ cs) ≡ 1 + prefix_len p cs
one_more p c cs e = rw e refl

none_more : (p : ℕ → Bool) (c : ℕ) (cs : List ℕ) → p c ≡ false → prefix_len p (c ∷ cs) ≡ 0
none_more p c cs e = rw e refl

-- one character more that passes
pub leading_more : (p : ℕ → Bool) (bs rest : List ℕ) (end c : ℕ) → IsLeading p bs end → drop end bs ≡ encode_utf8 c ++ rest → p c ≡ true → IsLeading p bs (end + len_utf8 c)
leading_more p bs rest end c h e pass =
    let after : drop (end + len_utf8 c) bs ≡ rest = drop_past_char bs rest end c e in
    let front = chars_take_more bs rest end c h.utf8 h.within h.rest e in
    let beyond : prefix_len p (chars (drop end bs)) ≡ 1 + prefix_len p (chars (drop (end + len_utf8 c) bs)) =
    ap (prefix_len p) (chars_past_char (drop end bs) rest c h.rest e) ∙ one_more p c (chars rest) pass ∙ ap (λ r. 1 + prefix_len p (chars r)) (sym after) in
    record {
      utf8 = h.utf8;
      within = omega (arith, h.within, length-encode c, length-drop end bs, (simp length-append at (ap length e)));
      rest = subst IsUtf8 (sym after) (IsUtf8-past_char (drop end bs) rest c h.rest e);
      count = omega (arith, h.count, beyond, ap length front, length-append (chars (take end bs)) (c ∷ []));
    }

-- the first that doesn't, or the end
pub leading_stop : (p : ℕ → Bool) (bs rest : List ℕ) (end c : ℕ) → IsLeading p bs end → drop end bs ≡ encode_utf8 c ++ rest → p c ≡ false → length (chars (take end bs)) ≡ prefix_len p (chars bs)
leading_stop p bs rest end c h e fails =
    let beyond : prefix_len p (chars (drop end bs)) ≡ 0 = ap (prefix_len p) (chars_past_char (drop end bs) rest c h.rest e) ∙ none_more p c (chars rest) fails in
    omega (arith, h.count, beyond)

-- after the last one
pub leading_end : (p : ℕ → Bool) (bs : List ℕ) (end : ℕ) → IsLeading p bs end → length (drop end bs) ≡ 0 → length (chars (take end bs)) ≡ prefix_len p (chars bs)
leading_end p bs end h none =
    let beyond : prefix_len p (chars (drop end bs)) ≡ 0 = ap (prefix_len p) (chars_of_empty _ none) in
    omega (arith, h.count, beyond)

-- the end of what leads is a border of characters
pub leading_border : (p : ℕ → Bool) (bs : List ℕ) (end : ℕ) → IsLeading p bs end → IsCharBoundary bs end
leading_border p bs end h = IsCharBoundary-from_drop bs end h.within h.rest

-- a further character is within the text
pub leading_fits : (p : ℕ → Bool) (bs rest : List ℕ) (end c : ℕ) → IsLeading p bs end → drop end bs ≡ encode_utf8 c ++ rest → end + len_utf8 c ≤ length bs
leading_fits p bs rest end c h e = omega (arith, h.within, length-encode c, length-drop end bs, (simp length-append at (ap length e)))

-- the first character of a text
pub first_char : (bs rest : List ℕ) (c : ℕ) → IsUtf8 bs → bs ≡ encode_utf8 c ++ rest → IsCharBoundary bs (len_utf8 c) × (length (chars (take (len_utf8 c) bs)) ≡ 1)
first_char bs rest c u e =
    let h = leading_start (λ d. true) bs u in
    let more = leading_more (λ d. true) bs rest 0 c h e refl in
    let zero : 0 + len_utf8 c ≡ len_utf8 c = zero-add (len_utf8 c) in
    let front = chars_take_more bs rest 0 c u h.within h.rest e in (
      subst (IsCharBoundary bs) zero (leading_border (λ d. true) bs _ more),
      subst (λ n. length (chars (take n bs)) ≡ 1) zero (ap length front ∙ ap (λ f. length (f ++ c ∷ [])) chars-nil),
    )
