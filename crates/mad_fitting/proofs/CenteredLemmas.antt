-- Characters in the middle of a text, and one more.
use Rattle.std.proofs.Common.{◌≡◌, ℕ, ◌+◌, ◌-◌, ◌/◌, ◌%◌, ◌<◌, ◌≤◌, ◌⊎◌, ◌==◌, true, false, inl, inr, List, [], ◌∷◌, ◌++◌, length, chars, take, drop, slice_range, refl, sym, ap, ◌∙◌, arith, subst, Bor}
use Rattle.std.specs.Char.{encode_utf8, len_utf8}
use Rattle.std.specs.Str.{IsUtf8, IsCharBoundary}
use Rattle.std.proofs.Math.Seq.{drop-append_seam, take-append_seam}
use Rattle.std.proofs.lemmas.Bool.{cases_lt}
use Rattle.std.proofs.lemmas.Bool.Decides.{nat_tests}
use Rattle.std.proofs.lemmas.List.{append_assoc, append-nil, length-append, length-take, take-append-drop}
use Rattle.std.proofs.lemmas.Str.{chars-append, chars_past_char, chars-nil, length-encode, len_utf8_bounds, IsUtf8-append, IsUtf8-take, IsUtf8-drop, IsUtf8-nil, IsCharBoundary-at_seam, IsCharBoundary-from_take}
use Rattle.std.proofs.StrCases.{chars_of_empty}
use Rattle.mad_characters.specs.Columns.{char_columns}
use Rattle.mad_measure.specs.TextColumns.{columns}
use Rattle.mad_fitting.specs.CenteredCuts.{IsCenteredCut, IsMiddle, middle, middle_start}
use Rattle.mad_fitting.specs.declared.centered.Cut.{Cut}
use Rattle.mad_fitting.specs.declared.centered.Middle.{Middle}
use Rattle.mad_fitting.proofs.FrontLemmas.{columns-append}

-- ---- characters at a seam

-- the first character of a text is one
first_utf8 : (bs rest : List ℕ) (c : ℕ) → IsUtf8 bs → IsUtf8 rest → bs ≡ encode_utf8 c ++ rest → IsUtf8 (encode_utf8 c)
first_utf8 bs rest c utf8 after e =
    let own = IsUtf8-take bs (length (encode_utf8 c)) utf8 (IsCharBoundary-at_seam bs (encode_utf8 c) rest e after) in
    subst IsUtf8 (ap (take (length (encode_utf8 c))) e ∙ take-append_seam (encode_utf8 c) rest) own

last_utf8 : (bs rest : List ℕ) (c : ℕ) → IsUtf8 bs → IsUtf8 rest → bs ≡ rest ++ encode_utf8 c → IsUtf8 (encode_utf8 c)
last_utf8 bs rest c utf8 before e =
    let front : take (length rest) bs ≡ rest = ap (take (length rest)) e ∙ take-append_seam rest (encode_utf8 c) in
    let back : drop (length rest) bs ≡ encode_utf8 c = ap (drop (length rest)) e ∙ drop-append_seam rest (encode_utf8 c) in
    let inside : length rest ≤ length bs = omega (arith, ap length e, length-append rest (encode_utf8 c)) in
    subst IsUtf8 back (IsUtf8-drop bs (length rest) utf8 (IsCharBoundary-from_take bs (length rest) utf8 inside (subst IsUtf8 (sym front) before)))

one_char : (c : ℕ) → IsUtf8 (encode_utf8 c) → chars (encode_utf8 c) ≡ c ∷ []
one_char c utf8 = chars_past_char (encode_utf8 c) [] c utf8 (sym (append-nil (encode_utf8 c))) ∙ ap (λ l. c ∷ l) chars-nil

-- ---- what is in the middle

-- the text's characters are those before the middle, those in it and those after it
pub three : (m : Middle) (h : IsMiddle m) → chars m.text.now ≡ chars m.before.now ++ (chars h.gone ++ chars m.after.now)
three m h =
    ap chars (sym h.parts) ∙ chars-append m.before.now (h.gone ++ m.after.now) h.before ∙ ap (λ l. chars m.before.now ++ l) (chars-append h.gone m.after.now h.between)

-- the text has as many characters as there are before the middle, in it and after it
pub three_length : (m : Middle) (h : IsMiddle m) → length (chars m.text.now) ≡ length (chars m.before.now) + m.count + length (chars m.after.now)
three_length m h =
    omega (arith, ap length (three m h), length-append (chars m.before.now) (chars h.gone ++ chars m.after.now), length-append (chars h.gone) (chars m.after.now), h.number)

-- what is between both sides is the middle of the text
pub middle_is : (m : Middle) (h : IsMiddle m) → middle m.count (chars m.text.now) ≡ chars h.gone
middle_is m h =
    let cs = chars m.text.now in
    let rest = chars h.gone ++ chars m.after.now in
    let back : drop (middle_start m.count cs) cs ≡ rest = ap (λ n. drop n cs) (sym h.start) ∙ ap (drop (length (chars m.before.now))) (three m h) ∙ drop-append_seam (chars m.before.now) rest in
    ap (take m.count) back ∙ ap (λ n. take n rest) (sym h.number) ∙ take-append_seam (chars h.gone) (chars m.after.now)

-- the text has the bytes of both sides and of what is between them
pub bytes_sum : (m : Middle) (h : IsMiddle m) → length m.text.now ≡ length m.before.now + length h.gone + length m.after.now
bytes_sum m h = omega (arith, ap length h.parts, length-append m.before.now (h.gone ++ m.after.now), length-append h.gone m.after.now)

-- ---- one character more

len_utf8_some : (c : ℕ) → 1 ≤ len_utf8 c
len_utf8_some c = (len_utf8_bounds c).0

right_start : (n count : ℕ) → count % 2 ≡ 0 → n / 2 - count / 2 ≡ n / 2 - (count + 1) / 2
right_start n count even = omega (arith, even)

-- a middle of an even number of characters takes one more on its right
pub more_right : (m : Middle) (h : IsMiddle m) (c w : ℕ) (after : Bor (List ℕ)) → m.count % 2 ≡ 0 → m.after.now ≡ encode_utf8 c ++ after.now → IsUtf8 after.now → w ≡ char_columns c → w ≤ len_utf8 c
    → 0 < length m.before.now → 0 < length after.now → IsMiddle (record m { after = after; count = m.count + 1; columns = m.columns + w })
more_right m h c w after even parts utf8 wide narrow left right =
    let own = first_utf8 m.after.now after.now c h.after utf8 parts in
    let longer : chars (h.gone ++ encode_utf8 c) ≡ chars h.gone ++ c ∷ [] = chars-append h.gone (encode_utf8 c) h.between ∙ ap (λ l. chars h.gone ++ l) (one_char c own) in
    record {
      gone = h.gone ++ encode_utf8 c;
      parts = ap (λ l. m.before.now ++ l) (append_assoc h.gone (encode_utf8 c) after.now ∙ ap (λ l. h.gone ++ l) (sym parts)) ∙ h.parts;
      text = h.text;
      before = h.before;
      between = IsUtf8-append h.gone (encode_utf8 c) h.between own;
      after = utf8;
      start = h.start ∙ right_start (length (chars m.text.now)) m.count even;
      number = omega (arith, ap length longer, length-append (chars h.gone) (c ∷ []), h.number);
      columns_are = omega (arith, ap columns longer, columns-append (chars h.gone) (c ∷ []), h.columns_are, wide);
      few = omega (arith, h.few, length-append h.gone (encode_utf8 c), length-encode c, len_utf8_some c);
      narrow = omega (arith, h.narrow, length-append h.gone (encode_utf8 c), length-encode c, narrow);
      inside = inr (left, right);
    }

-- a middle of an odd number of characters takes one more on its left
pub more_left : (m : Middle) (h : IsMiddle m) (c w : ℕ) (before : Bor (List ℕ)) → m.count % 2 ≡ 1 → m.before.now ≡ before.now ++ encode_utf8 c → IsUtf8 before.now → w ≡ char_columns c → w ≤ len_utf8 c
    → 0 < length before.now → 0 < length m.after.now → IsMiddle (record m { before = before; count = m.count + 1; columns = m.columns + w })
more_left m h c w before odd parts utf8 wide narrow left right =
    let own = last_utf8 m.before.now before.now c h.before utf8 parts in
    let longer : chars (encode_utf8 c ++ h.gone) ≡ c ∷ chars h.gone = chars-append (encode_utf8 c) h.gone own ∙ ap (λ l. l ++ chars h.gone) (one_char c own) in
    let fewer : chars m.before.now ≡ chars before.now ++ c ∷ [] = ap chars parts ∙ chars-append before.now (encode_utf8 c) utf8 ∙ ap (λ l. chars before.now ++ l) (one_char c own) in
    record {
      gone = encode_utf8 c ++ h.gone;
      parts = sym (append_assoc before.now (encode_utf8 c ++ h.gone) m.after.now) ∙ ap (λ l. l ++ m.after.now) (sym (append_assoc before.now (encode_utf8 c) h.gone) ∙ ap (λ l. l ++ h.gone) (sym parts)) ∙ append_assoc m.before.now h.gone m.after.now ∙ h.parts;
      text = h.text;
      before = utf8;
      between = IsUtf8-append (encode_utf8 c) h.gone own h.between;
      after = h.after;
      start = omega (arith, h.start, odd, ap length fewer, length-append (chars before.now) (c ∷ []));
      number = omega (arith, ap length longer, h.number);
      columns_are = omega (arith, ap columns longer, h.columns_are, wide);
      few = omega (arith, h.few, length-append (encode_utf8 c) h.gone, length-encode c, len_utf8_some c);
      narrow = omega (arith, h.narrow, length-append (encode_utf8 c) h.gone, length-encode c, narrow);
      inside = inr (left, right);
    }

-- ---- where no character more is taken

-- a text of no bytes has no character
pub one_or_none : (bs : List ℕ) → length bs ≡ 0 → length (chars bs) ≡ 0
one_or_none bs none = ap length (chars_of_empty bs none)

-- an even middle with no character before it, or at most one after it, leaves two at most
pub last_right : (m : Middle) (h : IsMiddle m) → m.count % 2 ≡ 0 → (length (chars m.before.now) ≡ 0) ⊎ (length (chars m.after.now) ≤ 1) → length (chars m.text.now) ≤ m.count + 2
last_right m h even (inl none) = omega (arith, three_length m h, h.start, none, even)
last_right m h even (inr few) = omega (arith, three_length m h, h.start, few, even)

-- an odd middle with at most one character before it, or none after it, leaves two at most
pub last_left : (m : Middle) (h : IsMiddle m) → m.count % 2 ≡ 1 → (length (chars m.before.now) ≤ 1) ⊎ (length (chars m.after.now) ≡ 0) → length (chars m.text.now) ≤ m.count + 2
last_left m h odd (inl few) = omega (arith, three_length m h, h.start, few, odd)
last_left m h odd (inr none) = omega (arith, three_length m h, h.start, none, odd)

-- ---- the cut

-- a middle that has enough columns, or can't grow, is the cut, where no smaller one has more columns than are to go
pub centered_is : (excess : ℕ) (m : Middle) (h : IsMiddle m) (cut : Cut) → cut ≡ record { start = length m.before.now; end = length m.text.now - length m.after.now; columns = m.columns }
    → ((n : ℕ) → n < m.count → columns (middle n (chars m.text.now)) ≤ excess) → (excess < m.columns) ⊎ (length (chars m.text.now) ≤ m.count + 2) → IsCenteredCut excess m.text.now cut
centered_is excess m h cut is fewest stops =
    let text = m.text.now in
    let end = length text - length m.after.now in
    let sum = bytes_sum m h in
    let at : length m.before.now + length h.gone ≡ end = omega (arith, sum) in
    let size : end - length m.before.now ≡ length h.gone = omega (arith, sum) in
    let back : drop (length m.before.now) text ≡ h.gone ++ m.after.now = ap (drop (length m.before.now)) (sym h.parts) ∙ drop-append_seam m.before.now (h.gone ++ m.after.now) in
    let gone : slice_range text (length m.before.now) end ≡ h.gone = ap (take (end - length m.before.now)) back ∙ ap (λ n. take n (h.gone ++ m.after.now)) size ∙ take-append_seam h.gone m.after.now in
    let front : take (length m.before.now) text ≡ m.before.now = ap (take (length m.before.now)) (sym h.parts) ∙ take-append_seam m.before.now (h.gone ++ m.after.now) in
    let both : text ≡ (m.before.now ++ h.gone) ++ m.after.now = sym h.parts ∙ sym (append_assoc m.before.now h.gone m.after.now) in
    let seam : length (m.before.now ++ h.gone) ≡ end = length-append m.before.now h.gone ∙ at in
    subst (IsCenteredCut excess text) (sym is) (record {
      count = m.count;
      place = ap (λ l. length (chars l)) front ∙ h.start;
      gone = ap chars gone ∙ sym (middle_is m h);
      columns_are = h.columns_are ∙ ap columns (sym (middle_is m h));
      fewest = fewest;
      stops = stops;
      inside = elim h.inside as (λ _. (m.count ≡ 0) ⊎ ((0 < length m.before.now) × (end < length text))) [ inl none ↦ inl none | inr some ↦ inr (some.0, omega (arith, sum, some.1)) ];
      order = omega (arith, sum);
      first = IsCharBoundary-at_seam text m.before.now (h.gone ++ m.after.now) (sym h.parts) (IsUtf8-append h.gone m.after.now h.between h.after);
      last = subst (IsCharBoundary text) seam (IsCharBoundary-at_seam text (m.before.now ++ h.gone) m.after.now both h.after);
    })

-- ---- at half of the characters, and at both ends

-- no characters at half of the text are a middle
pub middle_start_is : (text before after : Bor (List ℕ)) (at half : ℕ) → IsUtf8 text.now → IsCharBoundary text.now at → chars (take at text.now) ≡ take half (chars text.now) → before.now ≡ take at text.now → after.now ≡ drop at text.now
    → half ≡ length (chars text.now) / 2 → IsMiddle (record { text = text; before = before; after = after; count = 0; columns = 0 })
middle_start_is text before after at half utf8 border number front back halved = record {
  gone = [];
  parts = ap (λ l. l ++ after.now) front ∙ ap (λ l. take at text.now ++ l) back ∙ take-append-drop at text.now;
  text = utf8;
  before = subst IsUtf8 (sym front) (IsUtf8-take text.now at utf8 border);
  between = IsUtf8-nil;
  after = subst IsUtf8 (sym back) (IsUtf8-drop text.now at utf8 border);
  start = omega (arith, ap (λ l. length (chars l)) front, ap length number, length-take half (chars text.now), halved);
  number = ap length chars-nil;
  columns_are = sym (ap columns chars-nil);
  few = omega arith;
  narrow = omega arith;
  inside = inl refl;
}

-- a text with nothing after its first character has no other
pub few_after : (bs rest : List ℕ) (c : ℕ) → IsUtf8 bs → bs ≡ encode_utf8 c ++ rest → length rest ≡ 0 → length (chars bs) ≤ 1
few_after bs rest c utf8 e none = omega (arith, ap length (chars_past_char bs rest c utf8 e), one_or_none rest none)

-- the characters of a text are those before its last one, and that one
pub last_char_is : (bs rest : List ℕ) (c : ℕ) → IsUtf8 bs → IsUtf8 rest → bs ≡ rest ++ encode_utf8 c → chars bs ≡ chars rest ++ c ∷ []
last_char_is bs rest c utf8 before e =
    let own = last_utf8 bs rest c utf8 before e in
    ap chars e ∙ chars-append rest (encode_utf8 c) before ∙ ap (λ l. chars rest ++ l) (one_char c own)

-- a text with nothing before its last character has no other
pub few_before : (bs rest : List ℕ) (c : ℕ) → IsUtf8 bs → IsUtf8 rest → bs ≡ rest ++ encode_utf8 c → length rest ≡ 0 → length (chars bs) ≤ 1
few_before bs rest c utf8 before e none = omega (arith, ap length (last_char_is bs rest c utf8 before e), length-append (chars rest) (c ∷ []), one_or_none rest none)

-- a number that passes the test for 0 is 0
pub zero_of : (n : ℕ) → true ≡ (n == 0) → n ≡ 0
zero_of n e = grind (arith, nat_tests)

-- a number that fails the test for 0 is above it
pub some_of_false : (n : ℕ) → false ≡ (n == 0) → 0 < n
some_of_false n e = grind (arith, nat_tests)

-- fewer characters have no more columns than are to go
pub fewest_more : (m more : Middle) (h : IsMiddle m) (excess : ℕ) → m.columns ≤ excess → more.text.now ≡ m.text.now → more.count ≡ m.count + 1 → ((n : ℕ) → n < m.count → columns (middle n (chars m.text.now)) ≤ excess)
    → (n : ℕ) → n < more.count → columns (middle n (chars more.text.now)) ≤ excess
fewest_more m more h excess fits text count fewest n l =
    let now : columns (middle n (chars m.text.now)) ≤ excess = elim (cases_lt n m.count) as (λ _. columns (middle n (chars m.text.now)) ≤ excess) [
      | inl less ↦ fewest n less
      | inr past ↦
          let same : n ≡ m.count = omega (arith, l, count, past) in
          omega (arith, ap (λ k. columns (middle k (chars m.text.now))) same, ap columns (middle_is m h), h.columns_are, fits)
    ] in
    subst (λ t. columns (middle n (chars t)) ≤ excess) (sym text) now
