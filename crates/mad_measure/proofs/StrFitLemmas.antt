-- The longest front of a text that fits some columns, character by character.
use Rattle.std.proofs.Common.{◌≡◌, ◌≢◌, min, ℕ, zero, suc, ◌+◌, ◌-◌, ◌<◌, ◌≤◌, ◌==◌, ◌||◌, Bool, true, false, cond, ⊎_elim, List, [], ◌∷◌, ◌++◌, length, take, drop, refl, ap, sym, ◌∙◌, subst, arith, length-append, append_assoc, append-nil}
use Rattle.std.specs.Prelude.{encode_utf8, encode_utf8_all}
use Rattle.std.specs.Char.{len_utf8}
use Rattle.std.specs.Str.{chars, IsUtf8, IsCharBoundary}
use Rattle.std.proofs.lemmas.Bool.{cases_lt}
use Rattle.std.proofs.lemmas.Bool.Decides.{nat_tests}
use Rattle.std.proofs.lemmas.List.{length-take, take-append-drop, take-append-le, take_at, take_all, take-take, append_cancel_right, length-drop}
use Rattle.std.proofs.lemmas.Str.{IsUtf8-take, IsUtf8-past_char, IsCharBoundary-from_drop, chars_past_char, chars-append, chars-nil, encodes-chars, encodes-append, drop_past_char, length-encode, len_utf8_bounds}
use Rattle.std.proofs.StrCases.{chars_of_empty}
use Rattle.mad_measure.specs.RunningWidths.{columns_on, columns_back, forward, backward, StaysWithin, IsLongestFront, IsFit, IsCropped, has_tab, tabs_replaced}

-- ---- running widths of characters one after the other

-- joined characters move on as far as both together
pub forward-append : (cs ds : List ℕ) → forward (cs ++ ds) ≡ forward cs + forward ds
forward-append [] ds = omega arith
forward-append (c ∷ cs) ds = let rest : forward (cs ++ ds) ≡ forward cs + forward ds = forward-append cs ds in omega (arith, rest)

-- joined characters move back as far as both together
pub backward-append : (cs ds : List ℕ) → backward (cs ++ ds) ≡ backward cs + backward ds
backward-append [] ds = omega arith
backward-append (c ∷ cs) ds = let rest : backward (cs ++ ds) ≡ backward cs + backward ds = backward-append cs ds in omega (arith, rest)

-- no more backspaces than characters
pub backward-le : (cs : List ℕ) → backward cs ≤ length cs
backward-le [] = omega arith
backward-le (c ∷ cs) = let rest : backward cs ≤ length cs = backward-le cs in let one : columns_back c ≤ 1 = back_one c in omega (arith, rest, one)
  where
    back_one : (c : ℕ) → columns_back c ≤ 1
    back_one c = elim (c == 8) as (λ b. (cond b 1 0) ≤ 1) [ true ↦ omega arith | false ↦ omega arith ]

-- one character more stays within
within_more : (cols room left c : ℕ) (front : List ℕ) → StaysWithin cols front → room + forward front ≡ cols + backward front → left + columns_on c ≡ room + columns_back c → StaysWithin cols (front ++ c ∷ [])
within_more cols room left c front within is_room took n =
    ⊎_elim
    (λ (inside : n < length front + 1).
    subst (λ (xs : List ℕ). forward xs ≤ cols + backward xs) (sym (take-append-le n front (c ∷ []) (omega (arith, inside)))) (within n))
    (λ (all : length front + 1 ≤ n).
    let whole : take n (front ++ c ∷ []) ≡ front ++ c ∷ [] = take_all n (front ++ c ∷ []) (omega (arith, all, length-append front (c ∷ []))) in
    subst (λ (xs : List ℕ). forward xs ≤ cols + backward xs) (sym whole)
    (omega (arith, forward-append front (c ∷ []), backward-append front (c ∷ []), is_room, took)))
    (cases_lt n (length front + 1))

-- ---- the longest

-- no character is left
longest_all : (cols : ℕ) (front cs : List ℕ) → front ≡ cs → StaysWithin cols front → IsLongestFront cols front cs
longest_all cols front cs e within = record {
  is_front = e ∙ sym (take_all (length front) cs (let same : length front ≡ length cs = ap length e in omega (arith, same)));
  within = within;
  longest = λ n _. subst (λ (xs : List ℕ). length (take n xs) ≤ length front) e (shorter n front);
}
  where
    shorter : (n : ℕ) (xs : List ℕ) → length (take n xs) ≤ length xs
    shorter zero xs = omega arith
    shorter (suc n) [] = omega arith
    shorter (suc n) (x ∷ xs) = let rest : length (take n xs) ≤ length xs = shorter n xs in omega (arith, rest)

-- the next character doesn't fit
longest_before : (cols room c : ℕ) (front rest cs : List ℕ) → cs ≡ front ++ c ∷ rest → StaysWithin cols front → room + forward front ≡ cols + backward front → room + columns_back c < columns_on c → IsLongestFront cols front cs
longest_before cols room c front rest cs e within is_room stop = record {
  is_front = sym (ap (take (length front)) e ∙ take_at front (c ∷ rest) (length front) refl);
  within = within;
  longest = λ n h. ⊎_elim (λ (longer : length front < length (take n cs)). absurd (passes n h longer)) (λ (no : length (take n cs) ≤ length front). no) (cases_lt (length front) (length (take n cs)));
}
  where
    one_more : take (length front + 1) cs ≡ front ++ c ∷ []
    one_more =
        ap (take (length front + 1)) (e ∙ sym (append_assoc front (c ∷ []) rest))
        ∙ take_at (front ++ c ∷ []) rest (length front + 1) (let l : length (front ++ c ∷ []) ≡ length front + 1 = length-append front (c ∷ []) in l)

    passes : (n : ℕ) → StaysWithin cols (take n cs) → length front < length (take n cs) → ⊥
    passes n h longer =
        let past : length front + 1 ≤ n = omega (arith, longer, length-take n cs) in
        let there : take (length front + 1) (take n cs) ≡ front ++ c ∷ [] = take-take (length front + 1) n cs past ∙ one_more in
        let at : forward (front ++ c ∷ []) ≤ cols + backward (front ++ c ∷ []) = subst (λ (xs : List ℕ). forward xs ≤ cols + backward xs) there (h (length front + 1)) in
        omega (arith, at, forward-append front (c ∷ []), backward-append front (c ∷ []), is_room, stop)

-- ---- a front of a text

-- The first bytes of the text stay within `cols`, and leave `room` of them; `rest` comes after them.
pub record FitSoFar (text rest : List ℕ) (cols room bytes width : ℕ) (tab : Bool) : Type 0 where
  pub utf8 : IsUtf8 rest
  pub inside : bytes ≤ length text
  pub left : drop bytes text ≡ rest
  pub within : StaysWithin cols (chars (take bytes text))
  pub is_room : room + forward (chars (take bytes text)) ≡ cols + backward (chars (take bytes text))
  pub small : room ≤ cols + bytes
  pub counts : width ≡ cols - room
  pub tabs : tab ≡ has_tab (chars (take bytes text))

-- the text may be cut before what is left
border : (text rest : List ℕ) (bytes : ℕ) → IsUtf8 rest → bytes ≤ length text → drop bytes text ≡ rest → IsCharBoundary text bytes
border text rest bytes utf8 inside left = IsCharBoundary-from_drop text bytes inside (subst IsUtf8 (sym left) utf8)

-- its characters are those of the front and those that are left
split : (text rest : List ℕ) (bytes : ℕ) → IsUtf8 text → IsUtf8 rest → bytes ≤ length text → drop bytes text ≡ rest → chars text ≡ chars (take bytes text) ++ chars rest
split text rest bytes whole utf8 inside left =
    sym (ap chars (take-append-drop bytes text))
    ∙ chars-append (take bytes text) (drop bytes text) (IsUtf8-take text bytes whole (border text rest bytes utf8 inside left))
    ∙ ap (λ xs. chars (take bytes text) ++ chars xs) left

-- before the first byte all columns are left
pub fit_none : (text : List ℕ) (cols : ℕ) → IsUtf8 text → FitSoFar text text cols cols 0 0 false
fit_none text cols utf8 = record {
  utf8 = utf8;
  inside = omega arith;
  left = refl;
  within = subst (StaysWithin cols) (sym chars-nil) (λ n. subst (λ (xs : List ℕ). forward xs ≤ cols + backward xs) (sym (take_all n [] (omega arith))) (omega arith));
  is_room = subst (λ (xs : List ℕ). cols + forward xs ≡ cols + backward xs) (sym chars-nil) refl;
  small = omega arith;
  counts = omega arith;
  tabs = sym (ap has_tab chars-nil);
}

has_tab-more : (cs : List ℕ) (c : ℕ) → has_tab (cs ++ c ∷ []) ≡ (has_tab cs || (c == 9))
has_tab-more [] c = or_false (c == 9)
  where
    or_false : (b : Bool) → (b || false) ≡ b
    or_false true = refl
    or_false false = refl
has_tab-more (d ∷ cs) c = ap (λ b. (d == 9) || b) (has_tab-more cs c) ∙ or_or (d == 9) (has_tab cs) (c == 9)
  where
    or_or : (a b d : Bool) → (a || (b || d)) ≡ ((a || b) || d)
    or_or true b d = refl
    or_or false b d = refl

-- a character after a front of the text
char_inside : (text rest more : List ℕ) (bytes c : ℕ) → bytes ≤ length text → drop bytes text ≡ rest → rest ≡ encode_utf8 c ++ more → bytes + len_utf8 c ≤ length text
char_inside text rest more bytes c inside left parts =
    let counts : length (drop bytes text) ≡ length (encode_utf8 c ++ more) = ap length (left ∙ parts) in
    omega (arith, inside, counts, length-drop bytes text, length-append (encode_utf8 c) more, length-encode c, (len_utf8_bounds c).0)

front_grown : (text rest more : List ℕ) (bytes c : ℕ) → IsUtf8 text → IsUtf8 rest → bytes ≤ length text → drop bytes text ≡ rest → rest ≡ encode_utf8 c ++ more → chars (take (bytes + len_utf8 c) text) ≡ chars (take bytes text) ++ c ∷ []
front_grown text rest more bytes c whole utf8 inside left parts =
    append_cancel_right (chars (take (bytes + len_utf8 c) text)) (chars (take bytes text) ++ c ∷ []) (chars more)
    (sym (split text more (bytes + len_utf8 c) whole (IsUtf8-past_char rest more c utf8 parts) (char_inside text rest more bytes c inside left parts) (drop_past_char text more bytes c (left ∙ parts)))
    ∙ split text rest bytes whole utf8 inside left
    ∙ ap (λ xs. chars (take bytes text) ++ xs) (chars_past_char rest more c utf8 parts)
    ∙ sym (append_assoc (chars (take bytes text)) (c ∷ []) (chars more)))

-- one character more
pub fit_more : (text rest more : List ℕ) (cols room left bytes bytes' width width' c : ℕ) (tab tab' : Bool) → IsUtf8 text → FitSoFar text rest cols room bytes width tab → rest ≡ encode_utf8 c ++ more → left + columns_on c ≡ room + columns_back c
    → bytes' ≡ bytes + len_utf8 c → width' ≡ cols - left → tab' ≡ (tab || (c == 9)) → FitSoFar text more cols left bytes' width' tab'
fit_more text rest more cols room left bytes bytes' width width' c tab tab' whole h parts took at counts tabs = record {
  utf8 = more_utf8;
  inside = omega (arith, at, inside);
  left = ap (λ n. drop n text) at ∙ past;
  within = subst (StaysWithin cols) (sym grown') (within_more cols room left c front h.within h.is_room took);
  is_room = subst (λ (xs : List ℕ). left + forward xs ≡ cols + backward xs) (sym grown') (omega (arith, forward-append front (c ∷ []), backward-append front (c ∷ []), h.is_room, took));
  small = omega (arith, h.small, took, at, (len_utf8_bounds c).0, backward-le (c ∷ []));
  counts = counts;
  tabs = tabs ∙ ap (λ b. b || (c == 9)) h.tabs ∙ sym (ap has_tab grown' ∙ has_tab-more front c);
}
  where
    front : List ℕ
    front = chars (take bytes text)

    more_utf8 : IsUtf8 more
    more_utf8 = IsUtf8-past_char rest more c h.utf8 parts

    past : drop (bytes + len_utf8 c) text ≡ more
    past = drop_past_char text more bytes c (h.left ∙ parts)

    inside : bytes + len_utf8 c ≤ length text
    inside = char_inside text rest more bytes c h.inside h.left parts

    grown' : chars (take bytes' text) ≡ front ++ c ∷ []
    grown' = ap (λ n. chars (take n text)) at ∙ front_grown text rest more bytes c whole h.utf8 h.inside h.left parts

width_is : (cols room : ℕ) (front : List ℕ) → room + forward front ≡ cols + backward front → cols - room ≡ forward front - backward front
width_is cols room front h = omega (arith, h)

-- the text has ended
pub fit_all : (text rest : List ℕ) (cols room bytes width : ℕ) (tab : Bool) → IsUtf8 text → FitSoFar text rest cols room bytes width tab → length rest ≡ 0 → IsFit text cols bytes width
fit_all text rest cols room bytes width tab whole h none = record {
  border = border text rest bytes h.utf8 h.inside h.left;
  longest = longest_all cols (chars (take bytes text)) (chars text) (sym (split text rest bytes whole h.utf8 h.inside h.left ∙ ap (λ xs. chars (take bytes text) ++ xs) (chars_of_empty rest none) ∙ append-nil (chars (take bytes text)))) h.within;
  counts = h.counts ∙ width_is cols room (chars (take bytes text)) h.is_room;
}

-- the next character doesn't fit
pub fit_before : (text rest more : List ℕ) (cols room bytes width c : ℕ) (tab : Bool) → IsUtf8 text → FitSoFar text rest cols room bytes width tab → rest ≡ encode_utf8 c ++ more → room + columns_back c < columns_on c → IsFit text cols bytes width
fit_before text rest more cols room bytes width c tab whole h parts stop = record {
  border = border text rest bytes h.utf8 h.inside h.left;
  longest = longest_before cols room c (chars (take bytes text)) (chars more) (chars text) (split text rest bytes whole h.utf8 h.inside h.left ∙ ap (λ xs. chars (take bytes text) ++ xs) (chars_past_char rest more c h.utf8 parts)) h.within h.is_room stop;
  counts = h.counts ∙ width_is cols room (chars (take bytes text)) h.is_room;
}

-- ---- tabs

-- of a text as far as its tabs are replaced, one character more
pub replaced_more : (done shown rest more all : List ℕ) (c : ℕ) → IsUtf8 rest → rest ≡ encode_utf8 c ++ more → shown ≡ encode_utf8_all (cond (c == 9) (32 ∷ 32 ∷ []) (c ∷ [])) → done ++ encode_utf8_all (tabs_replaced (chars rest)) ≡ all
    → (done ++ shown) ++ encode_utf8_all (tabs_replaced (chars more)) ≡ all
replaced_more done shown rest more all c utf8 parts is h =
    let others : List ℕ = tabs_replaced (chars more) in
    append_assoc done shown (encode_utf8_all others)
    ∙ ap (λ (bytes : List ℕ). done ++ bytes) (ap (λ (bytes : List ℕ). bytes ++ encode_utf8_all others) is ∙ sym (encodes-append (cond (c == 9) (32 ∷ 32 ∷ []) (c ∷ [])) others) ∙ ap (λ cs. encode_utf8_all (tabs_replaced cs)) (sym (chars_past_char rest more c utf8 parts)))
    ∙ h

-- what a character is replaced by
pub tab_shown : (c : ℕ) → c ≡ 9 → 32 ∷ 32 ∷ [] ≡ encode_utf8_all (cond (c == 9) (32 ∷ 32 ∷ []) (c ∷ []))
unfolding lib.Utf8.encode
tab_shown c is = let test : (c == 9) ≡ true = grind (arith, nat_tests) in ap (λ t. encode_utf8_all (cond t (32 ∷ 32 ∷ []) (c ∷ []))) (sym test)

-- a character that isn't a tab is replaced by itself
pub other_shown : (c : ℕ) → c ≢ 9 → encode_utf8 c ≡ encode_utf8_all (cond (c == 9) (32 ∷ 32 ∷ []) (c ∷ []))
other_shown c other = let test : (c == 9) ≡ false = grind (arith, nat_tests) in sym (append-nil (encode_utf8 c)) ∙ ap (λ t. encode_utf8_all (cond t (32 ∷ 32 ∷ []) (c ∷ []))) (sym test)

true_is_false : {A : Type 0} → true ≡ false → A
true_is_false {A} e = absurd (no e)
  where
    no : true ≡ false → ⊥
    no e = cc

same_without : (c : ℕ) (cs : List ℕ) (b : Bool) → (c == 9) ≡ b → has_tab (c ∷ cs) ≡ false → tabs_replaced cs ≡ cs → tabs_replaced (c ∷ cs) ≡ c ∷ cs
same_without c cs true e h rest = true_is_false (sym (ap (λ t. t || has_tab cs) e) ∙ h)
same_without c cs false e h rest = ap (λ t. cond t (32 ∷ 32 ∷ []) (c ∷ []) ++ tabs_replaced cs) e ∙ ap (λ ds. c ∷ ds) rest

none_in_rest : (c : ℕ) (cs : List ℕ) → has_tab (c ∷ cs) ≡ false → has_tab cs ≡ false
none_in_rest c cs h = by_test (c == 9) (has_tab cs) h
  where
    by_test : (a b : Bool) → (a || b) ≡ false → b ≡ false
    by_test true b h = true_is_false h
    by_test false b h = h

without_tabs : (cs : List ℕ) → has_tab cs ≡ false → tabs_replaced cs ≡ cs
without_tabs [] h = refl
without_tabs (c ∷ cs) h = same_without c cs (c == 9) refl h (without_tabs cs (none_in_rest c cs h))

-- a text's longest front, its tabs replaced, or without tabs
pub cropped_replaced : (text front shown : List ℕ) (cols bytes width : ℕ) → IsFit text cols bytes width → front ≡ take bytes text → shown ≡ encode_utf8_all (tabs_replaced (chars front)) → IsCropped text cols shown width
cropped_replaced text front shown cols bytes width fit is replaced = record {
  front = chars (take bytes text);
  longest = fit.longest;
  replaced = replaced ∙ ap (λ bs. encode_utf8_all (tabs_replaced (chars bs))) is;
  counts = fit.counts;
}

-- a longest front without tabs is cropped as it is
pub cropped_as_is : (text front : List ℕ) (cols bytes width : ℕ) → IsUtf8 text → IsFit text cols bytes width → front ≡ take bytes text → has_tab (chars (take bytes text)) ≡ false → IsCropped text cols front width
cropped_as_is text front cols bytes width whole fit is none = record {
  front = chars (take bytes text);
  longest = fit.longest;
  replaced = is ∙ sym (ap encode_utf8_all (without_tabs (chars (take bytes text)) none) ∙ encodes-chars (take bytes text) (IsUtf8-take text bytes whole fit.border));
  counts = fit.counts;
}

-- ---- the first characters of a text

-- The first bytes of the text are so many characters; `rest` comes after them.
pub record CharsSoFar (text rest : List ℕ) (bytes count : ℕ) : Type 0 where
  pub utf8 : IsUtf8 rest
  pub inside : bytes ≤ length text
  pub left : drop bytes text ≡ rest
  pub counts : count ≡ length (chars (take bytes text))

-- before the first byte no character has come
pub no_chars : (text rest : List ℕ) → IsUtf8 text → rest ≡ text → CharsSoFar text rest 0 0
no_chars text rest utf8 e = record { utf8 = subst IsUtf8 (sym e) utf8; inside = omega arith; left = sym e; counts = sym (ap length chars-nil) }

-- with the bytes of one character more, one more has come
pub one_char_more : (text rest more : List ℕ) (bytes bytes' count count' c : ℕ) → IsUtf8 text → CharsSoFar text rest bytes count → rest ≡ encode_utf8 c ++ more → bytes' ≡ bytes + len_utf8 c → count' ≡ count + 1 → CharsSoFar text more bytes' count'
one_char_more text rest more bytes bytes' count count' c whole h parts at counts = record {
  utf8 = IsUtf8-past_char rest more c h.utf8 parts;
  inside = omega (arith, at, char_inside text rest more bytes c h.inside h.left parts);
  left = ap (λ n. drop n text) at ∙ drop_past_char text more bytes c (h.left ∙ parts);
  counts =
      let grown : chars (take bytes' text) ≡ chars (take bytes text) ++ c ∷ [] = ap (λ n. chars (take n text)) at ∙ front_grown text rest more bytes c whole h.utf8 h.inside h.left parts in
      let more_of_them : length (chars (take bytes' text)) ≡ length (chars (take bytes text)) + 1 = ap length grown ∙ length-append (chars (take bytes text)) (c ∷ []) in
      omega (arith, counts, h.counts, more_of_them);
}

-- the text may be cut after these bytes
pub first_border : (text rest : List ℕ) (bytes count : ℕ) → CharsSoFar text rest bytes count → IsCharBoundary text bytes
first_border text rest bytes count h = border text rest bytes h.utf8 h.inside h.left

-- they are all that were asked for
pub first_are : (text rest : List ℕ) (bytes count most : ℕ) → IsUtf8 text → CharsSoFar text rest bytes count → count ≡ most → (take bytes text ≡ encode_utf8_all (take most (chars text))) × (count ≡ min most (length (chars text)))
first_are text rest bytes count most whole h all =
    let front : List ℕ = chars (take bytes text) in
    let parts : chars text ≡ front ++ chars rest = split text rest bytes whole h.utf8 h.inside h.left in
    let taken : take most (chars text) ≡ front = ap (take most) parts ∙ take_at front (chars rest) most (sym h.counts ∙ all) in
    let total : length (chars text) ≡ length front + length (chars rest) = ap length parts ∙ length-append front (chars rest) in (
      sym (ap encode_utf8_all taken ∙ encodes-chars (take bytes text) (IsUtf8-take text bytes whole (first_border text rest bytes count h))),
      omega (arith, all, h.counts, total),
    )

-- or the text has no others
pub all_are_first : (text rest : List ℕ) (bytes count most : ℕ) → IsUtf8 text → CharsSoFar text rest bytes count → count ≤ most → length rest ≡ 0 → (take bytes text ≡ encode_utf8_all (take most (chars text))) × (count ≡ min most (length (chars text)))
all_are_first text rest bytes count most whole h within none =
    let front : List ℕ = chars (take bytes text) in
    let parts : chars text ≡ front = split text rest bytes whole h.utf8 h.inside h.left ∙ ap (λ xs. front ++ xs) (chars_of_empty rest none) ∙ append-nil front in
    let total : length (chars text) ≡ length front = ap length parts in
    let taken : take most (chars text) ≡ front = take_all most (chars text) (omega (arith, total, h.counts, within)) ∙ parts in (
      sym (ap encode_utf8_all taken ∙ encodes-chars (take bytes text) (IsUtf8-take text bytes whole (first_border text rest bytes count h))),
      omega (arith, within, h.counts, total),
    )
