-- Graphic characters are a front of a token.
use Rattle.std.proofs.Common.{◌≡◌, ◌≢◌, ◌==◌, ◌||◌, nat_le, inl, chars, ℕ, zero, suc, ◌≤◌, ◌<◌, ◌+◌, ◌-◌, ◌&&◌, not, Bool, true, false, List, [], ◌∷◌, ◌++◌, length, drop, get_or, refl, sym, ap, ◌∙◌, arith, subst, inr}
use Rattle.std.proofs.lemmas.Bool.{and_parts, or_cases, cases_lt, false≢true}
use Rattle.std.proofs.lemmas.Bool.Decides.{nat_tests}
use Rattle.std.proofs.lemmas.List.{at_drop_more, get_or-drop}
use Rattle.std.proofs.lemmas.Str.{encode_ascii, len_utf8_ascii}
use Rattle.std.proofs.lemmas.List.{length-drop, drop-drop}
use Rattle.std.proofs.StrCases.{chars_of_empty}
use Rattle.std.specs.Char.{encode_utf8, len_utf8, is_ascii_graphic, is_whitespace}
use Rattle.std.specs.Str.{IsUtf8, IsCharBoundary}
use Rattle.mad_characters.specs.Columns.{char_columns}
use Rattle.mad_characters.proofs.CharColumns.{char_columns-ascii}
use Rattle.mad_md.specs.Flagged.{Flags, flagged, flags_of, is_blank}
use Rattle.mad_md.specs.declared.compound.Compound.{Compound}
use Rattle.mad_measure.specs.Tokens.{StopsBefore, IsTokenAt}
use Rattle.mad_measure.specs.declared.tokens.Token.{Token}
use Rattle.mad_measure.specs.Ascii.{is_end_of_word, is_lone_space}
use Rattle.mad_measure.proofs.TokenLemmas.{IsFront, front_start, front_more, stops_at, token_is}

-- a graphic character takes a column and isn't blank
graphic_columns : (c : ℕ) → 32 < c → c < 127 → char_columns c ≡ 1
graphic_columns c low high = char_columns-ascii c (omega arith) high

graphic_black : (c : ℕ) → 32 < c → c < 127 → is_whitespace c ≡ false
graphic_black c low high = grind (arith, nat_tests)

graphic_solid : (f : Flags) (c : ℕ) → 32 < c → c < 127 → is_blank (record { char = c; flags = f }) ≡ false
graphic_solid f c low high = ap (λ (w : Bool). w && not f.code) (graphic_black c low high)

above : (c : ℕ) → is_ascii_graphic c ≡ true → (32 < c) × (c < 127)
above c h = (grind (arith, nat_tests), grind (arith, nat_tests))

graphic_next : (max : ℕ) (f : Flags) (bs : List ℕ) (m c : ℕ) → IsFront max f bs m false m → 32 < c → c < 127 → drop m bs ≡ c ∷ drop (m + 1) bs → m + 1 ≤ max → IsFront max f bs (m + 1) false (m + 1)
graphic_next max f bs m c front low high at fits =
    let one = len_utf8_ascii c (omega arith) in
    let wide = graphic_columns c low high in
    let parts : drop m bs ≡ encode_utf8 c ++ drop (m + 1) bs = at ∙ ap (λ l. l ++ drop (m + 1) bs) (sym (encode_ascii c (omega arith))) in
    let next : IsFront max f bs (m + len_utf8 c) false (m + char_columns c) =
    front_more max f bs (drop (m + 1) bs) m c m false false front parts (omega (arith, one, wide)) (graphic_solid f c low high) (inr (refl, omega (arith, wide, fits))) in
    subst (λ n. IsFront max f bs (m + 1) false (m + n)) wide (subst (λ n. IsFront max f bs (m + n) false (m + char_columns c)) one next)

-- graphic characters that are no wider than the limit
pub graphic_front : (max : ℕ) (f : Flags) (bs : List ℕ) (n : ℕ) → IsUtf8 bs → n ≤ length bs → n ≤ max → ((k : ℕ) → k < n → is_ascii_graphic (get_or bs k 0) ≡ true) → IsFront max f bs n false n
graphic_front max f bs zero utf8 inside fits graphic = front_start max f bs false utf8
graphic_front max f bs (suc m) utf8 inside fits graphic =
    let front = graphic_front max f bs m utf8 (omega arith) (omega arith) (λ k l. graphic k (omega (arith, l))) in
    let c = get_or bs m 0 in
    let is = above c (graphic m (omega arith)) in
    let one : m + 1 ≡ suc m = omega arith in
    subst (λ n. IsFront max f bs n false n) one (graphic_next max f bs m c front is.0 is.1 (at_drop_more (λ l. l) bs m 0 (omega arith)) (omega arith))

-- ---- where a word ends

at_end : (max n : ℕ) (f : Flags) (bs : List ℕ) (end : ℕ) → length bs ≤ end → StopsBefore max false n (flagged f (chars (drop end bs)))
at_end max n f bs end past =
    let none : chars (drop end bs) ≡ [] = chars_of_empty (drop end bs) (omega (arith, length-drop end bs)) in
    subst (λ (cs : List ℕ). StopsBefore max false n (flagged f cs)) (sym none) tt

space_blank : (f : Flags) → not f.code ≡ true → is_blank (record { char = 32; flags = f }) ≢ false
space_blank f uncoded e = false≢true (sym e ∙ uncoded)

at_space : (max n : ℕ) (f : Flags) (bs : List ℕ) (end : ℕ) → end < length bs → IsUtf8 (drop end bs) → get_or bs end 0 ≡ 32 → not f.code ≡ true → StopsBefore max false n (flagged f (chars (drop end bs)))
at_space max n f bs end inside utf8 space uncoded =
    let parts : drop end bs ≡ encode_utf8 32 ++ drop (end + 1) bs = at_drop_more (λ l. l) bs end 0 inside ∙ ap (λ c. c ∷ drop (end + 1) bs) space ∙ ap (λ l. l ++ drop (end + 1) bs) (sym (encode_ascii 32 (omega arith))) in
    stops_at max f (drop end bs) (drop (end + 1) bs) 32 n false utf8 parts (inl (space_blank f uncoded))

word_stops : (max n : ℕ) (f : Flags) (bs : List ℕ) (end : ℕ) → IsUtf8 (drop end bs) → is_end_of_word f.code bs end ≡ true → StopsBefore max false n (flagged f (chars (drop end bs)))
word_stops max n f bs end utf8 h = elim (cases_lt end (length bs)) as (λ _. StopsBefore max false n (flagged f (chars (drop end bs)))) [
  | inr past ↦ at_end max n f bs end past
  | inl inside ↦ elim (or_cases (nat_le (length bs) end) ((get_or bs end 0 == 32) && not f.code) h) as (λ _. StopsBefore max false n (flagged f (chars (drop end bs)))) [
    | inl past ↦ at_end max n f bs end (grind (arith, nat_tests))
    | inr both ↦ let parts = and_parts (get_or bs end 0 == 32) (not f.code) both in at_space max n f bs end inside utf8 (grind (arith, nat_tests, parts.0)) parts.1
  ]
]

-- n bytes that take n columns, none of them blank, are a token where a word ends after them
pub word_is : (max start n : ℕ) (p : Compound) (t : Token) → start ≤ length p.src.now → IsCharBoundary p.src.now start → 0 < n → IsFront max (flags_of p) (drop start p.src.now) n false n
    → is_end_of_word p.code p.src.now (start + n) ≡ true → t ≡ record { compound = p; blank = false; width = n; start_in_compound = start; end_in_compound = start + n } → IsTokenAt max p start t
word_is max start n p t inside border some front ends same =
    let bs = p.src.now in
    let size : n ≡ start + n - start = omega arith in
    let back : drop n (drop start bs) ≡ drop (start + n) bs = drop-drop n start bs in
    let stops : StopsBefore max false n (flagged (flags_of p) (chars (drop n (drop start bs)))) =
    subst (λ (r : List ℕ). StopsBefore max false n (flagged (flags_of p) (chars r))) (sym back) (word_stops max n (flags_of p) bs (start + n) (subst IsUtf8 back front.rest) ends) in
    token_is max start (start + n) n false p t inside border (omega arith) (subst (λ m. IsFront max (flags_of p) (drop start bs) m false n) size front)
    (subst (λ m. StopsBefore max false n (flagged (flags_of p) (chars (drop m (drop start bs))))) size stops) same

-- ---- a lone space

space_columns : char_columns 32 ≡ 1
space_columns = char_columns-ascii 32 (omega arith) (omega arith)

space_front : (max : ℕ) (f : Flags) (bs : List ℕ) → IsUtf8 bs → 0 < length bs → get_or bs 0 0 ≡ 32 → not f.code ≡ true → IsFront max f bs 1 true 1
space_front max f bs utf8 some space uncoded =
    let parts : drop 0 bs ≡ encode_utf8 32 ++ drop (0 + 1) bs = at_drop_more (λ l. l) bs 0 0 some ∙ ap (λ c. c ∷ drop (0 + 1) bs) space ∙ ap (λ l. l ++ drop (0 + 1) bs) (sym (encode_ascii 32 (omega arith))) in
    let one = len_utf8_ascii 32 (omega arith) in
    let next : IsFront max f bs (0 + len_utf8 32) true (0 + char_columns 32) =
    front_more max f bs (drop (0 + 1) bs) 0 32 0 true true (front_start max f bs true utf8) parts (omega (arith, one, space_columns)) uncoded (inl refl) in
    let size : 0 + len_utf8 32 ≡ 1 = omega (arith, one) in
    let wide : 0 + char_columns 32 ≡ 1 = omega (arith, space_columns) in
    subst (λ n. IsFront max f bs 1 true n) wide (subst (λ n. IsFront max f bs n true (0 + char_columns 32)) size next)

blank_at_end : (max n : ℕ) (f : Flags) (bs : List ℕ) (end : ℕ) → length bs ≤ end → StopsBefore max true n (flagged f (chars (drop end bs)))
blank_at_end max n f bs end past =
    let none : chars (drop end bs) ≡ [] = chars_of_empty (drop end bs) (omega (arith, length-drop end bs)) in
    subst (λ (cs : List ℕ). StopsBefore max true n (flagged f cs)) (sym none) tt

at_graphic : (max n : ℕ) (f : Flags) (bs : List ℕ) (end : ℕ) → end < length bs → IsUtf8 (drop end bs) → is_ascii_graphic (get_or bs end 0) ≡ true → StopsBefore max true n (flagged f (chars (drop end bs)))
at_graphic max n f bs end inside utf8 graphic =
    let c = get_or bs end 0 in
    let is = above c graphic in
    let parts : drop end bs ≡ encode_utf8 c ++ drop (end + 1) bs = at_drop_more (λ l. l) bs end 0 inside ∙ ap (λ l. l ++ drop (end + 1) bs) (sym (encode_ascii c (omega (arith, is.1)))) in
    stops_at max f (drop end bs) (drop (end + 1) bs) c n true utf8 parts (inl (λ e. false≢true (sym (graphic_solid f c is.0 is.1) ∙ e)))

space_stops : (max n : ℕ) (f : Flags) (bs : List ℕ) (end : ℕ) → IsUtf8 (drop end bs) → (nat_le (length bs) end || is_ascii_graphic (get_or bs end 0)) ≡ true → StopsBefore max true n (flagged f (chars (drop end bs)))
space_stops max n f bs end utf8 h = elim (cases_lt end (length bs)) as (λ _. StopsBefore max true n (flagged f (chars (drop end bs)))) [
  | inr past ↦ blank_at_end max n f bs end past
  | inl inside ↦ elim (or_cases (nat_le (length bs) end) (is_ascii_graphic (get_or bs end 0)) h) as (λ _. StopsBefore max true n (flagged f (chars (drop end bs)))) [
    | inl past ↦ blank_at_end max n f bs end (grind (arith, nat_tests))
    | inr graphic ↦ at_graphic max n f bs end inside utf8 graphic
  ]
]

-- a lone space is a token of one column
pub space_is : (max start : ℕ) (p : Compound) (t : Token) → start < length p.src.now → IsCharBoundary p.src.now start → IsUtf8 (drop start p.src.now)
    → is_lone_space p.code p.src.now start ≡ true → t ≡ record { compound = p; blank = true; width = 1; start_in_compound = start; end_in_compound = start + 1 } → IsTokenAt max p start t
space_is max start p t inside border utf8 lone same =
    let bs = p.src.now in
    let f = flags_of p in
    let tests = and_parts (not p.code) ((get_or bs start 0 == 32) && (nat_le (length bs) (start + 1) || is_ascii_graphic (get_or bs (start + 1) 0))) lone in
    let more = and_parts (get_or bs start 0 == 32) (nat_le (length bs) (start + 1) || is_ascii_graphic (get_or bs (start + 1) 0)) tests.1 in
    let spot : start + 0 ≡ start = omega arith in
    let space : get_or bs start 0 ≡ 32 = grind (arith, nat_tests, more.0) in
    let here : get_or (drop start bs) 0 0 ≡ 32 = get_or-drop start bs 0 0 ∙ ap (λ n. get_or bs n 0) spot ∙ space in
    let front = space_front max f (drop start bs) utf8 (omega (arith, length-drop start bs)) here tests.0 in
    let size : 1 ≡ start + 1 - start = omega arith in
    let back : drop 1 (drop start bs) ≡ drop (start + 1) bs = drop-drop 1 start bs in
    let stops : StopsBefore max true 1 (flagged f (chars (drop 1 (drop start bs)))) =
    subst (λ (r : List ℕ). StopsBefore max true 1 (flagged f (chars r))) (sym back) (space_stops max 1 f bs (start + 1) (subst IsUtf8 back front.rest) more.1) in
    token_is max start (start + 1) 1 true p t (omega arith) border (omega arith) (subst (λ m. IsFront max f (drop start bs) m true 1) size front)
    (subst (λ m. StopsBefore max true 1 (flagged f (chars (drop m (drop start bs))))) size stops) same
