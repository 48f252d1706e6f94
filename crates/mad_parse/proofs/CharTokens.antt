-- A character is read back as a character: it is none of the other tokens.
use Rattle.std.proofs.Common.{◌≡◌, ℕ, suc, ◌≤◌, ◌<◌, ◌==◌, Bool, true, false, List, [], ◌∷◌, ◌++◌, length, drop, get_or, refl, sym, ap, ◌∙◌, arith, subst, lit<, ne_eqb, eqb-true, true≢false, lt-ltb, ltb-true, append-nil, Some, None, inl, inr}
use Rattle.std.specs.Prelude.{codes, nat_lt, Ok, Err}
use Rattle.std.specs.Char.{IsScalar, encode_utf8, is_ascii_digit, to_ascii_lowercase}
use Rattle.std.specs.List.{list_all}
use Rattle.std.specs.Str.{IsUtf8}
use Rattle.std.proofs.lemmas.Bool.{cases_Bool, cases_lt, lt-leb, cond-false, cond-true, and_from, and_parts, and_right, and_left}
use Rattle.std.proofs.lemmas.Bool.Decides.{nat_tests}
use Rattle.std.proofs.lemmas.Str.{encode_ascii, inside_one, chars-nil, chars_past_char, IsUtf8-encode, length-encode, len_utf8_bounds}
use Rattle.mad_parse.specs.Colors.{color_of, color_names, without_last, text_with, call_front, named_or_called}
use Rattle.mad_parse.specs.Names.{is_named, named, align_names, attribute_names}
use Rattle.mad_parse.specs.Numbers.{number_below, signed_number_below}
use Rattle.mad_parse.specs.StyleTokens.{token_of, only}
use Rattle.mad_parse.specs.declared.errors.ParseColorError.TheVariants as color_error
use Rattle.mad_parse.specs.declared.tokens.StyleToken.TheVariants as token
use Rattle.mad_parse.proofs.ColorLemmas.{token_char}
use Rattle.mad_parse.proofs.NameLemmas.{other_length}

-- ---- texts without a name

-- a name of two letters or more, the first of them ASCII
abbrev is_ascii_name : List ℕ → Bool
is_ascii_name (n ∷ m ∷ ns) = nat_lt n 128
is_ascii_name _ = false

-- a text that is no such name
abbrev Unnamed : List ℕ → Type 0
Unnamed text = (name : List ℕ) → is_ascii_name name ≡ true → is_named text name ≡ false

unnamed_short : (c : ℕ) → Unnamed (c ∷ [])
unnamed_short c [] plain = refl
unnamed_short c (n ∷ []) plain = absurd (true≢false (sym plain))
unnamed_short c (n ∷ m ∷ ns) plain = other_length (c ∷ []) (n ∷ m ∷ ns) (ne_eqb (length (n ∷ m ∷ ns)) 1 (λ e. absurd (omega (arith, e))))

lower_high : (b : ℕ) → 128 ≤ b → to_ascii_lowercase b ≡ b
lower_high b h = grind (arith, nat_tests)

lower_low : (n : ℕ) → n < 128 → to_ascii_lowercase n < 128
lower_low n h = grind (arith, nat_tests)

unnamed_high : (b : ℕ) (rest : List ℕ) → 128 ≤ b → Unnamed (b ∷ rest)
unnamed_high b rest h [] plain = refl
unnamed_high b rest h (n ∷ []) plain = absurd (true≢false (sym plain))
unnamed_high b rest h (n ∷ m ∷ ns) plain =
    and_left _ _ (ne_eqb (to_ascii_lowercase b) (to_ascii_lowercase n) (λ e. absurd (omega (arith, h, lower_high b h, lower_low n (ltb-true n 128 plain), e))))

unnamed_in : {A : Type 0} (text : List ℕ) (table : List (List ℕ × A)) → Unnamed text → list_all (λ entry. is_ascii_name entry.0) table ≡ true → named table text ≡ None
unnamed_in text [] h plain = refl
unnamed_in text (entry ∷ table) h plain =
    let parts = and_parts (is_ascii_name entry.0) (list_all (λ entry. is_ascii_name entry.0) table) plain in
    cond-false (is_named text entry.0) (Some entry.1) (named table text) (h entry.0 parts.0) ∙ unnamed_in text table h parts.1

-- ---- texts that are no number

-- what begins with no digit is no number
pub no_number : (b : ℕ) (rest : List ℕ) → is_ascii_digit b ≡ false → (b ≡ 43 → rest ≡ []) → signed_number_below 65536 (b ∷ rest) ≡ None
no_number b rest digit alone =
    elim (cases_Bool (b == 43)) as (λ _. signed_number_below 65536 (b ∷ rest) ≡ None) [
      | inl plus ↦ ap (λ k. number_below 65536 (drop k (b ∷ rest))) (cond-true (b == 43) 1 0 plus) ∙ ap (number_below 65536) (alone (eqb-true b 43 plus))
      | inr other ↦
          ap (λ k. number_below 65536 (drop k (b ∷ rest))) (cond-false (b == 43) 1 0 other)
          ∙ cond-false _ _ _ (and_left _ _ (and_right _ _ (and_left _ _ digit)))
    ]

-- ---- texts that are no color

high_is : (b k : ℕ) → nat_lt 127 b ≡ true → k < 128 → (b == k) ≡ false
high_is b k high low = ne_eqb b k (λ e. absurd (omega (arith, ltb-true 127 b high, low, e)))

no_bracket : (bs : List ℕ) → list_all (λ b. nat_lt 127 b) bs ≡ true → without_last 41 bs ≡ None
no_bracket [] high = refl
no_bracket (b ∷ []) high = cond-false (b == 41) _ _ (high_is b 41 (and_parts _ _ high).0 (lit< tt))
no_bracket (b ∷ d ∷ bs) high = ap (λ o. text_with b o) (no_bracket (d ∷ bs) (and_parts _ _ high).1)

no_color_short : (c : ℕ) → color_of (c ∷ []) ≡ Err color_error.Unrecognized
no_color_short c =
    elim (cases_Bool (c == 35)) as (λ _. color_of (c ∷ []) ≡ Err color_error.Unrecognized) [
      | inl hash ↦ cond-true (c == 35) _ _ hash
      | inr other ↦
          cond-false (c == 35) _ _ other
          ∙ ap (λ o. named_or_called o (c ∷ [])) (unnamed_in (c ∷ []) color_names (unnamed_short c) refl)
          ∙ elim (cases_Bool (c == 41)) as (λ _. call_front (without_last 41 (c ∷ [])) ≡ Err color_error.Unrecognized) [
            | inl bracket ↦ ap call_front (cond-true (c == 41) (Some []) None bracket)
            | inr plain ↦ ap call_front (cond-false (c == 41) (Some []) None plain)
          ]
    ]

no_color_high : (b : ℕ) (rest : List ℕ) → list_all (λ b. nat_lt 127 b) (b ∷ rest) ≡ true → color_of (b ∷ rest) ≡ Err color_error.Unrecognized
no_color_high b rest high =
    let first : nat_lt 127 b ≡ true = (and_parts _ _ high).0 in
    cond-false (b == 35) _ _ (high_is b 35 first (lit< tt))
    ∙ ap (λ o. named_or_called o (b ∷ rest)) (unnamed_in (b ∷ rest) color_names (unnamed_high b rest (ltb-true 127 b first)) refl)
    ∙ ap call_front (no_bracket (b ∷ rest) high)

-- ---- the token

all_from : (bs : List ℕ) → ((k : ℕ) → k < length bs → 128 ≤ get_or bs k 0) → list_all (λ b. nat_lt 127 b) bs ≡ true
all_from [] h = refl
all_from (b ∷ bs) h = and_from _ _ (lt-ltb 127 b (h 0 (omega arith))) (all_from bs (λ k within. h (suc k) (omega (arith, within))))

high_bytes : (c : ℕ) → 128 ≤ c → list_all (λ b. nat_lt 127 b) (encode_utf8 c) ≡ true
high_bytes c h = all_from (encode_utf8 c) (λ k within. elim (cases_lt (get_or (encode_utf8 c) k 0) 128) [
  | inl low ↦ absurd (omega (arith, h, inside_one c [] (encode_utf8 c) k (sym (append-nil (encode_utf8 c))) within low, low))
  | inr high ↦ high
])

-- what a text needs so that it is no token but a character
char_from : (c b : ℕ) (rest : List ℕ) → IsUtf8 (b ∷ rest) → b ∷ rest ≡ encode_utf8 c ++ [] → Unnamed (b ∷ rest) → is_ascii_digit b ≡ false → (b ≡ 43 → rest ≡ []) → color_of (b ∷ rest) ≡ Err color_error.Unrecognized
    → token_of (b ∷ rest) ≡ Ok (token.Char c)
char_from c b rest utf8 is unnamed digit alone color =
    token_char (b ∷ rest) c (unnamed (codes "none") refl) (no_number b rest digit alone) color (unnamed_in (b ∷ rest) attribute_names unnamed refl) (unnamed_in (b ∷ rest) align_names unnamed refl)
    (ap only (chars_past_char (b ∷ rest) [] c utf8 is ∙ ap (λ cs. c ∷ cs) chars-nil))

char_high : (c : ℕ) (bs : List ℕ) → 128 ≤ c → 0 < length bs → bs ≡ encode_utf8 c → IsUtf8 bs → token_of bs ≡ Ok (token.Char c)
char_high c [] h some is utf8 = absurd (omega arith)
char_high c (b ∷ rest) h some is utf8 =
    let high : list_all (λ b. nat_lt 127 b) (b ∷ rest) ≡ true = ap (list_all (λ b. nat_lt 127 b)) is ∙ high_bytes c h in
    let first : 127 < b = ltb-true 127 b (and_parts _ _ high).0 in
    char_from c b rest utf8 (is ∙ sym (append-nil (encode_utf8 c))) (unnamed_high b rest first) (and_right _ _ (lt-leb b 57 (omega (arith, first)))) (λ e. absurd (omega (arith, first, e))) (no_color_high b rest high)

char_low : (c : ℕ) → c < 128 → IsUtf8 (c ∷ []) → is_ascii_digit c ≡ false → token_of (c ∷ []) ≡ Ok (token.Char c)
char_low c low utf8 digit = char_from c c [] utf8 (sym (append-nil (encode_utf8 c) ∙ encode_ascii c low)) (unnamed_short c) digit (λ e. refl) (no_color_short c)

-- a character but a digit is read as a token of it
pub char_reads : (c : ℕ) → IsScalar c → is_ascii_digit c ≡ false → token_of (encode_utf8 c) ≡ Ok (token.Char c)
char_reads c scalar digit =
    let utf8 = IsUtf8-encode c scalar in
    elim (cases_lt c 128) as (λ _. token_of (encode_utf8 c) ≡ Ok (token.Char c)) [
      | inl low ↦ ap token_of (encode_ascii c low) ∙ char_low c low (subst IsUtf8 (encode_ascii c low) utf8) digit
      | inr high ↦ char_high c (encode_utf8 c) high (omega (arith, length-encode c, (len_utf8_bounds c).0)) refl utf8
    ]
