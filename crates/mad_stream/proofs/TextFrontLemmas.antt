-- Bytes that begin with a text, and bytes that no text begins with.
use Rattle.std.proofs.Common.{◌≡◌, ◌⊎◌, inl, inr, ℕ, ◌+◌, ◌/◌, ◌<◌, ◌≤◌, true, List, [], ◌∷◌, ◌++◌, length, take, drop, Option, Some, None, refl, sym, ap, ◌∙◌, subst, arith, append_assoc, lt-ltb, le-ltb, take-add}
use Rattle.std.specs.Prelude.{is_some, false}
use Rattle.std.specs.Str.{IsUtf8, IsErrorLen, IsValidUpTo}
use Rattle.std.specs.Str.Lossy.{utf8_error_len, second_byte_min, second_byte_max}
use Rattle.std.proofs.lemmas.Bool.{cases_lt, and_parts}
use Rattle.std.proofs.lemmas.Bool.Decides.{nat_tests}
use Rattle.std.proofs.lemmas.List.{take-append-drop, length-take-le, take-append-le, drop-append-le, length-append, length-drop}
use Rattle.std.proofs.lemmas.Str.{encode_ascii, length-encode, len_utf8_bounds, IsUtf8-append, IsUtf8-drop, IsUtf8-encode, IsCharBoundary-from_take}
use Rattle.std.proofs.Math.Seq.{take-append_seam}
use lib.Utf8.{scalar, scalars, encode, encodes, next, scalar_cases}
use Rattle.mad_stream.specs.TextFronts.{IsTextFront}

-- ---- the bytes of a character

two : (c : ℕ) → 128 ≤ c → c < 2048 → encode c ≡ (192 + c / 64) ∷ next c ∷ []
unfolding encode
two c l h = rw (le-ltb c 128 l, lt-ltb c 2048 h)

three : (c : ℕ) → 2048 ≤ c → c < 65536 → encode c ≡ (224 + c / 4096) ∷ next (c / 64) ∷ next c ∷ []
unfolding encode
three c l h = rw (le-ltb c 128 (omega arith), le-ltb c 2048 l, lt-ltb c 65536 h)

four : (c : ℕ) → 65536 ≤ c → encode c ≡ (240 + c / 262144) ∷ next (c / 4096) ∷ next (c / 64) ∷ next c ∷ []
unfolding encode
four c l = rw (le-ltb c 128 (omega arith), le-ltb c 2048 (omega arith), le-ltb c 65536 l)

-- ---- a character that hasn't come whole

one_come : (x : ℕ) → 194 ≤ x → x ≤ 244 → utf8_error_len (x ∷ []) ≡ None
unfolding utf8_error_len
one_come x l h = grind (arith, nat_tests)

two_come : (x y : ℕ) → 194 ≤ x → x ≤ 244 → second_byte_min x ≤ y → y ≤ second_byte_max x → utf8_error_len (x ∷ y ∷ []) ≡ None
unfolding utf8_error_len
two_come x y l h f g = grind (arith, nat_tests)

three_come : (x y z : ℕ) → 194 ≤ x → x ≤ 244 → second_byte_min x ≤ y → y ≤ second_byte_max x → 128 ≤ z → z ≤ 191 → utf8_error_len (x ∷ y ∷ z ∷ []) ≡ None
unfolding utf8_error_len
three_come x y z l h f g j k = grind (arith, nat_tests)

-- the second byte of a character of three
second_of_three : (c : ℕ) → 2048 ≤ c → c < 65536 → (c < 55296) ⊎ ((57344 ≤ c) × (c < 1114112)) → (second_byte_min (224 + c / 4096) ≤ next (c / 64)) × (next (c / 64) ≤ second_byte_max (224 + c / 4096))
second_of_three c l h s = elim s as (λ _. (second_byte_min (224 + c / 4096) ≤ next (c / 64)) × (next (c / 64) ≤ second_byte_max (224 + c / 4096))) [
  | inl a ↦ (grind (arith, nat_tests), grind (arith, nat_tests))
  | inr a ↦ (grind (arith, nat_tests), grind (arith, nat_tests))
]

-- and of four
second_of_four : (c : ℕ) → 65536 ≤ c → c < 1114112 → (second_byte_min (240 + c / 262144) ≤ next (c / 4096)) × (next (c / 4096) ≤ second_byte_max (240 + c / 262144))
second_of_four c l h = (grind (arith, nat_tests), grind (arith, nat_tests))

two_partly : (c n : ℕ) → 128 ≤ c → c < 2048 → 0 < n → n < 2 → utf8_error_len (take n ((192 + c / 64) ∷ next c ∷ [])) ≡ None
two_partly c n l h some less =
    let one : n ≡ 1 = omega arith in
    subst (λ m. utf8_error_len (take m ((192 + c / 64) ∷ next c ∷ [])) ≡ None) (sym one) (one_come (192 + c / 64) (omega arith) (omega arith))

three_partly : (c n : ℕ) → 2048 ≤ c → c < 65536 → (c < 55296) ⊎ ((57344 ≤ c) × (c < 1114112)) → 0 < n → n < 3 → utf8_error_len (take n ((224 + c / 4096) ∷ next (c / 64) ∷ next c ∷ [])) ≡ None
three_partly c n l h range some less =
    let P : ℕ → Type 0 = λ m. utf8_error_len (take m ((224 + c / 4096) ∷ next (c / 64) ∷ next c ∷ [])) ≡ None in
    let second = second_of_three c l h range in
    elim (cases_lt n 2) as (λ _. P n) [
      | inl a ↦ let is : n ≡ 1 = omega arith in subst P (sym is) (one_come (224 + c / 4096) (omega arith) (omega arith))
      | inr a ↦ let is : n ≡ 2 = omega arith in subst P (sym is) (two_come (224 + c / 4096) (next (c / 64)) (omega arith) (omega arith) second.0 second.1)
    ]

four_partly : (c n : ℕ) → 65536 ≤ c → c < 1114112 → 0 < n → n < 4 → utf8_error_len (take n ((240 + c / 262144) ∷ next (c / 4096) ∷ next (c / 64) ∷ next c ∷ [])) ≡ None
four_partly c n l h some less =
    let P : ℕ → Type 0 = λ m. utf8_error_len (take m ((240 + c / 262144) ∷ next (c / 4096) ∷ next (c / 64) ∷ next c ∷ [])) ≡ None in
    let second = second_of_four c l h in
    elim (cases_lt n 2) as (λ _. P n) [
      | inl a ↦ let is : n ≡ 1 = omega arith in subst P (sym is) (one_come (240 + c / 262144) (omega arith) (omega arith))
      | inr a ↦ elim (cases_lt n 3) as (λ _. P n) [
        | inl b ↦ let is : n ≡ 2 = omega arith in subst P (sym is) (two_come (240 + c / 262144) (next (c / 4096)) (omega arith) (omega arith) second.0 second.1)
        | inr b ↦ let is : n ≡ 3 = omega arith in subst P (sym is) (three_come (240 + c / 262144) (next (c / 4096)) (next (c / 64)) (omega arith) (omega arith) second.0 second.1 (omega arith) (omega arith))
      ]
    ]

below : (c : ℕ) → (c < 55296) ⊎ ((57344 ≤ c) × (c < 1114112)) → c < 1114112
below c (inl h) = omega arith
below c (inr h) = h.1

-- some bytes at the front of a character are no error
partly : (c n : ℕ) → scalar c ≡ true → 0 < n → n < length (encode c) → utf8_error_len (take n (encode c)) ≡ None
partly c n ok some less =
    let range = scalar_cases c ok in
    let P : List ℕ → Type 0 = λ p. n < length p → utf8_error_len (take n p) ≡ None in
    let shown : P (encode c) = elim (cases_lt c 128) as (λ _. P (encode c)) [
      | inl a ↦ subst P (sym (encode_ascii c a)) (λ short. absurd (omega arith))
      | inr a ↦ elim (cases_lt c 2048) as (λ _. P (encode c)) [
        | inl b ↦ subst P (sym (two c a b)) (λ short. two_partly c n a b some short)
        | inr b ↦ elim (cases_lt c 65536) as (λ _. P (encode c)) [
          | inl d ↦ subst P (sym (three c b d)) (λ short. three_partly c n b d range some short)
          | inr d ↦ subst P (sym (four c d)) (λ short. four_partly c n d (below c range) some short)
        ]
      ]
    ] in
    shown less

-- ---- what comes after the longest front that is text

-- a text's characters, the first and the others
first_char : (cs l : List ℕ) → scalars cs ≡ true → encodes cs ≡ l → 0 < length l → (c : ℕ) × (r : List ℕ) × (scalar c ≡ true) × (l ≡ encode c ++ r)
first_char [] l ok e some = absurd (omega (arith, some, ap length e))
first_char (c ∷ cs) l ok e some = (c, encodes cs, (and_parts (scalar c) (scalars cs) ok).0, sym e)

-- of two fronts of the same bytes the shorter begins the other
first_bytes : (a b x y : List ℕ) → x ++ y ≡ a ++ b → length a ≤ length x → a ≡ take (length a) x
first_bytes a b x y is fits = sym (take-append_seam a b) ∙ ap (take (length a)) (sym is) ∙ take-append-le (length a) x y fits

-- a text's rest after a text is one
pub rest_of : (front rest : List ℕ) → IsUtf8 front → IsUtf8 (front ++ rest) → IsUtf8 rest
rest_of front rest u whole =
    let seam : take (length front) (front ++ rest) ≡ front = take-append_seam front rest in
    let place = IsCharBoundary-from_take (front ++ rest) (length front) whole (omega (arith, length-append front rest)) (subst IsUtf8 (sym seam) u) in
    let left : drop (length front) (front ++ rest) ≡ rest = drop-append-le (length front) front rest (omega arith) ∙ ap (λ l. l ++ rest) (nothing front) in
    subst IsUtf8 left (IsUtf8-drop (front ++ rest) (length front) whole place)
  where
    nothing : (l : List ℕ) → drop (length l) l ≡ []
    nothing [] = refl
    nothing (x ∷ l) = nothing l

-- where the rest has an error, no text begins so
pub never : (front rest more : List ℕ) (k : ℕ) → IsUtf8 front → 0 < length rest → ((n : ℕ) → 0 < n → n ≤ length rest → ¬ (IsUtf8 (front ++ take n rest))) → utf8_error_len rest ≡ Some k → ¬ (IsUtf8 ((front ++ rest) ++ more))
never front rest more k u some longest fault whole =
    let left : IsUtf8 (rest ++ more) = rest_of front (rest ++ more) u (subst IsUtf8 (append_assoc front rest more) whole) in
    let head = first_char left.0 (rest ++ more) left.1.0 left.1.1 (omega (arith, length-append rest more)) in
    let c = head.0 in
    elim (cases_lt (length rest) (length (encode c))) as (λ _. ⊥) [
      | inl short ↦
          let is : rest ≡ take (length rest) (encode c) = first_bytes rest more (encode c) head.1 (sym head.3) (omega arith) in
          let none : utf8_error_len rest ≡ None = ap utf8_error_len is ∙ partly c (length rest) head.2 some short in
          absurd (cc)
      | inr enough ↦
          let is : encode c ≡ take (length (encode c)) rest = first_bytes (encode c) head.1 rest more head.3 enough in
          longest (length (encode c)) (omega (arith, length-encode c, (len_utf8_bounds c).0)) enough (subst IsUtf8 (ap (λ l. front ++ l) is) (IsUtf8-append front (encode c) u (IsUtf8-encode c head.2)))
    ]

-- ---- where bytes stop being text

-- bytes behind the text that are no error are three at most
pub short_rest : (bytes text : List ℕ) (n : ℕ) (fault : Option ℕ) → text ≡ take n bytes → IsValidUpTo bytes n → IsErrorLen bytes n fault → is_some fault ≡ false → length bytes ≤ length text + 3
short_rest bytes text n None is v h none = omega (arith, ap length is, length-take-le n bytes (omega (arith, v.short)))
short_rest bytes text n (Some k) is v h none = absurd (cc)

-- bytes that are valid up to there have this text as their longest front
pub text_front : (bytes text : List ℕ) (n : ℕ) → text ≡ take n bytes → IsValidUpTo bytes n → IsTextFront bytes text
text_front bytes text n is v =
    let size : length text ≡ n = ap length is ∙ length-take-le n bytes (omega (arith, v.short)) in
    record {
      rest = drop n bytes;
      joins = sym (take-append-drop n bytes) ∙ ap (λ (t : List ℕ). t ++ drop n bytes) (sym is);
      utf8 = subst IsUtf8 (sym is) v.front;
      longest = λ m more within. v.longest m (omega arith);
    }

-- where an error follows, no text begins with the bytes
pub wrong_rest : (bytes more : List ℕ) (n : ℕ) (fault : Option ℕ) → IsValidUpTo bytes n → fault ≡ utf8_error_len (drop n bytes) → is_some fault ≡ true → ¬ (IsUtf8 (bytes ++ more))
wrong_rest bytes more n None v told is = absurd (cc)
wrong_rest bytes more n (Some k) v told is =
    let whole : take n bytes ++ drop n bytes ≡ bytes = take-append-drop n bytes in
    λ utf8. never (take n bytes) (drop n bytes) more k v.front (omega (arith, length-drop n bytes, v.short))
    (λ m some within u. v.longest (n + m) (omega arith) (subst IsUtf8 (sym (take-add n m bytes)) u)) (sym told) (subst (λ l. IsUtf8 (l ++ more)) (sym whole) utf8)
