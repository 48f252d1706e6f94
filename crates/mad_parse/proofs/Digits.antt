-- Decimal digits as characters.
use Rattle.std.proofs.Common.{◌≡◌, ℕ, zero, suc, ◌<◌, ◌==◌, ◌^◌, ◌||◌, Bool, true, false, List, [], ◌∷◌, refl, sym, ap, ◌∙◌, arith, lit<, lt-ltb, ltb-true, true≢false, not, inl, inr}
use Rattle.std.specs.Prelude.{nat_lt, decimal}
use Rattle.std.specs.Int.{IsInRange}
use Rattle.std.specs.Char.{is_whitespace, to_ascii_lowercase}
use Rattle.std.specs.List.{list_all}
use Rattle.std.specs.Str.{IsAscii}
use Rattle.std.specs.Str.Parse.{AllDigits}
use Rattle.std.proofs.lemmas.Bool.{and_from, and_parts, cases_Bool}
use Rattle.std.proofs.lemmas.Bool.Decides.{nat_tests}
use Rattle.std.proofs.lemmas.Fmt.{decimal_is_IsNumeral}
use Rattle.std.proofs.lemmas.Str.Parse.{digit_from_value}
use Rattle.mad_parse.specs.Cuts.{is_word_char, is_inside_char}

-- an ASCII character
abbrev pub is_low : ℕ → Bool
is_low b = nat_lt b 128

digit_word : (d : ℕ) → IsInRange 48 57 d → is_word_char d ≡ true
digit_word d h = grind (arith, nat_tests)

digit_inside : (d : ℕ) → IsInRange 48 57 d → is_inside_char d ≡ true
digit_inside d h = grind (arith, nat_tests)

all_digits : (p : ℕ → Bool) → ((d : ℕ) → IsInRange 48 57 d → p d ≡ true) → (ds : List ℕ) → AllDigits 10 ds → list_all p ds ≡ true
all_digits p h [] all = refl
all_digits p h (d ∷ ds) all = and_from (p d) (list_all p ds) (h d (digit_from_value d all.0)) (all_digits p h ds all.1)

-- a decimal number has characters of a word alone, which may also be in its bracket, and is ASCII
pub decimal_word : (n : ℕ) → n < 2 ^ 64 → list_all is_word_char (decimal n) ≡ true
decimal_word n h = all_digits is_word_char digit_word (decimal n) (decimal_is_IsNumeral n h).0.1

-- the digits of a number may stand between brackets
pub decimal_inside : (n : ℕ) → n < 2 ^ 64 → list_all is_inside_char (decimal n) ≡ true
decimal_inside n h = all_digits is_inside_char digit_inside (decimal n) (decimal_is_IsNumeral n h).0.1

-- and are ASCII
pub decimal_low : (n : ℕ) → n < 2 ^ 64 → list_all is_low (decimal n) ≡ true
decimal_low n h = all_digits is_low (λ d r. lt-ltb d 128 (omega (arith, r))) (decimal n) (decimal_is_IsNumeral n h).0.1

-- ASCII characters as a fact
pub low_ascii : (bs : List ℕ) → list_all is_low bs ≡ true → IsAscii bs
low_ascii [] low i = lit< tt
low_ascii (b ∷ bs) low zero = ltb-true b 128 (and_parts _ _ low).0
low_ascii (b ∷ bs) low (suc i) = low_ascii bs (and_parts _ _ low).1 i

-- a character of a word is no whitespace
pub word_char_black : (c : ℕ) → is_word_char c ≡ true → is_whitespace c ≡ false
word_char_black c word =
    elim (cases_Bool (is_whitespace c)) as (λ _. is_whitespace c ≡ false) [
      | inl white ↦ absurd (true≢false (sym word ∙ ap (λ w. not (w || c == 40 || c == 41)) white))
      | inr black ↦ black
    ]

-- a digit is in no other case
pub digit_lower : (d : ℕ) → IsInRange 48 57 d → to_ascii_lowercase d ≡ d
digit_lower d h = grind (arith, nat_tests)
