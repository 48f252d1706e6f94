-- What the kind of a character says of it.
use Rattle.std.proofs.Common.{sym, ◌≡◌, ℕ, ◌+◌, ◌-◌, ◌*◌, ◌%◌, ◌<◌, ◌≤◌, ◌==◌, ◌||◌, Bool, true, false, cond, refl, ap, subst, ◌∙◌, arith}
use Rattle.std.specs.Int.{is_in_range}
use Rattle.std.proofs.lemmas.Bool.Decides.{nat_tests}
use Rattle.unicode_width.specs.Width.{char_width}
use Rattle.unicode_width.proofs.Computing.{unicode_width}
use Rattle.mad_steady.specs.declared.kinds.Kind.{Kind}
use Rattle.mad_steady.specs.declared.kinds.Kind.TheVariants.{Dropped, Selector, Sign, Indicator, Lead, OpenSyllable, Vowel, Tail, Jamo, Opening, Widthless, Narrow, Wide}
use Rattle.mad_characters.specs.Columns.{char_columns}
use Rattle.mad_steady.specs.Kinds.{kind, other_kind, columns_kind, syllable_kind, jamo_kind, is_dropped, is_selector, is_syllable, is_jamo, is_opening, is_mark, ascii_kind}
use Rattle.mad_steady.specs.Steady.{with_vowel, with_tail, letter}

-- what is known of a character of each kind
abbrev pub Known : ℕ → Kind → Type 0
Known c Indicator = is_in_range 0x1F1E6 0x1F1FF c ≡ true
Known c Lead = is_in_range 0x1100 0x1112 c ≡ true
Known c OpenSyllable = (is_syllable c ≡ true) × (((c - 0xAC00) % 28 == 0) ≡ true)
Known c Vowel = is_in_range 0x1161 0x1175 c ≡ true
Known c Tail = is_in_range 0x11A8 0x11C2 c ≡ true
Known c _ = Unit {0}

by_test : (c : ℕ) (b : Bool) (k l : Kind) → (b ≡ true → Known c k) → (b ≡ false → Known c l) → Known c (cond b k l)
by_test c true k l f g = f refl
by_test c false k l f g = g refl

known_syllable : (c : ℕ) → is_syllable c ≡ true → Known c (syllable_kind c)
known_syllable c h = by_test c ((c - 0xAC00) % 28 == 0) OpenSyllable Wide (λ t. (h, t)) (λ t. tt)

known_jamo : (c : ℕ) → Known c (jamo_kind c)
known_jamo c =
    by_test c (is_in_range 0x1161 0x1175 c) Vowel (cond (is_in_range 0x11A8 0x11C2 c) Tail Jamo) (λ h. h) (λ _. by_test c (is_in_range 0x11A8 0x11C2 c) Tail Jamo (λ h. h) (λ _. tt))

known_columns : (c n : ℕ) → Known c (columns_kind n)
known_columns c n = by_test c (n == 0) Widthless (cond (n == 2) Wide Narrow) (λ _. tt) (λ _. by_test c (n == 2) Wide Narrow (λ _. tt) (λ _. tt))

known_other : (c : ℕ) → Known c (other_kind c)
unfolding other_kind
known_other c = by_test c (is_opening c) Opening (columns_kind (char_columns c)) (λ _. tt) (λ _. known_columns c (char_columns c))

-- each character has what is known of its kind
pub known : (c : ℕ) → Known c (kind c)
unfolding kind
known c =
    by_test c (is_dropped c) Dropped _ (λ _. tt)
    (λ _. by_test c (is_selector c) Selector _ (λ _. tt)
    (λ _. by_test c (c == 0x17D8) Sign _ (λ _. tt)
    (λ _. by_test c (is_in_range 0x1F1E6 0x1F1FF c) Indicator _ (λ h. h)
    (λ _. by_test c (is_in_range 0x1100 0x1112 c) Lead _ (λ h. h)
    (λ _. by_test c (is_syllable c) (syllable_kind c) _ (known_syllable c)
    (λ _. by_test c (is_jamo c) (jamo_kind c) (other_kind c) (λ _. known_jamo c) (λ _. known_other c)))))))

-- a character has what is known of the kind that it is of
pub known_as : (c : ℕ) (k : Kind) → kind c ≡ k → Known c k
known_as c k e = subst (Known c) e (known c)

-- ---- the kinds of what is written

replacement_columns : char_columns 0xFFFD ≡ 1
unfolding char_columns unicode_width
replacement_columns = refl

khan_columns : char_columns 0x17D4 ≡ 1
unfolding char_columns unicode_width
khan_columns = refl

lo_columns : char_columns 0x179B ≡ 1
unfolding char_columns unicode_width
lo_columns = refl

-- the replacement character is narrow
pub replacement_kind : kind 0xFFFD ≡ Narrow
unfolding kind other_kind
replacement_kind = ap columns_kind replacement_columns

-- so is U+17D4
pub khan_kind : kind 0x17D4 ≡ Narrow
unfolding kind other_kind
khan_kind = ap columns_kind khan_columns

-- so is U+179B
pub lo_kind : kind 0x179B ≡ Narrow
unfolding kind other_kind
lo_kind = ap columns_kind lo_columns

letter_columns : (c : ℕ) → 65 ≤ c → c ≤ 90 → char_columns c ≡ 1
unfolding char_columns char_width
letter_columns c low high = grind (arith, nat_tests)

letter_other : (c : ℕ) → 65 ≤ c → c ≤ 90 → kind c ≡ columns_kind (char_columns c)
unfolding kind other_kind
letter_other c low high = grind (arith, nat_tests)

-- so is the letter of a regional indicator
pub letter_kind : (c : ℕ) → is_in_range 0x1F1E6 0x1F1FF c ≡ true → kind (letter c) ≡ Narrow
letter_kind c h =
    let low : 0x1F1E6 ≤ c = grind (arith, nat_tests) in
    let high : c ≤ 0x1F1FF = grind (arith, nat_tests) in
    ap (λ t. kind (cond t (c - 0x1F1A5) 0xFFFD)) h
    ∙ letter_other (c - 0x1F1A5) (omega arith) (omega arith) ∙ ap columns_kind (letter_columns (c - 0x1F1A5) (omega arith) (omega arith))

of_syllable : (n : ℕ) → 0xAC00 ≤ n → n ≤ 0xD7A3 → kind n ≡ syllable_kind n
unfolding kind
of_syllable n low high = grind (arith, nat_tests)

open_kind : (k : ℕ) → k < 399 → kind (0xAC00 + k * 28) ≡ OpenSyllable
open_kind k h =
    let test : (((0xAC00 + k * 28) - 0xAC00) % 28 == 0) ≡ true = grind (arith, nat_tests) in
    of_syllable (0xAC00 + k * 28) (omega arith) (omega arith) ∙ ap (λ t. cond t OpenSyllable Wide) test

-- a leading jamo and a vowel make an open syllable
pub vowel_kind : (lead vowel : ℕ) → is_in_range 0x1100 0x1112 lead ≡ true → is_in_range 0x1161 0x1175 vowel ≡ true → kind (with_vowel lead vowel) ≡ OpenSyllable
vowel_kind lead vowel h v =
    let l : lead - 0x1100 ≤ 18 = grind (arith, nat_tests) in
    let w : vowel - 0x1161 ≤ 20 = grind (arith, nat_tests) in
    let k : ℕ = (lead - 0x1100) * 21 + (vowel - 0x1161) in
    let few : k < 399 = omega arith in
    let inside : is_syllable (0xAC00 + k * 28) ≡ true = grind (arith, nat_tests, few) in
    ap (λ t. kind (cond t (0xAC00 + k * 28) 0xFFFD)) inside ∙ open_kind k few

-- an open syllable and a trailing jamo make a wide one
pub tail_kind : (s tail : ℕ) → is_syllable s ≡ true → ((s - 0xAC00) % 28 == 0) ≡ true → is_in_range 0x11A8 0x11C2 tail ≡ true → kind (with_tail s tail) ≡ Wide
tail_kind s tail h m v =
    let r : (s - 0xAC00) % 28 ≡ 0 = grind (arith, nat_tests) in
    let low : 0xAC00 ≤ s = grind (arith, nat_tests) in
    let high : s ≤ 0xD7A3 = grind (arith, nat_tests) in
    let some : 1 ≤ tail - 0x11A7 = grind (arith, nat_tests) in
    let few : tail - 0x11A7 ≤ 27 = grind (arith, nat_tests) in
    let n : ℕ = s + (tail - 0x11A7) in
    let end : n ≤ 0xD7A3 = omega arith in
    let begin : 0xAC00 ≤ n = omega arith in
    let left : ((n - 0xAC00) % 28) ≡ tail - 0x11A7 = omega arith in
    let test : ((n - 0xAC00) % 28 == 0) ≡ false = grind (arith, nat_tests) in
    let inside : is_syllable n ≡ true = grind (arith, nat_tests) in
    ap (λ t. kind (cond t n 0xFFFD)) inside ∙ of_syllable n begin end ∙ ap (λ t. cond t OpenSyllable Wide) test

-- ---- printed ASCII

ascii_columns : (c : ℕ) → 32 ≤ c → c < 127 → char_columns c ≡ 1
unfolding char_columns char_width
ascii_columns c low high = grind (arith, nat_tests)

ascii_other : (c : ℕ) → 32 ≤ c → c < 127 → kind c ≡ cond (is_opening c) Opening (columns_kind (char_columns c))
unfolding kind other_kind
ascii_other c low high = grind (arith, nat_tests)

ascii_opening : (c : ℕ) → 32 ≤ c → c < 127 → is_opening c ≡ (is_mark c || (c == 32))
ascii_opening c low high = grind (arith, nat_tests)

-- the rule of printed ASCII characters gives each its kind
pub ascii_is : (c : ℕ) → 32 ≤ c → c < 127 → ascii_kind c ≡ kind c
ascii_is c low high =
    sym (ascii_other c low high ∙ ap (λ n. cond (is_opening c) Opening (columns_kind n)) (ascii_columns c low high) ∙ ap (λ t. cond t Opening Narrow) (ascii_opening c low high))
