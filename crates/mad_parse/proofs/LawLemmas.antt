-- A color of three numbers or of the palette, and a number: the text that each is written as is read as what it was.
use Rattle.std.proofs.Common.{◌≡◌, ℕ, ◌<◌, ◌+◌, ◌^◌, ◌==◌, Bool, true, false, List, [], ◌∷◌, ◌++◌, length, drop, refl, sym, ap, ◌∙◌, arith, subst, ne_eqb, lt-ltb, le-leb, append_assoc, append-nil, Some}
use Rattle.std.specs.Prelude.{codes, decimal, Ok}
use Rattle.std.specs.List.{prefix_len, list_all}
use Rattle.std.specs.Str.{all_ascii_digits, trim_start, skip_leading_whitespace, encode_utf8_all}
use Rattle.std.specs.Str.Parse.{digits_value, AllDigits, IsNumeral, without_leading_plus}
use Rattle.std.specs.Char.{is_ascii_digit, is_whitespace, digit_value}
use Rattle.std.proofs.lemmas.Bool.{cond-false, cond-true, and_from, and_parts}
use Rattle.std.proofs.lemmas.Str.Parse.{digit_from_value}
use Rattle.std.proofs.Math.Seq.{drop-append_seam}
use Rattle.std.proofs.lemmas.Fmt.{decimal_is_IsNumeral}
use Rattle.mad_term.specs.declared.color.Color.TheVariants as color
use Rattle.mad_parse.specs.Colors.{color_of, color_text, without_last, cut_at, front_with, call_front, ansi_color, rgb_color, rgb_first, rgb_last, rgb_parts}
use Rattle.mad_parse.specs.Numbers.{number_below, signed_number_below}
use Rattle.mad_parse.specs.Cuts.{is_word_char, is_inside_char, token_len, word_len, bracket_len, closed_len}
use Rattle.std.proofs.lemmas.List.Folds.{list_all-append}
use Rattle.std.proofs.lemmas.Str.{chars-IsAscii, encodes-IsAscii}
use Rattle.mad_parse.proofs.ColorLemmas.{without_put}
use Rattle.mad_parse.proofs.CutLemmas.{begins_white}
use Rattle.mad_parse.proofs.Digits.{is_low, low_ascii, word_char_black, decimal_low, decimal_word}

-- decimal digits are ASCII digits
one_digit : (d : ℕ) → digit_value d < 10 → is_ascii_digit d ≡ true
one_digit d h = let r = digit_from_value d h in and_from _ _ (le-leb 48 d r.0) (le-leb d 57 r.1)

digits_ascii : (ds : List ℕ) → AllDigits 10 ds → all_ascii_digits ds ≡ true
digits_ascii [] h = refl
digits_ascii (d ∷ ds) h = and_from _ _ (one_digit d h.0) (digits_ascii ds h.1)

-- a number's digits are read as it
pub decimal_reads : (limit n : ℕ) → n < limit → n < 2 ^ 64 → number_below limit (decimal n) ≡ Some n
decimal_reads limit n below small =
    let k = decimal_is_IsNumeral n small in
    let value : digits_value 10 (decimal n) ≡ n = k.1 in
    cond-true _ _ _ (and_from _ _ (and_from _ _ (lt-ltb 0 _ k.0.0) (digits_ascii (decimal n) k.0.1)) (lt-ltb _ limit (subst (λ v. v < limit) (sym value) below))) ∙ ap Some value

-- ansi(n)
pub ansi_reads : (n : ℕ) → n < 256 → color_of (color_text (color.AnsiValue n)) ≡ Ok (color.AnsiValue n)
ansi_reads n below =
    let closed : without_last 41 (codes "ansi(" ++ (decimal n ++ 41 ∷ [])) ≡ Some (codes "ansi(" ++ decimal n) = without_put 41 (codes "ansi(" ++ decimal n) in
    ap call_front closed ∙ ap ansi_color (decimal_reads 256 n below (omega arith))

-- rgb(r, g, b): digits hold no comma, and begin with no whitespace
digits_cut : (ds ys : List ℕ) → AllDigits 10 ds → cut_at 44 (ds ++ 44 ∷ ys) ≡ Some (ds, ys)
digits_cut [] ys all = refl
digits_cut (d ∷ ds) ys all =
    let r = digit_from_value d all.0 in
    cond-false (d == 44) _ _ (ne_eqb d 44 (λ e. absurd (omega (arith, r.0, e)))) ∙ ap (λ o. front_with d o) (digits_cut ds ys all.1)

begins_black : (ds ys : List ℕ) → 0 < length ds → list_all is_word_char ds ≡ true → begins_white (ds ++ ys) ≡ false
begins_black [] ys some all = absurd (omega arith)
begins_black (d ∷ ds) ys some all = word_char_black d (and_parts _ _ all).0

skip_black : (cs : List ℕ) → begins_white cs ≡ false → skip_leading_whitespace cs ≡ cs
skip_black [] black = refl
skip_black (c ∷ cs) black = cond-false (is_whitespace c) _ _ black

-- a text after a space, where it doesn't begin with another
space_trimmed : (bs : List ℕ) → list_all is_low bs ≡ true → begins_white bs ≡ false → trim_start (32 ∷ bs) ≡ bs
unfolding trim_start
space_trimmed bs low black =
    ap (λ cs. encode_utf8_all (skip_leading_whitespace cs)) (chars-IsAscii (32 ∷ bs) (low_ascii (32 ∷ bs) low)) ∙ ap encode_utf8_all (skip_black bs black) ∙ encodes-IsAscii bs (low_ascii bs low)

rgb_numbers : (r g b : ℕ) → r < 256 → g < 256 → b < 256 → rgb_parts (decimal r ++ 44 ∷ (32 ∷ (decimal g ++ 44 ∷ (32 ∷ decimal b)))) ≡ Ok (color.Rgb r g b)
rgb_numbers r g b small_r small_g small_b =
    let big : (n : ℕ) → n < 256 → n < 2 ^ 64 = λ n h. omega (arith, h) in
    let digits : (n : ℕ) → n < 256 → IsNumeral 10 (decimal n) = λ n h. (decimal_is_IsNumeral n (big n h)).0 in
    let tail = decimal g ++ 44 ∷ (32 ∷ decimal b) in
    let low_b : list_all is_low (decimal b) ≡ true = decimal_low b (big b small_b) in
    let low_tail : list_all is_low tail ≡ true = list_all-append is_low (decimal g) (44 ∷ (32 ∷ decimal b)) ∙ and_from _ _ (decimal_low g (big g small_g)) low_b in
    let trim_tail : trim_start (32 ∷ tail) ≡ tail = space_trimmed tail low_tail (begins_black (decimal g) _ (digits g small_g).0 (decimal_word g (big g small_g))) in
    let trim_last : trim_start (32 ∷ decimal b) ≡ decimal b =
    space_trimmed (decimal b) low_b (ap begins_white (sym (append-nil (decimal b))) ∙ begins_black (decimal b) [] (digits b small_b).0 (decimal_word b (big b small_b))) in
    let numbers : rgb_color (number_below 256 (decimal r)) (number_below 256 (decimal g)) (number_below 256 (decimal b)) ≡ Ok (color.Rgb r g b) =
    ap (λ o. rgb_color o (number_below 256 (decimal g)) (number_below 256 (decimal b))) (decimal_reads 256 r small_r (big r small_r))
    ∙ ap (λ o. rgb_color (Some r) o (number_below 256 (decimal b))) (decimal_reads 256 g small_g (big g small_g))
    ∙ ap (λ o. rgb_color (Some r) (Some g) o) (decimal_reads 256 b small_b (big b small_b)) in
    ap rgb_first (digits_cut (decimal r) (32 ∷ tail) (digits r small_r).1)
    ∙ ap (λ t. rgb_last (decimal r) (cut_at 44 t)) trim_tail
    ∙ ap (rgb_last (decimal r)) (digits_cut (decimal g) (32 ∷ decimal b) (digits g small_g).1)
    ∙ ap (λ t. rgb_color (number_below 256 (decimal r)) (number_below 256 (decimal g)) (number_below 256 t)) trim_last
    ∙ numbers

-- what is between the brackets
abbrev pub rgb_inside : ℕ → ℕ → ℕ → List ℕ
rgb_inside r g b = decimal r ++ 44 ∷ (32 ∷ (decimal g ++ 44 ∷ (32 ∷ decimal b)))

inside_parts : (r g b : ℕ) → ((decimal r ++ codes ", ") ++ decimal g ++ codes ", ") ++ decimal b ≡ rgb_inside r g b
inside_parts r g b =
    append_assoc ((decimal r ++ codes ", ") ++ decimal g) (codes ", ") (decimal b)
    ∙ append_assoc (decimal r ++ codes ", ") (decimal g) (codes ", " ++ decimal b)
    ∙ append_assoc (decimal r) (codes ", ") (decimal g ++ (codes ", " ++ decimal b))

-- the text of a color of three numbers
pub rgb_text : (r g b : ℕ) → color_text (color.Rgb r g b) ≡ codes "rgb(" ++ (rgb_inside r g b ++ 41 ∷ [])
rgb_text r g b = ap (λ t. codes "rgb(" ++ (t ++ 41 ∷ [])) (inside_parts r g b)

-- that text is read as the color
pub rgb_reads : (r g b : ℕ) → r < 256 → g < 256 → b < 256 → color_of (color_text (color.Rgb r g b)) ≡ Ok (color.Rgb r g b)
rgb_reads r g b small_r small_g small_b =
    ap color_of (rgb_text r g b) ∙ ap call_front (without_put 41 (codes "rgb(" ++ rgb_inside r g b)) ∙ rgb_numbers r g b small_r small_g small_b

-- all of it passes where digits, a comma and a space do
pub rgb_all : (p : ℕ → Bool) → ((n : ℕ) → n < 256 → list_all p (decimal n) ≡ true) → p 44 ≡ true → p 32 ≡ true → (r g b : ℕ) → r < 256 → g < 256 → b < 256 → list_all p (rgb_inside r g b) ≡ true
rgb_all p digits comma space r g b small_r small_g small_b =
    let tail = decimal g ++ 44 ∷ (32 ∷ decimal b) in
    list_all-append p (decimal r) (44 ∷ (32 ∷ tail))
    ∙ and_from _ _ (digits r small_r)
    (and_from _ _ comma (and_from _ _ space (list_all-append p (decimal g) (44 ∷ (32 ∷ decimal b)) ∙ and_from _ _ (digits g small_g) (and_from _ _ comma (and_from _ _ space (digits b small_b))))))

-- characters that are all of a kind end at the first one that is none
pub prefix_front : (p : ℕ → Bool) (xs ys : List ℕ) → list_all p xs ≡ true → prefix_len p ys ≡ 0 → prefix_len p (xs ++ ys) ≡ length xs
prefix_front p [] ys all stop = stop
prefix_front p (x ∷ xs) ys all stop =
    let parts = and_parts (p x) (list_all p xs) all in
    cond-true (p x) _ _ parts.0 ∙ ap (λ n. 1 + n) (prefix_front p xs ys parts.1 stop) ∙ omega arith

not_zero : (n : ℕ) → 0 < n → (n == 0) ≡ false
not_zero n h = ne_eqb n 0 (λ z. absurd (omega (arith, h, z)))

-- a word, and the bracket after it if there is one, is a token
pub word_alone : (xs ys : List ℕ) → 0 < length xs → list_all is_word_char xs ≡ true → prefix_len is_word_char ys ≡ 0 → token_len (xs ++ ys) ≡ length xs + bracket_len ys
word_alone xs ys some all stop =
    ap (λ n. word_len n (xs ++ ys)) (prefix_front is_word_char xs ys all stop)
    ∙ cond-false (length xs == 0) 1 (length xs + bracket_len (drop (length xs) (xs ++ ys))) (not_zero (length xs) some)
    ∙ ap (λ r. length xs + bracket_len r) (drop-append_seam xs ys)

-- a word with its bracket is a token
pub call_cut : (xs inside rest : List ℕ) → 0 < length xs → list_all is_word_char xs ≡ true → 0 < length inside → list_all is_inside_char inside ≡ true
    → token_len (xs ++ 40 ∷ (inside ++ 41 ∷ rest)) ≡ length xs + (length inside + 2)
call_cut xs inside rest some all more within =
    let n : prefix_len is_inside_char (inside ++ 41 ∷ rest) ≡ length inside = prefix_front is_inside_char inside (41 ∷ rest) within refl in
    let beyond : drop (length inside) (inside ++ 41 ∷ rest) ≡ 41 ∷ rest = drop-append_seam inside (41 ∷ rest) in
    let closes : closed_len (length inside) (41 ∷ rest) ≡ length inside + 2 = cond-true _ _ _ (and_from _ _ (lt-ltb 0 (length inside) more) refl) in
    let bracket : bracket_len (40 ∷ (inside ++ 41 ∷ rest)) ≡ length inside + 2 =
    ap (λ k. closed_len k (drop k (inside ++ 41 ∷ rest))) n ∙ ap (closed_len (length inside)) beyond ∙ closes in
    word_alone xs (40 ∷ (inside ++ 41 ∷ rest)) some all refl ∙ ap (λ k. length xs + k) bracket

-- digits begin with no plus
no_plus : (ds : List ℕ) → AllDigits 10 ds → without_leading_plus ds ≡ ds
no_plus [] h = refl
no_plus (d ∷ ds) h =
    let r = digit_from_value d h.0 in
    ap (λ k. drop k (d ∷ ds)) (cond-false (d == 43) 1 0 (ne_eqb d 43 (λ e. absurd (omega (arith, r.0, e)))))

-- a number as a token
pub margin_reads : (n : ℕ) → n < 65536 → signed_number_below 65536 (decimal n) ≡ Some n
margin_reads n below =
    let plain : without_leading_plus (decimal n) ≡ decimal n = no_plus (decimal n) (decimal_is_IsNumeral n (omega arith)).0.1 in
    ap (number_below 65536) plain ∙ decimal_reads 65536 n below (omega arith)
