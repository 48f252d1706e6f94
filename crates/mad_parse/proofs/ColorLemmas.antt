-- What std's `parse`, `split_once` and `strip_suffix` say, in the words of the definitions.
use Rattle.std.proofs.Common.{◌≡◌, ◌≢◌, ℕ, suc, ◌<◌, ◌^◌, ◌==◌, ◌&&◌, true, false, List, [], ◌∷◌, ◌++◌, length, get_or, refl, sym, ap, ◌∙◌, arith, eq-eqb, ne_eqb, eqb-true, lt-ltb, ltb-true, Option, Some, None, inl, inr}
use Rattle.std.specs.Prelude.{Result, Ok, Err, nat_lt}
use denote.Bor.{Bor}
use Rattle.std.specs.Result.{OkIff, result_ok}
use Rattle.std.specs.Str.{all_ascii_digits}
use Rattle.std.specs.Str.Parse.{digits_value, without_leading_plus, IsNumeral, ParsesUnsigned}
use Rattle.std.proofs.lemmas.Bool.{cases_Bool, cond-false, cond-true, and_from, and_parts}
use Rattle.std.proofs.lemmas.Str.Parse.{numerals_by_value, tells_all_ascii_digits, IsNumeralModel}
use Rattle.std.proofs.lemmas.Str.Pattern.{IsSplitOnceResult, split_parts}
use Rattle.std.specs.Str.{trim_start, chars, IsUtf8}
use Rattle.std.specs.Char.{encode_utf8}
use Rattle.std.proofs.lemmas.Str.{chars_past_char}
use Rattle.std.proofs.StrCases.{chars_of_empty}
use Rattle.mad_parse.proofs.CutLemmas.{some_chars, nonzero}
use Rattle.std.specs.Prelude.{codes}
use Rattle.std.specs.Option.{ok_or}
use Rattle.mad_md.specs.declared.alignment.Alignment.{Alignment}
use Rattle.mad_term.specs.declared.attribute.Attribute.{Attribute}
use Rattle.mad_term.specs.declared.color.Color.{Color}
use Rattle.mad_parse.specs.Colors.{cut_at, front_with, without_last, text_with, rgb_parts, rgb_first, rgb_last, rgb_color, color_of, color_names, named_or_called, call_front, call_parts, called_color}
use Rattle.mad_parse.specs.Names.{is_named, named, align_names, attribute_names}
use Rattle.mad_parse.specs.StyleTokens.{token_of, unrecognized, as_number, as_color, as_attribute, as_align, as_char, only}
use Rattle.mad_parse.specs.declared.errors.ParseColorError.TheVariants as color_error
use Rattle.mad_parse.specs.declared.tokens.StyleToken.TheVariants as token
use Rattle.mad_parse.specs.Numbers.{number_below, signed_number_below}

-- digits alone, as a test and as a fact
digits_model : IsNumeralModel (λ ds. all_ascii_digits ds ≡ true) (digits_value 10)
digits_model = numerals_by_value _ tells_all_ascii_digits

-- a number that std reads is the definition's
pub number_read : {E : Type 0} (limit : ℕ) (ds : List ℕ) (r : Result ℕ E) → OkIff r (IsNumeral 10 ds × (digits_value 10 ds < limit)) (digits_value 10 ds) → result_ok r ≡ number_below limit ds
number_read limit ds (Ok x) h =
    ap Some h.1 ∙ sym (cond-true _ _ _ (and_from _ _ (and_from _ _ (lt-ltb 0 _ h.0.0.0) (digits_model.from ds h.0.0.1)) (lt-ltb _ limit h.0.1)))
number_read limit ds (Err e) h =
    elim (cases_Bool (nat_lt 0 (length ds) && all_ascii_digits ds && nat_lt (digits_value 10 ds) limit)) as (λ _. None ≡ number_below limit ds) [
      | inl yes_it_is ↦
          let p = and_parts _ _ yes_it_is in
          let q = and_parts _ _ p.0 in
          absurd (h ((ltb-true 0 _ q.0, digits_model.to ds q.1), ltb-true _ limit p.1))
      | inr isnt ↦ sym (cond-false _ _ _ isnt)
    ]

-- std's `parse` of an unsigned type of k bits
pub parse_read : {E : Type 0} (k : ℕ) (bs : List ℕ) (r : Result ℕ E) → ParsesUnsigned k 10 bs r → result_ok r ≡ signed_number_below (2 ^ k) bs
parse_read k bs r h = number_read (2 ^ k) (without_leading_plus bs) r h

-- a text cut at its first byte c
cut_seam : (c : ℕ) (xs ys : List ℕ) → ((i : ℕ) → i < length xs → get_or xs i 0 ≢ c) → cut_at c (xs ++ c ∷ ys) ≡ Some (xs, ys)
cut_seam c [] ys free = cond-true (c == c) _ _ (eq-eqb c c refl)
cut_seam c (x ∷ xs) ys free = cond-false (x == c) _ _ (ne_eqb x c (free 0 (omega arith))) ∙ ap (λ o. front_with x o) (cut_seam c xs ys (λ i l. free (suc i) (omega arith)))

cut_nowhere : (c : ℕ) (bs : List ℕ) → ((i : ℕ) → i < length bs → get_or bs i 0 ≢ c) → cut_at c bs ≡ None
cut_nowhere c [] free = refl
cut_nowhere c (b ∷ bs) free = cond-false (b == c) _ _ (ne_eqb b c (free 0 (omega arith))) ∙ ap (λ o. front_with b o) (cut_nowhere c bs (λ i l. free (suc i) (omega arith)))

-- a text that std doesn't split isn't cut
pub split_none : (c : ℕ) (bs : List ℕ) → IsSplitOnceResult c bs None → c < 128 → cut_at c bs ≡ None
split_none c bs h low = cut_nowhere c bs (split_parts c bs None h low)

-- one that it does split is cut there
pub split_some : (c : ℕ) (bs : List ℕ) (x : Bor (List ℕ) × Bor (List ℕ)) → IsSplitOnceResult c bs (Some x) → c < 128 → cut_at c bs ≡ Some (x.0.now, x.1.now)
split_some c bs x h low = let k = split_parts c bs (Some x) h low in ap (cut_at c) k.0 ∙ cut_seam c x.0.now x.1.now k.1

-- a text without its last byte c
pub without_none : (c : ℕ) (bs : List ℕ) → ((front : List ℕ) → bs ≢ front ++ (c ∷ [])) → without_last c bs ≡ None
without_none c [] h = refl
without_none c (b ∷ []) h = cond-false (b == c) _ _ (ne_eqb b c (λ e. h [] (ap (λ x. x ∷ []) e)))
without_none c (b ∷ d ∷ bs) h = ap (λ o. text_with b o) (without_none c (d ∷ bs) (λ front e. h (b ∷ front) (ap (λ l. b ∷ l) e)))

-- a text and a last character, without that character
pub without_put : (c : ℕ) (xs : List ℕ) → without_last c (xs ++ c ∷ []) ≡ Some xs
without_put c [] = cond-true (c == c) _ _ (eq-eqb c c refl)
without_put c (x ∷ []) = ap (λ o. text_with x o) (cond-true (c == c) (Some []) None (eq-eqb c c refl))
without_put c (x ∷ y ∷ xs) = ap (λ o. text_with x o) (without_put c (y ∷ xs))

-- the same of a text that ends so
pub without_some : (c : ℕ) (bs front : List ℕ) → bs ≡ front ++ (c ∷ []) → without_last c bs ≡ Some front
without_some c bs front e = ap (without_last c) e ∙ without_put c front

-- ---- the ways out of `rgb_parts`

-- one part is no color
pub rgb_short : (text : List ℕ) → cut_at 44 text ≡ None → Err color_error.Unrecognized ≡ rgb_parts text
rgb_short text e = sym (ap rgb_first e)

-- two parts are none
pub rgb_two : (text red rest trimmed : List ℕ) → cut_at 44 text ≡ Some (red, rest) → trimmed ≡ trim_start rest → cut_at 44 trimmed ≡ None → Err color_error.Unrecognized ≡ rgb_parts text
rgb_two text red rest trimmed first trim second = sym (ap rgb_first first ∙ ap (λ t. rgb_last red (cut_at 44 t)) (sym trim) ∙ ap (rgb_last red) second)

-- three parts are read as a color
pub rgb_read : (text red rest trimmed green blue last : List ℕ) (r g b : Option ℕ) → cut_at 44 text ≡ Some (red, rest) → trimmed ≡ trim_start rest → cut_at 44 trimmed ≡ Some (green, blue) → last ≡ trim_start blue
    → r ≡ number_below 256 red → g ≡ number_below 256 green → b ≡ number_below 256 last → rgb_color r g b ≡ rgb_parts text
rgb_read text red rest trimmed green blue last r g b first trim second trim2 is_r is_g is_b =
    ap (λ o. rgb_color o g b) is_r ∙ ap (λ o. rgb_color (number_below 256 red) o b) is_g ∙ ap (λ o. rgb_color (number_below 256 red) (number_below 256 green) o) is_b
    ∙ ap (λ t. rgb_color (number_below 256 red) (number_below 256 green) (number_below 256 t)) trim2
    ∙ sym (ap rgb_first first ∙ ap (λ t. rgb_last red (cut_at 44 t)) (sym trim) ∙ ap (rgb_last red) second)

-- ---- the ways out of `parse_color`

color_unnumbered : (text : List ℕ) → ((rest : List ℕ) → text ≢ 35 ∷ rest) → color_of text ≡ named_or_called (named color_names text) text
color_unnumbered [] h = refl
color_unnumbered (b ∷ bs) h = cond-false (b == 35) _ _ (ne_eqb b 35 (λ e. h bs (ap (λ x. x ∷ bs) e)))

color_called : (text : List ℕ) (o : Option Color) → ((rest : List ℕ) → text ≢ 35 ∷ rest) → o ≡ named color_names text → o ≡ None → color_of text ≡ call_front (without_last 41 text)
color_called text o h is none = color_unnumbered text h ∙ ap (λ n. named_or_called n text) (sym is ∙ none)

-- a name that ends in no bracket
pub color_unclosed : (text : List ℕ) (o : Option Color) → ((rest : List ℕ) → text ≢ 35 ∷ rest) → o ≡ named color_names text → o ≡ None → without_last 41 text ≡ None → Err color_error.Unrecognized ≡ color_of text
color_unclosed text o h is none e = sym (color_called text o h is none ∙ ap call_front e)

-- and one in which none opens
pub color_unopened : (text front : List ℕ) (o : Option Color) → ((rest : List ℕ) → text ≢ 35 ∷ rest) → o ≡ named color_names text → o ≡ None → without_last 41 text ≡ Some front → cut_at 40 front ≡ None
    → Err color_error.Unrecognized ≡ color_of text
color_unopened text front o h is none e f = sym (color_called text o h is none ∙ ap call_front e ∙ ap call_parts f)

-- a name with what is between brackets
pub color_call : (text front name inside : List ℕ) (o : Option Color) → ((rest : List ℕ) → text ≢ 35 ∷ rest) → o ≡ named color_names text → o ≡ None → without_last 41 text ≡ Some front → cut_at 40 front ≡ Some (name, inside)
    → called_color name inside ≡ color_of text
color_call text front name inside o h is none e f = sym (color_called text o h is none ∙ ap call_front e ∙ ap call_parts f)

-- ---- the ways out of `parse_style_token`

ok_of : {A E : Type 0} (o : Option A) (e : E) → result_ok (ok_or o e) ≡ o
ok_of None e = refl
ok_of (Some x) e = refl

-- what was found is there
pub found : {A E : Type 0} (o : Option A) (e : E) (r : Result A E) (x : A) → r ≡ ok_or o e → r ≡ Ok x → o ≡ Some x
found o e r x is ok = sym (ok_of o e) ∙ ap result_ok (sym is ∙ ok)

-- what wasn't found isn't
pub not_found : {A E : Type 0} (o : Option A) (e f : E) (r : Result A E) → r ≡ ok_or o e → r ≡ Err f → o ≡ None
not_found o e f r is err = sym (ok_of o e) ∙ ap result_ok (sym is ∙ err)

-- a token that is no color
pub token_uncolored : (text : List ℕ) → is_named text (codes "none") ≡ false → signed_number_below 65536 text ≡ None → color_of text ≡ Err color_error.Unrecognized → token_of text ≡ as_attribute (named attribute_names text) text
token_uncolored text none number color = cond-false _ _ _ none ∙ ap (λ o. as_number o text) number ∙ ap (λ r. as_color r text) color

-- one that is an attribute
pub token_attribute : (text : List ℕ) (a : Attribute) → is_named text (codes "none") ≡ false → signed_number_below 65536 text ≡ None → color_of text ≡ Err color_error.Unrecognized → named attribute_names text ≡ Some a
    → token_of text ≡ Ok (token.Attribute a)
token_attribute text a none number color attribute = token_uncolored text none number color ∙ ap (λ o. as_attribute o text) attribute

-- one that is an alignment
pub token_align : (text : List ℕ) (a : Alignment) → is_named text (codes "none") ≡ false → signed_number_below 65536 text ≡ None → color_of text ≡ Err color_error.Unrecognized → named attribute_names text ≡ None
    → named align_names text ≡ Some a → token_of text ≡ Ok (token.Align a)
token_align text a none number color attribute align = token_uncolored text none number color ∙ ap (λ o. as_attribute o text) attribute ∙ ap (λ o. as_align o text) align

token_unaligned : (text : List ℕ) → is_named text (codes "none") ≡ false → signed_number_below 65536 text ≡ None → color_of text ≡ Err color_error.Unrecognized → named attribute_names text ≡ None
    → named align_names text ≡ None → token_of text ≡ as_char (only (chars text)) text
token_unaligned text none number color attribute align = token_uncolored text none number color ∙ ap (λ o. as_attribute o text) attribute ∙ ap (λ o. as_align o text) align

-- one that is a character
pub token_char : (text : List ℕ) (c : ℕ) → is_named text (codes "none") ≡ false → signed_number_below 65536 text ≡ None → color_of text ≡ Err color_error.Unrecognized → named attribute_names text ≡ None
    → named align_names text ≡ None → only (chars text) ≡ Some c → token_of text ≡ Ok (token.Char c)
token_char text c none number color attribute align char = token_unaligned text none number color attribute align ∙ ap (λ o. as_char o text) char

-- one that is nothing known
pub token_unknown : (text owned : List ℕ) → is_named text (codes "none") ≡ false → signed_number_below 65536 text ≡ None → color_of text ≡ Err color_error.Unrecognized → named attribute_names text ≡ None
    → named align_names text ≡ None → only (chars text) ≡ None → owned ≡ text → token_of text ≡ Err (unrecognized owned)
token_unknown text owned none number color attribute align char same =
    token_unaligned text none number color attribute align ∙ ap (λ o. as_char o text) char ∙ ap (λ t. Err (unrecognized t)) (sym same)

-- ---- the ways out of `only_char`: the text is its first character and what is left of it

only_two : (c : ℕ) (cs : List ℕ) → 0 < length cs → None ≡ only (c ∷ cs)
only_two c [] some = absurd (omega arith)
only_two c (d ∷ cs) some = refl

-- a text of one character
pub only_one : (text left : List ℕ) (c : ℕ) → IsUtf8 text → text ≡ encode_utf8 c ++ left → (length left == 0) ≡ true → Some c ≡ only (chars text)
only_one text left c u parts none = sym (ap only (chars_past_char text left c u parts ∙ ap (λ r. c ∷ r) (chars_of_empty left (eqb-true _ 0 none))))

-- a text of more
pub only_more : (text left : List ℕ) (c : ℕ) → IsUtf8 text → IsUtf8 left → text ≡ encode_utf8 c ++ left → (length left == 0) ≡ false → None ≡ only (chars text)
only_more text left c u v parts some = only_two c (chars left) (some_chars left v (nonzero _ some)) ∙ sym (ap only (chars_past_char text left c u parts))
