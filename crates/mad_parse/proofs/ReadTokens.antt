-- Tokens that are read back from the text that they are written as.
use Rattle.std.proofs.Common.{◌≡◌, ℕ, ◌<◌, ◌+◌, ◌^◌, true, false, List, [], ◌∷◌, ◌++◌, map, filter, chars, length, drop, refl, sym, ap, ◌∙◌, arith, subst, lit<, append-nil, append_assoc, ne_eqb, true≢false, None, inl, inr}
use Rattle.std.specs.Prelude.{⊤, codes, decimal, Ok}
use Rattle.std.specs.Char.{IsScalar, encode_utf8, is_ascii_digit, is_whitespace, to_ascii_lowercase}
use Rattle.std.specs.List.{prefix_len, list_all, join_with_byte}
use Rattle.std.specs.Str.{IsUtf8}
use Rattle.std.specs.Str.Parse.{AllDigits}
use Rattle.std.proofs.lemmas.Bool.{cases_Bool, cond-false, cond-true, and_from, and_left, and_parts}
use Rattle.std.proofs.lemmas.Fmt.{decimal_is_IsNumeral, decimal_nonempty}
use Rattle.std.proofs.lemmas.List.{length-append}
use Rattle.std.proofs.lemmas.List.Folds.{list_all-append}
use Rattle.std.proofs.lemmas.Str.Parse.{digit_from_value}
use Rattle.std.proofs.lemmas.Str.{chars-IsAscii, chars-nil, chars-append, chars_past_char, encode_ascii, IsUtf8-append, IsUtf8-encode, IsUtf8-from_ascii, IsUtf8-nil}
use Rattle.mad_md.specs.declared.alignment.Alignment.{Alignment}
use Rattle.mad_md.specs.declared.alignment.Alignment.TheVariants as align
use Rattle.mad_term.specs.Color.{IsColor}
use Rattle.mad_term.specs.declared.attribute.Attribute.{Attribute}
use Rattle.mad_term.specs.declared.attribute.Attribute.TheVariants as attribute
use Rattle.mad_term.specs.declared.color.Color.{Color}
use Rattle.mad_term.specs.declared.color.Color.TheVariants as color
use Rattle.mad_parse.specs.Colors.{color_of, color_text}
use Rattle.mad_parse.specs.Cuts.{is_word_char, is_inside_char, token_len, word_len, bracket_len}
use Rattle.mad_parse.specs.Names.{is_named}
use Rattle.mad_parse.specs.Numbers.{signed_number_below}
use Rattle.mad_parse.specs.ReadsBack.{IsReadBackColor, is_written}
use Rattle.mad_parse.specs.StyleTokens.{token_of, as_number, as_color}
use Rattle.mad_parse.specs.Reading.{tokens_of, and_after}
use Rattle.mad_parse.specs.Written.{token_text, tokens_text, has_text}
use Rattle.mad_parse.specs.declared.tokens.StyleToken.{StyleToken}
use Rattle.mad_parse.specs.declared.tokens.StyleToken.TheVariants as token
use Rattle.mad_parse.proofs.CharTokens.{char_reads, no_number}
use Rattle.mad_parse.proofs.CutLemmas.{begins_white}
use Rattle.mad_parse.proofs.Digits.{is_low, low_ascii, word_char_black, digit_lower, decimal_word, decimal_inside, decimal_low}
use Rattle.mad_parse.proofs.JoinLemmas.{tokens_joined, tokens_last, nothing_read}
use Rattle.mad_parse.proofs.LawLemmas.{word_alone, call_cut, margin_reads, ansi_reads, rgb_inside, rgb_text, rgb_reads, rgb_all}

-- a token whose text is cut off as one token and says it; cs is that text's characters
pub record IsRead (t : StyleToken) : Type 0 where
  pub cs : List ℕ
  pub text : has_text t ≡ true
  pub utf8 : IsUtf8 (token_text t)
  pub is : chars (token_text t) ≡ cs
  pub some : 0 < length cs
  pub black : begins_white cs ≡ false
  pub cut : (rest : List ℕ) → prefix_len is_word_char rest ≡ 0 → bracket_len rest ≡ 0 → token_len (cs ++ rest) ≡ length cs
  pub says : token_of (token_text t) ≡ Ok t

-- each of a list is one
abbrev pub AllRead : List StyleToken → Type 0
AllRead [] = ⊤
AllRead (t ∷ ts) = IsRead t × AllRead ts

-- tokens that are read, one list after the other
pub all_append : (ts us : List StyleToken) → AllRead ts → AllRead us → AllRead (ts ++ us)
all_append [] us h k = k
all_append (t ∷ ts) us h k = (h.0, all_append ts us h.1 k)

-- ---- a list of them

filter_all : (ts : List StyleToken) → AllRead ts → filter has_text ts ≡ ts
filter_all [] h = refl
filter_all (t ∷ ts) h = cond-true (has_text t) _ _ h.0.text ∙ ap (λ us. t ∷ us) (filter_all ts h.1)

front_black : (cs rest : List ℕ) → 0 < length cs → begins_white cs ≡ false → begins_white (cs ++ rest) ≡ false
front_black [] rest some black = absurd (omega arith)
front_black (c ∷ cs) rest some black = black

front_some : (cs rest : List ℕ) → 0 < length cs → 0 < length (cs ++ rest)
front_some [] rest some = absurd (omega arith)
front_some (c ∷ cs) rest some = omega arith

space_utf8 : (rest : List ℕ) → IsUtf8 rest → IsUtf8 (32 ∷ rest)
space_utf8 rest u = IsUtf8-append (32 ∷ []) rest (subst IsUtf8 (encode_ascii 32 (lit< tt)) (IsUtf8-encode 32 refl)) u

read_last : (t : StyleToken) → IsRead t → tokens_of (token_text t) ≡ Ok (t ∷ [])
read_last t h =
    tokens_last (token_text t) t h.utf8 (subst (λ cs. 0 < length cs) (sym h.is) h.some) (ap begins_white h.is ∙ h.black)
    (ap length h.is ∙ sym (ap token_len (h.is ∙ sym (append-nil h.cs)) ∙ h.cut [] refl refl)) h.says

read_more : (t : StyleToken) (rest : List ℕ) (ts : List StyleToken) → IsRead t → IsUtf8 rest → tokens_of rest ≡ Ok ts → tokens_of (token_text t ++ 32 ∷ rest) ≡ Ok (t ∷ ts)
read_more t rest ts h u says =
    let v = space_utf8 rest u in
    let beyond : chars (32 ∷ rest) ≡ 32 ∷ chars rest = chars_past_char (32 ∷ rest) rest 32 v (ap (λ x. x ++ rest) (sym (encode_ascii 32 (lit< tt)))) in
    let whole : chars (token_text t ++ 32 ∷ rest) ≡ h.cs ++ 32 ∷ chars rest = chars-append (token_text t) (32 ∷ rest) h.utf8 ∙ ap (λ cs. cs ++ chars (32 ∷ rest)) h.is ∙ ap (λ cs. h.cs ++ cs) beyond in
    tokens_joined (token_text t) rest t h.utf8 v (subst (λ cs. 0 < length cs) (sym whole) (front_some h.cs _ h.some)) (ap begins_white whole ∙ front_black h.cs _ h.some h.black)
    (ap length h.is ∙ sym (ap token_len whole ∙ h.cut (32 ∷ chars rest) refl refl)) h.says
    ∙ ap (and_after t) says

joined_reads : (ts : List StyleToken) → AllRead ts → IsUtf8 (join_with_byte 32 (map token_text ts)) × (tokens_of (join_with_byte 32 (map token_text ts)) ≡ Ok ts)
joined_reads [] h = (IsUtf8-nil, nothing_read)
joined_reads (t ∷ []) h = (h.0.utf8, read_last t h.0)
joined_reads (t ∷ u ∷ ts) h =
    let rest = joined_reads (u ∷ ts) h.1 in
    (IsUtf8-append (token_text t) _ h.0.utf8 (space_utf8 _ rest.0), read_more t _ (u ∷ ts) h.0 rest.0 rest.1)

-- what tokens are written as says these tokens
pub tokens_read : (ts : List StyleToken) → AllRead ts → tokens_of (tokens_text ts) ≡ Ok ts
tokens_read ts h = ap (λ us. tokens_of (join_with_byte 32 (map token_text us))) (filter_all ts h) ∙ (joined_reads ts h).1

-- ---- each kind

-- a character
one_cut : (c : ℕ) (rest : List ℕ) → prefix_len is_word_char rest ≡ 0 → bracket_len rest ≡ 0 → token_len (c ∷ rest) ≡ 1
one_cut c rest stop none =
    elim (cases_Bool (is_word_char c)) as (λ _. token_len (c ∷ rest) ≡ 1) [
      | inl word ↦ word_alone (c ∷ []) rest (lit< tt) (and_from (is_word_char c) true word refl) stop ∙ ap (λ n. 1 + n) none
      | inr other ↦ ap (λ n. word_len n (c ∷ rest)) (cond-false (is_word_char c) _ _ other)
    ]

-- a character is read
pub read_char : (c : ℕ) → IsScalar c → is_whitespace c ≡ false → is_ascii_digit c ≡ false → IsRead (token.Char c)
read_char c scalar black digit = record {
  cs = c ∷ [];
  text = refl;
  utf8 = IsUtf8-encode c scalar;
  is = chars_past_char (encode_utf8 c) [] c (IsUtf8-encode c scalar) (sym (append-nil (encode_utf8 c))) ∙ ap (λ cs. c ∷ cs) chars-nil;
  some = lit< tt;
  black = black;
  cut = one_cut c;
  says = char_reads c scalar digit;
}

-- a word of ASCII characters
word_black : (cs : List ℕ) → 0 < length cs → list_all is_word_char cs ≡ true → begins_white cs ≡ false
word_black [] some word = absurd (omega arith)
word_black (c ∷ cs) some word = word_char_black c (and_parts _ _ word).0

-- a word is read
pub read_word : (t : StyleToken) → has_text t ≡ true → 0 < length (token_text t) → list_all is_low (token_text t) ≡ true → list_all is_word_char (token_text t) ≡ true → token_of (token_text t) ≡ Ok t → IsRead t
read_word t text some low word says = record {
  cs = token_text t;
  text = text;
  utf8 = IsUtf8-from_ascii (token_text t) (low_ascii (token_text t) low);
  is = chars-IsAscii (token_text t) (low_ascii (token_text t) low);
  some = some;
  black = word_black (token_text t) some word;
  cut = λ rest stop none. word_alone (token_text t) rest some word stop ∙ ap (λ n. length (token_text t) + n) none ∙ omega arith;
  says = says;
}

-- a word and its bracket
call_text : (name inside rest : List ℕ) → (name ++ 40 ∷ (inside ++ 41 ∷ [])) ++ rest ≡ name ++ 40 ∷ (inside ++ 41 ∷ rest)
call_text name inside rest =
    append_assoc name (40 ∷ (inside ++ 41 ∷ [])) rest ∙ ap (λ l. name ++ 40 ∷ l) (append_assoc inside (41 ∷ []) rest)

call_low : (name inside : List ℕ) → list_all is_low name ≡ true → list_all is_low inside ≡ true → list_all is_low (name ++ 40 ∷ (inside ++ 41 ∷ [])) ≡ true
call_low name inside low within = list_all-append is_low name (40 ∷ (inside ++ 41 ∷ [])) ∙ and_from _ _ low (list_all-append is_low inside (41 ∷ []) ∙ and_from _ _ within refl)

call_len : (name inside : List ℕ) → length (name ++ 40 ∷ (inside ++ 41 ∷ [])) ≡ length name + (length inside + 2)
call_len name inside = omega (arith, length-append name (40 ∷ (inside ++ 41 ∷ [])), length-append inside (41 ∷ []))

-- a word with brackets is read
pub read_call : (t : StyleToken) (name inside : List ℕ) → has_text t ≡ true → token_text t ≡ name ++ 40 ∷ (inside ++ 41 ∷ []) → 0 < length name → list_all is_word_char name ≡ true → list_all is_low name ≡ true
    → 0 < length inside → list_all is_inside_char inside ≡ true → list_all is_low inside ≡ true → token_of (token_text t) ≡ Ok t → IsRead t
read_call t name inside text is some word low more within low_inside says =
    let whole = name ++ 40 ∷ (inside ++ 41 ∷ []) in
    let ascii = low_ascii whole (call_low name inside low low_inside) in
    record {
      cs = whole;
      text = text;
      utf8 = subst IsUtf8 (sym is) (IsUtf8-from_ascii whole ascii);
      is = ap chars is ∙ chars-IsAscii whole ascii;
      some = front_some name _ some;
      black = front_black name _ some (word_black name some word);
      cut = λ rest stop none. ap token_len (call_text name inside rest) ∙ call_cut name inside rest some word more within ∙ sym (call_len name inside);
      says = says;
    }

-- ---- the tokens of a value

-- a number
number_named : (bs : List ℕ) → AllDigits 10 bs → 0 < length bs → is_named bs (codes "none") ≡ false
number_named [] all some = absurd (omega arith)
number_named (b ∷ bs) all some =
    let r = digit_from_value b all.0 in
    and_left _ _ (ne_eqb (to_ascii_lowercase b) 110 (λ e. absurd (omega (arith, r.1, digit_lower b r, e))))

-- a number is read
pub read_number : (n : ℕ) → n < 65536 → IsRead (token.Dimension n)
read_number n small =
    let big : n < 2 ^ 64 = omega (arith, small) in
    let digits = (decimal_is_IsNumeral n big).0 in
    read_word (token.Dimension n) refl digits.0 (decimal_low n big) (decimal_word n big)
    (cond-false _ _ _ (number_named (decimal n) digits.1 digits.0) ∙ ap (λ o. as_number o (decimal n)) (margin_reads n small))

-- a color of the palette, and one of three numbers
color_token : (text : List ℕ) (c : Color) → is_named text (codes "none") ≡ false → signed_number_below 65536 text ≡ None → color_of text ≡ Ok c → token_of text ≡ Ok (token.Color c)
color_token text c none number color = cond-false _ _ _ none ∙ ap (λ o. as_number o text) number ∙ ap (λ r. as_color r text) color

read_ansi : (n : ℕ) → n < 256 → IsRead (token.Color (color.AnsiValue n))
read_ansi n small =
    let big : n < 2 ^ 64 = omega (arith, small) in
    read_call (token.Color (color.AnsiValue n)) (codes "ansi") (decimal n) refl refl (lit< tt) refl refl (decimal_nonempty n big) (decimal_inside n big) (decimal_low n big)
    (color_token (color_text (color.AnsiValue n)) (color.AnsiValue n) refl (no_number 97 (drop 1 (color_text (color.AnsiValue n))) refl (λ e. absurd (omega (arith, e)))) (ansi_reads n small))

read_rgb : (r g b : ℕ) → r < 256 → g < 256 → b < 256 → IsRead (token.Color (color.Rgb r g b))
read_rgb r g b small_r small_g small_b =
    let big : (n : ℕ) → n < 256 → n < 2 ^ 64 = λ n h. omega (arith, h) in
    read_call (token.Color (color.Rgb r g b)) (codes "rgb") (rgb_inside r g b) refl (rgb_text r g b) (lit< tt) refl refl (front_some (decimal r) _ (decimal_nonempty r (big r small_r)))
    (rgb_all is_inside_char (λ n h. decimal_inside n (big n h)) refl refl r g b small_r small_g small_b)
    (rgb_all is_low (λ n h. decimal_low n (big n h)) refl refl r g b small_r small_g small_b)
    (color_token (color_text (color.Rgb r g b)) (color.Rgb r g b) refl (no_number 114 (drop 1 (color_text (color.Rgb r g b))) refl (λ e. absurd (omega (arith, e)))) (rgb_reads r g b small_r small_g small_b))

-- a color is read
pub read_color : (c : Color) → IsColor c → IsReadBackColor c → IsRead (token.Color c)
read_color (color.Rgb r g b) bytes written = read_rgb r g b bytes.0 bytes.1 bytes.2
read_color (color.AnsiValue n) bytes written = read_ansi n bytes
read_color color.Reset bytes written = absurd written
read_color color.Black bytes written = absurd written
read_color color.White bytes written = absurd written
read_color c bytes written = read_word (token.Color c) refl (lit< tt) refl refl refl

-- so is `none`
pub read_none : IsRead token.None
read_none = read_word token.None refl (lit< tt) refl refl refl

-- an alignment is read
pub read_align : (a : Alignment) → has_text (token.Align a) ≡ true → IsRead (token.Align a)
read_align align.Unspecified text = absurd (true≢false (sym text))
read_align a text = read_word (token.Align a) refl (lit< tt) refl refl refl

-- an attribute is read
pub read_attribute : (a : Attribute) → is_written a ≡ true → IsRead (token.Attribute a)
read_attribute attribute.Bold written = read_word (token.Attribute attribute.Bold) refl (lit< tt) refl refl refl
read_attribute attribute.Dim written = read_word (token.Attribute attribute.Dim) refl (lit< tt) refl refl refl
read_attribute attribute.Italic written = read_word (token.Attribute attribute.Italic) refl (lit< tt) refl refl refl
read_attribute attribute.Underlined written = read_word (token.Attribute attribute.Underlined) refl (lit< tt) refl refl refl
read_attribute attribute.Reverse written = read_word (token.Attribute attribute.Reverse) refl (lit< tt) refl refl refl
read_attribute attribute.CrossedOut written = read_word (token.Attribute attribute.CrossedOut) refl (lit< tt) refl refl refl
read_attribute attribute.Encircled written = read_word (token.Attribute attribute.Encircled) refl (lit< tt) refl refl refl
read_attribute attribute.OverLined written = read_word (token.Attribute attribute.OverLined) refl (lit< tt) refl refl refl
read_attribute _ written = absurd (true≢false (sym written))
