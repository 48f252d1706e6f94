-- Spaces and graphic characters at the front of a text, a byte and a column each.
use Rattle.std.proofs.Common.{◌≡◌, ℕ, zero, suc, ◌≤◌, ◌+◌, List, ◌++◌, ◌∷◌, length, drop, get_or, chars, sym, ap, ◌∙◌, arith, subst}
use Rattle.std.proofs.lemmas.List.{at_drop_more}
use Rattle.std.proofs.lemmas.Str.{encode_ascii, IsUtf8-past_char, chars_past_char, IsCharBoundary-from_drop}
use Rattle.std.specs.Char.{encode_utf8}
use Rattle.std.specs.Str.{IsUtf8, IsCharBoundary}
use Rattle.mad_characters.proofs.CharColumns.{char_columns-ascii}
use Rattle.mad_measure.specs.Ascii.{AreSpacesOrGraphic}
use Rattle.mad_measure.specs.TextColumns.{columns}

-- a front of `n` bytes takes `n` columns
pub record IsAsciiFront (bs : List ℕ) (n : ℕ) : Type 0 where
  pub rest : IsUtf8 (drop n bs)
  pub columns_are : n + columns (chars (drop n bs)) ≡ columns (chars bs)

-- a front of spaces and graphic characters takes a column for each byte
pub ascii_front_is : (bs : List ℕ) (n : ℕ) → IsUtf8 bs → n ≤ length bs → AreSpacesOrGraphic bs n → IsAsciiFront bs n
ascii_front_is bs zero utf8 inside ascii = record { rest = utf8; columns_are = omega arith }
ascii_front_is bs (suc m) utf8 inside ascii =
    let front = ascii_front_is bs m utf8 (omega (arith, inside)) (λ k l. ascii k (omega (arith, l))) in
    let c = get_or bs m 0 in
    let is = ascii m (omega arith) in
    let back = drop (m + 1) bs in
    let parts : drop m bs ≡ encode_utf8 c ++ back = at_drop_more (λ l. l) bs m 0 (omega (arith, inside)) ∙ ap (λ l. l ++ back) (sym (encode_ascii c (omega (arith, is.1)))) in
    let step : chars (drop m bs) ≡ c ∷ chars back = chars_past_char (drop m bs) back c front.rest parts in
    let one : m + 1 ≡ suc m = omega arith in
    subst (IsAsciiFront bs) one (record {
      rest = IsUtf8-past_char (drop m bs) back c front.rest parts;
      columns_are = omega (arith, front.columns_are, ap columns step, char_columns-ascii c (omega (arith, is.0)) is.1);
    })

-- a text may be cut after a front of spaces and graphic characters
pub ascii_border : (bs : List ℕ) (n : ℕ) → IsUtf8 bs → n ≤ length bs → AreSpacesOrGraphic bs n → IsCharBoundary bs n
ascii_border bs n utf8 inside ascii = IsCharBoundary-from_drop bs n inside (ascii_front_is bs n utf8 inside ascii).rest
