-- Columns, one character after another.
use Rattle.std.proofs.Common.{ℕ, ◌+◌, ◌<◌, ◌≡◌, ◌∙◌, sym, ap, ◌++◌, List, [], ◌∷◌, length, take, get_or, min, arith, append_assoc, append-nil}
use Rattle.std.specs.Prelude.{encode_utf8_all, encode_utf8}
use Rattle.std.proofs.lemmas.List.{take_more}
use Rattle.std.proofs.lemmas.List.Sums.{sum_by_more}
use Rattle.mad_edit_lines.specs.LineColumns.{char_width, columns}

-- one character more, as far as a `usize` counts
pub columns_more : (cs : List ℕ) (i d total : ℕ) → i < length cs → total ≡ columns (take i cs) → min (total + char_width (get_or cs i d)) 18446744073709551615 ≡ columns (take (i + 1) cs)
columns_more cs i d total h e =
    let more = sum_by_more char_width cs i d h in omega (arith, more, e)

-- the bytes of characters and of one more
pub encoded_more : (cs : List ℕ) (c : ℕ) → encode_utf8_all (cs ++ c ∷ []) ≡ encode_utf8_all cs ++ encode_utf8 c
encoded_more [] c = append-nil (encode_utf8 c)
encoded_more (b ∷ cs) c = ap (λ t. encode_utf8 b ++ t) (encoded_more cs c) ∙ sym (append_assoc (encode_utf8 b) (encode_utf8_all cs) (encode_utf8 c))

-- the bytes of a front and of the character after it
pub encoded_taken : (cs : List ℕ) (i d : ℕ) → i < length cs → encode_utf8_all (take i cs) ++ encode_utf8 (get_or cs i d) ≡ encode_utf8_all (take (i + 1) cs)
encoded_taken cs i d h = sym (ap encode_utf8_all (take_more cs i d h) ∙ encoded_more (take i cs) (get_or cs i d))
