-- The first token of a text.
use Rattle.std.proofs.Common.{◌≡◌, ℕ, ◌<◌, ◌+◌, ◌==◌, false, List, ◌++◌, chars, length, take, drop, sym, ap, ◌∙◌, arith, ne_eqb}
use Rattle.std.specs.List.{prefix_len}
use Rattle.std.specs.Str.{IsUtf8, IsCharBoundary}
use Rattle.std.proofs.lemmas.Bool.{cond-false}
use Rattle.std.proofs.Math.Seq.{take-add, drop-append_seam}
use Rattle.std.proofs.lemmas.List.{length-append}
use Rattle.std.proofs.lemmas.Str.{chars-nil, chars-append, IsUtf8-drop, IsUtf8-take}
use Rattle.mad_parse.specs.Cuts.{bracket_len, token_len, word_len, is_word_char}
use Rattle.mad_md.proofs.CharLemmas.{chars_cut}
use Rattle.mad_parse.proofs.BracketLemmas.{front_counts}

-- a token that is one character
pub one_char : (text front : List ℕ) (end first : ℕ) → length (chars (take end text)) ≡ prefix_len is_word_char (chars text) → end ≡ 0 → front ≡ take first text → length (chars (take first text)) ≡ 1
    → length (chars front) ≡ token_len (chars text)
one_char text front end first len none is one =
    let no_word : prefix_len is_word_char (chars text) ≡ 0 = sym len ∙ ap (λ n. length (chars (take n text))) none ∙ ap length chars-nil in
    ap (λ f. length (chars f)) is ∙ one ∙ sym (ap (λ n. word_len n (chars text)) no_word)

-- a word, and the bracket after it
pub word_and_bracket : (text beyond front : List ℕ) (end more : ℕ) → IsUtf8 text → IsCharBoundary text end → length (chars (take end text)) ≡ prefix_len is_word_char (chars text) → 0 < end
    → beyond ≡ drop end text → IsCharBoundary beyond more → length (chars (take more beyond)) ≡ bracket_len (chars beyond) → front ≡ take (end + more) text
    → length (chars front) ≡ token_len (chars text)
word_and_bracket text beyond front end more u border len pos is border2 len2 whole =
    let n = prefix_len is_word_char (chars text) in
    let word = take end text in
    let parts : chars text ≡ chars word ++ chars beyond = chars_cut text end u border.0 (IsUtf8-drop text end u border) ∙ ap (λ b. chars word ++ chars b) (sym is) in
    let rest : drop n (chars text) ≡ chars beyond = ap (λ k. drop k (chars text)) (sym len) ∙ ap (drop (length (chars word))) parts ∙ drop-append_seam (chars word) (chars beyond) in
    let some : (n == 0) ≡ false = ne_eqb n 0 (λ z. absurd (omega (arith, front_counts text end u border pos, len, z))) in
    let said : token_len (chars text) ≡ n + bracket_len (chars beyond) = cond-false _ _ _ some ∙ ap (λ r. n + bracket_len r) rest in
    let bytes : front ≡ word ++ take more beyond = whole ∙ take-add end more text ∙ ap (λ b. word ++ take more b) (sym is) in
    omega (arith, ap (λ f. length (chars f)) bytes, ap length (chars-append word (take more beyond) (IsUtf8-take text end u border)), length-append (chars word) (chars (take more beyond)), len, len2, said)
