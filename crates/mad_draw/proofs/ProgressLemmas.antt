-- The text of a progress bar, and its length.
use Rattle.std.proofs.Common.{◌≡◌, ⊎_elim, ℕ, zero, suc, ◌+◌, ◌*◌, ◌/◌, ◌%◌, ◌<◌, ◌≤◌, List, [], ◌∷◌, ◌++◌, length, replicate, refl, ap, sym, ◌∙◌, arith, length-append}
use Rattle.std.specs.Prelude.{encode_utf8, encode_utf8_all}
use Rattle.std.specs.List.{repeat}
use Rattle.std.proofs.Math.Nat.{mul-le-mul_right}
use Rattle.std.proofs.lemmas.Bool.{cases_eq, cases_lt}
use Rattle.std.proofs.lemmas.List.{length-replicate}
use Rattle.std.proofs.lemmas.Nat.{div-add-mod'}
use Rattle.std.proofs.lemmas.Str.{encodes-append}
use Rattle.mad_term.specs.declared.styles.ContentStyle.{ContentStyle}
use Rattle.mad_term.specs.Styles.{IsUnstyled, styled_repeat_bytes}
use Rattle.mad_term.proofs.Pieces.{unstyled_piece, no_repeat, some_repeat}
use Rattle.mad_draw.specs.ProgressBars.{rounded, block, bar_chars}
use Rattle.mad_draw.proofs.FillingLemmas.{encoded_repeat}

-- ---- its text

unstyled_repeat : (style : ContentStyle) (text : List ℕ) (n : ℕ) → IsUnstyled style → styled_repeat_bytes style text n ≡ repeat n text
unstyled_repeat style text n h =
    ⊎_elim (λ none. no_repeat style text n none ∙ sym (ap (λ k. repeat k text) none)) (λ some. sym (some_repeat style text n some) ∙ unstyled_piece style (repeat n text) h) (cases_eq n 0)

full_block : 226 ∷ 150 ∷ 136 ∷ [] ≡ encode_utf8 0x2588
unfolding lib.Utf8.encode
full_block = refl

-- full blocks without style, and then the last block, are a bar's text
pub bar_bytes : (style : ContentStyle) (last : List ℕ) (num den len : ℕ) → IsUnstyled style → last ≡ encode_utf8_all (block ((16 * (len * num % den) + den) / (2 * den))) → styled_repeat_bytes style (226 ∷ 150 ∷ 136 ∷ []) (len * num / den) ++ last ≡ encode_utf8_all (bar_chars num den len)
bar_bytes style last num den len unstyled is =
    let whole : ℕ = len * num / den in
    let rest : ℕ = len * num % den in
    let twice : 16 * rest ≡ 2 * (8 * rest) = omega arith in
    ap (λ bytes. bytes ++ last) (unstyled_repeat style (226 ∷ 150 ∷ 136 ∷ []) whole unstyled ∙ ap (repeat whole) full_block ∙ encoded_repeat whole 0x2588)
    ∙ ap (λ bytes. encode_utf8_all (replicate whole 0x2588) ++ bytes) (is ∙ ap (λ n. encode_utf8_all (block ((n + den) / (2 * den)))) twice)
    ∙ sym (encodes-append (replicate whole 0x2588) (block (rounded (8 * rest) den)))

-- ---- its length

block_short : (n : ℕ) → length (block n) ≤ 1
block_short zero = omega arith
block_short (suc n) = omega arith

no_block : (n den : ℕ) → n ≡ 0 → 1 ≤ den → length (block (rounded (8 * n) den)) ≡ 0
no_block n den none some =
    let split : (2 * (8 * n) + den) / (2 * den) * (2 * den) + (2 * (8 * n) + den) % (2 * den) ≡ 2 * (8 * n) + den = div-add-mod' (2 * (8 * n) + den) (2 * den) in
    let quotient : rounded (8 * n) den ≡ 0 = small_quotient (rounded (8 * n) den) den (omega (arith, split, none)) some in
    ap (λ k. length (block k)) quotient
  where
    small_quotient : (q den : ℕ) → q * (2 * den) ≤ den → 1 ≤ den → q ≡ 0
    small_quotient zero den h some = refl
    small_quotient (suc q) den h some = let one : 1 * (2 * den) ≤ suc q * (2 * den) = mul-le-mul_right (2 * den) (omega arith) in absurd (omega (arith, one, h, some))

-- a bar is no longer than its length
pub bars_are_short : (num den len : ℕ) → 1 ≤ den → num ≤ den → length (bar_chars num den len) ≤ len
bars_are_short num den len some part =
    let whole : ℕ = len * num / den in
    let rest : ℕ = len * num % den in
    let split : whole * den + rest ≡ len * num = div-add-mod' (len * num) den in
    let most : len * num ≤ len * den = times len num den part in
    let parts : length (bar_chars num den len) ≡ whole + length (block (rounded (8 * rest) den)) = length-append (replicate whole 0x2588) (block (rounded (8 * rest) den)) ∙ ap (λ k. k + length (block (rounded (8 * rest) den))) (length-replicate whole 0x2588) in
    ⊎_elim
    (λ (below : whole < len). omega (arith, parts, below, block_short (rounded (8 * rest) den)))
    (λ (all : len ≤ whole).
    ⊎_elim
    (λ (past : len < whole). let more : (len + 1) * den ≤ whole * den = mul-le-mul_right den (omega (arith, past)) in let one : (len + 1) * den ≡ len * den + den = omega arith in absurd (omega (arith, more, one, split, most, some)))
    (λ (same : whole ≤ len).
    let more : len * den ≤ whole * den = mul-le-mul_right den all in
    let none : rest ≡ 0 = omega (arith, more, split, most) in
    omega (arith, parts, same, no_block rest den none some))
    (cases_lt len whole))
    (cases_lt whole len)
  where
    times : (len num den : ℕ) → num ≤ den → len * num ≤ len * den
    times len num den h = let turned : num * len ≤ den * len = mul-le-mul_right len h in omega (arith, turned)
