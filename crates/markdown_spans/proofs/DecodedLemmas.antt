-- Bytes that belong to the last part.
use Rattle.std.proofs.Common.{◌≡◌, ℕ, zero, suc, ◌≤◌, Bool, List, [], ◌∷◌, ◌++◌, ◌-◌, length, take, drop, get_or, refl, sym, ap, ◌∙◌, arith, append_assoc}
use Rattle.std.proofs.lemmas.List.{length-drop, take_all}
use Rattle.markdown_spans.specs.Decoded.{Part, part_of, decoded_from}

-- bytes that belong to the last part are passed
pub decoded_skip : (escapes : Bool) (skip : ℕ) (bs : List ℕ) → decoded_from escapes skip bs ≡ decoded_from escapes 0 (drop skip bs)
unfolding decoded_from
decoded_skip escapes zero bs = refl
decoded_skip escapes (suc skip) [] = refl
decoded_skip escapes (suc skip) (b ∷ bs) = decoded_skip escapes skip bs

-- one more part is put, and those behind it are to come
pub decoded_next : (escapes : Bool) (rest after now next whole : List ℕ) (more : ℕ) → 1 ≤ length rest → after ≡ drop 1 rest → now ++ decoded_from escapes 0 rest ≡ whole
    → next ≡ now ++ (part_of escapes (get_or rest 0 0) after).bytes → more ≡ (part_of escapes (get_or rest 0 0) after).more → next ++ decoded_from escapes 0 (drop more after) ≡ whole
unfolding decoded_from
decoded_next escapes [] after now next whole more some is same pushed m = absurd (omega arith)
decoded_next escapes (b ∷ bs) after now next whole more some is same pushed m =
    let p : Part = part_of escapes b after in
    let q : Part = part_of escapes b bs in
    let later : decoded_from escapes 0 (drop more after) ≡ decoded_from escapes p.more after = ap (λ k. decoded_from escapes 0 (drop k after)) m ∙ sym (decoded_skip escapes p.more after) in
    let there : p.bytes ++ decoded_from escapes p.more after ≡ q.bytes ++ decoded_from escapes q.more bs = ap (λ (l : List ℕ). (part_of escapes b l).bytes ++ decoded_from escapes (part_of escapes b l).more l) is in
    ap (λ (l : List ℕ). l ++ decoded_from escapes 0 (drop more after)) pushed ∙ append_assoc now p.bytes (decoded_from escapes 0 (drop more after)) ∙ ap (λ (l : List ℕ). now ++ (p.bytes ++ l)) later
    ∙ ap (λ (l : List ℕ). now ++ l) there ∙ same

-- all that follows the first byte
pub after_first_byte : (rest : List ℕ) → take (length rest - 1) (drop 1 rest) ≡ drop 1 rest
after_first_byte rest = let few : length (drop 1 rest) ≡ length rest - 1 = length-drop 1 rest in take_all (length rest - 1) (drop 1 rest) (omega (arith, few))
