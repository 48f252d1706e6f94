-- Hits, character by character.
use Rattle.std.proofs.Common.{◌≡◌, ℕ, zero, suc, ◌+◌, ◌-◌, ◌^◌, ◌<◌, ◌≤◌, ◌==◌, Bool, true, false, List, [], ◌∷◌, ◌++◌, map, take, drop, length, get_or, min, refl, ap, sym, ◌∙◌, inl, inr, arith, if◌then◌else◌}
use Rattle.std.proofs.lemmas.Bool.{cases_lt}
use Rattle.std.proofs.lemmas.List.{length-drop, length-map, map_more}
use Rattle.mad_characters.specs.Columns.{char_columns}
use Rattle.mad_measure.specs.TextColumns.{columns}
use Rattle.mad_wrap.specs.WrapLines.{capped}
use Rattle.mad_style.specs.StyledChars.{char_alone}
use Rattle.mad_style.specs.declared.styled_chars.StyledChar.{StyledChar}
use Rattle.mad_hits.specs.Hits.{span, widthless}

columns-append : (a b : List ℕ) → columns (a ++ b) ≡ columns a + columns b
columns-append [] b = omega arith
columns-append (c ∷ cs) b = let rest : columns (cs ++ b) ≡ columns cs + columns b = columns-append cs b in omega (arith, rest)

-- the columns of a character more
pub columns_more : (xs : List StyledChar) (i : ℕ) (d : StyledChar) (old new c : ℕ) → i < length xs → old ≡ capped (columns (map char_alone (take i xs))) → c ≡ char_columns (char_alone (get_or xs i d))
    → new ≡ min (old + c) (2 ^ 64 - 1) → new ≡ capped (columns (map char_alone (take (i + 1) xs)))
columns_more xs i d old new c inside so is sum =
    let x : ℕ = char_alone (get_or xs i d) in
    let more : columns (map char_alone (take (i + 1) xs)) ≡ columns (map char_alone (take i xs)) + columns (x ∷ []) =
    ap columns (map_more char_alone xs i d inside) ∙ columns-append (map char_alone (take i xs)) (x ∷ []) in
    omega (arith, so, is, sum, more)

drop_mapped : (n : ℕ) (xs : List StyledChar) → drop n (map char_alone xs) ≡ map char_alone (drop n xs)
drop_mapped zero xs = refl
drop_mapped (suc n) [] = refl
drop_mapped (suc n) (x ∷ xs) = drop_mapped n xs

few : (cs : List ℕ) → widthless cs ≤ length cs
few [] = omega arith
few (c ∷ cs) = at_most (char_columns c == 0) (widthless cs) (length cs) (few cs)
  where
    at_most : (b : Bool) (n m : ℕ) → n ≤ m → (if b then 1 + n else 0) ≤ suc m
    at_most true n m h = omega (arith, h)
    at_most false n m h = omega arith

-- what a hit has that begins a text
pub span_is : (xs : List StyledChar) (count end more : ℕ) → end ≡ min count (length xs) → more ≡ widthless (map char_alone (drop end xs)) → end + more ≡ min (length xs) (span count (map char_alone xs))
span_is xs count end more at is =
    let low : widthless (map char_alone (drop end xs)) ≤ length (map char_alone (drop end xs)) = few (map char_alone (drop end xs)) in
    let long : length (map char_alone (drop end xs)) ≡ length xs - end = length-map (drop end xs) char_alone ∙ length-drop end xs in
    let left : widthless (drop count (map char_alone xs)) ≡ widthless (map char_alone (drop count xs)) = ap widthless (drop_mapped count xs) in
    elim (cases_lt (length xs) count) [
      | inl past ↦ omega (arith, at, is, low, long, left, past)
      | inr inside ↦
          let same : end ≡ count = omega (arith, at, inside) in
          let here : widthless (map char_alone (drop count xs)) ≡ widthless (map char_alone (drop end xs)) = ap (λ (n : ℕ). widthless (map char_alone (drop n xs))) (sym same) in
          omega (arith, at, is, low, long, left, same, here)
    ]
