-- A text between spaces.
use Rattle.std.proofs.Common.{◌≡◌, ℕ, ◌+◌, ◌-◌, ◌<◌, false, cond, List, [], ◌++◌, replicate, ap, sym, ◌∙◌, arith}
use Rattle.std.specs.Prelude.{nat_le, chars, take, encode_utf8_all}
use Rattle.std.proofs.lemmas.Bool.Decides.{nat_tests}
use Rattle.mad_style.specs.CompoundStyles.{unstyled}
use Rattle.mad_measure.specs.Completions.{Completes, left_completion}
use Rattle.mad_measure.specs.declared.spacing.Spacing.{Spacing}
use Rattle.mad_draw.specs.Pieces.{pieces_bytes, spaces}
use Rattle.mad_draw.specs.SpacedTexts.{spaced_text}
use Rattle.mad_draw.specs.declared.spaces.Spaces.{Spaces}
use Rattle.mad_draw.proofs.FillingLemmas.{unstyled_spaces}

-- between its completions
spaced_between : (place : Spacing) (text : List ℕ) (width : ℕ) (sides : ℕ × ℕ) → width < place.width → Completes place.align width place.width sides
    → pieces_bytes (spaces unstyled sides.0) ++ (text ++ pieces_bytes (spaces unstyled sides.1)) ≡ spaced_text place text width
spaced_between place text width sides room h =
    let rest : ℕ = place.width - width in
    let left : ℕ = left_completion place.align rest in
    let filled : sides.0 + width + sides.1 ≡ place.width = h.filled (omega (arith, room)) in
    let right_is : sides.1 ≡ rest - left = omega (arith, filled, h.left, room) in
    let test : nat_le place.width width ≡ false = grind (arith, nat_tests) in
    ap (λ bytes. bytes ++ (text ++ pieces_bytes (spaces unstyled sides.1))) (unstyled_spaces sides.0 ∙ ap (λ n. replicate n 32) h.left)
    ∙ ap (λ bytes. replicate left 32 ++ (text ++ bytes)) (unstyled_spaces sides.1 ∙ ap (λ n. replicate n 32) right_is)
    ∙ sym (ap (λ t. cond t (encode_utf8_all (take place.width (chars text))) (replicate left 32 ++ (text ++ replicate (rest - left) 32))) test)

-- as it is made
pub spaced_made : (place : Spacing) (text made start : List ℕ) (width : ℕ) (sides : ℕ × ℕ) (left right : Spaces) → width < place.width → Completes place.align width place.width sides → left ≡ record { style = unstyled; count = sides.0 } → right ≡ record { style = unstyled; count = sides.1 } → start ≡ []
    → made ≡ start ++ (pieces_bytes (spaces left.style left.count) ++ (text ++ pieces_bytes (spaces right.style right.count))) → made ≡ spaced_text place text width
spaced_made place text made start width sides left right room h left_is right_is empty is =
    is
    ∙ ap (λ (t : List ℕ). t ++ (pieces_bytes (spaces left.style left.count) ++ (text ++ pieces_bytes (spaces right.style right.count)))) empty
    ∙ ap (λ (s : Spaces). pieces_bytes (spaces s.style s.count) ++ (text ++ pieces_bytes (spaces right.style right.count))) left_is
    ∙ ap (λ (s : Spaces). pieces_bytes (spaces unstyled sides.0) ++ (text ++ pieces_bytes (spaces s.style s.count))) right_is
    ∙ spaced_between place text width sides room h
