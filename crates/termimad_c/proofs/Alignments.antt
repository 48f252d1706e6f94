-- Alignments and their numbers.
use Rattle.std.proofs.Common.{◌≡◌, ℕ, ◌+◌, ◌<◌, ◌≤◌, List, [], ◌∷◌, ◌++◌, length, map, take, get_or, refl, ap, sym, ◌∙◌, subst, arith}
use Rattle.std.proofs.lemmas.List.{get_or-map, length-map, map_push, take_more}
use Rattle.termimad.specs.declared.Alignment.{Alignment}
use Rattle.termimad.specs.declared.Alignment.TheVariants.{Unspecified, Left, Center, Right}
use Rattle.termimad_c.specs.Inputs.{AreAligned, RefusesAligns, alignment_number}
use Rattle.termimad_c.specs.declared.answer.Refusal.{Refusal}
use Rattle.termimad_c.specs.declared.answer.Refusal.TheVariants.{Condition}

at_most : (a : Alignment) → alignment_number a ≤ 3
at_most Unspecified = omega arith
at_most Left = omega arith
at_most Center = omega arith
at_most Right = omega arith

-- one more number, and its alignment
pub next_align : (numbers : List ℕ) (i n : ℕ) (aligns : List Alignment) (a : Alignment) → i < length numbers → n ≡ get_or numbers i 0 → alignment_number a ≡ n → AreAligned (take i numbers) aligns
    → AreAligned (take (i + 1) numbers) (aligns ++ a ∷ [])
next_align numbers i n aligns a inside is number held =
    map_push alignment_number aligns a ∙ ap (λ (ns : List ℕ). ns ++ alignment_number a ∷ []) held ∙ ap (λ (k : ℕ). take i numbers ++ k ∷ []) (number ∙ is) ∙ sym (take_more numbers i 0 inside)

-- a number that is none of an alignment
pub no_aligns : (numbers : List ℕ) (i n : ℕ) → i < length numbers → n ≡ get_or numbers i 0 → 3 < n → (aligns : List Alignment) → ¬ (AreAligned numbers aligns)
no_aligns numbers i n inside is over aligns held =
    let long : length aligns ≡ length numbers = sym (length-map aligns alignment_number) ∙ ap length held in
    let read : get_or numbers i 0 ≡ alignment_number (get_or aligns i Unspecified) =
    ap (λ (ns : List ℕ). get_or ns i 0) (sym held) ∙ get_or-map alignment_number aligns i Unspecified 0 (omega (arith, long, inside)) in
    omega (arith, over, is, read, at_most (get_or aligns i Unspecified))

-- a list with such a number is refused
pub align_refused : (numbers : List ℕ) (i : ℕ) (refusal : Refusal) → i < length numbers → (refusal ≡ Condition) × (3 < get_or numbers i 0) → RefusesAligns numbers refusal
align_refused numbers i refusal inside (is, over) = subst (RefusesAligns numbers) (sym is) (no_aligns numbers i (get_or numbers i 0) inside refl over)
