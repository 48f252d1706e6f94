-- No byte is lost.
use Rattle.std.proofs.Common.{◌≡◌, ℕ, zero, suc, ◌+◌, ◌-◌, ◌≤◌, List, [], ◌∷◌, ◌++◌, length, take, drop, refl, ap, ◌∙◌, arith}
use Rattle.std.proofs.lemmas.List.{take-append-drop}
use Rattle.markdown_brackets.specs.Brackets.{Reading, nothing_read}
use Rattle.markdown_pieces.specs.Cut.{Step, step, cut_from, cut_text}
use Rattle.markdown_pieces.specs.Spelling.{spell}

step_few : (labels : List (List ℕ)) (text : List ℕ) (at index : ℕ) (r : Reading) (rest : List ℕ) → (step labels text at index r rest).piece.more ≤ length text - at - 1
unfolding step
step_few labels text at index r rest = omega arith

spell_from : (labels : List (List ℕ)) (text : List ℕ) (skip at index : ℕ) (r : Reading) (bs : List ℕ) → skip ≤ length bs → at + length bs ≡ length text
    → spell (drop skip bs) (cut_from labels text skip at index r bs).pieces ≡ drop skip bs
unfolding cut_from
spell_from labels text zero at index r [] few all = refl
spell_from labels text (suc skip) at index r [] few all = refl
spell_from labels text zero at index r (b ∷ bs) few all =
    let s : Step = step labels text at index r (b ∷ bs) in
    let more : s.piece.more ≤ length bs = omega (arith, step_few labels text at index r (b ∷ bs), all) in
    let rest : spell (drop s.piece.more bs) (cut_from labels text s.piece.more (at + 1) (index + 1) s.reading bs).pieces ≡ drop s.piece.more bs =
    spell_from labels text s.piece.more (at + 1) (index + 1) s.reading bs more (omega (arith, all)) in
    ap (λ (l : List ℕ). b ∷ (take s.piece.more bs ++ l)) rest ∙ ap (λ (l : List ℕ). b ∷ l) (take-append-drop s.piece.more bs)
spell_from labels text (suc skip) at index r (b ∷ bs) few all = spell_from labels text skip (at + 1) index r bs (omega (arith, few)) (omega (arith, all))

-- the pieces of a text spell it
pub spells : (labels : List (List ℕ)) (text : List ℕ) → spell text (cut_text labels text).pieces ≡ text
spells labels text = spell_from labels text 0 0 0 nothing_read text (omega arith) (omega arith)
