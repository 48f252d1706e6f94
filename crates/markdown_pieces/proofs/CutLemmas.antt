-- One piece after another.
use Rattle.std.proofs.Common.{◌≡◌, ℕ, zero, suc, ◌+◌, ◌<◌, ◌≤◌, List, [], ◌∷◌, ◌++◌, length, drop, get_or, refl, sym, ap, ◌∙◌, arith, append_assoc}
use Rattle.std.proofs.lemmas.List.{drop_more, drop_all, drop-drop, append-nil}
use Rattle.markdown_brackets.specs.Brackets.{Reading}
use Rattle.markdown_pieces.specs.declared.pieces.Piece.{Piece}
use Rattle.markdown_pieces.specs.Cut.{Step, step, Pieces, onto, cut_from}

-- pieces, and then others
abbrev pub with_front : List Piece → Pieces → Pieces
with_front ps c = record { pieces = ps ++ c.pieces; reading = c.reading }

-- the piece in front stands before those that are cut behind it
pub cut_cons : (labels : List (List ℕ)) (text : List ℕ) (at index : ℕ) (r : Reading) (b : ℕ) (bs : List ℕ)
    → cut_from labels text 0 at index r (b ∷ bs) ≡ onto (step labels text at index r (b ∷ bs)).piece (cut_from labels text (step labels text at index r (b ∷ bs)).piece.more (at + 1) (index + 1) (step labels text at index r (b ∷ bs)).reading bs)
unfolding cut_from
cut_cons labels text at index r b bs = refl

-- bytes of the last piece
pub cut_skip : (labels : List (List ℕ)) (text : List ℕ) (skip at to index : ℕ) (r : Reading) (bs : List ℕ) → to ≡ at + skip → cut_from labels text skip at index r bs ≡ cut_from labels text 0 to index r (drop skip bs)
unfolding cut_from
cut_skip labels text zero at to index r bs e = ap (λ k. cut_from labels text 0 k index r bs) (omega (arith, e))
cut_skip labels text (suc skip) at to index r [] e = refl
cut_skip labels text (suc skip) at to index r (b ∷ bs) e = cut_skip labels text skip (at + 1) to index r bs (omega (arith, e))

with_more : (ps : List Piece) (p : Piece) (c : Pieces) → with_front ps (onto p c) ≡ with_front (ps ++ p ∷ []) c
with_more ps p c = ap (λ (l : List Piece). record { pieces = l; reading = c.reading }) (sym (append_assoc ps (p ∷ []) c.pieces))

-- one more piece is cut, and all pieces are the same
pub cut_step : (labels : List (List ℕ)) (text : List ℕ) (at to index next d : ℕ) (r : Reading) (ps qs : List Piece) (s : Step) → at < length text → s ≡ step labels text at index r (drop at text)
    → to ≡ at + (s.piece.more + 1) → next ≡ index + 1 → qs ≡ ps ++ s.piece ∷ []
    → with_front qs (cut_from labels text 0 to next s.reading (drop to text)) ≡ with_front ps (cut_from labels text 0 at index r (drop at text))
cut_step labels text at to index next d r ps qs s within is e n q =
    let b : ℕ = get_or text at d in
    let bs : List ℕ = drop (at + 1) text in
    let here : drop at text ≡ b ∷ bs = drop_more text at d within in
    let done : s ≡ step labels text at index r (b ∷ bs) = is ∙ ap (step labels text at index r) here in
    let after : Step → Pieces = λ t. onto t.piece (cut_from labels text t.piece.more (at + 1) (index + 1) t.reading bs) in
    let first : cut_from labels text 0 at index r (drop at text) ≡ after s = ap (cut_from labels text 0 at index r) here ∙ cut_cons labels text at index r b bs ∙ ap after (sym done) in
    let skipped : cut_from labels text s.piece.more (at + 1) (index + 1) s.reading bs ≡ cut_from labels text 0 to (index + 1) s.reading (drop s.piece.more bs) =
    cut_skip labels text s.piece.more (at + 1) to (index + 1) s.reading bs (omega (arith, e)) in
    let dropped : drop s.piece.more bs ≡ drop to text = drop-drop s.piece.more (at + 1) text ∙ ap (λ k. drop k text) (omega (arith, e)) in
    ap (λ (l : List Piece). with_front l (cut_from labels text 0 to next s.reading (drop to text))) q
    ∙ sym (with_more ps s.piece (cut_from labels text 0 to next s.reading (drop to text)))
    ∙ ap (λ k. with_front ps (onto s.piece (cut_from labels text 0 to k s.reading (drop to text)))) n
    ∙ ap (λ (l : List ℕ). with_front ps (onto s.piece (cut_from labels text 0 to (index + 1) s.reading l))) (sym dropped)
    ∙ ap (λ (c : Pieces). with_front ps (onto s.piece c)) (sym skipped)
    ∙ ap (with_front ps) (sym first)

-- nothing is left
pub cut_end : (labels : List (List ℕ)) (text : List ℕ) (at index : ℕ) (r : Reading) (ps : List Piece) → length text ≤ at → with_front ps (cut_from labels text 0 at index r (drop at text)) ≡ record { pieces = ps; reading = r }
unfolding cut_from
cut_end labels text at index r ps over =
    ap (λ (l : List ℕ). with_front ps (cut_from labels text 0 at index r l)) (drop_all at text over) ∙ ap (λ (l : List Piece). record { pieces = l; reading = r }) (append-nil ps)
