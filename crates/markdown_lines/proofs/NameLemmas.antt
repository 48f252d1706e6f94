-- The names of pieces, one after the other.
use Rattle.std.proofs.Common.{◌≡◌, ℕ, ◌+◌, ◌<◌, ◌≤◌, List, [], ◌∷◌, ◌++◌, length, drop, get_or, sym, ap, subst, ◌∙◌, append_assoc, append-nil}
use Rattle.std.proofs.lemmas.List.{drop_more, drop_all}
use Rattle.markdown_pieces.specs.Places.{AreCut}
use Rattle.markdown_pieces.specs.declared.pieces.Kind.TheVariants.{Plain}
use Rattle.markdown_pieces.specs.declared.pieces.Piece.{Piece}
use Rattle.markdown_lines.specs.Names.{piece_names, names_from}

-- what an index reads where there is nothing
abbrev pub no_piece : Piece
no_piece = record { kind = Plain; more = 0 }

-- the piece at an index lies within the text, and behind it the text is cut too
pub piece_cut : (text : List ℕ) (at i : ℕ) (ps : List Piece) → i < length ps → AreCut text at (drop i ps)
    → (at + (get_or ps i no_piece).more < length text) × AreCut text (at + ((get_or ps i no_piece).more + 1)) (drop (i + 1) ps)
piece_cut text at i ps within cut = let cons = subst (λ (l : List Piece). AreCut text at l) (drop_more ps i no_piece within) cut in (cons.1, cons.3)

-- a piece gives its names, and all stay the same
pub names_more : (text : List ℕ) (at i : ℕ) (ps : List Piece) (now next all : List (List ℕ)) → i < length ps → next ≡ now ++ piece_names text at (get_or ps i no_piece)
    → now ++ names_from text at (drop i ps) ≡ all → next ++ names_from text (at + ((get_or ps i no_piece).more + 1)) (drop (i + 1) ps) ≡ all
unfolding names_from
names_more text at i ps now next all within pushed h =
    let behind : List (List ℕ) = names_from text (at + ((get_or ps i no_piece).more + 1)) (drop (i + 1) ps) in
    ap (λ (l : List (List ℕ)). l ++ behind) pushed ∙ append_assoc now (piece_names text at (get_or ps i no_piece)) behind
    ∙ ap (λ (l : List Piece). now ++ names_from text at l) (sym (drop_more ps i no_piece within)) ∙ h

-- past the last piece all names are there
pub names_end : (text : List ℕ) (at i : ℕ) (ps : List Piece) (now all : List (List ℕ)) → length ps ≤ i → now ++ names_from text at (drop i ps) ≡ all → now ≡ all
unfolding names_from
names_end text at i ps now all over h = sym (append-nil now) ∙ ap (λ (l : List Piece). now ++ names_from text at l) (sym (drop_all i ps over)) ∙ h
