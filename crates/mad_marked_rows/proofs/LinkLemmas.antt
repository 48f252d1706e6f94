-- What is written of pieces with links, in steps.
use Rattle.std.proofs.Common.{◌≡◌, ℕ, List, [], ◌∷◌, ◌++◌, map, Option, None, refl, sym, ap, ◌∙◌, append_assoc, append-nil}
use Rattle.mad_term.specs.Styles.{piece_bytes}
use Rattle.mad_draw.specs.Pieces.{RowPiece, pieces_bytes}
use Rattle.mad_links.specs.LinkRows.{LinkedPiece, change_bytes, linked_bytes, linked_bytes_from, written_link}
use Rattle.mad_links.specs.LinkedAreas.{in_no_link}
use Rattle.mad_marked_rows.specs.LinkedTexts.{piece_on, pieces_on}

-- pieces behind others, in two steps
pub on_both : (a : List (Option (List ℕ))) (row : List ℕ × Option ℕ) (ps qs : List LinkedPiece) → pieces_on a row (ps ++ qs) ≡ pieces_on a (pieces_on a row ps) qs
on_both a row [] qs = refl
on_both a row (p ∷ ps) qs = on_both a (piece_on a row p) ps qs

-- with the end of the last link they are `linked_bytes`
pub on_end : (a : List (Option (List ℕ))) (row : List ℕ × Option ℕ) (ps : List LinkedPiece) → (pieces_on a row ps).0 ++ change_bytes a (pieces_on a row ps).1 None ≡ row.0 ++ linked_bytes_from a row.1 ps
on_end a row [] = refl
on_end a row (p ∷ ps) =
    let change = change_bytes a row.1 (written_link a p.link) in
    let own = piece_bytes p.style p.text in
    let rest = linked_bytes_from a (written_link a p.link) ps in
    on_end a (piece_on a row p) ps ∙ append_assoc row.0 (change ++ own) rest ∙ ap (λ l. row.0 ++ l) (append_assoc change own rest)

-- a piece in front of others
piece_in_front : (change own rest more : List ℕ) → change ++ (own ++ (rest ++ more)) ≡ (change ++ (own ++ rest)) ++ more
piece_in_front change own rest more = ap (λ l. change ++ l) (sym (append_assoc own rest more)) ∙ sym (append_assoc change (own ++ rest) more)

-- ---- pieces in no link

-- in front of others
pub plain_then : (a : List (Option (List ℕ))) (ps : List RowPiece) (qs : List LinkedPiece) → linked_bytes a (map in_no_link ps ++ qs) ≡ pieces_bytes ps ++ linked_bytes a qs
plain_then a [] qs = refl
plain_then a (p ∷ ps) qs = ap (λ l. piece_bytes p.style p.text ++ l) (plain_then a ps qs) ∙ sym (append_assoc (piece_bytes p.style p.text) (pieces_bytes ps) (linked_bytes a qs))

plain_end : (a : List (Option (List ℕ))) (was : Option ℕ) (ps : List RowPiece) → linked_bytes_from a was (map in_no_link ps) ≡ change_bytes a was None ++ pieces_bytes ps
plain_end a was [] = sym (append-nil (change_bytes a was None))
plain_end a was (p ∷ ps) = ap (λ l. change_bytes a was None ++ (piece_bytes p.style p.text ++ l)) (plain_end a None ps)

-- and behind them: the last link is closed where they begin
pub then_plain : (a : List (Option (List ℕ))) (was : Option ℕ) (qs : List LinkedPiece) (ps : List RowPiece) → linked_bytes_from a was (qs ++ map in_no_link ps) ≡ linked_bytes_from a was qs ++ pieces_bytes ps
then_plain a was [] ps = plain_end a was ps
then_plain a was (q ∷ qs) ps =
    let change = change_bytes a was (written_link a q.link) in
    let own = piece_bytes q.style q.text in
    ap (λ l. change ++ (own ++ l)) (then_plain a (written_link a q.link) qs ps) ∙ piece_in_front change own (linked_bytes_from a (written_link a q.link) qs) (pieces_bytes ps)

-- so what begins with such a piece can be written for itself
pub then_border : (a : List (Option (List ℕ))) (was : Option ℕ) (ps : List LinkedPiece) (q : RowPiece) (qs : List LinkedPiece) → linked_bytes_from a was (ps ++ in_no_link q ∷ qs) ≡ linked_bytes_from a was ps ++ linked_bytes a (in_no_link q ∷ qs)
then_border a was [] q qs = refl
then_border a was (p ∷ ps) q qs =
    let change = change_bytes a was (written_link a p.link) in
    let own = piece_bytes p.style p.text in
    ap (λ l. change ++ (own ++ l)) (then_border a (written_link a p.link) ps q qs) ∙ piece_in_front change own (linked_bytes_from a (written_link a p.link) ps) (linked_bytes a (in_no_link q ∷ qs))
