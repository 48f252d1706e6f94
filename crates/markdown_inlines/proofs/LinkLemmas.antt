-- Links, from the last piece back.
use Rattle.std.proofs.Common.{◌≡◌, ℕ, zero, suc, ◌+◌, ◌<◌, ◌≤◌, List, [], ◌∷◌, length, drop, get_or, refl, sym, ap, ◌∙◌, arith}
use Rattle.std.proofs.lemmas.List.{drop_more}
use Rattle.markdown_pieces.specs.declared.pieces.Kind.TheVariants.{Plain}
use Rattle.markdown_pieces.specs.declared.pieces.Piece.{Piece}
use Rattle.markdown_inlines.specs.declared.links.Over.{Over}
use Rattle.markdown_inlines.specs.declared.links.Ahead.{Ahead}
use Rattle.markdown_inlines.specs.Links.{links_in, link_count, over_of, stepped_back, one_back, overs_from}

-- what an index reads where there is none
abbrev pub no_piece : Piece
no_piece = record { kind = Plain; more = 0 }

-- the links from a piece on are its own and those behind it
pub count_cons : (pieces : List Piece) (i : ℕ) (d : Piece) → i < length pieces → link_count (drop i pieces) ≡ links_in (get_or pieces i d).kind + link_count (drop (i + 1) pieces)
unfolding link_count
count_cons pieces i d h = ap link_count (drop_more pieces i d h)

-- behind the last piece there is no link
pub count_nil : (pieces : List Piece) → link_count (drop (length pieces) pieces) ≡ 0
unfolding link_count
count_nil [] = refl
count_nil (p ∷ ps) = count_nil ps

-- no more behind than there are
pub count_drop : (pieces : List Piece) (i : ℕ) → link_count (drop i pieces) ≤ link_count pieces
unfolding link_count
count_drop pieces zero = omega arith
count_drop [] (suc i) = omega arith
count_drop (p ∷ ps) (suc i) = let less : link_count (drop i ps) ≤ link_count ps = count_drop ps i in omega (arith, less)

-- behind the last piece no link is over anything
pub overs_nil : (pieces : List Piece) (index number : ℕ) → overs_from index number (drop (length pieces) pieces) ≡ record { overs = []; ahead = [] }
unfolding overs_from
overs_nil [] index number = refl
overs_nil (p ∷ ps) index number = overs_nil ps index number

overs_cons : (index number : ℕ) (p : Piece) (ps : List Piece) → overs_from index number (p ∷ ps) ≡ one_back index number p.kind (overs_from (index + 1) (number + links_in p.kind) ps)
unfolding overs_from
overs_cons index number p ps = refl

-- a step back to the piece before adds what links have to do with it
pub back_step : (pieces : List Piece) (i index number less : ℕ) (d : Piece) (o next : List Over) (a after : List Ahead) → index ≡ i + 1 → i < length pieces → number ≡ less + links_in (get_or pieces i d).kind
    → record { overs = o; ahead = a } ≡ overs_from index number (drop index pieces) → next ≡ over_of i less (get_or pieces i d).kind a ∷ o → after ≡ stepped_back i less (get_or pieces i d).kind a
    → record { overs = next; ahead = after } ≡ overs_from i less (drop i pieces)
back_step pieces i index number less d o next a after e h n held x y =
    let p : Piece = get_or pieces i d in
    let whole : overs_from i less (drop i pieces) ≡ one_back i less p.kind (overs_from (i + 1) (less + links_in p.kind) (drop (i + 1) pieces)) =
    ap (overs_from i less) (drop_more pieces i d h) ∙ overs_cons i less p (drop (i + 1) pieces) in
    let same : overs_from (i + 1) (less + links_in p.kind) (drop (i + 1) pieces) ≡ overs_from index number (drop index pieces) =
    ap (λ k. overs_from k (less + links_in p.kind) (drop k pieces)) (sym e) ∙ ap (λ k. overs_from index k (drop index pieces)) (sym n) in
    ap (λ (l : List Over). record { overs = l; ahead = after }) x ∙ ap (λ (l : List Ahead). record { overs = over_of i less p.kind a ∷ o; ahead = l }) y
    ∙ ap (one_back i less p.kind) held ∙ sym (whole ∙ ap (one_back i less p.kind) same)

-- what links have to do with a piece is said once of each
pub overs_length : (index number : ℕ) (ps : List Piece) → length (overs_from index number ps).overs ≡ length ps
unfolding overs_from
overs_length index number [] = refl
overs_length index number (p ∷ ps) = ap suc (overs_length (index + 1) (number + links_in p.kind) ps)
