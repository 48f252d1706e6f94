-- Characters with their links, one after the other.
use Rattle.std.proofs.Common.{◌≡◌, ℕ, ◌+◌, ◌<◌, ◌≤◌, List, [], ◌∷◌, ◌++◌, map, length, drop, get_or, Option, None, sym, ap, ◌∙◌, append_assoc}
use Rattle.std.proofs.lemmas.List.{at_drop_more, drop_all}
use Rattle.mad_term.specs.Styles.{piece_bytes}
use Rattle.mad_links.specs.LinkRows.{LinkedPiece, change_bytes, linked_bytes}
use Rattle.mad_marked_rows.specs.LinkedTexts.{mark_link, pieces_on}
use Rattle.mad_marked_rows.proofs.LinkLemmas.{on_end}
use Rattle.mad_marked_rows.specs.Written.{seen_link}
use Rattle.mad_marked_rows.specs.declared.seen.SeenChar.{SeenChar}

-- a character behind others, by what the code found
pub one_on : (a : List (Option (List ℕ))) (s : SeenChar) (old one new : List ℕ) (was link : Option ℕ) → link ≡ mark_link a s.value → one ≡ old ++ change_bytes a was link → new ≡ one ++ piece_bytes (seen_link s).style (seen_link s).text
    → pieces_on a (old, was) (seen_link s ∷ []) ≡ (new, link)
one_on a s old one new was link link_is one_is is =
    let own = piece_bytes (seen_link s).style (seen_link s).text in
    ap (λ (k : Option ℕ). let x : List ℕ × Option ℕ = (old ++ (change_bytes a was k ++ own), k) in x) (sym link_is)
    ∙ ap (λ (l : List ℕ). let x : List ℕ × Option ℕ = (l, link) in x) (sym (append_assoc old (change_bytes a was link) own) ∙ ap (λ l. l ++ own) (sym one_is) ∙ sym is)

-- one more of several
pub seen_gone : (a : List (Option (List ℕ))) (row next all : List ℕ × Option ℕ) (ss : List SeenChar) (i : ℕ) (d : SeenChar) → i < length ss → pieces_on a row (seen_link (get_or ss i d) ∷ []) ≡ next
    → pieces_on a row (map seen_link (drop i ss)) ≡ all → pieces_on a next (map seen_link (drop (i + 1) ss)) ≡ all
seen_gone a row next all ss i d h is before =
    ap (λ r. pieces_on a r (map seen_link (drop (i + 1) ss))) (sym is) ∙ sym (at_drop_more (λ l. pieces_on a row (map seen_link l)) ss i d h) ∙ before

-- none is left: the last link is closed
pub seen_done : (a : List (Option (List ℕ))) (row : List ℕ × Option ℕ) (old new : List ℕ) (said : List LinkedPiece) (ss : List SeenChar) (i : ℕ) → length ss ≤ i → pieces_on a row (map seen_link (drop i ss)) ≡ pieces_on a (old, None) said
    → new ≡ row.0 ++ change_bytes a row.1 None → new ≡ old ++ linked_bytes a said
seen_done a row old new said ss i h before is =
    is ∙ ap (λ (r : List ℕ × Option ℕ). r.0 ++ change_bytes a r.1 None) (sym (ap (λ l. pieces_on a row (map seen_link l)) (drop_all i ss h)) ∙ before) ∙ on_end a (old, None) said
