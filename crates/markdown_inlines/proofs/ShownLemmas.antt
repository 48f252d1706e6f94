-- One piece after another.
use Rattle.std.proofs.Common.{◌≡◌, ℕ, ◌+◌, ◌<◌, ◌≤◌, false, List, ◌∷◌, ◌++◌, length, drop, get_or, map, refl, sym, ap, subst, ◌∙◌, append_assoc, None}
use Rattle.std.specs.Str.{IsCharBoundary}
use Rattle.std.proofs.lemmas.List.{drop_more, drop_all, append-nil, map-append}
use Rattle.std.proofs.lemmas.List.FromFn.{fill_by_all}
use Rattle.markdown_emphasis.specs.declared.flags.Flags.{Flags}
use Rattle.markdown_emphasis.specs.declared.runs.Pair.{Pair}
use Rattle.markdown_emphasis.specs.Flags.{flags_of}
use Rattle.markdown_pieces.specs.declared.pieces.Piece.{Piece}
use Rattle.markdown_pieces.specs.Places.{IsInside, AreCut}
use Rattle.markdown_inlines.specs.declared.links.Over.{Over}
use Rattle.markdown_inlines.specs.declared.inlines.LinkTarget.{LinkTarget}
use Rattle.markdown_inlines.specs.declared.looks.Look.{Look}
use Rattle.markdown_inlines.specs.Styled.{Shown, shown_with}
use Rattle.markdown_pieces.specs.Cut.{CutText}
use Rattle.markdown_inlines.specs.Links.{untagged}
use Rattle.markdown_inlines.specs.Left.{left_at}
use Rattle.markdown_inlines.specs.Inlines.{shown_piece, shown_from, left_of, all_over, shown_cut, link_target, with_link, links_from}

shown_cons : (text : List ℕ) (at : ℕ) (p : Piece) (f : Flags) (n : ℕ) (o : Over) (ps : List Piece) (fs : List Flags) (ns : List ℕ) (os : List Over)
    → shown_from text at (p ∷ ps) (f ∷ fs) (n ∷ ns) (o ∷ os) ≡ shown_piece text at p f n o ++ shown_from text (at + (p.more + 1)) ps fs ns os
unfolding shown_from
shown_cons text at p f n o ps fs ns os = refl

-- what is shown from a piece on is what it shows, and then what those behind it do
pub shown_next : (text : List ℕ) (at i : ℕ) (ps : List Piece) (fs : List Flags) (ns : List ℕ) (os : List Over) (dp : Piece) (df : Flags) (dn : ℕ) (dv : Over) → i < length ps → i < length fs → i < length ns → i < length os
    → shown_from text at (drop i ps) (drop i fs) (drop i ns) (drop i os)
    ≡ shown_piece text at (get_or ps i dp) (get_or fs i df) (get_or ns i dn) (get_or os i dv) ++ shown_from text (at + ((get_or ps i dp).more + 1)) (drop (i + 1) ps) (drop (i + 1) fs) (drop (i + 1) ns) (drop (i + 1) os)
shown_next text at i ps fs ns os dp df dn dv hp hf hn ho =
    ap (λ (l : List Piece). shown_from text at l (drop i fs) (drop i ns) (drop i os)) (drop_more ps i dp hp)
    ∙ ap (λ (l : List Flags). shown_from text at (get_or ps i dp ∷ drop (i + 1) ps) l (drop i ns) (drop i os)) (drop_more fs i df hf)
    ∙ ap (λ (l : List ℕ). shown_from text at (get_or ps i dp ∷ drop (i + 1) ps) (get_or fs i df ∷ drop (i + 1) fs) l (drop i os)) (drop_more ns i dn hn)
    ∙ ap (λ (l : List Over). shown_from text at (get_or ps i dp ∷ drop (i + 1) ps) (get_or fs i df ∷ drop (i + 1) fs) (get_or ns i dn ∷ drop (i + 1) ns) l) (drop_more os i dv ho)
    ∙ shown_cons text at (get_or ps i dp) (get_or fs i df) (get_or ns i dn) (get_or os i dv) (drop (i + 1) ps) (drop (i + 1) fs) (drop (i + 1) ns) (drop (i + 1) os)

-- what one part shows joins what is shown so far, and all stays the same
pub shown_step : (now next part rest whole all : List Shown) → whole ≡ part ++ rest → next ≡ now ++ part → now ++ whole ≡ all → next ++ rest ≡ all
shown_step now next part rest whole all w n h = ap (λ (l : List Shown). l ++ rest) n ∙ append_assoc now part rest ∙ ap (λ (l : List Shown). now ++ l) (sym w) ∙ h

-- two texts of one look that are shown one after the other are shown as one
pub one_more : (look : Look) (now next last : List Shown) (own name : List ℕ) → next ≡ now ++ map (shown_with look) own → last ≡ next ++ map (shown_with look) name → last ≡ now ++ map (shown_with look) (own ++ name)
one_more look now next last own name n l =
    l ∙ ap (λ (s : List Shown). s ++ map (shown_with look) name) n ∙ append_assoc now (map (shown_with look) own) (map (shown_with look) name)
    ∙ ap (λ (s : List Shown). now ++ s) (sym (map-append (shown_with look) own name))

-- past the last piece all is shown
pub shown_end : (text : List ℕ) (at i : ℕ) (ps : List Piece) (fs : List Flags) (ns : List ℕ) (os : List Over) (now all : List Shown) → length ps ≤ i → now ++ shown_from text at (drop i ps) fs ns os ≡ all → now ≡ all
unfolding shown_from
shown_end text at i ps fs ns os now all over h = sym (append-nil now) ∙ ap (λ (l : List Piece). now ++ shown_from text at l fs ns os) (sym (drop_all i ps over)) ∙ h

-- the links from a piece on are its own, if it has one, and those behind it
pub links_next : (at i : ℕ) (ps : List Piece) (d : Piece) → i < length ps → links_from at (drop i ps) ≡ with_link (link_target (get_or ps i d).kind at (get_or ps i d).more) (links_from (at + ((get_or ps i d).more + 1)) (drop (i + 1) ps))
unfolding links_from
links_next at i ps d h = ap (links_from at) (drop_more ps i d h)

-- past the last piece all links are there
pub links_end : (at i : ℕ) (ps : List Piece) (now all : List LinkTarget) → length ps ≤ i → now ++ links_from at (drop i ps) ≡ all → now ≡ all
unfolding links_from
links_end at i ps now all over h = sym (append-nil now) ∙ ap (λ (l : List Piece). now ++ links_from at l) (sym (drop_all i ps over)) ∙ h

-- the next piece, and those behind it
pub cut_next : (text : List ℕ) (at i : ℕ) (ps : List Piece) (d : Piece) → i < length ps → AreCut text at (drop i ps)
    → IsInside text at (get_or ps i d).kind × (at + (get_or ps i d).more < length text) × IsCharBoundary text (at + ((get_or ps i d).more + 1)) × AreCut text (at + ((get_or ps i d).more + 1)) (drop (i + 1) ps)
cut_next text at i ps d h cut = subst (λ (l : List Piece). AreCut text at l) (drop_more ps i d h) cut

-- what an index reads where there is nothing
abbrev pub no_flags : Flags
no_flags = record { bold = false; italic = false; strikeout = false }

-- what an index reads of links where there is nothing
abbrev pub no_over : Over
no_over = record { link = None; picture = None; opens = false; silent = false; tags = untagged }

-- the lists that go with the pieces of a cut
pub shown_all : (text : List ℕ) (cut : CutText) (ps : List Piece) (fs : List Flags) (ns : List ℕ) (os : List Over) → ps ≡ cut.pieces → fs ≡ flags_of (length cut.pieces) cut.pairs → ns ≡ left_of cut.pairs cut.pieces → os ≡ all_over cut.pieces
    → shown_from text 0 ps fs ns os ≡ shown_cut cut text
shown_all text cut ps fs ns os p f n o =
    ap (λ (l : List Piece). shown_from text 0 l fs ns os) p
    ∙ ap (λ (l : List Flags). shown_from text 0 cut.pieces l ns os) f
    ∙ ap (λ (l : List ℕ). shown_from text 0 cut.pieces (flags_of (length cut.pieces) cut.pairs) l os) n
    ∙ ap (λ (l : List Over). shown_from text 0 cut.pieces (flags_of (length cut.pieces) cut.pairs) (left_of cut.pairs cut.pieces) l) o

-- where each number is what is left of its piece, they are those of the definition
pub left_is : (pairs : List Pair) (pieces : List Piece) (left : List ℕ) → length left ≡ length pieces → ((k : ℕ) → get_or left k 0 ≡ left_at pairs pieces k) → left ≡ left_of pairs pieces
left_is pairs pieces left size at = fill_by_all (left_at pairs pieces) left (length pieces) 0 size (λ k h. at k)
