-- One piece after another.
use Rattle.std.proofs.Common.{◌≡◌, ℕ, ◌+◌, ◌<◌, ◌≤◌, List, [], ◌∷◌, ◌++◌, length, drop, map, get_or, refl, sym, ap, subst, ◌∙◌, append_assoc, false, None}
use Rattle.std.specs.Str.{IsCharBoundary}
use Rattle.std.proofs.lemmas.List.{drop_more, drop_all, append-nil}
use Rattle.std.proofs.lemmas.List.FromFn.{fill_by_all}
use Rattle.markdown_emphasis.specs.declared.runs.Pair.{Pair}
use Rattle.markdown_pieces.specs.declared.pieces.Kind.TheVariants.{Plain}
use Rattle.markdown_pieces.specs.declared.pieces.Piece.{Piece}
use Rattle.markdown_pieces.specs.Cut.{CutText}
use Rattle.markdown_pieces.specs.Places.{IsInside, AreCut}
use Rattle.markdown_inlines.specs.declared.links.Over.{Over}
use Rattle.markdown_inlines.specs.Inlines.{left_of}
use Rattle.markdown_inlines.specs.Left.{left_at}
use Rattle.markdown_inlines.specs.Links.{overs_of, untagged}
use Rattle.markdown_inline_events.specs.declared.spans.Span.{Span}
use Rattle.markdown_inline_events.specs.Contents.{EventContent}
use Rattle.markdown_inline_events.specs.Reading.{cut_events, events_from, piece_events}
use Rattle.markdown_inline_events.specs.Spans.{begun, ended, link_span, link_spans, spans_of, with_span}
use Rattle.markdown_inline_events.specs.Shares.{ShareContent, around_after, end_share, own_shares, piece_shares, placed}

-- what an index reads where there is none
abbrev pub no_piece : Piece
no_piece = record { kind = Plain; more = 0 }

-- what an index reads of links where there is nothing
abbrev pub no_over : Over
no_over = record { link = None; picture = None; opens = false; silent = false; tags = untagged }

-- the next piece, and those behind it
pub cut_next : (text : List ℕ) (at i : ℕ) (ps : List Piece) (d : Piece) → i < length ps → AreCut text at (drop i ps)
    → IsInside text at (get_or ps i d).kind × (at + (get_or ps i d).more < length text) × IsCharBoundary text (at + ((get_or ps i d).more + 1)) × AreCut text (at + ((get_or ps i d).more + 1)) (drop (i + 1) ps)
cut_next text at i ps d h cut = subst (λ (l : List Piece). AreCut text at l) (drop_more ps i d h) cut

-- the links from a piece on are its own, if it closes one, and those behind it
pub links_next : (index at : ℕ) (ps : List Piece) (d : Piece) → index < length ps
    → link_spans index at (drop index ps) ≡ with_span (link_span (get_or ps index d).kind index at (get_or ps index d).more) (link_spans (index + 1) (at + ((get_or ps index d).more + 1)) (drop (index + 1) ps))
unfolding link_spans
links_next index at ps d h = ap (link_spans index at) (drop_more ps index d h)

-- past the last piece all links are there
pub links_end : (index at : ℕ) (ps : List Piece) (now all : List Span) → length ps ≤ index → now ++ link_spans index at (drop index ps) ≡ all → now ≡ all
unfolding link_spans
links_end index at ps now all over h = sym (append-nil now) ∙ ap (λ (l : List Piece). now ++ link_spans index at l) (sym (drop_all index ps over)) ∙ h

events_cons : (text : List ℕ) (spans around : List Span) (at index : ℕ) (p : Piece) (n : ℕ) (o : Over) (ps : List Piece) (ns : List ℕ) (os : List Over)
    → events_from text spans around at index (p ∷ ps) (n ∷ ns) (o ∷ os)
    ≡ piece_events text spans around at index p n o ++ events_from text spans (around_after p.kind index (begun spans index) around) (at + (p.more + 1)) (index + 1) ps ns os
unfolding events_from
events_cons text spans around at index p n o ps ns os = refl

-- the events from a piece on are its own, and then those of the pieces behind it
pub events_next : (text : List ℕ) (spans around : List Span) (at i : ℕ) (ps : List Piece) (ns : List ℕ) (os : List Over) (dp : Piece) (dn : ℕ) (dv : Over) → i < length ps → i < length ns → i < length os
    → events_from text spans around at i (drop i ps) (drop i ns) (drop i os)
    ≡ piece_events text spans around at i (get_or ps i dp) (get_or ns i dn) (get_or os i dv)
    ++ events_from text spans (around_after (get_or ps i dp).kind i (begun spans i) around) (at + ((get_or ps i dp).more + 1)) (i + 1) (drop (i + 1) ps) (drop (i + 1) ns) (drop (i + 1) os)
events_next text spans around at i ps ns os dp dn dv hp hn ho =
    ap (λ (l : List Piece). events_from text spans around at i l (drop i ns) (drop i os)) (drop_more ps i dp hp)
    ∙ ap (λ (l : List ℕ). events_from text spans around at i (get_or ps i dp ∷ drop (i + 1) ps) l (drop i os)) (drop_more ns i dn hn)
    ∙ ap (λ (l : List Over). events_from text spans around at i (get_or ps i dp ∷ drop (i + 1) ps) (get_or ns i dn ∷ drop (i + 1) ns) l) (drop_more os i dv ho)
    ∙ events_cons text spans around at i (get_or ps i dp) (get_or ns i dn) (get_or os i dv) (drop (i + 1) ps) (drop (i + 1) ns) (drop (i + 1) os)

-- one part more joins those so far, and all stays the same
pub events_step : (now next part rest whole all : List EventContent) → whole ≡ part ++ rest → next ≡ now ++ part → now ++ whole ≡ all → next ++ rest ≡ all
events_step now next part rest whole all w n h = ap (λ (l : List EventContent). l ++ rest) n ∙ append_assoc now part rest ∙ ap (λ (l : List EventContent). now ++ l) (sym w) ∙ h

-- behind the last piece what is open ends
pub events_end : (text : List ℕ) (spans around : List Span) (at i : ℕ) (ps : List Piece) (ns : List ℕ) (os : List Over) → length ps ≤ i → events_from text spans around at i (drop i ps) ns os ≡ placed at at (map end_share around)
unfolding events_from
events_end text spans around at i ps ns os over = ap (λ (l : List Piece). events_from text spans around at i l ns os) (drop_all i ps over)

-- where each number is what is left of its piece, they are those of the definition
pub left_is : (pairs : List Pair) (pieces : List Piece) (left : List ℕ) → length left ≡ length pieces → ((k : ℕ) → get_or left k 0 ≡ left_at pairs pieces k) → left ≡ left_of pairs pieces
left_is pairs pieces left size at = fill_by_all (left_at pairs pieces) left (length pieces) 0 size (λ k h. at k)

-- one piece more: what it says joins the events so far, and all stays the same
pub pieces_step : (text : List ℕ) (spans around after began : List Span) (at i : ℕ) (ps : List Piece) (ns : List ℕ) (os : List Over) (p : Piece) (n : ℕ) (o : Over) (now next whole : List EventContent)
    → i < length ps → i < length ns → i < length os → p ≡ get_or ps i no_piece → n ≡ get_or ns i 0 → o ≡ get_or os i no_over → began ≡ begun spans i → after ≡ around_after p.kind i began around
    → next ≡ now ++ placed at (at + (p.more + 1)) (piece_shares p.kind (ended i around) (own_shares p.kind text at p.more n o.opens) began)
    → now ++ events_from text spans around at i (drop i ps) (drop i ns) (drop i os) ≡ whole → next ++ events_from text spans after (at + (p.more + 1)) (i + 1) (drop (i + 1) ps) (drop (i + 1) ns) (drop (i + 1) os) ≡ whole
pieces_step text spans around after began at i ps ns os p n o now next whole hp hn ho ep en eo b w e held =
    let rest : List EventContent = events_from text spans (around_after p.kind i (begun spans i) around) (at + (p.more + 1)) (i + 1) (drop (i + 1) ps) (drop (i + 1) ns) (drop (i + 1) os) in
    let cons : events_from text spans around at i (drop i ps) (drop i ns) (drop i os) ≡ piece_events text spans around at i p n o ++ rest =
    events_next text spans around at i ps ns os no_piece 0 no_over hp hn ho
    ∙ ap (λ (q : Piece). piece_events text spans around at i q (get_or ns i 0) (get_or os i no_over) ++ events_from text spans (around_after q.kind i (begun spans i) around) (at + (q.more + 1)) (i + 1) (drop (i + 1) ps) (drop (i + 1) ns) (drop (i + 1) os)) (sym ep)
    ∙ ap (λ (m : ℕ). piece_events text spans around at i p m (get_or os i no_over) ++ rest) (sym en) ∙ ap (λ (v : Over). piece_events text spans around at i p n v ++ rest) (sym eo) in
    ap (λ (l : List Span). next ++ events_from text spans l (at + (p.more + 1)) (i + 1) (drop (i + 1) ps) (drop (i + 1) ns) (drop (i + 1) os)) (w ∙ ap (λ (l : List Span). around_after p.kind i l around) b)
    ∙ events_step now next (piece_events text spans around at i p n o) rest (events_from text spans around at i (drop i ps) (drop i ns) (drop i os)) whole cons
    (e ∙ ap (λ (l : List Span). now ++ placed at (at + (p.more + 1)) (piece_shares p.kind (ended i around) (own_shares p.kind text at p.more n o.opens) l)) b) held

-- behind the last piece what is open ends, and then all events are there
pub pieces_end : (text : List ℕ) (spans around : List Span) (at i : ℕ) (ps : List Piece) (ns : List ℕ) (os : List Over) (now next whole : List EventContent) (shares : List ShareContent) → length ps ≤ i
    → shares ≡ map end_share around → next ≡ now ++ placed at at shares → now ++ events_from text spans around at i (drop i ps) ns os ≡ whole → next ≡ whole
pieces_end text spans around at i ps ns os now next whole shares past s e held =
    e ∙ ap (λ (l : List ShareContent). now ++ placed at at l) s ∙ ap (λ (l : List EventContent). now ++ l) (sym (events_end text spans around at i ps ns os past)) ∙ held

-- the lists that go with the pieces of a cut
pub events_all : (text : List ℕ) (cut : CutText) (spans : List Span) (ps : List Piece) (ns : List ℕ) (os : List Over) → spans ≡ spans_of cut.pairs cut.pieces → ps ≡ cut.pieces → ns ≡ left_of cut.pairs cut.pieces → os ≡ overs_of cut.pieces
    → events_from text spans [] 0 0 ps ns os ≡ cut_events cut text
events_all text cut spans ps ns os s p n o =
    ap (λ (l : List Span). events_from text l [] 0 0 ps ns os) s
    ∙ ap (λ (l : List Piece). events_from text (spans_of cut.pairs cut.pieces) [] 0 0 l ns os) p
    ∙ ap (λ (l : List ℕ). events_from text (spans_of cut.pairs cut.pieces) [] 0 0 cut.pieces l os) n
    ∙ ap (λ (l : List Over). events_from text (spans_of cut.pairs cut.pieces) [] 0 0 cut.pieces (left_of cut.pairs cut.pieces) l) o
