-- Events nest.
use Rattle.std.proofs.Common.{◌≡◌, ℕ, suc, eqb, ◌+◌, Bool, true, false, if◌then◌else◌, List, [], ◌∷◌, ◌++◌, length, map, min, ◌-◌, reverse, Option, Some, None, refl, sym, ap, subst, ◌∙◌, append_assoc, arith}
use Rattle.std.specs.List.{filter}
use Rattle.std.proofs.lemmas.List.{map-append, reverse-append, reverse-reverse}
use Rattle.std.proofs.lemmas.List.FromFn.{length-map-range_with_len}
use Rattle.markdown_emphasis.specs.declared.runs.Run.{Run}
use Rattle.markdown_brackets.specs.declared.brackets.Link.{Link}
use Rattle.markdown_pieces.specs.declared.pieces.Kind.{Kind}
use Rattle.markdown_pieces.specs.declared.pieces.Kind.TheVariants.{Plain, Shown, Code, Address, Bare, Html, Soft, Hard, Run as RunKind, Opening, Closing}
use Rattle.markdown_pieces.specs.declared.pieces.Piece.{Piece}
use Rattle.markdown_pieces.specs.Cut.{CutText, cut_text}
use Rattle.markdown_inlines.specs.declared.links.Over.{Over}
use Rattle.markdown_inlines.specs.Inlines.{left_of}
use Rattle.markdown_inlines.specs.Left.{left_at}
use Rattle.markdown_inlines.specs.Parts.{sign_char}
use Rattle.markdown_inlines.specs.Links.{overs_of}
use Rattle.markdown_inline_events.specs.declared.events.InlineTag.{InlineTag}
use Rattle.markdown_inline_events.specs.declared.spans.Span.{Span}
use Rattle.markdown_inline_events.specs.Contents.{InlineContent, start, marks, EventContent}
use Rattle.markdown_inline_events.specs.Laws.{InlinesNest, LeadsTo, inline_in}
use Rattle.markdown_inline_events.specs.Reading.{events_from}
use Rattle.markdown_inline_events.specs.Shares.{ShareContent, around_after, closing_shares, end_share, is_mark, marks_shares, opening_shares, own_shares, piece_shares, placed, share, start_share}
use Rattle.markdown_inline_events.specs.Spans.{begins_at, begun, ended, spans_of, still_open}
use Rattle.markdown_inline_events.proofs.AroundLemmas.{around_parts}
use Rattle.markdown_inline_events.proofs.ShownLemmas.{overs_length}

abbrev tag_of : Span → InlineTag
tag_of span = span.tag

abbrev said : ShareContent → InlineContent
said s = s.inline

placed_said : (at stop : ℕ) (ss : List ShareContent) → map inline_in (placed at stop ss) ≡ map said ss
unfolding placed
placed_said at stop [] = refl
placed_said at stop (s ∷ ss) = ap (λ (l : List InlineContent). s.inline ∷ l) (placed_said (at + min s.bytes (stop - at)) stop ss)

-- ---- ends and beginnings

leads_ends : (own others : List Span) (rest : List InlineContent) (after : List InlineTag) → LeadsTo (map tag_of others) rest after → LeadsTo (map tag_of (own ++ others)) (map said (map end_share own) ++ rest) after
leads_ends [] others rest after h = h
leads_ends (s ∷ own) others rest after h = (refl, leads_ends own others rest after h)

all_end : (around : List Span) → LeadsTo (map tag_of around) (map said (map end_share around)) []
all_end [] = refl
all_end (s ∷ around) = (refl, all_end around)

last_start : (span : Span) (spans : List Span) (rest : List InlineContent) → map said (map start_share (reverse (span ∷ spans))) ++ rest ≡ map said (map start_share (reverse spans)) ++ start span.tag ∷ rest
last_start span spans rest =
    ap (λ (l : List Span). map said (map start_share l) ++ rest) (reverse-append (span ∷ []) spans)
    ∙ ap (λ (l : List ShareContent). map said l ++ rest) (map-append start_share (reverse spans) (span ∷ []))
    ∙ ap (λ (l : List InlineContent). l ++ rest) (map-append said (map start_share (reverse spans)) (start_share span ∷ []))
    ∙ append_assoc (map said (map start_share (reverse spans))) (start span.tag ∷ []) rest

leads_starts : (spans others : List Span) (rest : List InlineContent) (after : List InlineTag) → LeadsTo (map tag_of (spans ++ others)) rest after → LeadsTo (map tag_of others) (map said (map start_share (reverse spans)) ++ rest) after
leads_starts [] others rest after h = h
leads_starts (span ∷ spans) others rest after h =
    subst (λ (l : List InlineContent). LeadsTo (map tag_of others) l after) (sym (last_start span spans rest)) (leads_starts spans others (start span.tag ∷ rest) after h)

-- ---- a piece

some_lead : (b : Bool) (c n : ℕ) (around : List InlineTag) (rest : List InlineContent) (after : List InlineTag) → LeadsTo around rest after → LeadsTo around (map said (if b then [] else share (marks c n) n ∷ []) ++ rest) after
some_lead true c n around rest after h = h
some_lead false c n around rest after h = h

marks_lead : (run : Run) (n : ℕ) (around : List InlineTag) (rest : List InlineContent) (after : List InlineTag) → LeadsTo around rest after → LeadsTo around (map said (marks_shares run n) ++ rest) after
marks_lead run n around rest after h = some_lead (eqb n 0) (sign_char run.sign) n around rest after h

opening_leads : (image opens : Bool) (around : List InlineTag) (rest : List InlineContent) (after : List InlineTag) → LeadsTo around rest after → LeadsTo around (map said (opening_shares image opens) ++ rest) after
opening_leads image true around rest after h = h
opening_leads true false around rest after h = h
opening_leads false false around rest after h = h

closing_leads : (link : Option Link) (around : List InlineTag) (rest : List InlineContent) (after : List InlineTag) → LeadsTo around rest after → LeadsTo around (map said (closing_shares link) ++ rest) after
closing_leads None around rest after h = h
closing_leads (Some link) around rest after h = h

own_leads : (kind : Kind) (t : List ℕ) (at more n : ℕ) (opens : Bool) (around : List InlineTag) (rest : List InlineContent) (after : List InlineTag) → LeadsTo around rest after
    → LeadsTo around (map said (own_shares kind t at more n opens) ++ rest) after
own_leads Plain t at more n opens around rest after h = h
own_leads (Shown c second) t at more n opens around rest after h = h
own_leads (Code span) t at more n opens around rest after h = h
own_leads (Address len scheme) t at more n opens around rest after h = (refl, h)
own_leads (Bare scheme) t at more n opens around rest after h = (refl, h)
own_leads (Html shown) t at more n opens around rest after h = h
own_leads Soft t at more n opens around rest after h = h
own_leads Hard t at more n opens around rest after h = h
own_leads (RunKind run) t at more n opens around rest after h = marks_lead run n around rest after h
own_leads (Opening image) t at more n opens around rest after h = opening_leads image opens around rest after h
own_leads (Closing link) t at more n opens around rest after h = closing_leads link around rest after h

three_said : (xs ys zs : List ShareContent) (rest : List InlineContent) → map said (xs ++ (ys ++ zs)) ++ rest ≡ map said xs ++ (map said ys ++ (map said zs ++ rest))
three_said xs ys zs rest =
    ap (λ (l : List InlineContent). l ++ rest) (map-append said xs (ys ++ zs) ∙ ap (λ (l : List InlineContent). map said xs ++ l) (map-append said ys zs))
    ∙ append_assoc (map said xs) (map said ys ++ map said zs) rest ∙ ap (λ (l : List InlineContent). map said xs ++ l) (append_assoc (map said ys) (map said zs) rest)

piece_leads : (b : Bool) (index : ℕ) (around spans : List Span) (own : List ShareContent) (rest : List InlineContent)
    → ((tags : List InlineTag) (more : List InlineContent) → LeadsTo tags more [] → LeadsTo tags (map said own ++ more) [])
    → LeadsTo (map tag_of (if b then reverse (reverse spans) ++ still_open index around else around)) rest []
    → LeadsTo (map tag_of around) (map said (if b then map end_share (ended index around) ++ (own ++ map start_share (reverse spans)) else own) ++ rest) []
piece_leads false index around spans own rest o h = o (map tag_of around) rest h
piece_leads true index around spans own rest o h =
    let still : List Span = still_open index around in
    let starts : List InlineContent = map said (map start_share (reverse spans)) ++ rest in
    let begun : LeadsTo (map tag_of still) starts [] = leads_starts spans still rest [] (subst (λ (l : List Span). LeadsTo (map tag_of (l ++ still)) rest []) (reverse-reverse spans) h) in
    let all : LeadsTo (map tag_of (ended index around ++ still)) (map said (map end_share (ended index around)) ++ (map said own ++ starts)) [] =
    leads_ends (ended index around) still (map said own ++ starts) [] (o (map tag_of still) starts begun) in
    subst (λ (l : List InlineContent). LeadsTo (map tag_of around) l []) (sym (three_said (map end_share (ended index around)) own (map start_share (reverse spans)) rest))
    (subst (λ (l : List Span). LeadsTo (map tag_of l) (map said (map end_share (ended index around)) ++ (map said own ++ starts)) []) (around_parts index around) all)

-- ---- all pieces

no_more : (n : ℕ) → 0 ≡ suc n → ⊥
no_more n e = omega (arith, e)

same_rest : (n m : ℕ) → suc n ≡ suc m → n ≡ m
same_rest n m e = omega (arith, e)

events_lead : (t : List ℕ) (spans around : List Span) (at index : ℕ) (ps : List Piece) (ns : List ℕ) (os : List Over) → length ns ≡ length ps → length os ≡ length ps
    → LeadsTo (map tag_of around) (map inline_in (events_from t spans around at index ps ns os)) []
unfolding events_from
events_lead t spans around at index [] ns os n o = subst (λ (l : List InlineContent). LeadsTo (map tag_of around) l []) (sym (placed_said at at (map end_share around))) (all_end around)
events_lead t spans around at index (p ∷ ps) [] os n o = absurd (no_more (length ps) n)
events_lead t spans around at index (p ∷ ps) (m ∷ ns) [] n o = absurd (no_more (length ps) o)
events_lead t spans around at index (p ∷ ps) (m ∷ ns) (v ∷ os) n o =
    let next : List Span = around_after p.kind index (begun spans index) around in
    let stop : ℕ = at + (p.more + 1) in
    let others : List EventContent = events_from t spans next stop (index + 1) ps ns os in
    let own : List ShareContent = own_shares p.kind t at p.more m v.opens in
    let shares : List ShareContent = piece_shares p.kind (ended index around) own (begun spans index) in
    let same : map inline_in (placed at stop shares ++ others) ≡ map said shares ++ map inline_in others =
    map-append inline_in (placed at stop shares) others ∙ ap (λ (l : List InlineContent). l ++ map inline_in others) (placed_said at stop shares) in
    subst (λ (l : List InlineContent). LeadsTo (map tag_of around) l []) (sym same)
    (piece_leads (is_mark p.kind) index around (filter (begins_at index) spans) own (map inline_in others) (λ tags more h. own_leads p.kind t at p.more m v.opens tags more [] h)
    (events_lead t spans next stop (index + 1) ps ns os (same_rest (length ns) (length ps) n) (same_rest (length os) (length ps) o)))

-- events nest
pub all_nest : InlinesNest
all_nest labels t =
    let cut : CutText = cut_text labels t in
    events_lead t (spans_of cut.pairs cut.pieces) [] 0 0 cut.pieces (left_of cut.pairs cut.pieces) (overs_of cut.pieces) (length-map-range_with_len (left_at cut.pairs cut.pieces) 0 (length cut.pieces)) (overs_length 0 0 cut.pieces)
