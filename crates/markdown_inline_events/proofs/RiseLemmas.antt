-- Places of events.
use Rattle.std.proofs.Common.{◌≡◌, ℕ, zero, suc, ◌+◌, ◌-◌, ◌≤◌, List, [], ◌∷◌, ◌++◌, length, map, min, subst, arith}
use Rattle.std.proofs.lemmas.List.{append-nil}
use Rattle.markdown_brackets.specs.Brackets.{Reading, nothing_read}
use Rattle.markdown_pieces.specs.declared.pieces.Piece.{Piece}
use Rattle.markdown_pieces.specs.Cut.{CutText, Step, cut_from, cut_text, step}
use Rattle.markdown_inlines.specs.declared.links.Over.{Over}
use Rattle.markdown_inlines.specs.Inlines.{left_of}
use Rattle.markdown_inlines.specs.Links.{overs_of}
use Rattle.markdown_inline_events.specs.declared.spans.Span.{Span}
use Rattle.markdown_inline_events.specs.Contents.{EventContent}
use Rattle.markdown_inline_events.specs.Laws.{AreRising, PlacesRise}
use Rattle.markdown_inline_events.specs.Reading.{events_from}
use Rattle.markdown_inline_events.specs.Shares.{ShareContent, around_after, end_share, own_shares, piece_shares, placed}
use Rattle.markdown_inline_events.specs.Spans.{begun, ended, spans_of}

-- ---- pieces end within the text

abbrev AreWithin : (at len : ℕ) → List Piece → Type 0
AreWithin at len [] = at ≤ len
AreWithin at len (p ∷ ps) = AreWithin (at + (p.more + 1)) len ps

begins_within : (at len : ℕ) (ps : List Piece) → AreWithin at len ps → at ≤ len
begins_within at len [] h = h
begins_within at len (p ∷ ps) h = let behind : at + (p.more + 1) ≤ len = begins_within (at + (p.more + 1)) len ps h in omega (arith, behind)

step_within : (labels : List (List ℕ)) (t : List ℕ) (at index : ℕ) (r : Reading) (rest : List ℕ) → (step labels t at index r rest).piece.more ≤ length t - at - 1
unfolding step
step_within labels t at index r rest = omega arith

cut_within : (labels : List (List ℕ)) (t : List ℕ) (skip at index : ℕ) (r : Reading) (bs : List ℕ) → at + length bs ≡ length t → skip ≤ length bs
    → AreWithin (at + skip) (length t) (cut_from labels t skip at index r bs).pieces
unfolding cut_from
cut_within labels t skip at index r [] e h = omega (arith, e, h)
cut_within labels t zero at index r (b ∷ bs) e h =
    let s : Step = step labels t at index r (b ∷ bs) in
    let few : s.piece.more ≤ length t - at - 1 = step_within labels t at index r (b ∷ bs) in
    let same : at + 1 + s.piece.more ≡ at + 0 + (s.piece.more + 1) = omega arith in
    subst (λ (n : ℕ). AreWithin n (length t) (cut_from labels t s.piece.more (at + 1) (index + 1) s.reading bs).pieces) same
    (cut_within labels t s.piece.more (at + 1) (index + 1) s.reading bs (omega (arith, e)) (omega (arith, e, few)))
cut_within labels t (suc skip) at index r (b ∷ bs) e h =
    let same : at + 1 + skip ≡ at + suc skip = omega arith in
    subst (λ (n : ℕ). AreWithin n (length t) (cut_from labels t skip (at + 1) index r bs).pieces) same (cut_within labels t skip (at + 1) index r bs (omega (arith, e)) (omega (arith, h)))

-- ---- events rise

rising_lower : (low at len : ℕ) (events : List EventContent) → low ≤ at → AreRising at len events → AreRising low len events
rising_lower low at len [] l h = omega (arith, l, h)
rising_lower low at len (e ∷ events) l h = (omega (arith, l, h.0), h.1)

placed_rising : (at stop len : ℕ) (ss : List ShareContent) (events : List EventContent) → at ≤ stop → AreRising stop len events → AreRising at len (placed at stop ss ++ events)
unfolding placed
placed_rising at stop len [] events l h = rising_lower at stop len events l h
placed_rising at stop len (s ∷ ss) events l h = (omega arith, placed_rising (at + min s.bytes (stop - at)) stop len ss events (omega (arith, l)) h)

placed_alone : (at len : ℕ) (ss : List ShareContent) → at ≤ len → AreRising at len (placed at at ss)
placed_alone at len ss h = subst (AreRising at len) (append-nil (placed at at ss)) (placed_rising at at len ss [] (omega arith) h)

events_rising : (t : List ℕ) (spans around : List Span) (at index : ℕ) (ps : List Piece) (ns : List ℕ) (os : List Over) → AreWithin at (length t) ps → AreRising at (length t) (events_from t spans around at index ps ns os)
unfolding events_from
events_rising t spans around at index [] ns os h = placed_alone at (length t) (map end_share around) h
events_rising t spans around at index (p ∷ ps) [] os h = begins_within at (length t) (p ∷ ps) h
events_rising t spans around at index (p ∷ ps) (n ∷ ns) [] h = begins_within at (length t) (p ∷ ps) h
events_rising t spans around at index (p ∷ ps) (n ∷ ns) (o ∷ os) h =
    let next : List Span = around_after p.kind index (begun spans index) around in
    let stop : ℕ = at + (p.more + 1) in
    placed_rising at stop (length t) (piece_shares p.kind (ended index around) (own_shares p.kind t at p.more n o.opens) (begun spans index)) (events_from t spans next stop (index + 1) ps ns os) (omega arith)
    (events_rising t spans next stop (index + 1) ps ns os h)

-- the places of events rise
pub all_rising : PlacesRise
all_rising labels t =
    let cut : CutText = cut_text labels t in
    events_rising t (spans_of cut.pairs cut.pieces) [] 0 0 cut.pieces (left_of cut.pairs cut.pieces) (overs_of cut.pieces) (cut_within labels t 0 0 0 nothing_read t (omega arith) (omega arith))
