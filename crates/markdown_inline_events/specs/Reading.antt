-- The events of a text: those of its pieces, one piece after another.
use Rattle.std.specs.Prelude.{ℕ, ◌+◌, List, [], ◌∷◌, ◌++◌, map}
use Rattle.markdown_pieces.specs.declared.pieces.Piece.{Piece}
use Rattle.markdown_pieces.specs.Cut.{CutText, cut_text}
use Rattle.markdown_inlines.specs.declared.links.Over.{Over}
use Rattle.markdown_inlines.specs.Inlines.{left_of}
use Rattle.markdown_inlines.specs.Links.{overs_of}
use Rattle.markdown_inline_events.specs.declared.spans.Span.{Span}
use Rattle.markdown_inline_events.specs.Contents.{EventContent}
use Rattle.markdown_inline_events.specs.Shares.{around_after, end_share, own_shares, piece_shares, placed}
use Rattle.markdown_inline_events.specs.Spans.{begun, ended, spans_of}

-- the events of the piece of an index at a place: what ends there, what it says itself, and what begins there
abbrev pub piece_events : List ℕ → (spans around : List Span) → (at index : ℕ) → Piece → ℕ → Over → List EventContent
piece_events text spans around at index p left over =
    placed at (at + (p.more + 1)) (piece_shares p.kind (ended index around) (own_shares p.kind text at p.more left over.opens) (begun spans index))

-- Of the pieces from a place on, the first of which has this index: each with how many of its marks are left, and what links have to do with it. Around them this
-- is open, the innermost first. What is open behind the last piece ends there.
unfoldable pub events_from : List ℕ → (spans around : List Span) → (at index : ℕ) → List Piece → List ℕ → List Over → List EventContent
events_from text spans around at index [] left overs = placed at at (map end_share around)
events_from text spans around at index (p ∷ ps) [] overs = []
events_from text spans around at index (p ∷ ps) (n ∷ ns) [] = []
events_from text spans around at index (p ∷ ps) (n ∷ ns) (o ∷ os) =
    piece_events text spans around at index p n o
    ++ events_from text spans (around_after p.kind index (begun spans index) around) (at + (p.more + 1)) (index + 1) ps ns os

-- the events of a text that was cut
abbrev pub cut_events : CutText → List ℕ → List EventContent
cut_events cut text = events_from text (spans_of cut.pairs cut.pieces) [] 0 0 cut.pieces (left_of cut.pairs cut.pieces) (overs_of cut.pieces)

-- the events of a leaf's text, where these labels are defined
abbrev pub inline_events : List (List ℕ) → List ℕ → List EventContent
inline_events labels text = cut_events (cut_text labels text) text
