-- What begins and ends in a text: emphasis by the pairs of its marks, links and images by their brackets.
use Rattle.std.specs.Prelude.{ℕ, ◌+◌, ◌==◌, Bool, if◌then◌else◌, List, [], ◌∷◌, ◌++◌, map, reverse, Option, Some, None}
use Rattle.std.specs.List.{filter}
use Rattle.markdown_emphasis.specs.declared.runs.Pair.{Pair}
use Rattle.markdown_emphasis.specs.Flags.{is_bold, is_strikeout}
use Rattle.markdown_brackets.specs.declared.brackets.Link.{Link}
use Rattle.markdown_pieces.specs.declared.pieces.Kind.{Kind}
use Rattle.markdown_pieces.specs.declared.pieces.Kind.TheVariants.{Closing}
use Rattle.markdown_pieces.specs.declared.pieces.Piece.{Piece}
use Rattle.markdown_inlines.specs.Inlines.{target_by}
use Rattle.markdown_inline_events.specs.declared.events.InlineTag.{InlineTag}
use Rattle.markdown_inline_events.specs.declared.events.InlineTag.TheVariants.{Emphasis, Strong, Strikeout, Link as LinkTag, Image as ImageTag}
use Rattle.markdown_inline_events.specs.declared.spans.Span.{Span}

-- what a pair of runs makes of the text between them
abbrev pub pair_tag : Pair → InlineTag
pair_tag pair = if is_strikeout pair then Strikeout else if is_bold pair then Strong else Emphasis

-- it begins with marks of the one run, and ends with as many of the other
abbrev pub pair_span : Pair → Span
pair_span pair = record { tag = pair_tag pair; opener = pair.opener; closer = pair.closer; opening = pair.count; closing = pair.count }

-- a link or an image, whose closing bracket ends at a place
abbrev pub link_tag : Link → ℕ → InlineTag
link_tag link after = if link.image then ImageTag (target_by link.target after) else LinkTag (target_by link.target after)

-- the link or the image that a piece closes: its closing bracket goes on to the end of its target
abbrev pub link_span : Kind → (index at more : ℕ) → Option Span
link_span (Closing (Some link)) index at more =
    Some (record { tag = link_tag link (at + 1); opener = link.opener; closer = index; opening = if link.image then 2 else 1; closing = more + 1 })
link_span _ index at more = None

-- one more, if there is one
abbrev pub with_span : Option Span → List Span → List Span
with_span None spans = spans
with_span (Some span) spans = span ∷ spans

-- the links and images of the pieces from a place on, the first of which has this index
unfoldable pub link_spans : (index at : ℕ) → List Piece → List Span
link_spans index at [] = []
link_spans index at (p ∷ ps) = with_span (link_span p.kind index at p.more) (link_spans (index + 1) (at + (p.more + 1)) ps)

-- what begins and ends in a text with these pieces, of which these match
abbrev pub spans_of : List Pair → List Piece → List Span
spans_of pairs pieces = map pair_span pairs ++ link_spans 0 0 pieces

-- the span ends at the piece of this index
abbrev pub ends_at : ℕ → Span → Bool
ends_at index span = span.closer == index

-- the span begins there
abbrev pub begins_at : ℕ → Span → Bool
begins_at index span = span.opener == index

-- what ends at a piece, of what is open, the innermost first
abbrev pub ended : ℕ → List Span → List Span
ended index [] = []
ended index (span ∷ around) = if ends_at index span then span ∷ ended index around else []

-- what is open still, behind it
abbrev pub still_open : ℕ → List Span → List Span
still_open index [] = []
still_open index (span ∷ around) = if ends_at index span then still_open index around else span ∷ around

-- what begins at a piece, the outermost first, which ends last
abbrev pub begun : List Span → ℕ → List Span
begun spans index = reverse (filter (begins_at index) spans)
