-- Lists of spans, one for each piece.
use Rattle.std.specs.Prelude.{ℕ, List, [], map, slice_index_or}
use Rattle.std.specs.Global.{Vec}
use Rattle.markdown_inline_events.specs.declared.spans.Span.{Span}

-- the spans of a list
abbrev pub spans_in : Vec Span → List Span
spans_in list = list.items

-- the spans in the list of an index
abbrev pub spans_at : List (Vec Span) → ℕ → List Span
spans_at lists index = slice_index_or (map spans_in lists) index []
