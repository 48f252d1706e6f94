-- Which marks no pair takes.
use Rattle.std.specs.Prelude.{ℕ, ◌-◌, List, slice_index, map}
use Rattle.markdown_emphasis.specs.declared.runs.Pair.{Pair}
use Rattle.markdown_emphasis.specs.Left.{taken_at}
use Rattle.markdown_pieces.specs.declared.pieces.Kind.{Kind}
use Rattle.markdown_pieces.specs.declared.pieces.Kind.TheVariants.{Run as RunKind}
use Rattle.markdown_pieces.specs.declared.pieces.Piece.{Piece}

-- how many marks a run has; nothing else has any
abbrev pub marks_of : Kind → ℕ
marks_of (RunKind run) = run.count
marks_of _ = 0

-- how many marks a piece has
abbrev pub piece_marks : Piece → ℕ
piece_marks p = marks_of p.kind

-- of the piece at an index
abbrev pub left_at : List Pair → List Piece → ℕ → ℕ
left_at pairs pieces index = slice_index (map piece_marks pieces) index - taken_at pairs index
