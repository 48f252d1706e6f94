-- Where pieces lie.
use Rattle.std.specs.Prelude.{◌≡◌, ℕ, ◌+◌, ◌<◌, List, [], ◌∷◌, length}
use Rattle.std.specs.Str.{IsCharBoundary}
use Rattle.markdown_pieces.specs.declared.pieces.Kind.{Kind}
use Rattle.markdown_pieces.specs.declared.pieces.Kind.TheVariants.{Code as CodeKind, Address}
use Rattle.markdown_pieces.specs.declared.pieces.Piece.{Piece}

-- the text of a code span or an address at a place is a text of its own
abbrev pub IsInside : List ℕ → ℕ → Kind → Type 0
IsInside text at (CodeKind code) = IsCharBoundary text (at + code.marks) × IsCharBoundary text (at + code.marks + code.len)
IsInside text at (Address len scheme) = IsCharBoundary text (at + 1) × IsCharBoundary text (at + 1 + len)
IsInside text at _ = Unit {0}

-- From a place on a text is these pieces, one after another. Each is a text of its own, and has at least a byte.
abbrev pub AreCut : List ℕ → ℕ → List Piece → Type 0
AreCut text at [] = at ≡ length text
AreCut text at (p ∷ ps) = IsInside text at p.kind × (at + p.more < length text) × IsCharBoundary text (at + (p.more + 1)) × AreCut text (at + (p.more + 1)) ps
