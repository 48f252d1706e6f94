-- Which rows begin a header.
use Rattle.std.specs.Prelude.{ℕ, ◌&&◌, nat_lt, Bool, true, false, List, find, reverse, Option, Some, slice_get}
use Rattle.mad_style.specs.declared.kinds.CompositeKind.{CompositeKind}
use Rattle.mad_style.specs.declared.kinds.CompositeKind.TheVariants.{Header}
use Rattle.mad_format.specs.declared.line.FmtLine.{FmtLine}
use Rattle.mad_format.specs.declared.line.FmtLine.TheVariants.{Normal}

-- this kind is that of a header
abbrev pub is_header_kind : CompositeKind → Bool
is_header_kind (Header level) = true
is_header_kind kind = false

-- a line is one of a header, if there is a line
abbrev pub is_header : Option FmtLine → Bool
is_header (Some (Normal l)) = is_header_kind l.kind
is_header line = false

-- a row has a header, and is below this one
abbrev pub is_below : List FmtLine → ℕ → ℕ → Bool
is_below lines row start = nat_lt row start && is_header (slice_get lines start)

-- a row has a header, and is above this one
abbrev pub is_above : List FmtLine → ℕ → ℕ → Bool
is_above lines row start = nat_lt start row && is_header (slice_get lines start)

-- of these rows, in which parts of the text begin, the first below a row that has a header
abbrev pub next_header : List FmtLine → List ℕ → ℕ → Option ℕ
next_header lines starts row = find (is_below lines row) starts

-- the last of them above a row that has one
abbrev pub previous_header : List FmtLine → List ℕ → ℕ → Option ℕ
previous_header lines starts row = find (is_above lines row) (reverse starts)
