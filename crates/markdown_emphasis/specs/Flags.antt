-- What pairs say of the pieces of a text. Pieces are the runs and what lies between them, and here a pair names its runs as pieces.
use Rattle.std.specs.Prelude.{ℕ, ◌==◌, nat_lt, ◌&&◌, not, Bool, true, false, List, map}
use Rattle.std.specs.List.{filter, list_any, range_with_len}
use Rattle.markdown_emphasis.specs.declared.runs.Sign.{Sign}
use Rattle.markdown_emphasis.specs.declared.runs.Sign.TheVariants.{Tilde}
use Rattle.markdown_emphasis.specs.declared.runs.Pair.{Pair}
use Rattle.markdown_emphasis.specs.declared.flags.Flags.{Flags}

-- the sign is a tilde
abbrev pub is_tilde : Sign → Bool
is_tilde Tilde = true
is_tilde _ = false

-- a pair that makes bold, as in `**a**`
abbrev pub is_bold : Pair → Bool
is_bold pair = not (is_tilde pair.sign) && pair.count == 2

-- a pair that makes italic, as in `*a*`
abbrev pub is_italic : Pair → Bool
is_italic pair = not (is_tilde pair.sign) && not (pair.count == 2)

-- a pair that strikes out, as in `~a~` or `~~a~~`
abbrev pub is_strikeout : Pair → Bool
is_strikeout pair = is_tilde pair.sign

-- whether a piece lies between the runs of a pair
abbrev pub is_over : ℕ → Pair → Bool
is_over piece pair = nat_lt pair.opener piece && nat_lt piece pair.closer

-- the runs that open these pairs
abbrev pub openers : List Pair → List ℕ
openers = map (λ pair. pair.opener)

-- the runs that close these pairs
abbrev pub closers : List Pair → List ℕ
closers = map (λ pair. pair.closer)

-- a piece lies between the runs of one of these pairs
abbrev pub is_covered : List Pair → ℕ → Bool
is_covered pairs piece = list_any (is_over piece) pairs

-- a piece is bold, italic or struck out where a pair that makes it so is over it
abbrev pub flags_at : List Pair → ℕ → Flags
flags_at pairs piece = record {
  bold = is_covered (filter is_bold pairs) piece;
  italic = is_covered (filter is_italic pairs) piece;
  strikeout = is_covered (filter is_strikeout pairs) piece;
}

-- the flags of so many pieces
abbrev pub flags_of : ℕ → List Pair → List Flags
flags_of pieces pairs = map (flags_at pairs) (range_with_len 0 pieces)
