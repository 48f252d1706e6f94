-- The runs among the pieces of a text.
use Rattle.std.specs.Prelude.{ℕ, Bool, false, List, length, map, slice_index, slice_index_or, Option, Some, None}
use Rattle.std.specs.List.{filter, range_with_len}
use Rattle.std.specs.Option.{is_some}
use Rattle.markdown_emphasis.specs.declared.runs.Sign.TheVariants.{Star}
use Rattle.markdown_emphasis.specs.declared.runs.Run.{Run}
use Rattle.markdown_emphasis.specs.declared.runs.Pair.{Pair}
use Rattle.markdown_emphasis.specs.declared.flags.Flags.{Flags}
use Rattle.markdown_emphasis.specs.Matching.{matches}
use Rattle.markdown_emphasis.specs.Flags.{flags_of}

-- the run that a piece is, or one of no marks
abbrev pub piece_run : Option Run → Run
piece_run (Some run) = run
piece_run None = record { sign = Star; count = 0; opens = false; closes = false }

-- the piece of this index is a run
abbrev pub is_run : List (Option Run) → ℕ → Bool
is_run pieces i = is_some (slice_index_or pieces i None)

-- which pieces are runs, in order
abbrev pub places_of : List (Option Run) → List ℕ
places_of pieces = filter (is_run pieces) (range_with_len 0 (length pieces))

-- the run that the piece of this index is, or one of no marks
abbrev pub run_of_piece : List (Option Run) → ℕ → Run
run_of_piece pieces i = piece_run (slice_index_or pieces i None)

-- the runs that are among pieces, in order
abbrev pub runs_of : List (Option Run) → List Run
runs_of pieces = map (run_of_piece pieces) (places_of pieces)

-- a pair of runs as one of pieces
abbrev pub moved : List ℕ → Pair → Pair
moved places pair = record pair { opener = slice_index places pair.opener; closer = slice_index places pair.closer }

-- the pairs of pieces
abbrev pub pairs_of : List (Option Run) → List Pair
pairs_of pieces = map (moved (places_of pieces)) (matches (runs_of pieces))

-- how each piece is shown
abbrev pub flagged : List (Option Run) → List Flags
flagged pieces = flags_of (length pieces) (pairs_of pieces)
