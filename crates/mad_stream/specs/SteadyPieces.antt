-- Texts that are made printable and steady piece by piece.
use Rattle.std.specs.Prelude.{ℕ, true, List, chars, encode_utf8_all}
use Rattle.mad_measure.specs.Printable.{printable_text}
use Rattle.mad_steady.specs.Steady.{steady_from, steady_text, steady_growing, place_behind}
use Rattle.mad_steady.specs.declared.places.Place.TheVariants.{Opened}
use Rattle.mad_stream.specs.PrintedPieces.{shown_growing, piece_shown, place_after, end_shown}
use Rattle.mad_stream.specs.declared.printed.Place.TheVariants.{LineStart}
use Rattle.mad_stream.specs.declared.steadied.Spot.{Spot}

-- The text that is shown of one that may go on: what is printable of it, made steady. What may be told otherwise by what comes isn't shown yet: a
-- carriage return at its end, and what may be half of a flag or a part of a Hangul syllable.
abbrev pub growing : List ℕ → List ℕ
growing text = encode_utf8_all (steady_growing Opened (shown_growing true (chars text)))

-- and of one that is at its end: the steady text for what is printable of it
abbrev pub steadied : List ℕ → List ℕ
steadied text = encode_utf8_all (steady_text (printable_text (chars text)))

-- ---- pieces

-- where a text begins
abbrev pub start_spot : Spot
start_spot = record { printed = LineStart; steady = Opened }

-- where the next character comes, after these
abbrev pub spot_after : Spot → List ℕ → Spot
spot_after spot cs = record { printed = place_after spot.printed cs; steady = place_behind spot.steady (piece_shown spot.printed cs) }

-- what is shown of a piece, and of what was held before it
abbrev pub steady_piece : Spot → List ℕ → List ℕ
steady_piece spot cs = steady_growing spot.steady (piece_shown spot.printed cs)

-- what is shown yet where a text ends there
abbrev pub end_piece : Spot → List ℕ
end_piece spot = steady_from spot.steady (end_shown spot.printed)
