-- A text between two lines: the numbers of its items fit 32 bits.
use Rattle.std.proofs.Common.{ℕ, List, [], ◌∷◌, length}
use Rattle.markdown_blocks.specs.Events.{leaves, step_events}
use Rattle.markdown_blocks.specs.Steps.{step}
use Rattle.markdown_leaves.specs.Told.{told}
use Rattle.markdown_stream.specs.Readings.{Reading, handed_on, line_read, lines_read, nothing_read, parts_at_end}
use Rattle.markdown_live_laws.proofs.NumberLemmas.{AreSmall, AreSmallParts, closed_small, events_small, leaves_small, step_small, told_small}

-- the containers that are open, and those that have begun
pub record IsSmallReading (r : Reading) : Type 0 where
  pub open_ones : AreSmall r.state.containers
  pub parts : AreSmallParts r.gathering.parts

-- before the first line
pub nothing_small : IsSmallReading nothing_read
nothing_small = record { open_ones = tt; parts = tt }

line_read_small : (r : Reading) (text : List ℕ) → IsSmallReading r → IsSmallReading (line_read r text)
line_read_small r text h =
    let after : AreSmall (step r.state text).state.containers = step_small r.state text h.open_ones in
    record { open_ones = after; parts = told_small r.gathering (step_events r.state (step r.state text)) (events_small r.state (step r.state text) after) h.parts }

-- after lines
pub lines_small : (r : Reading) (lines : List (List ℕ)) → IsSmallReading r → IsSmallReading (lines_read r lines)
unfolding lines_read
lines_small r [] h = h
lines_small r (text ∷ lines) h = lines_small (line_read r text) lines (line_read_small r text h)

-- where the parts were handed on
pub handed_small : (r : Reading) → IsSmallReading r → IsSmallReading (handed_on r)
handed_small r h = record { open_ones = h.open_ones; parts = tt }

-- where the text ends
pub end_small : (r : Reading) → IsSmallReading r → AreSmallParts (parts_at_end r)
end_small r h = closed_small (told r.gathering (leaves (length r.state.containers))) (told_small r.gathering (leaves (length r.state.containers)) (leaves_small (length r.state.containers)) h.parts)
