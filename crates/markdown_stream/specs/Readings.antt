-- A text between two of its lines: what is open there, and which parts the lines before it told.
use Rattle.std.specs.Prelude.{ℕ, List, [], ◌∷◌, length}
use Rattle.markdown_blocks.specs.Events.{leaves, step_events}
use Rattle.markdown_blocks.specs.Steps.{State, Step, step}
use Rattle.markdown_blocks.specs.declared.leaves.Leaf.TheVariants.{Nothing}
use Rattle.markdown_leaves.specs.Gather.{Gathering, nothing_told, closed}
use Rattle.markdown_leaves.specs.Parts.{PartContent}
use Rattle.markdown_leaves.specs.Told.{told}

-- The containers and the leaf that are open; the parts so far, and the lines of the leaf.
pub record Reading : Type 0 where
  pub state : State
  pub gathering : Gathering

-- before the first line nothing is open, and nothing is told
abbrev pub nothing_read : Reading
nothing_read = record { state = record { containers = []; leaf = Nothing; defining = []; cells = 0 }; gathering = nothing_told }

-- what is open after a step, and what its events tell
abbrev pub step_read : Reading → Step → Reading
step_read r done = record { state = done.state; gathering = told r.gathering (step_events r.state done) }

-- a line comes
abbrev pub line_read : Reading → List ℕ → Reading
line_read r line = step_read r (step r.state line)

-- lines come, one after the other
unfoldable pub lines_read : Reading → List (List ℕ) → Reading
lines_read r [] = r
lines_read r (line ∷ lines) = lines_read (line_read r line) lines

-- the parts that are complete
abbrev pub parts_read : Reading → List PartContent
parts_read r = r.gathering.parts

-- the parts when the text ends here: all that is open ends
abbrev pub parts_at_end : Reading → List PartContent
parts_at_end r = (closed (told r.gathering (leaves (length r.state.containers)))).parts

-- without the parts so far
abbrev pub without_parts : Gathering → Gathering
without_parts g = record g { parts = [] }

-- the parts that are complete were handed on
abbrev pub handed_on : Reading → Reading
handed_on r = record r { gathering = without_parts r.gathering }
