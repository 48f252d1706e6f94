-- In which line of the source each part of a text begins. Lines are counted from 0.
use Rattle.std.specs.Prelude.{ℕ, ◌+◌, ◌-◌, Bool, true, false, ◌&&◌, ◌==◌, List, [], ◌∷◌, ◌++◌, length, drop, if◌then◌else◌}
use Rattle.markdown_blocks.specs.Events.{leaves}
use Rattle.markdown_blocks.specs.Lines.{text_lines}
use Rattle.markdown_blocks.specs.Steps.{State, Line, step}
use Rattle.markdown_blocks.specs.declared.containers.Container.{Container}
use Rattle.markdown_blocks.specs.declared.leaves.Deed.{Deed}
use Rattle.markdown_blocks.specs.declared.leaves.Deed.TheVariants.{Html, Heading, Rule}
use Rattle.markdown_leaves.specs.Gather.{Gathering, gathering_of, nothing_told, closed}
use Rattle.markdown_leaves.specs.Parts.{PartContent, begins, ends, block}
use Rattle.markdown_leaves.specs.Told.{told, events_between, unread_text}
use Rattle.markdown_events.specs.declared.places.Placer.{Placer}

-- the parts so far, with the leaf that is open, and the line in which each part begins
pub record Placing : Type 0 where
  pub told : Gathering
  pub lines : List ℕ

-- what the code has placed
abbrev pub placing_of : Placer → Placing
placing_of p = record { told = gathering_of p.gatherer; lines = p.lines.items }

-- before a text there are no parts
abbrev pub nothing_placed : Placing
nothing_placed = record { told = nothing_told; lines = [] }

-- the line is a leaf by itself
abbrev pub is_alone : Deed → Bool
is_alone Html = true
is_alone (Heading level) = true
is_alone Rule = true
is_alone _ = false

-- The lines in which these parts begin that line `number` told, where the last `behind` lines before it were those of the open leaf. That leaf is told first, and may be
-- two parts. A container begins or ends in the line, and a leaf that is the line alone is the last part.
unfoldable pub begun_in : (number behind : ℕ) → Bool → List PartContent → List ℕ
begun_in number behind alone [] = []
begun_in number behind alone (begins container apart ∷ parts) = number ∷ begun_in number 0 alone parts
begun_in number behind alone (ends ∷ parts) = number ∷ begun_in number 0 alone parts
begun_in number behind alone (block leaf ∷ parts) =
    (if alone && (length parts == 0) then number else number - behind) ∷ begun_in number (behind - length leaf.lines) alone parts

-- this was told then, by line `number`
abbrev pub told_then : ℕ → Bool → Gathering → Placing → Placing
told_then number alone g p = record { told = g; lines = p.lines ++ begun_in number (length p.told.lines) alone (drop (length p.told.parts) g.parts) }

-- a line before which so many containers were open, and these after it
abbrev pub line_placed : ℕ → ℕ → Line → List Container → Placing → Placing
line_placed number before read after p = told_then number (is_alone read.deed) (told p.told (events_between before read after)) p

-- after the last line so many containers end, and the leaf that is open
abbrev pub end_placed : ℕ → ℕ → Placing → Placing
end_placed number count p = told_then number false (closed (told p.told (leaves count))) p

-- these lines, from line `number` on
unfoldable pub placed_from : ℕ → State → Placing → List (List ℕ) → Placing
placed_from number state p [] = end_placed number (length state.containers) p
placed_from number state p (text ∷ texts) =
    placed_from (number + 1) (step state text).state (line_placed number (length state.containers) (step state text).line (step state text).state.containers p) texts

-- in which line each part of a text begins
unfoldable pub lines_of : List ℕ → List ℕ
lines_of text = (placed_from 0 (unread_text text).state nothing_placed (text_lines text)).lines
