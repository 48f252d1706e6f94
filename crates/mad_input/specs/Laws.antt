-- What follows from the definitions.
use Rattle.std.specs.Prelude.{◌≡◌, ℕ, ◌+◌, Bool, true, false, List, count_by}
use Rattle.mad_term.specs.declared.events.Event.{Event}
use Rattle.mad_term.specs.declared.events.Event.TheVariants.{Resize}
use Rattle.mad_input.specs.Hearing.{BytesHear}
use Rattle.mad_input.specs.declared.input.Heard.{Heard}
use Rattle.mad_input.specs.declared.input.Heard.TheVariants.{Typed}
use Rattle.mad_input.specs.declared.input.TerminalInput.{TerminalInput}

-- an event tells a size
abbrev pub tells_size : Event → Bool
tells_size (Resize columns rows) = true
tells_size event = false

-- a size is heard that counts
abbrev pub is_size : Heard → Bool
is_size (Typed event) = tells_size event
is_size heard = false

-- Whatever comes: each size that counts is the answer to one question, so that no more of them are heard than were asked for.
abbrev pub SizesAreAnswers : Type 0
SizesAreAnswers = (s : TerminalInput) (bytes : List ℕ) (heard : List Heard) (new : TerminalInput) → BytesHear s bytes heard new → count_by is_size heard + new.awaited ≡ s.awaited
