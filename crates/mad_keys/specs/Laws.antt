-- What follows from the definitions.
use Rattle.std.specs.Prelude.{◌≡◌, ◌≢◌, ℕ, ◌≤◌, List, [], ◌∷◌, ◌++◌, length, Option, MatchOption}
use Rattle.mad_term.specs.declared.events.Event.{Event}
use Rattle.mad_keys.specs.Steps.{step_of}
use Rattle.mad_keys.specs.EventBytes.{IsEventBytes}
use Rattle.mad_keys.specs.Readings.{Item, IsReading, Told, IsBlock, listed}
use Rattle.mad_keys.specs.Decoding.{kept, BytesGive, PauseGives}

-- two events with the same bytes are the same
abbrev pub HasOneEvent : Type 0
HasOneEvent = (bytes : List ℕ) (e f : Event) → IsEventBytes e bytes → IsEventBytes f bytes → e ≡ f

-- what is kept is enough: it goes on as the whole front does, and no event has more bytes
pub record AreEventsShort : Type 0 where
  pub kept_goes_on : (w : List ℕ) (b : ℕ) → step_of (kept w) b ≡ step_of w b
  pub most : (bytes : List ℕ) (e : Event) → IsEventBytes e bytes → length bytes ≤ 18

-- what bytes are read as, after what waited
pub record IsReadAs (w bytes : List ℕ) (events : List Event) (left : List ℕ) : Type 0 where
  pub items : List Item
  pub rest : List ℕ
  pub read : IsReading w bytes items rest
  pub told : Told items events
  pub waits : left ≡ kept rest

-- the decoder's events are those of the bytes' items, and it keeps what waits after them
abbrev pub BytesAreRead : Type 0
BytesAreRead = (w bytes : List ℕ) (events : List Event) (left : List ℕ) → BytesGive (kept w) bytes events left → IsReadAs w bytes events left

-- what a block is read as, after what waited
pub record IsBlockAs (w block : List ℕ) (events : List Event) (left : List ℕ) : Type 0 where
  pub rest : List ℕ
  pub read : IsBlock w block events rest
  pub waits : left ≡ kept rest

-- the same of a block and the pause after it
abbrev pub BlocksAreRead : Type 0
BlocksAreRead = (w block : List ℕ) (events : List Event) (before : List ℕ) (event : Option Event) (left : List ℕ)
    → BytesGive (kept w) block events before → PauseGives before event left → IsBlockAs w block (events ++ listed event) left

-- after what waited, bytes have exactly one reading
pub record HasOneReading : Type 0 where
  pub found : (w bytes : List ℕ) → (items : List Item) × (rest : List ℕ) × IsReading w bytes items rest
  pub alone : (w bytes : List ℕ) (items others : List Item) (rest left : List ℕ) → IsReading w bytes items rest → IsReading w bytes others left → (items ≡ others) × (rest ≡ left)

-- the last of these bytes is this one
abbrev pub EndsIn : ℕ → List ℕ → Type 0
EndsIn last bytes = (front : List ℕ) × (bytes ≡ front ++ last ∷ [])

-- Two blocks, one after the other, have the events of both in one, where no ESC (27) is before the cut. What is before it ends a block,
-- or it waited where the first block is empty.
abbrev pub CutsChangeNothing : Type 0
CutsChangeNothing = (w first second : List ℕ) (events others : List Event) (between left : List ℕ) → w ≢ 27 ∷ [] → (EndsIn 27 first → ⊥)
    → IsBlock w first events between → IsBlock between second others left → IsBlock w (first ++ second) (events ++ others) left

-- where nothing waits, the bytes of an event, alone in a block, are read as this event, and nothing waits then
abbrev pub EventsAreRead : Type 0
EventsAreRead = (bytes : List ℕ) (e : Event) → IsEventBytes e bytes → IsBlock [] bytes (e ∷ []) []

-- bytes of an event, which are read as it and as nothing else where nothing waits; or none, where no bytes at all are the event
abbrev pub IsWritten : Event → Option (List ℕ) → Type 0
IsWritten event written =
    MatchOption written ((bytes : List ℕ) → ¬ IsEventBytes event bytes) (λ bytes. IsEventBytes event bytes × IsBlock [] bytes (event ∷ []) [])
