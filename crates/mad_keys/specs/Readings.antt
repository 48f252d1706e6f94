-- How bytes are read: as items one after another, each of them an event or dropped.
use Rattle.std.specs.Prelude.{◌≡◌, ℕ, ◌==◌, List, [], ◌∷◌, ◌++◌, Option, Some, None, if◌then◌else◌}
use Rattle.mad_term.specs.declared.events.Event.{Event}
use Rattle.mad_term.specs.declared.events.Event.TheVariants.{Key}
use Rattle.mad_keys.specs.declared.steps.Step.{Step}
use Rattle.mad_keys.specs.declared.steps.Step.TheVariants.{Waits, Ends, Breaks}
use Rattle.mad_keys.specs.Steps.{step_of}
use Rattle.mad_keys.specs.EventBytes.{IsEventOf}
use Rattle.mad_keys.specs.Keys.{escape_key}

-- these bytes make a longer front of a front
abbrev pub Grows : List ℕ → List ℕ → List ℕ → Type 0
Grows w [] v = w ≡ v
Grows w (b ∷ bytes) v = (step_of w b ≡ Waits) × Grows (w ++ b ∷ []) bytes v

-- a whole item; or a front that the next byte doesn't go on, and that byte is read afresh
pub data Item : Type 0 where
  Whole : List ℕ → Item
  Broken : List ℕ → Item

-- Esc, where a lone ESC waits
abbrev pub lone_escape : List ℕ → Option Event
lone_escape [] = None
lone_escape (a ∷ []) = if a == 27 then Some (Key escape_key) else None
lone_escape (a ∷ b ∷ w) = None

-- the event of an item, if it has one: a whole one's is by its bytes, and a front that was broken off is Esc if it is a lone ESC
abbrev pub Tells : Item → Option Event → Type 0
Tells (Whole bytes) event = IsEventOf bytes event
Tells (Broken bytes) event = event ≡ lone_escape bytes

-- an event as a list
abbrev pub listed : Option Event → List Event
listed None = []
listed (Some event) = event ∷ []

-- These bytes begin with the rest of an item, of which w waited: first `part`, by which w grows to `front`, then `byte`.
pub record Reaches (w bytes : List ℕ) (step : Step) (front : List ℕ) (byte : ℕ) (more : List ℕ) : Type 0 where
  pub part : List ℕ
  pub split : bytes ≡ part ++ byte ∷ more
  pub grown : Grows w part front
  pub met : step_of front byte ≡ step

-- what waited, the bytes after it, all their items in order, and what waits then
abbrev pub IsReading : List ℕ → List ℕ → List Item → List ℕ → Type 0
IsReading w bytes [] rest = Grows w bytes rest
IsReading w bytes (Whole item ∷ items) rest =
    (front : List ℕ) × (byte : ℕ) × (more : List ℕ) × Reaches w bytes Ends front byte more × (item ≡ front ++ byte ∷ []) × IsReading [] more items rest
IsReading w bytes (Broken item ∷ items) rest =
    (byte : ℕ) × (more : List ℕ) × Reaches w bytes Breaks item byte more × IsReading [] (byte ∷ more) items rest

-- the events of items, in their order; an item without an event is dropped
abbrev pub Told : List Item → List Event → Type 0
Told [] events = events ≡ []
Told (item ∷ items) events = (event : Option Event) × (others : List Event) × Tells item event × (events ≡ listed event ++ others) × Told items others

-- a pause after these bytes waited: a lone ESC is an item
abbrev pub paused : List ℕ → List Item
paused [] = []
paused (a ∷ []) = if a == 27 then Broken (a ∷ []) ∷ [] else []
paused (a ∷ b ∷ w) = []

-- what waits after a pause: a lone ESC doesn't
abbrev pub after_pause : List ℕ → List ℕ
after_pause [] = []
after_pause (a ∷ []) = if a == 27 then [] else a ∷ []
after_pause (a ∷ b ∷ w) = a ∷ b ∷ w

-- a block: after what waited, these bytes and a pause are these events, and this waits then
pub record IsBlock (w block : List ℕ) (events : List Event) (rest : List ℕ) : Type 0 where
  pub items : List Item
  pub before : List ℕ
  pub read : IsReading w block items before
  pub told : Told (items ++ paused before) events
  pub left : rest ≡ after_pause before
