-- What the decoder does, byte by byte.
use Rattle.std.specs.Prelude.{◌≡◌, ℕ, List, [], ◌∷◌, ◌++◌, take, Option, Some, None}
use Rattle.mad_term.specs.declared.events.Event.{Event}
use Rattle.mad_keys.specs.declared.steps.Step.{Step}
use Rattle.mad_keys.specs.declared.steps.Step.TheVariants.{Waits, Ends, Breaks}
use Rattle.mad_keys.specs.Steps.{step_of}
use Rattle.mad_keys.specs.EventBytes.{IsEventOf}
use Rattle.mad_keys.specs.Readings.{lone_escape, after_pause, listed}

-- what the decoder keeps of a front: no event has more than 18 bytes
abbrev pub kept : List ℕ → List ℕ
kept w = take 18 w

-- a byte that is read while nothing waits: the event that it ends, and what waits then
abbrev pub AfreshGives : Step → ℕ → Option Event → List ℕ → Type 0
AfreshGives Waits b event left = (event ≡ None) × (left ≡ b ∷ [])
AfreshGives _ b event left = IsEventOf (b ∷ []) event × (left ≡ [])

-- A byte that breaks off what waits. After a lone ESC it is ESC, which waits then; any other front is dropped.
abbrev pub BrokenGives : Option Event → ℕ → Option Event → List ℕ → Type 0
BrokenGives (Some e) b event left = (event ≡ Some e) × (left ≡ b ∷ [])
BrokenGives None b event left = AfreshGives (step_of [] b) b event left

-- a byte by what it does to the front that waits
abbrev pub StepGives : Step → List ℕ → ℕ → Option Event → List ℕ → Type 0
StepGives Waits w b event left = (event ≡ None) × (left ≡ kept (w ++ b ∷ []))
StepGives Ends w b event left = IsEventOf (w ++ b ∷ []) event × (left ≡ [])
StepGives Breaks w b event left = BrokenGives (lone_escape w) b event left

-- one byte: what waited, the byte, the event that it ends, if it ends one, and what waits then
abbrev pub ByteGives : List ℕ → ℕ → Option Event → List ℕ → Type 0
ByteGives w b event left = StepGives (step_of w b) w b event left

-- a pause: what waited, the event, and what waits then
abbrev pub PauseGives : List ℕ → Option Event → List ℕ → Type 0
PauseGives w event left = (event ≡ lone_escape w) × (left ≡ after_pause w)

-- bytes one after another: what waited, their events, and what waits then
abbrev pub BytesGive : List ℕ → List ℕ → List Event → List ℕ → Type 0
BytesGive w [] events left = (events ≡ []) × (left ≡ w)
BytesGive w (b ∷ bytes) events left =
    (event : Option Event) × (next : List ℕ) × (others : List Event) × ByteGives w b event next × BytesGive next bytes others left × (events ≡ listed event ++ others)
