-- Frames over many steps.
use Rattle.std.specs.Prelude.{◌≡◌, ◌⊎◌, ℕ, true, false, List, [], ◌∷◌, ◌++◌, Some}
use Rattle.std.specs.List.{flat_map}
use Rattle.mad_screen.specs.Grid.{Grid, IsGrid}
use Rattle.mad_screen.specs.Terminal.{after_bytes}
use Rattle.mad_frames.specs.Changes.{SameSize, ShowsCells}
use Rattle.mad_frames.specs.Frames.{FrameState, IsInStep, KeepsInStep}
use Rattle.mad_frames.specs.Mending.{mended}
use Rattle.mad_frames.specs.Whole.{IsWholeGrid}

-- a step of a program: the bytes that the device took meanwhile, and the frame after it
pub record Step : Type 0 where
  pub bytes : List ℕ
  pub frame : FrameState

-- drawing changes what is drawn alone
pub record IsDrawing (old : FrameState) (s : Step) : Type 0 where
  pub base : s.frame.base ≡ old.base
  pub unsent : s.frame.unsent ≡ old.unsent
  pub known : s.frame.known ≡ old.known
  pub bytes : s.bytes ≡ []

-- drawings and presents, whatever they answered, one after another
abbrev pub AreSteps : FrameState → List Step → Type 0
AreSteps f [] = Unit {0}
AreSteps f (s ∷ ss) = (IsDrawing f s ⊎ KeepsInStep f s.frame s.bytes) × AreSteps s.frame ss

-- the frame after them
abbrev pub frame_after : FrameState → List Step → FrameState
frame_after f [] = f
frame_after f (s ∷ ss) = frame_after s.frame ss

-- what the device took in all
abbrev pub taken_in : List Step → List ℕ
taken_in = flat_map (λ s. s.bytes)

-- A frame stays in step, whatever was done with it. Where it is known and all was taken, as after a present that answered Ok,
-- the terminal shows it: cell for cell where its characters are whole.
pub record StaysInStep : Type 0 where
  pub begins : (f : FrameState) (start : Grid) → f.known ≡ false → f.unsent ≡ [] → IsGrid start → SameSize f.base start → IsInStep f start []
  pub stays : (f : FrameState) (start : Grid) (taken : List ℕ) (steps : List Step) → IsInStep f start taken → AreSteps f steps → IsInStep (frame_after f steps) start (taken ++ taken_in steps)
  pub shown : (f : FrameState) (start : Grid) (taken : List ℕ) → IsInStep f start taken → f.known ≡ true → f.unsent ≡ [] → (t : Grid) × (after_bytes start taken ≡ Some t) × ShowsCells (mended f.base) t
  pub whole : (g : Grid) → IsGrid g → IsWholeGrid g → mended g ≡ g
