-- What a frame keeps, what a present does with it, and that a terminal shows it.
use Rattle.std.specs.Prelude.{◌≡◌, ℕ, ◌+◌, ◌≤◌, Bool, true, false, if◌then◌else◌, List, [], ◌++◌, length, Option, Some, None, Result, MatchResult}
use Rattle.mad_term.specs.Trace.{Trace, after, failed, flushed}
use Rattle.mad_screen.specs.Grid.{Grid, IsGrid, empty_grid}
use Rattle.mad_screen.specs.Terminal.{after_bytes}
use Rattle.mad_frames.specs.declared.errors.PresentError.{PresentError}
use Rattle.mad_frames.specs.declared.errors.PresentError.TheVariants.{IO, Undefined, Memory}
use Rattle.mad_frames.specs.Bound.{most_bytes}
use Rattle.mad_frames.specs.Changes.{SameSize, ShowsCells}
use Rattle.mad_frames.specs.Mending.{mended}

-- A frame: its screen as it was presented last, the bytes drawn since, and those that the device has yet to take of what was
-- sent. It is known if the terminal shows that screen once it has read these. As a device a frame counts its own faults and
-- flushes.
pub record FrameState : Type 0 where
  pub base : Grid
  pub drawn : List ℕ
  pub unsent : List ℕ
  pub known : Bool
  pub faults : ℕ
  pub flushes : ℕ

-- an empty frame, before its first present
abbrev pub new_frame : ℕ → ℕ → FrameState
new_frame width height = record { base = empty_grid width height; drawn = []; unsent = []; known = false; faults = 0; flushes = 0 }

-- a frame as a device tells what was drawn since the last present
abbrev pub frame_trace : FrameState → Trace
frame_trace f = record { bytes = Some f.drawn; faults = f.faults; flushes = f.flushes }

-- the screen that is to be presented, if the plain terminal can read what was drawn
abbrev pub drawn_screen : FrameState → Option Grid
drawn_screen f = after_bytes f.base f.drawn

-- a terminal of the frame's size, which shows its screen, each half of a wide character as a space, if the frame is known
pub record MayShow (f : FrameState) (t : Grid) : Type 0 where
  pub grid : IsGrid t
  pub size : SameSize f.base t
  pub shows : f.known ≡ true → ShowsCells (mended f.base) t

-- A terminal that was at `start` and has read `taken` shows the frame as it was last presented, once it has read what the
-- device has yet to take. A frame that isn't known promises only that the bytes can be read.
abbrev pub IsInStep : FrameState → Grid → List ℕ → Type 0
IsInStep f start taken = (t : Grid) × (after_bytes start (taken ++ f.unsent) ≡ Some t) × MayShow f t

-- bytes after which whatever terminal the frame may be shown by shows the new screen
abbrev pub LeadsAll : FrameState → Grid → List ℕ → Type 0
LeadsAll f new bytes = (t : Grid) → MayShow f t → (shown : Grid) × (after_bytes t bytes ≡ Some shown) × ShowsCells (mended new) shown

-- where the terminal shows the screen already, no bytes lead there
abbrev pub AddsNothing : FrameState → Grid → List ℕ → Type 0
AddsNothing f new bytes = f.known ≡ true → (mended f.base).cells ≡ (mended new).cells → bytes ≡ []

-- the screen that a present changes: what a known frame shows, and else an empty one
abbrev pub changed_from : FrameState → Grid
changed_from f = if f.known then mended f.base else empty_grid f.base.width f.base.height

-- what clears a terminal of which nothing is known
abbrev pub clear_length : FrameState → ℕ
clear_length f = if f.known then 0 else 8

-- no more bytes than the changed characters may take, and those that clear the terminal where the frame isn't known
abbrev pub IsBounded : FrameState → Grid → List ℕ → Type 0
IsBounded f new bytes = length bytes ≤ clear_length f + most_bytes (changed_from f).cells (mended new).cells

-- a step keeps a frame in step, if the device takes these bytes meanwhile
abbrev pub KeepsInStep : FrameState → FrameState → List ℕ → Type 0
KeepsInStep old new bytes = (start : Grid) (taken : List ℕ) → IsInStep old start taken → IsInStep new start (taken ++ bytes)

-- what has to be sent to show a screen: the bytes that the device has yet to take, then the changes
pub record IsMessage (f : FrameState) (new : Grid) (bytes : List ℕ) : Type 0 where
  pub changes : List ℕ
  pub whole : bytes ≡ f.unsent ++ changes
  pub leads : LeadsAll f new changes
  pub quiet : AddsNothing f new changes
  pub bound : IsBounded f new changes

-- What was sent: the bytes that the device had yet to take, then the changes. A front of them went out, and the rest is left.
pub record IsSent (old new : FrameState) (front : List ℕ) : Type 0 where
  pub changes : List ℕ
  pub whole : front ++ new.unsent ≡ old.unsent ++ changes
  pub leads : LeadsAll old new.base changes
  pub quiet : AddsNothing old new.base changes
  pub bound : IsBounded old new.base changes
  pub read : drawn_screen old ≡ Some new.base
  pub drawn : new.drawn ≡ []
  pub known : new.known ≡ true

-- all was sent, and then one flush
pub record IsPresented (old new : FrameState) (before now : Trace) : Type 0 where
  pub front : List ℕ
  pub sent : IsSent old new front
  pub unsent : new.unsent ≡ []
  pub went : now ≡ flushed (after before front)

-- a front was sent, or all of it, and then a fault came
pub record IsCut (old new : FrameState) (before now : Trace) : Type 0 where
  pub front : List ℕ
  pub sent : IsSent old new front
  pub went : now ≡ failed (after before front)

-- one or the other
abbrev pub Sends : {T E : Type 0} → FrameState → FrameState → Trace → Trace → Result T E → Type 0
Sends old new before now r = MatchResult r (λ _. IsPresented old new before now) (λ _. IsCut old new before now)

-- nothing has happened
pub record IsKept (old new : FrameState) (before now : Trace) : Type 0 where
  pub frame : new ≡ old
  pub device : now ≡ before

-- what a present does by which it is refused
abbrev pub IsRefused : FrameState → FrameState → Trace → Trace → PresentError → Type 0
IsRefused old new before now (IO e) = IsCut old new before now
IsRefused old new before now Undefined = (drawn_screen old ≡ None) × IsKept old new before now
IsRefused old new before now Memory = IsKept old new before now

-- what a present does, whatever it answers
abbrev pub Presents : {T : Type 0} → FrameState → FrameState → Trace → Trace → Result T PresentError → Type 0
Presents old new before now r = MatchResult r (λ _. IsPresented old new before now) (IsRefused old new before now)

-- a frame of which the terminal may show anything
abbrev pub unknown : FrameState → FrameState
unknown f = record f { known = false }
