-- What a call answers, and what is in the caller's buffer then.
use Rattle.std.specs.Prelude.{◌≡◌, ℕ, ◌≤◌, ◌<◌, ◌⊎◌, Bool, true, false, List, ◌++◌, length, take, drop, Option, Some, None}
use Rattle.termimad_words.specs.declared.failure.Failure.{Failure}
use Rattle.termimad_words.specs.declared.failure.Failure.TheVariants as failure
use Rattle.termimad_c.specs.declared.answer.Answer.{Answer}
use Rattle.termimad_c.specs.declared.answer.Place.{Place}
use Rattle.termimad_c.specs.declared.answer.Progress.{Progress}
use Rattle.termimad_c.specs.declared.answer.Refusal.{Refusal}
use Rattle.termimad_c.specs.declared.answer.Refusal.TheVariants.{Condition, NotUtf8, Skin, Memory}

-- the status of a refusal
abbrev pub status_of : Refusal → ℕ
status_of Condition = 2
status_of NotUtf8 = 3
status_of Skin = 4
status_of Memory = 5

-- what a failure of the program is here
abbrev pub refusal_of : Failure → Refusal
refusal_of failure.Usage = Condition
refusal_of failure.NotUtf8 = NotUtf8
refusal_of failure.Skin = Skin
refusal_of failure.Io = Memory
refusal_of failure.Memory = Memory

-- The answer tells the whole's length, whatever the buffer holds. The status is done (0) where the whole fits, and else too short
-- (1). The buffer begins with the whole, or with as much of its front as fits; its other bytes are as before.
pub record HandsOut (whole old : List ℕ) (answer : Answer) (new : List ℕ) : Type 0 where
  pub count : answer.count ≡ length whole
  pub done : (length whole ≤ length old) → answer.status ≡ 0
  pub short : (length old < length whole) → answer.status ≡ 1
  pub front : new ≡ take (length old) whole ++ drop (length whole) old

-- the answer of a call that was refused
abbrev pub IsRefused : Refusal → Answer → Type 0
IsRefused refusal answer = (answer.count ≡ 0) × (answer.status ≡ status_of refusal)

-- A call handed out bytes of which this is true, or it was refused for a reason of which that is true, and the buffer is as before.
abbrev pub Answers : (List ℕ → Type 0) → (Refusal → Type 0) → List ℕ → Answer → List ℕ → Type 0
Answers Makes Refuses old answer new =
    ((whole : List ℕ) × Makes whole × HandsOut whole old answer new)
    ⊎ ((refusal : Refusal) × Refuses refusal × IsRefused refusal answer × (new ≡ old))

-- a call counted rows of which this is true, or it was refused for a reason of which that is true
abbrev pub Counts : (ℕ → Type 0) → (Refusal → Type 0) → Answer → Type 0
Counts Makes Refuses answer = (Makes answer.count × (answer.status ≡ 0)) ⊎ ((refusal : Refusal) × Refuses refusal × IsRefused refusal answer)

-- ---- a text as it comes

-- a bit as C sees it
abbrev pub bit : Bool → ℕ
bit true = 1
bit false = 0

-- The answer tells how many bytes the rows have, whatever the buffer holds. Where they fit, the text was used so far, and a fence is open after that or not.
-- Else the buffer has their front, nothing of the text was used, and a fence is open or not as before. Its other bytes are as before.
pub record HandsOutParts (rows : List ℕ) (used : ℕ) (fenced_then fenced : Bool) (old : List ℕ) (answer : Progress) (new : List ℕ) : Type 0 where
  pub count : answer.count ≡ length rows
  pub done : (length rows ≤ length old) → (answer.status ≡ 0) × (answer.used ≡ used) × (answer.fenced ≡ bit fenced_then)
  pub short : (length old < length rows) → (answer.status ≡ 1) × (answer.used ≡ 0) × (answer.fenced ≡ bit fenced)
  pub front : new ≡ take (length old) rows ++ drop (length rows) old

-- the answer of such a call that was refused
abbrev pub IsNoProgress : Refusal → Bool → Progress → Type 0
IsNoProgress refusal fenced answer = answer ≡ record { count = 0; used = 0; fenced = bit fenced; status = status_of refusal }

-- A call handed out rows of parts of which this is true, or it was refused for a reason of which that is true, and the buffer is as before.
abbrev pub Progresses : Bool → (List ℕ → ℕ → Bool → Type 0) → (Refusal → Type 0) → List ℕ → Progress → List ℕ → Type 0
Progresses fenced Makes Refuses old answer new =
    ((rows : List ℕ) × (used : ℕ) × (fenced_then : Bool) × Makes rows used fenced_then × HandsOutParts rows used fenced_then fenced old answer new)
    ⊎ ((refusal : Refusal) × Refuses refusal × IsNoProgress refusal fenced answer × (new ≡ old))

-- ---- a section that is looked for

-- the answer of a call that looked for a section: its number, if there is one
abbrev pub place_of : Option ℕ → Place
place_of None = record { section = 0; found = 0; status = 0 }
place_of (Some number) = record { section = number; found = 1; status = 0 }

-- the answer of such a call that was refused
abbrev pub IsNoPlace : Refusal → Place → Type 0
IsNoPlace refusal answer = answer ≡ record { section = 0; found = 0; status = status_of refusal }

-- A call looked for a section, and this is true of the one that it found, or of none; or it was refused for a reason of which that is true.
abbrev pub Finds : (Option ℕ → Type 0) → (Refusal → Type 0) → Place → Type 0
Finds Makes Refuses answer =
    ((section : Option ℕ) × Makes section × (answer ≡ place_of section)) ⊎ ((refusal : Refusal) × Refuses refusal × IsNoPlace refusal answer)
