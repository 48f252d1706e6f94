-- What a device has done, and what a call may do to it.
use Rattle.std.specs.Prelude.{◌≡◌, ℕ, ◌+◌, ◌-◌, ◌^◌, ◌<◌, ◌≤◌, min, List, [], ◌∷◌, ◌++◌, length, take, Option, Some, option_map, IfSome, Result, MatchResult, MatchOption}

-- The bytes that a device has taken, where it tells them, how often it has failed, and how often it was flushed. Of a
-- source the bytes are those that it has left, and it is never flushed.
pub record Trace : Type 0 where
  pub bytes : Option (List ℕ)
  pub faults : ℕ
  pub flushes : ℕ

-- it has taken this text too
unfoldable pub after : Trace → List ℕ → Trace
after t text = record { bytes = option_map (λ b. b ++ text) t.bytes; faults = t.faults; flushes = t.flushes }

-- it has failed once more; the count stays at its greatest value
unfoldable pub failed : Trace → Trace
failed t = record { bytes = t.bytes; faults = min (t.faults + 1) (2 ^ 64 - 1); flushes = t.flushes }

-- it was flushed once more; the count stays at its greatest value
unfoldable pub flushed : Trace → Trace
flushed t = record { bytes = t.bytes; faults = t.faults; flushes = min (t.flushes + 1) (2 ^ 64 - 1) }

-- a front of the text went out, then a fault came
pub record CutShort (old : Trace) (text : List ℕ) (new : Trace) : Type 0 where
  pub front : List ℕ
  pub rest : List ℕ
  pub whole : front ++ rest ≡ text
  pub went : new ≡ failed (after old front)

-- a front of the text went out, and there was no fault
pub record Stopped (old : Trace) (text : List ℕ) (new : Trace) : Type 0 where
  pub front : List ℕ
  pub rest : List ℕ
  pub whole : front ++ rest ≡ text
  pub went : new ≡ after old front

-- all of the text went out, or a front of it and then one fault came
abbrev pub Writes : {T E : Type 0} → Trace → List ℕ → Result T E → Trace → Type 0
Writes old text r new = MatchResult r (λ _. new ≡ after old text) (λ _. CutShort old text new)

-- all of the text went out, or this many of its bytes and then one fault came
abbrev pub TakesFront : {T E : Type 0} → Trace → List ℕ → ℕ → Result T E → Trace → Type 0
TakesFront old text count r new = MatchResult r (λ _. (count ≡ length text) × (new ≡ after old text)) (λ _. new ≡ failed (after old (take count text)))

-- one put took this many bytes of the front of the text, one at least of a text that isn't empty
pub record Took (old : Trace) (text : List ℕ) (count : ℕ) (new : Trace) : Type 0 where
  pub some : 0 < length text → 0 < count
  pub within : count ≤ length text
  pub front : new ≡ after old (take count text)

-- what one put does: it takes some of the text, or it is a fault
abbrev pub Puts : {E : Type 0} → Trace → List ℕ → Result ℕ E → Trace → Type 0
Puts old text r new = MatchResult r (λ count. Took old text count new) (λ _. new ≡ failed old)

-- what a flush does: it is counted, or it is a fault; nothing happens to the bytes
abbrev pub Flushes : {T E : Type 0} → Trace → Result T E → Trace → Type 0
Flushes old r new = MatchResult r (λ _. new ≡ flushed old) (λ _. new ≡ failed old)

-- this byte comes before what a source has left
unfoldable pub ahead : ℕ → Trace → Trace
ahead byte t = record { bytes = option_map (λ rest. byte ∷ rest) t.bytes; faults = t.faults; flushes = t.flushes }

-- where the source tells its bytes, it has none left
abbrev pub IsAtItsEnd : Trace → Type 0
IsAtItsEnd t = IfSome t.bytes (λ rest. rest ≡ [])

-- the source is at its end, and has not changed
pub record Ended (old new : Trace) : Type 0 where
  pub left : IsAtItsEnd old
  pub same : new ≡ old

-- what one get does: it hands out the next byte, or the end, or it is a fault and no byte is lost
abbrev pub Gets : {E : Type 0} → Trace → Result (Option ℕ) E → Trace → Type 0
Gets old r new = MatchResult r (λ o. MatchOption o (Ended old new) (λ byte. old ≡ ahead byte new)) (λ _. new ≡ failed old)

-- these bytes come before what a source has left
unfoldable pub ahead_all : List ℕ → Trace → Trace
ahead_all bytes t = record { bytes = option_map (λ rest. bytes ++ rest) t.bytes; faults = t.faults; flushes = t.flushes }

-- One fill put the first bytes of a source, as many as it answers, into the front of the buffer. It puts none only at the
-- source's end, or into an empty buffer.
pub record Filled (old : Trace) (buffer : List ℕ) (count : ℕ) (new : Trace) : Type 0 where
  pub within : count ≤ length buffer
  pub handed_out : old ≡ ahead_all (take count buffer) new
  pub ended : count ≡ 0 → 0 < length buffer → IsAtItsEnd new

-- what one fill does: that, or it is a fault and no byte is lost
abbrev pub Fills : {E : Type 0} → Trace → List ℕ → Result ℕ E → Trace → Type 0
Fills old buffer r new = MatchResult r (λ count. Filled old buffer count new) (λ _. new ≡ failed old)

-- where the device tells its bytes, what it took in between has P
abbrev pub TookWith : Trace → Trace → (List ℕ → Type 0) → Type 0
TookWith old new P = IfSome old.bytes (λ before. (text : List ℕ) × (new.bytes ≡ Some (before ++ text)) × P text)
