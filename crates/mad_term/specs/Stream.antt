-- A reader or writer of the standard library, seen as a device.
use Rattle.std.specs.Prelude.{ℕ, List, [], ◌∷◌, Option, None, Result, MatchResult, MatchOption}
use Rattle.std.specs.Io.KnownBytes.{Keeps, Consumes, IsAtEnd}
use Rattle.mad_term.specs.declared.streams.Stream.{Stream}
use Rattle.mad_term.specs.Trace.{Trace}

-- the reader or writer itself
abbrev pub stream_inner : {S : Type 0} → Stream S → S
stream_inner s = s.inner

-- it tells no bytes, only how often it failed and how often it was flushed
abbrev pub stream_trace : {S : Type 0} → Stream S → Trace
stream_trace s = record { bytes = None; faults = s.faults; flushes = s.flushes }

-- a device that tells no bytes, has not failed and was not flushed
abbrev pub untold : Trace
untold = record { bytes = None; faults = 0; flushes = 0 }

-- What a get took from the bytes that a reader is known to have left: the one that it handed out. At the end it found none
-- and took none, and at a fault it took none.
abbrev pub GetConsumes : {E : Type 0} → Option (List ℕ) → Option (List ℕ) → Result (Option ℕ) E → Type 0
GetConsumes old new r = MatchResult r (λ o. MatchOption o (IsAtEnd new × Keeps old new) (λ byte. Consumes old new (byte ∷ []))) (λ _. Keeps old new)
