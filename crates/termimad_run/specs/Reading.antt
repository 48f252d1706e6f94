-- Reading a source to its end.
use Rattle.std.specs.Prelude.{◌≡◌, ℕ, List}
use Rattle.mad_term.specs.Trace.{Trace, failed, ahead_all, IsAtItsEnd}
use Rattle.termimad_words.specs.declared.failure.Failure.{Failure}
use Rattle.termimad_words.specs.declared.failure.Failure.TheVariants.{Io, Memory}

-- These bytes were read, and the source is at its end: where it tells its bytes, they are all that it had.
pub record ReadsWhole (old : Trace) (bytes : List ℕ) (new : Trace) : Type 0 where
  pub handed_out : old ≡ ahead_all bytes new
  pub ended : IsAtItsEnd new

-- some bytes were read, then one fault came
pub record ReadsToFault (old new : Trace) : Type 0 where
  pub bytes : List ℕ
  pub last : Trace
  pub handed_out : old ≡ ahead_all bytes last
  pub fault : new ≡ failed last

-- some bytes were read, without a fault
pub record ReadsSome (old new : Trace) : Type 0 where
  pub bytes : List ℕ
  pub handed_out : old ≡ ahead_all bytes new

-- how far a reading came that failed so: to a fault of the source, or to bytes that there was no memory for
abbrev pub ReadingFails : Trace → Failure → Trace → Type 0
ReadingFails old Io new = ReadsToFault old new
ReadingFails old Memory new = ReadsSome old new
ReadingFails old _ new = ⊥
