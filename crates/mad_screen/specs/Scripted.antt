-- The devices of tests: what they hand over is known, and where they fail.
use Rattle.std.specs.Prelude.{◌≡◌, ℕ, ◌-◌, Bool, List, [], Some, length, min}
use Rattle.mad_screen.specs.declared.scripted.CutOut.{CutOut}
use Rattle.mad_screen.specs.declared.scripted.ScriptSource.{ScriptSource}
use Rattle.mad_term.specs.Trace.{Trace}

-- it tells all that it took
abbrev pub cut_trace : CutOut → Trace
cut_trace out = record { bytes = Some out.taken.items; faults = out.faults; flushes = out.flushes }

-- how often it was put to
abbrev pub cut_puts : CutOut → ℕ
cut_puts out = out.puts

-- How many of `count` bytes it takes at a put: no more than its step, and in all no more than its room. None of
-- some is a fault.
abbrev pub cut_count : CutOut → ℕ → ℕ
cut_count out count = min count (min out.step (out.room - length out.taken.items))

-- whether each of its flushes is a fault
abbrev pub refuses_flushes : CutOut → Bool
refuses_flushes out = out.flush_fails

-- what it was made with
pub record IsCutOut (out : CutOut) (step room : ℕ) (flush_fails : Bool) : Type 0 where
  pub step_is : out.step ≡ step
  pub room_is : out.room ≡ room
  pub flush_is : refuses_flushes out ≡ flush_fails
  pub trace_is : cut_trace out ≡ record { bytes = Some []; faults = 0; flushes = 0 }
  pub puts_is : out.puts ≡ 0

-- it is still the device that it was made as, whatever it has taken since
pub record IsSameDevice (old new : CutOut) : Type 0 where
  pub step : new.step ≡ old.step
  pub room : new.room ≡ old.room
  pub flush_fails : refuses_flushes new ≡ refuses_flushes old

-- it tells all that it has left
abbrev pub script_trace : ScriptSource → Trace
script_trace source = record { bytes = Some source.left.now; faults = source.faults; flushes = 0 }

-- How many bytes it hands out into a buffer of this length: no more than its step, and no more than it has left.
abbrev pub script_count : ScriptSource → ℕ → ℕ
script_count source len = min len (min source.step (length source.left.now))

-- whether it is a fault to ask for a byte after its last
abbrev pub ends_in_fault : ScriptSource → Bool
ends_in_fault source = source.fails

-- what it was made with
pub record IsScript (source : ScriptSource) (bytes : List ℕ) (step : ℕ) (fails : Bool) : Type 0 where
  pub fails_is : ends_in_fault source ≡ fails
  pub step_is : source.step ≡ step
  pub trace_is : script_trace source ≡ record { bytes = Some bytes; faults = 0; flushes = 0 }

-- it is still the source that it was made as, whatever it has handed out since
pub record IsSameSource (old new : ScriptSource) : Type 0 where
  pub fails : ends_in_fault new ≡ ends_in_fault old
  pub step : new.step ≡ old.step
