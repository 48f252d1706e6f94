-- What a contract sees of the device in memory.
use Rattle.std.specs.Prelude.{[], Some}
use Rattle.mad_term.specs.Trace.{Trace}
use Rattle.mad_frames.specs.declared.gathered.Gathered.{Gathered}

-- all the bytes that it took, its faults and its flushes
abbrev pub gathered_trace : Gathered → Trace
gathered_trace kept = record { bytes = Some kept.bytes.items; faults = kept.faults; flushes = kept.flushes }

-- a device that took nothing yet, and neither failed nor was flushed
abbrev pub untouched : Trace
untouched = record { bytes = Some []; faults = 0; flushes = 0 }
