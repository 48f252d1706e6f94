-- A device that keeps all that it takes.
use Rattle.std.specs.Prelude.{Some}
use Rattle.mad_term.specs.Trace.{Trace}
use Rattle.mad_pager.specs.declared.picture.Picture.{Picture}

-- it tells all that it took
abbrev pub picture_trace : Picture → Trace
picture_trace p = record { bytes = Some p.bytes.items; faults = p.faults; flushes = p.flushes }
