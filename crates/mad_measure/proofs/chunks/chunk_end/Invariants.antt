use Rattle.std.proofs.Common.{◌-◌, ◌+◌, ◌≡◌, ◌≤◌, ◌<◌}
use Rattle.mad_measure.specs.Chunks.{AreSteady, is_space_at}
use Rattle.mad_measure.proofs.chunks.chunk_end.Given as goal

abbrev pub invariant-loop-end : goal.invariant-loop-end
invariant-loop-end l = record {
  order : l.fn.at ≤ l.end;
  before : l.end < l.fn.plain;
  room : l.end ≤ l.fn.at + l.fn.room;
  blank : l.blank ≡ is_space_at l.fn.bytes l.end;
  steady : AreSteady l.fn.bytes l.end (l.fn.at + l.fn.room) l.fn.plain;
}

abbrev pub decreases-loop-end : goal.decreases-loop-end
decreases-loop-end l = l.end - l.fn.at
