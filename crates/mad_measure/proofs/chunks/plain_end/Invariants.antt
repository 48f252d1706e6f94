use Rattle.std.proofs.Common.{◌-◌, ◌≤◌, length}
use Rattle.mad_measure.specs.Chunks.{ArePlain}
use Rattle.mad_measure.proofs.chunks.plain_end.Given as goal

abbrev pub invariant-loop-at : goal.invariant-loop-at
invariant-loop-at l = record {
  plain : ArePlain l.bytes l.from l.at;
  order : l.from ≤ l.at;
  inside : l.at ≤ length l.bytes;
}

abbrev pub decreases-loop-at : goal.decreases-loop-at
decreases-loop-at l = length l.bytes - l.at

abbrev pub invariant-loop-at-2 : goal.invariant-loop-at-2
invariant-loop-at-2 l = record {
  plain : ArePlain l.bytes l.from l.at;
  order : l.from ≤ l.at;
  inside : l.at ≤ length l.bytes;
}

abbrev pub decreases-loop-at-2 : goal.decreases-loop-at-2
decreases-loop-at-2 l = length l.bytes - l.at
