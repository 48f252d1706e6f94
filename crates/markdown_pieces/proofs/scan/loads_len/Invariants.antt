use Rattle.std.proofs.Common.{◌-◌, ◌≤◌, length}
use Rattle.markdown_pieces.specs.Scan.{AreStanding}
use Rattle.markdown_pieces.proofs.scan.loads_len.Given as goal

abbrev pub invariant-loop-at : goal.invariant-loop-at
invariant-loop-at l = record {
  standing : AreStanding l.bytes 0 l.at;
  inside : l.at ≤ length l.bytes;
}

abbrev pub decreases-loop-at : goal.decreases-loop-at
decreases-loop-at l = length l.bytes - l.at
