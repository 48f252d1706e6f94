use Rattle.std.proofs.Common.{◌-◌, ◌≤◌, length}
use Rattle.markdown_pieces.specs.Scan.{AreSignless}
use Rattle.markdown_pieces.proofs.scan.signless_to.Given as goal

abbrev pub invariant-loop-at : goal.invariant-loop-at
invariant-loop-at l = record {
  signless : AreSignless l.bytes l.from l.at;
  behind : l.from ≤ l.at;
  inside : l.at ≤ length l.bytes;
}

abbrev pub decreases-loop-at : goal.decreases-loop-at
decreases-loop-at l = length l.bytes - l.at
