use Rattle.std.proofs.Common.{◌-◌, ◌≤◌, length}
use Rattle.markdown_pieces.proofs.WebLemmas.{NoSigns}
use Rattle.markdown_pieces.proofs.scan.may_have_web.Given as goal

abbrev pub invariant-loop-at : goal.invariant-loop-at
invariant-loop-at l = record {
  none : NoSigns l.text l.at;
  inside : l.at ≤ length l.text;
}

abbrev pub decreases-loop-at : goal.decreases-loop-at
decreases-loop-at l = length l.text - l.at
