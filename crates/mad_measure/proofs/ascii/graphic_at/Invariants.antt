use Rattle.std.proofs.Common.{◌≤◌, ◌+◌, ◌-◌, length}
use Rattle.mad_measure.specs.Ascii.{AreGraphic}
use Rattle.mad_measure.proofs.ascii.graphic_at.Given as goal

abbrev pub invariant-loop-count : goal.invariant-loop-count
invariant-loop-count l = record {
  graphic : AreGraphic l.text l.start l.count;
  inside : l.start + l.count ≤ length l.text;
  within : l.count ≤ l.most;
}

abbrev pub decreases-loop-count : goal.decreases-loop-count
decreases-loop-count l = l.most - l.count
