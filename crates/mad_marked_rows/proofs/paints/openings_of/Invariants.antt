use Rattle.std.proofs.Common.{◌≡◌, ◌≤◌, ◌-◌, length}
use Rattle.mad_marked_rows.specs.Openings.{AreOpenings}
use Rattle.mad_marked_rows.proofs.paints.openings_of.Given as goal

abbrev pub invariant-loop-value : goal.invariant-loop-value
invariant-loop-value l = record {
  within : l.value ≤ length l.styles;
  many : length l.texts.items ≡ l.value;
  are : AreOpenings l.styles l.base l.texts.items;
}

abbrev pub decreases-loop-value : goal.decreases-loop-value
decreases-loop-value l = length l.styles - l.value
