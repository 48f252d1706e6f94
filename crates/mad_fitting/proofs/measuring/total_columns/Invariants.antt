use Rattle.std.proofs.Common.{◌≡◌, ◌≤◌, ◌+◌, ◌*◌, drop}
use Rattle.mad_md.specs.Flagged.{flagged_text}
use Rattle.mad_measure.specs.TextColumns.{width_of}
use Rattle.mad_fitting.proofs.measuring.total_columns.Given as goal

abbrev pub invariant-loop-compound : goal.invariant-loop-compound
invariant-loop-compound l = record {
  so_far : l.total + width_of (flagged_text (drop l.compound-index l.compounds)) ≡ width_of (flagged_text l.compounds);
  bound : l.total ≤ 18446744073709551615 * l.compound-index;
}
