use Rattle.std.proofs.Common.{◌≡◌, ◌≤◌, ◌+◌, drop}
use Rattle.mad_page_rows.specs.Faces.{codes}
use Rattle.mad_page_rows.proofs.faces.codes.Given as goal

abbrev pub invariant-loop-gutter : goal.invariant-loop-gutter
invariant-loop-gutter l = record {
  few : l.count ≤ l.gutter-index;
  so_far : l.count + codes (drop l.gutter-index l.gutters) ≡ codes l.gutters;
}
