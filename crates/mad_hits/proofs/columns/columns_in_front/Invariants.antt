use Rattle.std.proofs.Common.{◌≡◌, ◌+◌, ◌-◌, ◌^◌, ◌≤◌, drop}
use Rattle.mad_wrap.specs.WrapLines.{capped}
use Rattle.mad_page_rows.specs.FaceLaws.{fronts}
use Rattle.mad_hits.proofs.columns.columns_in_front.Given as goal

abbrev pub invariant-loop-gutter : goal.invariant-loop-gutter
invariant-loop-gutter l = record {
  fits : l.columns ≤ 2 ^ 64 - 1;
  so_far : capped (l.columns + fronts l.skin (drop l.gutter-index l.gutters)) ≡ capped (fronts l.skin l.gutters);
}
