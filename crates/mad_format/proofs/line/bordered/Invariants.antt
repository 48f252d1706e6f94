use Rattle.std.proofs.Common.{◌≡◌, ◌+◌, ◌<◌, ◌^◌, drop}
use Rattle.mad_format.specs.FmtLines.{bordered}
use Rattle.mad_wrap.specs.WrapLines.{capped}
use Rattle.mad_format.proofs.line.bordered.Given as goal

abbrev pub invariant-loop-width : goal.invariant-loop-width
invariant-loop-width l = record {
  small : l.columns < 2 ^ 64;
  so_far : capped (l.columns + bordered (drop l.width-index l.widths)) ≡ capped (bordered l.widths);
}
