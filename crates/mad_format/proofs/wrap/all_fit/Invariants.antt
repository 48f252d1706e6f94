use Rattle.std.proofs.Common.{drop}
use Rattle.mad_format.specs.WrappedLines.{AllFit}
use Rattle.mad_format.proofs.wrap.all_fit.Given as goal

abbrev pub invariant-loop-line : goal.invariant-loop-line
invariant-loop-line g l = record {
  from : AllFit (g.S.LineSkin.rules l.skin) l.width (drop l.line-index l.lines) → AllFit (g.S.LineSkin.rules l.skin) l.width l.lines;
  to : AllFit (g.S.LineSkin.rules l.skin) l.width l.lines → AllFit (g.S.LineSkin.rules l.skin) l.width (drop l.line-index l.lines);
}
