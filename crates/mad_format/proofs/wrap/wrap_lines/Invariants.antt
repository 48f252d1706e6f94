use Rattle.std.proofs.Common.{◌++◌, List}
use Rattle.std.specs.Vec.Iter.{into_iter_items}
use Rattle.mad_format.specs.WrappedLines.{AreLinesWrapped, AllMeasured}
use Rattle.mad_format.specs.declared.line.FmtLine.{FmtLine}
use Rattle.mad_format.proofs.wrap.wrap_lines.Given as goal

abbrev pub invariant-loop-line : goal.invariant-loop-line
invariant-loop-line g l = record {
  measured : AllMeasured (g.S.LineSkin.rules l.skin) (into_iter_items l.line-iterator);
  so_far : (more : List FmtLine) → AreLinesWrapped (g.S.LineSkin.rules l.skin) l.width (into_iter_items l.line-iterator) more → AreLinesWrapped (g.S.LineSkin.rules l.skin) l.width l.fn.lines.items (l.wrapped.items ++ more);
}
