use Rattle.mad_format.specs.WrappedLines.{AllMeasured}
use Rattle.test_drawing.proofs.lines.read_lines.Given as goal

abbrev pub invariant-loop-line : goal.invariant-loop-line
invariant-loop-line g l = AllMeasured (g.S.LineSkin.rules l.skin) l.lines.items
