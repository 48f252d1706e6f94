use Rattle.std.proofs.Common.{sym, subst}
use Rattle.mad_measure.proofs.AllLemmas.{all_push}
use Rattle.mad_format.specs.WrappedLines.{AllMeasured, IsLineMeasured}
use Rattle.mad_format.proofs.ReadLemmas.{line_measured}
use Rattle.test_drawing.proofs.lines.read_lines.Goals as goal

pub loop-line-preserved : goal.loop-line-preserved
loop-line-preserved g c =
    subst (AllMeasured (g.S.LineSkin.rules c.args.skin.now)) (sym c.in_ok-push.ensures.items)
    (all_push (IsLineMeasured (g.S.LineSkin.rules c.args.skin.now)) c.loop-line.lines.items _ c.loop-line.invariant (line_measured (g.S.LineSkin.rules c.args.skin.now) _ _ c.in_ok-from.ensures))
