use Rattle.mad_frames.proofs.FrameLemmas.{presents_in_step, unknown_in_step}
use Rattle.mad_frames.proofs.frame.Frame.redraw.Goals as goal

pub returns-clause-in_step : goal.returns-clause-in_step
returns-clause-in_step g c =
    let before = g.O.Out.seen c.args.out.now in
    let now = g.O.Out.seen c.presented.new.out in
    rw (← c.self.view_is) (unknown_in_step _ _ before now (presents_in_step _ _ before now _ c.presented.ensures))
