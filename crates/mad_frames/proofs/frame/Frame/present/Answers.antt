use Rattle.mad_frames.proofs.FrameLemmas.{presents_in_step}
use Rattle.mad_frames.proofs.frame.Frame.present.Goals as goal

pub returns-clause-in_step : goal.returns-clause-in_step
returns-clause-in_step g c = presents_in_step _ _ _ _ _ c.presented.ensures
