use Rattle.mad_frames.proofs.FrameLemmas.{begins_in_step, steps_in_step, known_shown}
use Rattle.mad_frames.proofs.MendLemmas.{whole_screen_stays}
use Rattle.mad_frames.proofs.laws.frames_stay_in_step.Goals as goal

pub returns : goal.returns
returns c = record { begins = begins_in_step; stays = steps_in_step; shown = known_shown; whole = λ g is. whole_screen_stays g is.full }
