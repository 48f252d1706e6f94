use Rattle.mad_pager.proofs.ScreenStandLemmas.{screen_hits_stand}
use Rattle.mad_pager.proofs.laws.screen_hits_stand.Goals as goal

pub returns : goal.returns
returns c = screen_hits_stand
