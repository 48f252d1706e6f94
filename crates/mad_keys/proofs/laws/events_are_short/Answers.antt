use Rattle.mad_keys.proofs.KeptLemmas.{kept_step}
use Rattle.mad_keys.proofs.ShortLemmas.{event_short}
use Rattle.mad_keys.proofs.laws.events_are_short.Goals as goal

pub returns : goal.returns
returns c = record { kept_goes_on = kept_step; most = event_short }
