use Rattle.mad_keys.proofs.CharLemmas.{event_alone}
use Rattle.mad_keys.proofs.laws.events_are_read.Goals as goal

pub returns : goal.returns
returns c = event_alone
