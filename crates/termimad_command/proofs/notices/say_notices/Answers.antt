use Rattle.termimad_command.proofs.SayLemmas.{notices_said}
use Rattle.termimad_command.proofs.notices.say_notices.Goals as goal

pub returns : goal.returns
returns g c = notices_said _ _ _ _ _ c.deref.ensures c.in-Ok.ensures c.put_notices.ensures
