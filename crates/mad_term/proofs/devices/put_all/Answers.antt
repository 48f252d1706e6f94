use Rattle.mad_term.proofs.Traces.{writes_of}
use Rattle.mad_term.proofs.devices.put_all.Goals as goal

pub returns : goal.returns
returns g c = writes_of _ _ _ _ _ c.put_counted.ensures.taken
