use Rattle.mad_pager.specs.Sessions.{state_of}
use Rattle.mad_pager.proofs.StepLemmas.{sought_step}
use Rattle.mad_pager.proofs.session.Session.seek_typed.Goals as goal

pub returns-clause-step : goal.returns-clause-step
returns-clause-step c =
    sought_step (state_of c.args.self.now) (state_of c.remember.new.self) _ _ _ _ _ _ _ c.in_ok-remember.ensures.done c.in_ok-sought.ensures c.as_str-2.ensures.value c.as_str.ensures.value c.in_ok-reading.ensures c.in_ok-find.ensures.found
