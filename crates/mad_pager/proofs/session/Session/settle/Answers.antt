use Rattle.mad_pager.proofs.StepLemmas.{settled_none, settled_some}
use Rattle.mad_pager.proofs.session.Session.settle.Goals as goal

pub returns-in-Some-clause-settled : goal.returns-in-Some-clause-settled
returns-in-Some-clause-settled c = settled_some _ _ _ _ _ _ c.in-Some.is c.in_ok-resize.ensures.step

pub returns-clause-settled : goal.returns-clause-settled
returns-clause-settled c = settled_none _ _ _ _ c.in_default.is
