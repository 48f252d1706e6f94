use Rattle.mad_term.proofs.QueueExits.{memory_before_displayed}
use Rattle.mad_term.proofs.queue.put_displayed.Goals as goal

pub returns-in_err-reserve-clause-writes : goal.returns-in_err-reserve-clause-writes
returns-in_err-reserve-clause-writes g c = memory_before_displayed _ c.from_residual.result _ c.from_residual.ensures.1

pub returns-in_err-write-clause-writes : goal.returns-in_err-write-clause-writes
returns-in_err-write-clause-writes g c = memory_before_displayed _ c.from_residual-in_err-write.result _ c.from_residual-in_err-write.ensures.1
