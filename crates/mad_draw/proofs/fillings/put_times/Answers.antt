use Rattle.mad_term.proofs.Exits.{refused_exit}
use Rattle.mad_draw.proofs.FillingLemmas.{no_time, time_more, refused_time}
use Rattle.mad_draw.proofs.fillings.put_times.Goals as goal

pub loop-done-init : goal.loop-done-init
loop-done-init g c = no_time c.args.text.now _

pub returns-in_err-put_text-clause-writes : goal.returns-in_err-put_text-clause-writes
returns-in_err-put_text-clause-writes g c =
    refused_exit _ _ _ _ _ c.from_residual.ensures.1 (refused_time c.args.text.now c.loop-done._done c.args.count c.in_err-put_text.field-0.0 _ _ _ c.loop-done-test.true c.loop-done.invariant c.in_err-put_text.ensures.writes)

pub loop-done-preserved : goal.loop-done-preserved
loop-done-preserved g c = time_more c.args.text.now c.loop-done._done _ _ _ c.loop-done.invariant c.in_ok-put_text.ensures.writes
