use Rattle.std.proofs.Common.{inr}
use Rattle.markdown_live.proofs.SourceLemmas.{end_flush_exit, end_refused, end_shown, ends_as}
use Rattle.markdown_live.proofs.sources.end_live.Goals as goal

pub returns-in-Err : goal.returns-in-Err
returns-in-Err g c = inr (end_refused c.in-Err.error c.refusal_of.result c.args.live c.finish.result _ _ c.in-Err.is c.refusal_of.ensures c.finish.ensures.ends c.finish.ensures.early)

pub returns-in_err-flush : goal.returns-in_err-flush
returns-in_err-flush g c = end_flush_exit c.from_residual.result c.args.ended _ c.in-Ok.field-0 c.args.live c.finish.result _ (g.O.Out.seen c.finish.new.out) _ c.in-Ok.is c.finish.ensures.ends c.in_err-flush.ensures c.from_residual.ensures.1

pub returns : goal.returns
returns g c = ends_as c.args.ended c.args.live _ _ (end_shown c.in-Ok.field-0 c.args.live c.finish.result _ (g.O.Out.seen c.finish.new.out) _ c.in-Ok.is c.finish.ensures.ends c.in_ok-flush.ensures)
