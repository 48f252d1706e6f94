use Rattle.std.proofs.Common.{sym, ◌∙◌}
use Rattle.markdown_spans.proofs.TickLemmas.{no_runs_by}
use Rattle.markdown_spans.proofs.ticks.last_runs.Goals as goal

pub returns : goal.returns
returns c = no_runs_by c.memchr.result c.new.result.items c.args.text.now c.new.ensures.items c.memchr.ensures (sym c.is_some.ensures ∙ c.if-is_some.false)
