use Rattle.mad_mark_runs.proofs.ValueLemmas.{end_is}
use Rattle.mad_mark_runs.proofs.mark_runs.end_of.Goals as goal

pub returns-in-len1-up : goal.returns-in-len1-up
returns-in-len1-up c = end_is c.args.runs.now _ c.in-len1-up.len_at_least
