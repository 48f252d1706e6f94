use Rattle.std.proofs.Common.{arith}
use Rattle.mad_fitting.proofs.ShorteningLemmas.{if_ok, without_end_is, without_all}
use Rattle.mad_fitting.proofs.shortening.without_end.Goals as goal

pub returns-in-Some : goal.returns-in-Some
returns-in-Some c = if_ok _ _ c.front_within.result (λ kept h. without_end_is c.args.least c.in-Some.most c.args.compounds.now kept.items (omega (arith, c.in-Some.ensures, c.total_columns.ensures.value)) h) c.front_within.ensures

pub returns-in-None : goal.returns-in-None
returns-in-None c = without_all _ _ _ (omega (arith, c.in-None.ensures, c.total_columns.ensures.value)) c.new.ensures.items
