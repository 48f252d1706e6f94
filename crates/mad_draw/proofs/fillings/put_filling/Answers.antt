use Rattle.mad_term.proofs.Exits.{refused_exit, refused_in_first}
use Rattle.std.specs.List.{repeat}
use Rattle.mad_draw.proofs.PartLemmas.{draws_after}
use Rattle.mad_draw.proofs.fillings.put_filling.Goals as goal

pub returns-in_err-put_times-clause-writes : goal.returns-in_err-put_times-clause-writes
returns-in_err-put_times-clause-writes g c =
    refused_exit _ _ _ _ _ c.from_residual.ensures.1 (refused_in_first c.in_err-put_times.field-0.0 _ _ (repeat c.args.count c.args.whole.now) c.args.last.now c.in_err-put_times.ensures.writes)

pub returns-clause-writes : goal.returns-clause-writes
returns-clause-writes g c = draws_after c.put_text.result _ _ _ (repeat c.args.count c.args.whole.now) c.args.last.now c.in_ok-put_times.ensures.writes c.put_text.ensures.writes
