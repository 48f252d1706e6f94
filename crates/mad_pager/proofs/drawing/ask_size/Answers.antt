use Rattle.std.proofs.Common.{Bool, sym, ap, ◌∙◌}
use Rattle.mad_term.specs.Trace.{after}
use Rattle.mad_term.proofs.Traces.{took_none}
use Rattle.mad_pager.specs.Screens.{question}
use Rattle.mad_pager.proofs.drawing.ask_size.Goals as goal

pub returns : goal.returns
returns g c = took_none _ ∙ ap (λ (asks : Bool). after (g.O.Out.seen c.args.out.now) (question asks)) (sym c.if-asks.false)
