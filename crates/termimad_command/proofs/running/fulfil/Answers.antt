use Rattle.std.proofs.Common.{option_map}
use Rattle.std.specs.Borrow.{Bor}
use Rattle.clap.specs.Words.{Text}
use Rattle.termimad_command.proofs.RunLemmas.{answer_told, call_done}
use Rattle.termimad_command.proofs.running.fulfil.Goals as goal

pub returns-in-Answer : goal.returns-in-Answer
returns-in-Answer g c = answer_told (g.T.Texts.holds c.args.texts.now) c.args.plans c.args.request c.in-Answer.text _ (option_map (λ (word : Bor Text). word.now) c.args.place) c.args.around.now
    (g.I.Source.seen c.args.input.now) _ _ (g.E.Out.seen c.args.err.now) c.write_out.result c.in-Answer.is c.deref.ensures c.write_out.ensures

pub returns-in-Call : goal.returns-in-Call
returns-in-Call g c = call_done (g.T.Texts.holds c.args.texts.now) c.args.plans c.args.request c.in-Call.call _ (option_map (λ (word : Bor Text). word.now) c.args.place) c.args.around.now
    _ _ _ _ c.act.result c.in-Call.is c.plan_of-plan.ensures c.act.ensures
