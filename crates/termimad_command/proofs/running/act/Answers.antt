use Rattle.std.proofs.Common.{option_map}
use Rattle.std.specs.Borrow.{Bor}
use Rattle.clap.specs.Words.{Text}
use Rattle.termimad_command.proofs.RunLemmas.{plan_acted, texts_acted}
use Rattle.termimad_command.proofs.running.act.Goals as goal

pub returns-then-plans : goal.returns-then-plans
returns-then-plans g c =
    plan_acted (g.T.Texts.holds c.args.texts.now) c.args.plans c.args.call.now c.args.plan.now (option_map (λ (word : Bor Text). word.now) c.args.place)
    (g.I.Source.seen c.args.input.now) _ _ (g.E.Out.seen c.args.err.now) c.tell_plan.result c.if-plans.true c.tell_plan.ensures

pub returns-else-plans : goal.returns-else-plans
returns-else-plans g c =
    texts_acted (g.T.Texts.holds c.args.texts.now) c.args.plans c.args.call.now c.args.plan.now (option_map (λ (word : Bor Text). word.now) c.args.place)
    _ _ _ _ c.show.result c.if-plans.false c.show.ensures
