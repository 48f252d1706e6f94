use Rattle.std.proofs.Common.{ap, option_map, refl}
use Rattle.mad_pager.specs.Pagers.{leaf_of}
use Rattle.mad_pager.specs.declared.over.Answer.TheVariants.{Chooses, Follows, Lists}
use Rattle.mad_pager.proofs.PagerOrder.{leaf_with}
use Rattle.mad_pager.proofs.PagerSteps.{answered, start_along}
use Rattle.mad_pager.proofs.pager.Pager.apply_over.Goals as goal

pub returns-in_ok-choose-in-Chooses-clause-step : goal.returns-in_ok-choose-in-Chooses-clause-step
returns-in_ok-choose-in-Chooses-clause-step c =
    answered (Chooses c.in-Chooses.key) c.over_answer.result c.args.event (leaf_of c.args.over) (leaf_of c.args.self.now.text) _ c.over_answer.ensures c.in-Chooses.is
    (record { after = leaf_of c.choose.new.self; choice = c.in_ok-choose-in-Chooses.ensures; over = refl; text = refl })

pub returns-in_ok-listed-in-Lists-clause-step : goal.returns-in_ok-listed-in-Lists-clause-step
returns-in_ok-listed-in-Lists-clause-step c =
    answered Lists c.over_answer.result c.args.event (leaf_of c.args.over) (leaf_of c.args.self.now.text) _ c.over_answer.ensures c.in-Lists.is
    (record { start = leaf_of c.in_ok-listed-in-Lists.listed; is = start_along _ _ _ _ _ c.links-source.ensures c.in_ok-listed-in-Lists.ensures; over = refl; text = refl })

pub returns-in_ok-turn-in-Follows-clause-step : goal.returns-in_ok-turn-in-Follows-clause-step
returns-in_ok-turn-in-Follows-clause-step c =
    answered (Follows c.in-Follows.index) c.over_answer.result c.args.event (leaf_of c.args.over) (leaf_of c.args.self.now.text) _ c.over_answer.ensures c.in-Follows.is
    (record { text = leaf_with c.args.self.now.text c.follow.new.self _ c.in_ok-turn-in-Follows.ensures.text c.in_ok-turn-in-Follows.ensures.step; over = ap (option_map leaf_of) c.requires })
