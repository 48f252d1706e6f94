use Rattle.std.proofs.Common.{refl}
use Rattle.mad_pager.specs.Pagers.{leaf_of}
use Rattle.mad_pager.proofs.PagerOrder.{leaf_with, stepped_leaf}
use Rattle.mad_pager.proofs.pager.Pager.pass_over.Goals as goal

pub returns-clause-step : goal.returns-clause-step
returns-clause-step c =
    let new = c.apply.new.self in
    record {
      after = leaf_of new;
      step = stepped_leaf c.args.event c.args.over new c.in_ok-turn.ensures.text c.in_ok-turn.ensures.step;
      over = refl;
      text = leaf_with c.args.self.now.text c.hear.new.self _ c.hear.ensures.text c.hear.ensures.told;
    }
