use Rattle.std.proofs.Common.{refl}
use Rattle.mad_pager.proofs.PagerSteps.{chosen}
use Rattle.mad_pager.proofs.session.Session.choose.Goals as goal

pub returns : goal.returns
returns c =
    chosen c.args.key c.args.self.now _ c.resize.new.self c.size_to_lay-size.result refl refl c.source_chosen-self.ensures refl c.size_to_lay-size.ensures c.in_ok-resize.ensures.text c.in_ok-resize.ensures.step
