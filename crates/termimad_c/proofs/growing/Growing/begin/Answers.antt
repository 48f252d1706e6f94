use Rattle.std.proofs.Common.{◌∙◌, refl, rules}
use Rattle.termimad_c.proofs.GrowthLemmas.{begins_live}
use Rattle.termimad_c.proofs.growing.Growing.begin.Goals as goal

pub returns : goal.returns
returns c =
    begins_live c.args.skin.now c.args.width c.args.height c.from.result c.from-2.result c.in_ok-skin.skin c.in_ok-live.live _ (search rules) (search rules) (c.from.ensures ∙ c.in_ok-columns.ensures) (c.from-2.ensures ∙ c.in_ok-rows.ensures) c.in_ok-skin.ensures
    c.in_ok-live.ensures.start c.in_ok-live.ensures.skin c.in_ok-live.ensures.width c.in_ok-live.ensures.height refl c.new-2.ensures.items c.new-3.ensures.items
