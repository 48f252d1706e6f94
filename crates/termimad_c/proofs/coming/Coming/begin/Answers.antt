use Rattle.std.proofs.Common.{◌∙◌, refl, rules}
use Rattle.termimad_c.proofs.PieceLemmas.{nothing_came}
use Rattle.termimad_c.proofs.coming.Coming.begin.Goals as goal

pub returns : goal.returns
returns c =
    nothing_came c.args.skin.now c.args.width c.from-width.result c.in_ok-skin.skin c.new.result _ (search rules) (c.from-width.ensures ∙ c.in_ok-number_of.ensures) c.in_ok-skin.ensures
    c.new.ensures.start c.new.ensures.prompt c.new.ensures.skin c.new.ensures.width refl c.new-2.ensures.items c.new-3.ensures.items
