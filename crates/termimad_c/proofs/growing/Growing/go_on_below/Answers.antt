use Rattle.std.proofs.Common.{◌∙◌, ap, not, rules}
use Rattle.termimad_c.proofs.PieceLemmas.{there}
use Rattle.termimad_c.proofs.GrowthLemmas.{resized}
use Rattle.termimad_c.proofs.growing.Growing.go_on_below.Goals as goal

pub returns : goal.returns
returns c =
    let here = there c.args.self.now.live (c.is_none.ensures ∙ ap not c.if-is_none.false) in
    let below = c.in_ok-begin_below.ensures.below here.0 here.1 in
    resized c.args.width c.args.height c.from.result c.from-2.result c.args.self.now c.begin_below.new.self below.0 here.0 (search rules) (search rules) (c.from.ensures ∙ c.in_ok-columns.ensures) (c.from-2.ensures ∙ c.in_ok-rows.ensures)
    here.1 c.begin_below.ensures.begun below.1 below.2
