use Rattle.std.proofs.Common.{◌∙◌}
use Rattle.termimad_c.proofs.Steps.{rows_counted}
use Rattle.termimad_c.proofs.making.rows_count.Goals as goal

pub returns : goal.returns
returns c =
    rows_counted c.args.text.now c.args.skin.now c.in_ok-text.text.now c.args.width c.from.result c.len.result c.in_ok-skin.skin c.in_ok-laid_out.laid_out.lines.items
    c.in_ok-text.ensures.0 c.in_ok-text.ensures.1 c.in_ok-skin.ensures (c.from.ensures ∙ c.in_ok-width.ensures) c.in_ok-laid_out.ensures.lines (c.len.ensures ∙ c.in_ok-laid_out.laid_out.lines.ok.0)
