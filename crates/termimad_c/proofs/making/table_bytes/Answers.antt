use Rattle.std.proofs.Common.{◌∙◌, ap, rules}
use Rattle.termimad.specs.Lines.{contents}
use Rattle.termimad_c.proofs.Tables.{table_written}
use Rattle.termimad_c.proofs.making.table_bytes.Goals as goal

pub returns : goal.returns
returns c =
    let made = c.in_ok-laid_out.ensures in
    table_written c.args.text.now c.args.lengths.now c.args.aligns.now c.args.skin.now c.in_ok-text.text.now c.args.columns c.args.width c.from.result c.in_ok-skin.skin c.in_ok-laid_out.laid_out.skin.now
    c.in_ok-aligns.aligns.items (contents c.in-Some.table) c.in_ok-laid_out.laid_out.lines.items c.in_ok-laid_out.laid_out.width c.into_bytes.result.items
    c.in_ok-text.ensures.0 c.in_ok-text.ensures.1 c.in_ok-skin.ensures c.in_ok-aligns.ensures (c.from.ensures ∙ c.in_ok-width.ensures) (search rules) made.skin made.width made.lines
    (ap (λ v. v.items) c.into_bytes.ensures.value ∙ c.in_ok-to_string.ensures.ok)
