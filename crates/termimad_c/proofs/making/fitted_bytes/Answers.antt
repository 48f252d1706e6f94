use Rattle.std.proofs.Common.{◌∙◌, ap}
use Rattle.termimad_c.proofs.Steps.{line_fitted}
use Rattle.termimad_c.proofs.making.fitted_bytes.Goals as goal

pub returns : goal.returns
returns c =
    let read = c.in_ok-line.ensures in
    let fit = c.in_ok-fit_width.ensures in
    line_fitted c.args.text.now c.args.skin.now c.in_ok-text.text.now c.args.width c.args.align c.from.result c.in_ok-align.align c.in_ok-skin.skin c.in_ok-line.line.skin.now c.in_ok-line.line.composite c.fit_width.new.self c.into_bytes.result.items
    c.in_ok-text.ensures.0 c.in_ok-text.ensures.1 c.in_ok-skin.ensures (c.from.ensures ∙ c.in_ok-width.ensures) c.in_ok-align.ensures read.skin read.composite
    (λ h. (fit.fits h).1) (λ h. fit.fitted h read.composite.measured)
    (ap (λ v. v.items) c.into_bytes.ensures.value ∙ c.in_ok-to_string.ensures.ok)
