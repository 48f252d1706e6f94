use Rattle.std.proofs.Common.{◌∙◌, ap₂}
use Rattle.std.proofs.lemmas.Result.{IfOk-weaker}
use Rattle.clap.specs.Words.{with_rule}
use Rattle.termimad_options.specs.Rules.{termimad_rules}
use Rattle.termimad_options.proofs.rules.options.Goals as goal

pub returns : goal.returns
unfolding termimad_rules
returns c =
    let one = c.in_ok-arg.ensures.shape c.files.ensures.own ∙ ap₂ with_rule c.bare.ensures c.files.ensures.rule in
    let two = c.in_ok-arg-2.ensures.shape c.width.ensures.own ∙ ap₂ with_rule one c.width.ensures.rule in
    let three = c.in_ok-arg-3.ensures.shape c.valued-skin.ensures.own ∙ ap₂ with_rule two c.valued-skin.ensures.rule in
    let four = c.in_ok-arg-4.ensures.shape c.valued-code.ensures.own ∙ ap₂ with_rule three c.valued-code.ensures.rule in
    let five = c.in_ok-arg-5.ensures.shape c.valued-links.ensures.own ∙ ap₂ with_rule four c.valued-links.ensures.rule in
    let six = c.in_ok-arg-6.ensures.shape c.flag-lines.ensures.own ∙ ap₂ with_rule five c.flag-lines.ensures.rule in
    let seven = c.in_ok-arg-7.ensures.shape c.flag-plain.ensures.own ∙ ap₂ with_rule six c.flag-plain.ensures.rule in
    let eight = c.in_ok-arg-8.ensures.shape c.flag-stream.ensures.own ∙ ap₂ with_rule seven c.flag-stream.ensures.rule in
    let nine = c.in_ok-arg-9.ensures.shape c.flag-live.ensures.own ∙ ap₂ with_rule eight c.flag-live.ensures.rule in
    let ten = c.in_ok-arg-10.ensures.shape c.flag-no_pager.ensures.own ∙ ap₂ with_rule nine c.flag-no_pager.ensures.rule in
    IfOk-weaker c.arg-11.result _ _ (λ m h. h.shape c.fits.ensures.own ∙ ap₂ with_rule ten c.fits.ensures.rule) c.arg-11.ensures
