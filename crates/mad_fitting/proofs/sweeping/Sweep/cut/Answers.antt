use Rattle.std.proofs.Common.{◌∷◌, ◌++◌, [], ◌∙◌, ap, arith, inr, subst, slice_range}
use Rattle.mad_fitting.specs.CenteredCuts.{IsCenteredCut}
use Rattle.mad_fitting.proofs.SweepLemmas.{sweep_cuts, sweep_none, sweep_stays}
use Rattle.mad_fitting.proofs.sweeping.Sweep.cut.Goals as goal
use Rattle.mad_fitting.proofs.sweeping.Sweep.cut.Goals.{After-centered_cut-cut}

centered : (c : After-centered_cut-cut) → IsCenteredCut c.args.amount (slice_range c.args.rest.src.now c.args.part.start c.args.part.end) c.centered_cut-cut.result
centered c = subst (λ t. IsCenteredCut c.args.amount t c.centered_cut-cut.result) c.range-text.ensures.value c.centered_cut-cut.ensures.cut

pub returns-then-amount-eq0 : goal.returns-then-amount-eq0
returns-then-amount-eq0 c = sweep_none c.args.amount c.args.rest c.args.part c.args.self.now (omega (arith, c.if-amount-eq0.true))

pub returns-then-cut-lt2 : goal.returns-then-cut-lt2
returns-then-cut-lt2 c =
    let at = (goal.at.returns-then-cut-lt2 c).After-centered_cut-cut in
    sweep_stays c.args.amount c.args.rest c.args.part c.args.self.now c.centered_cut-cut.result (λ _. centered at) (inr c.if-cut-lt2.true)

pub returns : goal.returns
returns c =
    let at = (goal.at.returns c).After-centered_cut-cut in
    let cut = c.centered_cut-cut.result in
    let sides = c.around.ensures in
    sweep_cuts c.args.amount c.args.rest c.around.result.0 c.ellipsis.result c.around.result.1 c.args.part cut c.args.self.now _ c.requires sides.utf8 (centered at) c.centered_cut-cut.ensures.most (omega (arith, c.if-amount-eq0.false)) (omega (arith, c.if-cut-lt2.false))
    (omega (arith, c.saturating_sub-self.ensures)) (c.in_ok-push-2.ensures.items ∙ ap (λ l. l ++ c.ellipsis.result ∷ []) c.in_ok-push.ensures.items) c.ellipsis.ensures sides.head_text sides.head_flags sides.tail_text sides.tail_flags
