use Rattle.std.proofs.Common.{ap, ◌∙◌}
use Rattle.mad_page.specs.PageKeys.{after_key}
use Rattle.mad_page.specs.declared.page.Page.{Page}
use Rattle.mad_pager.specs.Sessions.{state_of, turn_asked}
use Rattle.mad_pager.proofs.StepLemmas.{asked_step}
use Rattle.mad_pager.proofs.session.Session.apply_page_key.Goals as goal

pub returns-clause-step : goal.returns-clause-step
returns-clause-step c = asked_step c.args.key (state_of c.args.self.now) _ _ _ c.apply_key-ask.ensures.turned.0 c.apply_key-ask.ensures.turned.1 c.in_ok-turn.ensures.step

pub returns-clause-turn : goal.returns-clause-turn
returns-clause-turn c =
    c.in_ok-turn.ensures.turn
    ∙ (ap (λ (p : Page). turn_asked p c.apply_key-ask.result) c.apply_key-ask.ensures.turned.0 ∙ ap (turn_asked (after_key c.args.key c.args.self.now.page).page) c.apply_key-ask.ensures.turned.1)
