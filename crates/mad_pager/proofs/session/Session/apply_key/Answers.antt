use Rattle.std.proofs.Common.{◌≡◌, true, false, sym, ◌∙◌}
use Rattle.mad_pager.proofs.session.Session.apply_key.Goals as goal

pub returns-then-is_typing-clause-step : goal.returns-then-is_typing-clause-step
returns-then-is_typing-clause-step c = record { typing = λ is. c.in_ok-type_key.ensures.step; other = λ is. let e : true ≡ false = sym c.if-is_typing.true ∙ is in absurd (cc) }

pub returns-clause-step : goal.returns-clause-step
returns-clause-step c = record { typing = λ is. let e : true ≡ false = sym is ∙ c.if-is_typing.false in absurd (cc); other = λ is. c.in_ok-turn.ensures.step }
