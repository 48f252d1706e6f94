use Rattle.std.proofs.Common.{subst, arith, ap, ◌∙◌}
use Rattle.std.specs.Option.{option_or}
use Rattle.mad_measure.specs.TokensLeft.{AreTokensLeft}
use Rattle.mad_measure.proofs.CursorLemmas.{all_read}
use Rattle.mad_wrap.proofs.PastLemmas.{past_begins, past_more}
use Rattle.mad_wrap.proofs.starting.first_past.Goals as goal

pub loop-token-init : goal.loop-token-init
loop-token-init c = rw c.left_of-room_left.ensures (past_begins c.args.room)

pub loop-token-preserved : goal.loop-token-preserved
loop-token-preserved c = past_more _ _ c.in-Some.token _ _ _ _ _ _ c.loop-token.invariant (omega (arith, c.in_ok-i.ensures)) c.left_after-room_left.ensures (c.or-past.ensures ∙ ap (option_or c.loop-token.past) c.past_here.ensures)

pub returns : goal.returns
returns c =
    let left = all_read c.loop-token.yielded _ _ c.loop-token.yielded_by c.in-None.ensures.steps.0 in
    (c.loop-token.yielded, subst (λ s. AreTokensLeft s c.loop-token.yielded) c.into_iter-token-iterator.ensures.into_iter_gives left, c.loop-token.invariant.past_is)
