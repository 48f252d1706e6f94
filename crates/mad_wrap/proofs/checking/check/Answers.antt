use Rattle.std.proofs.Common.{sym, ◌∙◌, arith, subst}
use Rattle.mad_measure.specs.TokensLeft.{AreTokensLeft}
use Rattle.mad_measure.proofs.CursorLemmas.{all_read}
use Rattle.mad_wrap.proofs.CheckLemmas.{check_begins, check_misses, check_meets, check_ends}
use Rattle.mad_wrap.proofs.checking.check.Goals as goal

pub loop-token-init : goal.loop-token-init
loop-token-init c = rw c.left_of-room_left.ensures (check_begins c.args.room _ _)

pub loop-token-preserved : goal.loop-token-preserved
loop-token-preserved c =
    let met = c.in-Some-met.ensures.some in
    check_meets _ _ _ _ _ _ _ _ _ _ _ _ _ _ c.in-Some.token c.loop-token.invariant (omega (arith, c.saturating_add-number.ensures)) c.left_after-after.ensures met.0 met.1 c.is_right-holds.ensures c.left_of_next-room_left.ensures

pub loop-token-preserved-in_default : goal.loop-token-preserved-in_default
loop-token-preserved-in_default c =
    check_misses _ _ _ _ _ _ _ _ _ _ _ c.in-Some.token c.loop-token.invariant (omega (arith, c.saturating_add-number.ensures)) c.left_after-after.ensures c.in_default.ensures.none

pub returns : goal.returns
returns c =
    let left = all_read c.loop-token.yielded _ _ c.loop-token.yielded_by c.in-None.ensures.steps.0 in (
      c.loop-token.yielded,
      subst (λ s. AreTokensLeft s c.loop-token.yielded) c.into_iter-token-iterator.ensures.into_iter_gives left,
      c.is_done.ensures ∙ check_ends _ _ _ _ _ _ _ _ _ c.loop-token.invariant ∙ sym (c.first_and_others-holds.ensures c.args.room c.loop-token.yielded),
    )
